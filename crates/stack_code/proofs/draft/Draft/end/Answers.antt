use Rattle.std.proofs.Common.{◌≡◌, ◌+◌, ◌<◌, List, length, get_or, subst, arith}
use Rattle.stack_code.specs.declared.draft.Begun.{Begun}
use Rattle.stack_code.proofs.KeptLaws.{end_ordered, end_next}
use Rattle.stack_code.proofs.draft.Draft.end.Goals as goal

pub returns-in-Some-clause-in_order : goal.returns-in-Some-clause-in_order
returns-in-Some-clause-in_order c =
    let d = c.args.self.now in
    let f = c.args.function in
    let b = c.in-Some.next.now in
    let lt = subst (λ (l : List Begun). f + 1 < length l) c.deref.ensures.value c.in-Some.ensures.lookup.3.0 in
    let is = subst (λ (l : List Begun). b ≡ get_or l (f + 1) b) c.deref.ensures.value c.in-Some.ensures.lookup.1 in
    let next = end_next d.places.items d.functions.items d.classes.items f b lt is in
    let order = end_ordered d.places.items d.functions.items d.classes.items f c.requires.kept (omega (arith, lt)) in
    omega (arith, next, order.0)

pub returns-in-Some-clause-within : goal.returns-in-Some-clause-within
returns-in-Some-clause-within c =
    let d = c.args.self.now in
    let f = c.args.function in
    let b = c.in-Some.next.now in
    let lt = subst (λ (l : List Begun). f + 1 < length l) c.deref.ensures.value c.in-Some.ensures.lookup.3.0 in
    let is = subst (λ (l : List Begun). b ≡ get_or l (f + 1) b) c.deref.ensures.value c.in-Some.ensures.lookup.1 in
    let next = end_next d.places.items d.functions.items d.classes.items f b lt is in
    let order = end_ordered d.places.items d.functions.items d.classes.items f c.requires.kept (omega (arith, lt)) in
    omega (arith, next, order.1)
