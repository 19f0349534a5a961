use Rattle.std.proofs.Common.{Some, [], ◌∷◌, ◌++◌, sym, ap, subst, ◌∙◌}
use Rattle.cc_scopes.specs.declared.locals.Entry.{Entry}
use Rattle.cc_scopes.specs.Places.{AreKept, MovesPlace, locals_of, place_of}
use Rattle.cc_scopes.proofs.PlaceLaws.{locals_push}
use Rattle.cc_scopes.proofs.KeptLaws.{known, pushed}
use Rattle.cc_scopes.proofs.locals.Locals.push.Goals as goal

pub invariant_of-self-2 : goal.invariant_of-self-2
invariant_of-self-2 c =
    let e : Entry = record { local = c.args.local; hides = c.get-hides.result } in
    let is_name = c.in_ok-name.ensures ∙ c.as_str.ensures in
    let moved = subst (λ n. MovesPlace c.know.new.self c.set.new.self c.args.local.name (Some n)) c.len-place.ensures
    (subst (λ name. MovesPlace c.know.new.self c.set.new.self name (Some c.len-place.result)) (c.as_str-4.ensures ∙ is_name) c.set.ensures) in
    subst (λ all. AreKept all c.set.new.self) (sym c.in_ok-push.ensures.ok)
    (pushed c.self.inside.all c.know.new.self c.set.new.self e (known c.self.invariant c.know.ensures.keeps)
    (c.get-hides.ensures ∙ ap (place_of c.know.new.self) (c.as_str-3.ensures ∙ is_name)) moved)

pub returns-clause-ok : goal.returns-clause-ok
returns-clause-ok c =
    let e : Entry = record { local = c.args.local; hides = c.get-hides.result } in
    ap locals_of c.in_ok-push.ensures.ok ∙ locals_push c.self.inside.all e ∙ ap (λ ls. ls ++ c.args.local ∷ []) c.self.view_is
