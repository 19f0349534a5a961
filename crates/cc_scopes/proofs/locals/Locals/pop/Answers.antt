use Rattle.std.proofs.Common.{sym, ap, subst, ◌∙◌}
use Rattle.cc_scopes.specs.Places.{AreKept, IsKnown, MovesPlace, locals_of}
use Rattle.cc_scopes.proofs.PlaceLaws.{locals_push}
use Rattle.cc_scopes.proofs.KeptLaws.{is_known, popped}
use Rattle.cc_scopes.proofs.locals.Locals.pop.Goals as goal

pub set-requires : goal.set-requires
set-requires c =
    let kept = subst (λ all. AreKept all c.self.inside.places) c.in-Some.ensures c.self.invariant in
    subst (IsKnown c.self.inside.places) (sym c.as_str.ensures) (is_known c.pop.new.self c.self.inside.places c.in-Some.field-0 kept)

pub invariant_of-self-2 : goal.invariant_of-self-2
invariant_of-self-2 c =
    let kept = subst (λ all. AreKept all c.self.inside.places) c.in-Some.ensures c.self.invariant in
    popped c.pop.new.self c.self.inside.places c.set.new.self c.in-Some.field-0 kept
    (subst (λ name. MovesPlace c.self.inside.places c.set.new.self name c.in-Some.field-0.hides) c.as_str.ensures c.set.ensures)

pub returns : goal.returns
returns c = sym c.self.view_is ∙ ap locals_of c.in-Some.ensures ∙ locals_push c.pop.new.self c.in-Some.field-0
