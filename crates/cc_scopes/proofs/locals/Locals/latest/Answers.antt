use Rattle.std.proofs.Common.{Some, sym, ap, ◌∙◌}
use Rattle.std.specs.Option.{option_copied}
use Rattle.cc_scopes.specs.Places.{place_of}
use Rattle.cc_scopes.specs.Scope.{variable}
use Rattle.cc_scopes.proofs.KeptLaws.{at_entry, found_none, found_at}
use Rattle.cc_scopes.proofs.locals.Locals.latest.Goals as goal

pub returns-in-None : goal.returns-in-None
returns-in-None c =
    found_none c.self.invariant c.args.name.now (sym (ap (place_of c.self.inside.places) c.as_str.ensures) ∙ sym c.get.ensures ∙ c.in-None.is)
    ∙ ap (variable c.args.name.now) c.self.view_is

pub returns-in-None-get : goal.returns-in-None-get
returns-in-None-get c =
    ap (λ r. at_entry (option_copied r)) (sym c.in-None-get.is) ∙ ap at_entry c.get-in-Some.ensures
    ∙ found_at c.self.invariant c.args.name.now c.in-Some.place (sym (ap (place_of c.self.inside.places) c.as_str.ensures) ∙ sym c.get.ensures ∙ c.in-Some.is)
    ∙ ap (variable c.args.name.now) c.self.view_is

pub returns-in-Some-get : goal.returns-in-Some-get
returns-in-Some-get c =
    ap Some c.found.ensures
    ∙ ap (λ r. at_entry (option_copied r)) (sym c.in-Some-get.is) ∙ ap at_entry c.get-in-Some.ensures
    ∙ found_at c.self.invariant c.args.name.now c.in-Some.place (sym (ap (place_of c.self.inside.places) c.as_str.ensures) ∙ sym c.get.ensures ∙ c.in-Some.is)
    ∙ ap (variable c.args.name.now) c.self.view_is
