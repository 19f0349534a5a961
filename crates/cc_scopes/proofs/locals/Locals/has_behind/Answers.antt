use Rattle.std.proofs.Common.{drop, is_some, sym, ap, ◌∙◌}
use Rattle.cc_scopes.specs.Places.{place_of}
use Rattle.cc_scopes.specs.Scope.{variable}
use Rattle.cc_scopes.proofs.PlaceLaws.{is_behind}
use Rattle.cc_scopes.proofs.KeptLaws.{found_behind}
use Rattle.cc_scopes.proofs.locals.Locals.has_behind.Goals as goal

pub returns-in-None : goal.returns-in-None
returns-in-None c = sym (ap (is_behind c.args.n) c.in-None.is) ∙ ap (is_behind c.args.n) c.get.ensures
    ∙ ap (λ t. is_behind c.args.n (place_of c.self.inside.places t)) c.as_str.ensures
    ∙ found_behind c.self.invariant c.args.n c.args.name.now
    ∙ ap (λ ls. is_some (variable c.args.name.now (drop c.args.n ls))) c.self.view_is

pub returns-in-Some : goal.returns-in-Some
returns-in-Some c = sym (ap (is_behind c.args.n) c.in-Some.is) ∙ ap (is_behind c.args.n) c.get.ensures
    ∙ ap (λ t. is_behind c.args.n (place_of c.self.inside.places t)) c.as_str.ensures
    ∙ found_behind c.self.invariant c.args.n c.args.name.now
    ∙ ap (λ ls. is_some (variable c.args.name.now (drop c.args.n ls))) c.self.view_is
