use Rattle.std.proofs.Common.{length, sym, ap, ◌∙◌}
use Rattle.cc_scopes.proofs.PlaceLaws.{locals_length}
use Rattle.cc_scopes.proofs.locals.Locals.len.Goals as goal

pub returns : goal.returns
returns c = c.len.ensures ∙ sym (locals_length c.self.inside.all) ∙ ap length c.self.view_is
