use Rattle.std.proofs.Common.{sym, ap, ◌∙◌}
use Rattle.law_sharing.specs.Placed.{placed}
use Rattle.law_sharing.proofs.WholeLaws.{placed_shared}
use Rattle.law_sharing.proofs.placed_rules_are_those_of_the_tree.Goals as goal

pub returns : goal.returns
returns c = record { exact = λ p. placed_shared p; none = λ p nothing. sym (placed_shared p) ∙ ap placed nothing }
