use Rattle.law_sharing.proofs.ExpressionLaws.{expr_leaves}
use Rattle.law_sharing.proofs.expressions_share_addresses_alone.Goals as goal

pub returns : goal.returns
returns c = λ cx e s. (expr_leaves cx e).leaves s
