use Rattle.std.proofs.Common.{◌∙◌}
use Rattle.cc_lower.proofs.OneFunction.{one_item, returns_constant}
use Rattle.test_code.proofs.lowering.returning.Goals as goal

pub returns : goal.returns
returns c =
    returns_constant _ _ _ c.in_ok-program.ensures.functions c.in_ok-program.ensures.classes
    (c.in_ok-function.ensures.body ∙ one_item _ _ _ c.in_ok-push.ensures.ok c.new-body.ensures) c.in_ok-function.ensures.shape
