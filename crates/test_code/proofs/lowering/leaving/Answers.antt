use Rattle.std.proofs.Common.{◌≡◌, List, ◌∷◌, ap, ◌∙◌}
use Rattle.cc_core.specs.declared.expression.Expression.{Expression}
use Rattle.cc_core.specs.declared.statement.Statement.{Statement, While}
use Rattle.cc_lower.proofs.OneFunction.{two_items, leaves_loop}
use Rattle.test_code.proofs.lowering.leaving.Goals as goal

-- the same loop with what its body is
loop_body : (b rest : List Statement) (e : Expression) (s t : Statement) → b ≡ While e s ∷ rest → s ≡ t → b ≡ While e t ∷ rest
loop_body b rest e s t is same = is ∙ ap (λ x. While e x ∷ rest) same

pub returns : goal.returns
returns c =
    leaves_loop _ _ _ _ c.in_ok-program.ensures.functions c.in_ok-program.ensures.classes
    (loop_body _ _ _ _ _
    (c.in_ok-function.ensures.body ∙ two_items _ _ _ _ _ c.in_ok-push-2.ensures.ok c.in_ok-push.ensures.ok c.new-body.ensures)
    c.in_ok-leave.ensures)
    c.in_ok-function.ensures.shape
