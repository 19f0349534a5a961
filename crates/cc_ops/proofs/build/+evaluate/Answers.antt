use Rattle.std.proofs.Common.{◌∙◌, map, ap, sym}
use Rattle.cc_ops.specs.declared.build.BuildExpr.{BuildExpr}
use Rattle.cc_ops.specs.Values.{Void}
use Rattle.cc_ops.specs.Operators.{truth_of}
use Rattle.cc_ops.specs.Classes.{evaluate}
use Rattle.cc_ops.specs.Machine.{value_of, same_address}
use Rattle.cc_ops.specs.Shapes.{expr_of, exprs_of, first_two}
use Rattle.cc_ops.proofs.Exprs.{expr_of-Op, expr_of-And, expr_of-Or, applied, evaluate-Apply, evaluate-Both, evaluate-Either}
use Rattle.cc_ops.proofs.build.+evaluate.Goals as goal

pub BuildExpr::evaluate-returns-in-Op : goal.BuildExpr::evaluate-returns-in-Op
BuildExpr::evaluate-returns-in-Op t c =
    let args = map value_of c.args.args.now in
    c.apply_found.ensures
    ∙ ap (applied same_address args c.in-Op.op) (c.operands.ensures ∙ ap (first_two same_address args 0 Void Void) (ap exprs_of c.as_slice.ensures))
    ∙ sym (evaluate-Apply same_address args c.in-Op.op (exprs_of c.in-Op.parts))
    ∙ sym (ap (evaluate same_address args) (ap expr_of c.in-Op.is ∙ expr_of-Op c.in-Op.op c.in-Op.parts))

pub BuildExpr::evaluate-returns-else-is_zero : goal.BuildExpr::evaluate-returns-else-is_zero
BuildExpr::evaluate-returns-else-is_zero t c =
    let args = map value_of c.args.args.now in
    let at = λ (e : BuildExpr). evaluate same_address args (expr_of e) in
    let left = c.in_ok-evaluate-in-And.ensures ∙ ap at c.get.ensures in
    c.as_truth.ensures
    ∙ ap truth_of (c.evaluate-in-And.ensures ∙ ap at c.get-in-And.ensures)
    ∙ sym (evaluate-Both same_address args (expr_of c.in-And.a) (expr_of c.in-And.b) _ left (sym c.if-is_zero.ensures))
    ∙ sym (ap (evaluate same_address args) (ap expr_of c.in-And.is ∙ expr_of-And c.in-And.a c.in-And.b))

pub BuildExpr::evaluate-returns-else-not-is_zero : goal.BuildExpr::evaluate-returns-else-not-is_zero
BuildExpr::evaluate-returns-else-not-is_zero t c =
    let args = map value_of c.args.args.now in
    let at = λ (e : BuildExpr). evaluate same_address args (expr_of e) in
    let left = c.in_ok-evaluate-in-Or.ensures ∙ ap at c.get-in-Or.ensures in
    c.as_truth-in-Or.ensures
    ∙ ap truth_of (c.evaluate-in-Or-2.ensures ∙ ap at c.get-in-Or-2.ensures)
    ∙ (let zero = sym c.is_zero-in-Or.ensures ∙ c.if-not-is_zero.false in
    sym (evaluate-Either same_address args (expr_of c.in-Or.a) (expr_of c.in-Or.b) _ left zero))
    ∙ sym (ap (evaluate same_address args) (ap expr_of c.in-Or.is ∙ expr_of-Or c.in-Or.a c.in-Or.b))
