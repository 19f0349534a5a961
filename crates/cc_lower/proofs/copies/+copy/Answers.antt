use Rattle.std.proofs.Common.{ap, sym, ◌∙◌}
use Rattle.cc_ops.specs.Classes.{Apply, Both, Either}
use Rattle.cc_ops.specs.Shapes.{expr_of, exprs_of}
use Rattle.cc_ops.proofs.Exprs.{expr_of-Op, expr_of-And, expr_of-Or}
use Rattle.cc_lower.proofs.CopyLaws.{copied_more}
use Rattle.cc_lower.proofs.copies.+copy.Goals as goal

pub copy_build-returns-in_ok-parts-in-Op : goal.copy_build-returns-in_ok-parts-in-Op
copy_build-returns-in_ok-parts-in-Op t c =
    expr_of-Op c.in-Op.op c.in_ok-parts-in-Op.parts
    ∙ (ap (Apply c.in-Op.op) (c.in_ok-parts-in-Op.ensures ∙ ap exprs_of c.as_slice.ensures)
    ∙ sym (ap expr_of c.in-Op.is ∙ expr_of-Op c.in-Op.op c.in-Op.parts))

pub copy_build-returns-in_ok-b-in-And : goal.copy_build-returns-in_ok-b-in-And
copy_build-returns-in_ok-b-in-And t c =
    let first = ap expr_of c.in_ok-a-in-And.ensures ∙ (c.in_ok-copy_build-in-And.ensures ∙ ap expr_of c.get.ensures) in
    let second = ap expr_of c.in_ok-b-in-And.ensures ∙ (c.in_ok-copy_build-in-And-2.ensures ∙ ap expr_of c.get-in-And.ensures) in
    expr_of-And c.in_ok-a-in-And.a c.in_ok-b-in-And.b
    ∙ (ap (λ x. Both x (expr_of c.in_ok-b-in-And.b)) first
    ∙ (ap (Both (expr_of c.in-And.a)) second
    ∙ sym (ap expr_of c.in-And.is ∙ expr_of-And c.in-And.a c.in-And.b)))

pub copy_build-returns-in_ok-b-in-Or : goal.copy_build-returns-in_ok-b-in-Or
copy_build-returns-in_ok-b-in-Or t c =
    let first = ap expr_of c.in_ok-a-in-Or.ensures ∙ (c.in_ok-copy_build-in-Or.ensures ∙ ap expr_of c.get-in-Or.ensures) in
    let second = ap expr_of c.in_ok-b-in-Or.ensures ∙ (c.in_ok-copy_build-in-Or-2.ensures ∙ ap expr_of c.get-in-Or-2.ensures) in
    expr_of-Or c.in_ok-a-in-Or.a c.in_ok-b-in-Or.b
    ∙ (ap (λ x. Either x (expr_of c.in_ok-b-in-Or.b)) first
    ∙ (ap (Either (expr_of c.in-Or.a)) second
    ∙ sym (ap expr_of c.in-Or.is ∙ expr_of-Or c.in-Or.a c.in-Or.b)))

pub copy_builds-loop-e-preserved : goal.copy_builds-loop-e-preserved
copy_builds-loop-e-preserved t c =
    copied_more c.args.es.now c.loop-e.copy c.push.new.self c.loop-e.e-index c.in_ok-copy_build.field-0 c.e-item.result c.loop-e-test.true
    c.e-item.is c.in_ok-copy_build.ensures c.in_ok-push.ensures.ok c.loop-e.invariant
