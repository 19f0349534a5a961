use Rattle.std.proofs.Common.{◌≡◌, ◌≤◌, length, ap, arith}
use Rattle.cc_ops.specs.Shapes.{shape_of}
use Rattle.cc_core.specs.Core.{class_shape}
use Rattle.stack_code.specs.View.{code_of}
use Rattle.cc_walk.proofs.PostLaws.{void_allowed}
use Rattle.cc_walk.proofs.posts.make.Goals as goal

pub returns-clause-allowed : goal.returns-clause-allowed
returns-clause-allowed c =
    let h = (code_of c.args.code.now).shapes in
    let same : (shape_of c.shape-shape.result.now).params ≡ (class_shape h c.args.class).params = ap (λ shape. shape.params) c.shape-shape.ensures.shape in
    let few : length c.args.args.now ≤ 8 = omega (arith, c.requires.count, same, c.shape-shape.ensures.fits.few) in
    void_allowed c.args.args.now c.in_ok-without_void.field-0 few c.in_ok-without_void.ensures
