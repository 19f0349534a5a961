use Rattle.std.proofs.Common.{map, drop, ap, ◌∙◌}
use Rattle.cc_ops.specs.Machine.{value_of}
use Rattle.cc_core.specs.Effects.{cells_with}
use Rattle.cc_walk.proofs.LoopLaws.{objects_left, addresses_left}
use Rattle.cc_walk.proofs.parameters.parameters.Goals as goal

pub loop-kinds-preserved : goal.loop-kinds-preserved
loop-kinds-preserved c =
    let old = c.loop-kinds.objects in
    let kinds = c.kinds-item.result in
    let args = c.loop-kinds.args.now in
    let made = c.in_ok-cells.ensures ∙ ap (λ ks. cells_with ks (map value_of args)) c.as_slice.ensures in
    let rest = c.after-args.ensures ∙ ap (λ n. drop n args) c.len.ensures in
    record {
      addresses = addresses_left c.args.processor old c.make.new.self c.args.params.now c.loop-kinds.kinds-index kinds c.in_ok-cells.cells args c.after-args.result.now c.loop-kinds.made c.push.new.self c.in_ok-make.field-0 c.loop-kinds-test.true c.kinds-item.is made rest c.in_ok-make.ensures.object c.in_ok-make.ensures.address c.in_ok-push.ensures.ok ∙ c.loop-kinds.invariant.addresses;
      objects = objects_left c.args.processor old c.make.new.self c.args.params.now c.loop-kinds.kinds-index kinds c.in_ok-cells.cells args c.after-args.result.now c.loop-kinds-test.true c.kinds-item.is made rest c.in_ok-make.ensures.object ∙ c.loop-kinds.invariant.objects;
    }
