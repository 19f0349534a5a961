use Rattle.std.proofs.Common.{map}
use Rattle.cc_ops.specs.Machine.{value_of}
use Rattle.code_thread.proofs.ValueLaws.{resized_pushed}
use Rattle.code_thread.proofs.values.resized.Goals as goal

pub loop-k-preserved : goal.loop-k-preserved
loop-k-preserved c =
    rw c.in_ok-push.ensures.ok
    (resized_pushed c.loop-k.k (map value_of c.args.given.now) c.loop-k.list c.address_at.result c.loop-k.invariant c.address_at.ensures)
