use Rattle.std.proofs.Common.{None}
use Rattle.std.proofs.lemmas.Result.{on_ok_weaker}
use Rattle.thread_table.proofs.ReadLaws.{level-spawned}
use Rattle.test_parts.proofs.threads.fork.Goals as goal

pub returns : goal.returns
returns c =
    on_ok_weaker c.spawn.result
    (λ same. rw same (level-spawned c.args.threads.now c.args.parent c.frame.result c.new.result None c.requires)) c.spawn.ensures.threads
