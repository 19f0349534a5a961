use Rattle.std.proofs.lemmas.Result.{on_ok_weaker}
use Rattle.thread_table.proofs.ReadLaws.{level-inside}
use Rattle.test_parts.proofs.threads.enter.Goals as goal

pub returns : goal.returns
returns c =
    on_ok_weaker c.push_frame.result (λ same. rw same (level-inside c.args.threads.now c.args.thread c.frame.result c.requires)) c.push_frame.ensures.ok
