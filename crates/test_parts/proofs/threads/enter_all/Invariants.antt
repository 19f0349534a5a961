use Rattle.thread_table.specs.Table.{IsLive}
use Rattle.test_parts.proofs.threads.enter_all.Given as goal

abbrev pub invariant-loop-code : goal.invariant-loop-code
invariant-loop-code l = IsLive l.threads l.thread
