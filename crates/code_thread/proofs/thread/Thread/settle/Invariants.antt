use Rattle.std.proofs.Common.{◌≡◌}
use Rattle.stack_code.specs.View.{code_of}
use Rattle.numbered_threads.specs.Quiet.{quiet_end}
use Rattle.numbered_threads.proofs.QuietLaws.{moves_left}
use Rattle.code_thread.proofs.thread.Thread.settle.Given as goal

abbrev pub invariant-quiet : goal.invariant-quiet
invariant-quiet l = quiet_end (code_of l.code) l.self ≡ quiet_end (code_of l.code) l.initial.self

abbrev pub decreases-quiet : goal.decreases-quiet
decreases-quiet l = moves_left (code_of l.code) l.self
