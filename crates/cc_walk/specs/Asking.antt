-- A thread of a machine asks.
use Rattle.std.specs.Prelude.{◌≡◌, ℕ, Some}
use Rattle.cc_ops.specs.Machine.{Address}
use Rattle.cc_ops.specs.declared.number.ThreadNo.{ThreadNo}
use Rattle.cc_core.specs.Asks.{Ask, Answer}
use Rattle.cc_code.specs.Code.{Then, Does, move}
use Rattle.numbered_runs.specs.Machine.{Machine, Runner, Goes, thread_in}

-- thread t, which is r, asks at a line, and k is what follows the answer
pub record IsAsking (w : Machine) (t : ThreadNo) (r : Runner) (line : ℕ) (ask : Ask Address) (k : Answer Address → Then Address) : Type 0 where
  pub goes : thread_in w.threads t ≡ Some (Goes r)
  pub asks : move w.code r.thread ≡ Does line ask k
