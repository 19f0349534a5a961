-- What the threads are at last, where one of them is lent.
use Rattle.std.specs.Prelude.{ℕ, Some, slice_set}
use Rattle.std.specs.Borrow.{Lends, Fml, MutBor}
use Rattle.thread_table.specs.LiveThread.{LiveThread}
use Rattle.thread_table.specs.Numbers.{Numbers}
use Rattle.thread_table.specs.contracts.thread.Thread as thread
use Rattle.thread_table.specs.contracts.numbers.Numbered as numbered

-- once the borrow r ends, the number has the last thread written through r
abbrev pub LendsThread : MutBor Numbers → ℕ → MutBor LiveThread → Fml
LendsThread s number r = Lends numbered.the_row thread.the_row s r (λ w. record s.now { threads = slice_set s.now.threads number (Some w) })
