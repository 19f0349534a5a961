-- What a thread's next move is, and what it leaves.
use Rattle.std.specs.Prelude.{ℕ, []}
use Rattle.cc_ops.specs.Values.{Value, Void}
use Rattle.cc_core.specs.Asks.{Ask, Answer}
use Rattle.cc_code.specs.Code.{Finished, Then, Move, Silent, Does, Ends, Stuck}

-- what is seen of a move: it is silent; it asks, at a line; it is the end; there is none
pub data Seen (N : Type 0) : Type 0 where
  Quiet : Seen N
  Asking : (line : ℕ) → Ask N → Seen N
  Ending : Value N → Seen N
  Nowhere : Seen N

module _ {N : Type 0} where
  abbrev pub seen : Move N → Seen N
  seen (Silent c) = Quiet
  seen (Does line q k) = Asking line q
  seen (Ends v) = Ending v
  seen Stuck = Nowhere

  abbrev pub IsAsk : Move N → Type 0
  IsAsk (Silent c) = ⊥
  IsAsk (Does line q k) = Unit {0}
  IsAsk (Ends v) = ⊥
  IsAsk Stuck = ⊥

  -- what an ask leaves after an answer
  abbrev pub after : Move N → Answer N → Then N
  after (Does line q k) x = k x
  after m x = record { left = Finished Void; branches = [] }
