-- Silent moves of a thread of the code, to their end.
use Rattle.std.specs.Prelude.{ℕ, zero, suc, length}
use Rattle.cc_code.specs.Code.{Code, Thread, Move, Silent, Does, Ends, Stuck, move}

module _ {N : Type 0} where
  -- goes on after a silent move, and stays before any other
  abbrev pub after_silent : (Thread N → Thread N) → Thread N → Move N → Thread N
  after_silent go c (Silent d) = go d
  after_silent go c (Does line q k) = c
  after_silent go c (Ends v) = c
  after_silent go c Stuck = c

  -- at most so many
  abbrev pub run_quietly : Code → (most : ℕ) → Thread N → Thread N
  run_quietly code zero c = c
  run_quietly code (suc n) c = after_silent (run_quietly code n) c (move code c)

  -- In a row no place comes twice, so there are no more than places.
  unfoldable pub quiet_end : Code → Thread N → Thread N
  quiet_end code c = run_quietly code (suc (length code.places)) c
