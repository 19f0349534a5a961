-- What contracts see of a list of what is ready.
use Rattle.std.specs.Prelude.{◌≡◌, ℕ, ◌+◌, List, remove}
use Rattle.global_ptr.specs.declared.values.Waiter.{Waiter}

-- the waiters, first to last, and how many more can be put behind them without memory
pub record ReadyList : Type 0 where
  pub waiters : List Waiter
  pub spare : ℕ

-- the waiter at a place left, and its place is kept
pub record Takes (old new : ReadyList) (place : ℕ) : Type 0 where
  pub waiters : new.waiters ≡ remove old.waiters place
  pub spare : new.spare ≡ old.spare + 1
