use Rattle.std.specs.Prelude.{ℕ, ◌<◌, ◌≤◌, IsSome}
use Rattle.std.specs.FinMap.{get}
use Rattle.parts_bench.proofs.load.locks.Given as goal

-- the objects that were entered are held
abbrev pub invariant-loop-object : goal.invariant-loop-object
invariant-loop-object l = (o : ℕ) → o < l.object → IsSome (get l.locks o)

-- so are those that were not left yet
abbrev pub invariant-loop-object-2 : goal.invariant-loop-object-2
invariant-loop-object-2 l = record { counted : l.freed ≤ l.object; held : (o : ℕ) → l.object ≤ o → o < l.count → IsSome (get l.locks o) }
