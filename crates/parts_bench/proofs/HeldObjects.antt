-- The objects of a range of numbers are held while they are entered or left one by one.
use Rattle.std.proofs.Common.{arith, ◌≢◌, ℕ, ◌+◌, ◌<◌, ◌≤◌, Option, ⊎_elim}
use Rattle.std.proofs.lemmas.Bool.{cases_eq}
use Rattle.std.specs.Prelude.{IsSome}
use Rattle.std.specs.FinMap.{get}
use Rattle.atomic_objects.specs.HeldObjects.{Held, HeldObjects, set_object, after_enter}
use Rattle.atomic_objects.proofs.HeldLaws.{get-set_object_other, held-enter}

module _ (m : HeldObjects) (object : ℕ) where
  -- all objects below one are held, and it is entered
  pub held_below : (thread : ℕ) → ((o : ℕ) → o < object → IsSome (get m o))
      → (o : ℕ) → o < object + 1 → IsSome (get (set_object m object (after_enter (get m object) thread)) o)
  held_below thread held o below = ⊎_elim
      (λ e. rw e (held-enter m object thread))
      (λ ne. rw (get-set_object_other m object (after_enter (get m object) thread) o ne) (held o (omega (arith, below, ne))))
      (cases_eq o object)

  -- all objects from one on are held, and it is left
  pub held_above : (entry : Option Held) (end : ℕ) → ((o : ℕ) → object ≤ o → o < end → IsSome (get m o))
      → (o : ℕ) → object + 1 ≤ o → o < end → IsSome (get (set_object m object entry) o)
  held_above entry end held o above below =
      let ne : o ≢ object = omega (arith, above) in
      rw (get-set_object_other m object entry o ne) (held o (omega (arith, above)) below)
