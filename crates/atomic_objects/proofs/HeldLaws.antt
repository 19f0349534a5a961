-- What a change of one object leaves at each object, by which proofs above speak of locks; and the map that a table of locks shows.
use Rattle.std.proofs.Common.{◌≡◌, ◌≢◌, ℕ, List, [], ◌∷◌, true, false, cond, eq-eqb, Option, Some, None, refl, ap, sym, ⊎_elim, ◌∙◌}
use Rattle.std.specs.Prelude.{nat_eq, IsSome}
use Rattle.std.specs.Ordering.{nat_cmp, eq_by_cmp}
use Rattle.std.specs.Cmp.{nat_cmp_total, unsigned_tied}
use Rattle.std.specs.Map.{lookup}
use Rattle.std.specs.HashMap as hash
use Rattle.std.specs.FinMap.{find, get, from_entries, get-insert, get-remove, get-from_entries, same_map, nat_cmp-IsAntisymmetric}
use Rattle.std.proofs.lemmas.Bool.{cases_eq, ne_eqb}
use Rattle.atomic_objects.specs.HeldObjects.{Held, HeldObjects, set_object, answer, after_enter, after_wait, after_leave, first, handed, next}
use Rattle.atomic_objects.specs.declared.table.Entered.TheVariants.{Busy}
use Rattle.atomic_objects.specs.LockTable.{LockTable, Sets}

-- whether two numbers tie
tied : (n : ℕ) → eq_by_cmp nat_cmp n n ≡ true
tied n = unsigned_tied n n ∙ eq-eqb n n refl

apart : (m n : ℕ) → m ≢ n → eq_by_cmp nat_cmp m n ≡ false
apart m n ne = unsigned_tied m n ∙ ne_eqb m n ne

module _ (m : HeldObjects) (object : ℕ) where
  pub get-set_object : (entry : Option Held) → get (set_object m object entry) object ≡ entry
  get-set_object None = get-remove nat_cmp_total m object object ∙ ap (λ b. cond b None (get m object)) (tied object)
  get-set_object (Some h) = get-insert nat_cmp_total m object h object ∙ ap (λ b. cond b (Some h) (get m object)) (tied object)

  pub get-set_object_other : (entry : Option Held) (other : ℕ) → other ≢ object → get (set_object m object entry) other ≡ get m other
  get-set_object_other None other ne = get-remove nat_cmp_total m object other ∙ ap (λ b. cond b None (get m other)) (apart other object ne)
  get-set_object_other (Some h) other ne = get-insert nat_cmp_total m object h other ∙ ap (λ b. cond b (Some h) (get m other)) (apart other object ne)

same_objects : (m n : HeldObjects) → ((object : ℕ) → get m object ≡ get n object) → m ≡ n
same_objects = same_map nat_cmp_total nat_cmp-IsAntisymmetric

pub set_object_same : (m : HeldObjects) (object : ℕ) (entry : Option Held) → get m object ≡ entry → m ≡ set_object m object entry
set_object_same m object entry is = same_objects _ _ (λ other. ⊎_elim
    (λ e. rw e (is ∙ sym (get-set_object m object entry)))
    (λ ne. sym (get-set_object_other m object entry other ne))
    (cases_eq other object))

-- an object is held behind `enter`, behind `wait`, and behind a `leave` that gave it to somebody
is_some_entered : (entry : Option Held) (thread : ℕ) → IsSome (after_enter entry thread)
is_some_entered None thread = refl
is_some_entered (Some h) thread = refl

is_some_queued : (entry : Option Held) (thread : ℕ) → IsSome entry → IsSome (after_wait entry thread)
is_some_queued None thread is = is
is_some_queued (Some h) thread is = refl

is_some_handed : (threads : List ℕ) → IsSome (first threads) → IsSome (handed threads)
is_some_handed [] is = is
is_some_handed (thread ∷ threads) is = refl

is_some_left : (entry : Option Held) → IsSome (next entry) → IsSome (after_leave entry)
is_some_left None is = is
is_some_left (Some h) is = is_some_handed h.waiters is

module _ (m : HeldObjects) (object : ℕ) where
  pub held-enter : (thread : ℕ) → IsSome (get (set_object m object (after_enter (get m object) thread)) object)
  held-enter thread = rw (get-set_object m object (after_enter (get m object) thread)) (is_some_entered (get m object) thread)

  pub held-wait : (thread : ℕ) → IsSome (get m object) → IsSome (get (set_object m object (after_wait (get m object) thread)) object)
  held-wait thread held = rw (get-set_object m object (after_wait (get m object) thread)) (is_some_queued (get m object) thread held)

  pub held-leave : IsSome (next (get m object)) → IsSome (get (set_object m object (after_leave (get m object))) object)
  held-leave somebody = rw (get-set_object m object (after_leave (get m object))) (is_some_left (get m object) somebody)

-- who is told that it is busy finds the object held
pub held-busy : (entry : Option Held) (thread holder : ℕ) → answer entry thread ≡ Busy holder → IsSome entry
held-busy None thread holder is = absurd (cc)
held-busy (Some h) thread holder is = refl

find-lookup : (object : ℕ) (es : List (ℕ × Held)) → find nat_cmp object es ≡ lookup (nat_eq object) es
find-lookup object [] = refl
find-lookup object (e ∷ es) = rw (unsigned_tied object e.0) (ap (cond (nat_eq object e.0) (Some e.1)) (find-lookup object es))

get-table : (t : LockTable) (object : ℕ) → get (from_entries {R = nat_cmp} t.entries) object ≡ hash.get nat_eq t object
get-table t object = get-from_entries nat_cmp_total t.entries object ∙ find-lookup object t.entries

-- a table shows a map
module _ (t : LockTable) (m : HeldObjects) (shows : from_entries t.entries ≡ m) where
  pub get_shown : (object : ℕ) → get m object ≡ hash.get nat_eq t object
  get_shown object = rw (← shows) (get-table t object)

  pub shown_same : (u : LockTable) → ((object : ℕ) → hash.get nat_eq u object ≡ hash.get nat_eq t object) → from_entries u.entries ≡ m
  shown_same u same = same_objects _ _ (λ object. get-table u object ∙ same object ∙ sym (get_shown object))

  pub shown_changed : (u : LockTable) (object : ℕ) (f : Option Held → Option Held) → Sets t u object (f (hash.get nat_eq t object))
      → from_entries u.entries ≡ set_object m object (f (get m object))
  shown_changed u object f sets = same_objects _ _ (λ other. ⊎_elim
      (λ e. rw e (get-table u object ∙ sets.here ∙ ap f (sym (get_shown object)) ∙ sym (get-set_object m object (f (get m object)))))
      (λ ne. get-table u other ∙ sets.others other ne ∙ sym (get_shown other) ∙ sym (get-set_object_other m object (f (get m object)) other ne))
      (cases_eq other object))
