-- What keeps of every table where a thread ends.
use Rattle.std.proofs.Common.{◌≡◌, ◌≢◌, ◌⊎◌, ℕ, ◌+◌, ◌<◌, ◌==◌, ◌&&◌, Bool, true, false, cond, List, length, set, is_some, Option, Some, None, IfSome, refl, sym, ◌∙◌, ap, subst, inl, inr, ⊎_elim, arith}
use Rattle.std.specs.List.{slice_get}
use Rattle.std.specs.Option.{option_map_or, option_and_then}
use Rattle.std.proofs.lemmas.Bool.{cases_eq, true≢false, and_parts, and_left, and_right, and_from, eqb-true, eq-eqb, ne_eqb, false_from_ne_true}
use Rattle.std.proofs.lemmas.List.{set-get_or, length-set}
use Rattle.std.proofs.lemmas.Option.{none-some, same_Some, slice_get_within}
use Rattle.thread_table.specs.declared.frame.Level.{Level}
use Rattle.thread_table.specs.declared.frame.Parent.{Parent}
use Rattle.thread_table.specs.LiveThread.{LiveThread, one_fewer}
use Rattle.thread_table.specs.Numbers.{thread_at}
use Rattle.thread_table.specs.Table.{Table, IsTable, CanEnd, is_first, is_branch_of, counts_to, live_branches, branched, ended, without, waits_at, waits_for, waits_for_last, woken_after, woken_by, told_by}
use Rattle.thread_table.proofs.NumberLaws.{count-set, within_threads}
use Rattle.thread_table.proofs.TableLaws.{live-set, get-set_same, get-set_other, at-set_same, at-set_other}

-- where a thread counts to a frame, the frame is at that place of that thread, and has that first branch
counts_parts : (a k : ℕ) (f : Option ℕ) (q : Parent) → is_branch_of a k f (Some q) ≡ true → (q.thread ≡ a) × (q.frame ≡ k) × (is_first f q.first ≡ true)
counts_parts a k f q counts =
    let outer = and_parts ((q.thread == a) && (q.frame == k)) (is_first f q.first) counts in
    let inner = and_parts (q.thread == a) (q.frame == k) outer.0 in
    (eqb-true q.thread a inner.0, eqb-true q.frame k inner.1, outer.1)

-- the frame that a branch counts to is found exactly where it has that first branch
branched_at : (q : Parent) (levels : List Level) (l : Level) → slice_get levels q.frame ≡ Some l → is_first l.first q.first ≡ true → branched q levels ≡ Some l
branched_at q levels l placed first = rw (placed, first) refl

pub branched_is : (q : Parent) (levels : List Level) (l : Level) → branched q levels ≡ Some l → (slice_get levels q.frame ≡ Some l) × (is_first l.first q.first ≡ true)
branched_is q levels l is = by_level (slice_get levels q.frame) refl is
  where
    by_level : (o : Option Level) → slice_get levels q.frame ≡ o → option_and_then (λ m. cond (is_first m.first q.first) (Some m) None) o ≡ Some l
        → (slice_get levels q.frame ≡ Some l) × (is_first l.first q.first ≡ true)
    by_level None placed found = absurd (none-some l found)
    by_level (Some m) placed found = by_first (is_first m.first q.first) refl found
      where
        by_first : (b : Bool) → is_first m.first q.first ≡ b → cond b (Some m) None ≡ Some l → (slice_get levels q.frame ≡ Some l) × (is_first l.first q.first ≡ true)
        by_first false first none = absurd (none-some l none)
        by_first true first some = let same = same_Some m l some in (placed ∙ ap Some same, subst (λ x. is_first x.first q.first ≡ true) same first)

is_first_is : (o : Option ℕ) (n : ℕ) → is_first o n ≡ true → o ≡ Some n
is_first_is None n first = absurd (true≢false (sym first))
is_first_is (Some m) n first = ap Some (eqb-true m n first)

one_more_eqb : (n : ℕ) → (n + 1 == 1) ≡ (n == 0)
one_more_eqb n = ⊎_elim
    (λ (none : n ≡ 0). eq-eqb (n + 1) 1 (omega arith) ∙ sym (eq-eqb n 0 none))
    (λ (some : n ≢ 0). ne_eqb (n + 1) 1 (λ same. some (omega arith)) ∙ sym (ne_eqb n 0 some)) (cases_eq n 0)

-- a place that has nothing stays so
pub without_nothing : (table : Table) (n : ℕ) (o : Option LiveThread) → thread_at table n ≡ o → set table n o ≡ table
without_nothing table n o is = ap (set table n) (sym is) ∙ set-get_or table n None

module _ (table : Table) (h : IsTable table) (n : ℕ) (t : LiveThread) (is : thread_at table n ≡ Some t) where
  -- the table without the thread
  abbrev rest : Table
  rest = set table n None

  same_length : length rest ≡ length table
  same_length = length-set table n None

  before : (a : ℕ) (v : LiveThread) → thread_at rest a ≡ Some v → thread_at table a ≡ Some v
  before a v found = ⊎_elim
      (λ same. absurd (none-some v (sym (ap (thread_at rest) same ∙ at-set_same table n t None is) ∙ found)))
      (λ differs. sym (at-set_other table n a None differs) ∙ found) (cases_eq a n)

  -- each frame counts the thread still where it counted to it
  counted : (a k : ℕ) (v : LiveThread) (m : Level) → thread_at rest a ≡ Some v → slice_get v.frames k ≡ Some m
      → m.branches ≡ live_branches rest a k m.first + cond (counts_to a k m.first (Some t)) 1 0
  counted a k v m found placed =
      omega (
        arith,
        h.counted a k v m (before a v found) placed,
        count-set (counts_to a k m.first) table n None None (within_threads table n t is),
        ap {B = ℕ} (λ o. cond (counts_to a k m.first o) 1 0) is,
      )

  -- where it counted to none that is there, the rest is in order
  abbrev CountsNowhere : Type 0
  CountsNowhere = (a k : ℕ) (v : LiveThread) (m : Level) → thread_at rest a ≡ Some v → slice_get v.frames k ≡ Some m → counts_to a k m.first (Some t) ≡ false

  IsTable-rest : CountsNowhere → IsTable rest
  IsTable-rest nowhere = record {
    few = rw same_length h.few;
    counted = λ a k v m found placed. omega (arith, counted a k v m found placed, ap {B = ℕ} (λ b. cond b 1 0) (nowhere a k v m found placed));
    first_made = λ a k v m f found placed some. rw same_length (h.first_made a k v m f (before a v found) placed some);
    branch_made = λ a v q found linked. rw same_length (h.branch_made a v q (before a v found) linked);
  }

  alone : t.parent ≡ None → CountsNowhere
  alone none a k v m found placed = ap (is_branch_of a k m.first) none

  pub IsTable-without : t.parent ≡ None → IsTable (without table n)
  IsTable-without none = IsTable-rest (alone none)

  module _ (q : Parent) (linked : t.parent ≡ Some q) where
    counts_is : (a k : ℕ) (f : Option ℕ) → counts_to a k f (Some t) ≡ is_branch_of a k f (Some q)
    counts_is a k f = ap (is_branch_of a k f) linked

    -- its frame's thread has ended, or has left the frame
    nowhere_by : ((v : LiveThread) (m : Level) → thread_at rest q.thread ≡ Some v → slice_get v.frames q.frame ≡ Some m → is_first m.first q.first ≡ true → ⊥) → CountsNowhere
    nowhere_by gone a k v m found placed = counts_is a k m.first ∙ false_from_ne_true (is_branch_of a k m.first (Some q)) (λ counts.
        let p = counts_parts a k m.first q counts in
        gone v m (ap (thread_at rest) p.0 ∙ found) (ap (slice_get v.frames) p.1 ∙ placed) p.2)

    no_thread : thread_at rest q.thread ≡ None → CountsNowhere
    no_thread ended = nowhere_by (λ v m found placed first. none-some v (sym ended ∙ found))

    no_frame : (v : LiveThread) → thread_at rest q.thread ≡ Some v → branched q v.frames ≡ None → CountsNowhere
    no_frame v is_v left = nowhere_by (λ w m found placed first.
        none-some m (sym left ∙ branched_at q v.frames m (ap (λ x. slice_get x.frames q.frame) (same_Some v w (sym is_v ∙ found)) ∙ placed) first))

    -- ---- the frame is there
    module _ (v : LiveThread) (l : Level) (is_v : thread_at rest q.thread ≡ Some v) (there : branched q v.frames ≡ Some l) where
      abbrev placed_l : slice_get v.frames q.frame ≡ Some l
      placed_l = (branched_is q v.frames l there).0

      counts_here : counts_to q.thread q.frame l.first (Some t) ≡ true
      counts_here = counts_is q.thread q.frame l.first
          ∙ and_from ((q.thread == q.thread) && (q.frame == q.frame)) (is_first l.first q.first)
          (and_from (q.thread == q.thread) (q.frame == q.frame) (eq-eqb q.thread q.thread refl) (eq-eqb q.frame q.frame refl)) (branched_is q v.frames l there).1

      -- the frame counts the thread still, besides those that live
      one_left : l.branches ≡ live_branches rest q.thread q.frame l.first + 1
      one_left = omega (arith, counted q.thread q.frame v l is_v placed_l, ap {B = ℕ} (λ b. cond b 1 0) counts_here)

      pub has_branch : 0 < l.branches
      has_branch = omega (arith, one_left)

      last_left : (l.branches == 1) ≡ (live_branches rest q.thread q.frame (Some q.first) == 0)
      last_left =
          let first : l.first ≡ Some q.first = is_first_is l.first q.first (branched_is q v.frames l there).1 in
          rw (one_left, first) (one_more_eqb (live_branches rest q.thread q.frame (Some q.first)))

      -- the frame's thread, with one branch fewer
      abbrev joined : LiveThread
      joined = record v { frames = set v.frames q.frame (one_fewer l) }

      ended_is : ended rest (Some q) ≡ set rest q.thread (Some joined)
      ended_is = rw (is_v, there) refl

      same_live : (a k : ℕ) (f : Option ℕ) → live_branches (set rest q.thread (Some joined)) a k f ≡ live_branches rest a k f
      same_live a k f = live-set rest q.thread v (Some joined) a k f is_v refl

      abbrev Who : ℕ → LiveThread → Type 0
      Who a w = ((a ≡ q.thread) × (w ≡ joined)) ⊎ ((a ≢ q.thread) × (thread_at rest a ≡ Some w))

      who : (a : ℕ) (w : LiveThread) → thread_at (set rest q.thread (Some joined)) a ≡ Some w → Who a w
      who a w found = ⊎_elim
          (λ same. inl (same, same_Some w joined (sym found ∙ ap (thread_at (set rest q.thread (Some joined))) same ∙ at-set_same rest q.thread v (Some joined) is_v)))
          (λ differs. inr (differs, sym (at-set_other rest q.thread a (Some joined) differs) ∙ found)) (cases_eq a q.thread)

      abbrev Which : ℕ → Level → Type 0
      Which k m = ((k ≡ q.frame) × (m ≡ one_fewer l)) ⊎ ((k ≢ q.frame) × (slice_get v.frames k ≡ Some m))

      which : (k : ℕ) (m : Level) → slice_get joined.frames k ≡ Some m → Which k m
      which k m placed = ⊎_elim
          (λ same. inl (
            same,
            same_Some m (one_fewer l)
                (sym placed ∙ ap (slice_get joined.frames) same ∙ get-set_same v.frames q.frame (one_fewer l) (slice_get_within v.frames q.frame l placed_l)),
          ))
          (λ differs. inr (differs, sym (get-set_other v.frames q.frame k (one_fewer l) differs) ∙ placed)) (cases_eq k q.frame)

      counts_elsewhere : (a k : ℕ) (f : Option ℕ) → (q.thread ≢ a) ⊎ (q.frame ≢ k) → counts_to a k f (Some t) ≡ false
      counts_elsewhere a k f (inl differs) = counts_is a k f
          ∙ and_left ((q.thread == a) && (q.frame == k)) (is_first f q.first) (and_left (q.thread == a) (q.frame == k) (ne_eqb q.thread a differs))
      counts_elsewhere a k f (inr differs) = counts_is a k f
          ∙ and_left ((q.thread == a) && (q.frame == k)) (is_first f q.first) (and_right (q.thread == a) (q.frame == k) (ne_eqb q.frame k differs))

      other_counted : (a k : ℕ) (w : LiveThread) (m : Level) → thread_at rest a ≡ Some w → slice_get w.frames k ≡ Some m → (q.thread ≢ a) ⊎ (q.frame ≢ k)
          → m.branches ≡ live_branches rest a k m.first
      other_counted a k w m found placed elsewhere =
          omega (arith, counted a k w m found placed, ap {B = ℕ} (λ b. cond b 1 0) (counts_elsewhere a k m.first elsewhere))

      counted_by : (a k : ℕ) (w : LiveThread) (m : Level) → Who a w → slice_get w.frames k ≡ Some m → m.branches ≡ live_branches rest a k m.first
      counted_by a k w m (inr x) placed = other_counted a k w m x.1 placed (inl (λ same. x.0 (sym same)))
      counted_by a k w m (inl x) placed = by_level (which k m (ap (λ y. slice_get y.frames k) (sym x.1) ∙ placed))
        where
          by_level : Which k m → m.branches ≡ live_branches rest a k m.first
          by_level (inr r) = other_counted a k v m (ap (thread_at rest) x.0 ∙ is_v) r.1 (inr (λ same. r.0 (sym same)))
          by_level (inl r) = rw (x.0, r.0, r.1) (omega (arith, one_left))

      first_by : (a k : ℕ) (w : LiveThread) (m : Level) (f : ℕ) → Who a w → slice_get w.frames k ≡ Some m → m.first ≡ Some f → f < length table
      first_by a k w m f (inr x) placed some = h.first_made a k w m f (before a w x.1) placed some
      first_by a k w m f (inl x) placed some = by_level (which k m (ap (λ y. slice_get y.frames k) (sym x.1) ∙ placed))
        where
          by_level : Which k m → f < length table
          by_level (inr r) = h.first_made q.thread k v m f (before q.thread v is_v) r.1 some
          by_level (inl r) = h.first_made q.thread q.frame v l f (before q.thread v is_v) placed_l (ap (λ y. y.first) (sym r.1) ∙ some)

      branch_by : (a : ℕ) (w : LiveThread) (r : Parent) → Who a w → w.parent ≡ Some r → r.first < length table
      branch_by a w r (inr x) own = h.branch_made a w r (before a w x.1) own
      branch_by a w r (inl x) own = h.branch_made q.thread v r (before q.thread v is_v) (ap (λ y. y.parent) (sym x.1) ∙ own)

      IsTable-joined : IsTable (ended rest (Some q))
      IsTable-joined =
          let same : length (set rest q.thread (Some joined)) ≡ length table = length-set rest q.thread (Some joined) ∙ same_length in
          let table_is : IsTable (set rest q.thread (Some joined)) = record {
            few = rw same h.few;
            counted = λ a k w m found placed. counted_by a k w m (who a w found) placed ∙ sym (same_live a k m.first);
            first_made = λ a k w m f found placed some. rw same (first_by a k w m f (who a w found) placed some);
            branch_made = λ a w r found own. rw same (branch_by a w r (who a w found) own);
          } in
          rw ended_is table_is

    -- ---- the three cases together

    pub CanEnd-without : CanEnd rest q
    CanEnd-without = by_thread (thread_at rest q.thread) refl
      where
        by_frame : (v : LiveThread) → thread_at rest q.thread ≡ Some v → (o : Option Level) → branched q v.frames ≡ o → IfSome o (λ l. 0 < l.branches)
        by_frame v is_v None left = tt
        by_frame v is_v (Some l) there = has_branch v l is_v there

        by_thread : (o : Option LiveThread) → thread_at rest q.thread ≡ o → IfSome o (λ v. IfSome (branched q v.frames) (λ l. 0 < l.branches))
        by_thread None gone = tt
        by_thread (Some v) is_v = by_frame v is_v (branched q v.frames) refl

    -- what the frame knows of its branches tells whether one is left
    told-rest : told_by rest q ≡ woken_after rest q
    told-rest = by_thread (thread_at rest q.thread) refl
      where
        by_frame : (v : LiveThread) → thread_at rest q.thread ≡ Some v → (o : Option Level) → branched q v.frames ≡ o → (waits : Bool)
            → (waits && option_map_or (λ l. l.branches == 1) o false) ≡ ((waits && is_some o) && (live_branches rest q.thread q.frame (Some q.first) == 0))
        by_frame v is_v o there false = refl
        by_frame v is_v None there true = refl
        by_frame v is_v (Some l) there true = last_left v l is_v there

        by_thread : (o : Option LiveThread) → thread_at rest q.thread ≡ o
            → option_and_then (λ v. cond (waits_for_last q v) (Some q.thread) None) o
            ≡ option_and_then (λ v. cond (waits_for q v && (live_branches rest q.thread q.frame (Some q.first) == 0)) (Some q.thread) None) o
        by_thread None gone = refl
        by_thread (Some v) is_v = ap (λ b. cond b (Some q.thread) None) (by_frame v is_v (branched q v.frames) refl (waits_at q.frame v))

    pub told-is : told_by rest q ≡ woken_by table n
    told-is = told-rest ∙ sym woken_is
      where
        woken_is : woken_by table n ≡ woken_after rest q
        woken_is = rw (is, linked) refl

    pub IsTable-ended : IsTable (ended rest (Some q))
    IsTable-ended = by_thread (thread_at rest q.thread) refl
      where
        by_frame : (v : LiveThread) → thread_at rest q.thread ≡ Some v → (o : Option Level) → branched q v.frames ≡ o → IsTable (ended rest (Some q))
        by_frame v is_v None left = rw (is_v, left, without_nothing rest q.thread (Some v) is_v) (IsTable-rest (no_frame v is_v left))
        by_frame v is_v (Some l) there = IsTable-joined v l is_v there

        by_thread : (o : Option LiveThread) → thread_at rest q.thread ≡ o → IsTable (ended rest (Some q))
        by_thread None gone = rw (gone, without_nothing rest q.thread None gone) (IsTable-rest (no_thread gone))
        by_thread (Some v) is_v = by_frame v is_v (branched q v.frames) refl
