-- What keeps of every table where a thread is made.
use Rattle.std.proofs.Common.{◌≡◌, ◌≢◌, ◌⊎◌, ℕ, zero, suc, ◌+◌, ◌-◌, ◌<◌, ◌≤◌, ◌==◌, ◌&&◌, true, false, cond, List, [], ◌∷◌, ◌++◌, length, set, Option, Some, None, IsSome, unwrap_or, refl, sym, ◌∙◌, ap, subst, inl, inr, ⊎_elim, arith}
use Rattle.std.specs.List.{slice_get}
use Rattle.std.specs.Option.{option_and_then}
use Rattle.std.proofs.lemmas.Bool.{cases_eq, cases_lt, true≢false, ne_eqb, eq-eqb, and_left, and_right, and_from}
use Rattle.std.proofs.lemmas.List.{get_or_append_left, get_or_push, get_or_past, length-set, length_push}
use Rattle.std.proofs.lemmas.Option.{none-some, same_Some, slice_get_within}
use Rattle.global_ptr.specs.declared.values.Value.{Value}
use Rattle.thread_table.specs.declared.frame.Asker.{Asker}
use Rattle.thread_table.specs.declared.frame.Frame.{Frame}
use Rattle.thread_table.specs.declared.frame.Level.{Level}
use Rattle.thread_table.specs.declared.frame.Parent.{Parent}
use Rattle.thread_table.specs.declared.frame.TheConstants.{MOST_THREADS}
use Rattle.thread_table.specs.LiveThread.{LiveThread, level, new_thread, innermost, one_more}
use Rattle.thread_table.specs.Numbers.{thread_at}
use Rattle.thread_table.specs.Table.{Table, IsTable, level_at, is_first, is_branch_of, counts_to, live_branches, forked, parent_of, spawned}
use Rattle.thread_table.proofs.TableLaws.{live-none, live-set, live-push, count_none, get-set_same, get-set_other, at-set_same, at-set_other}

-- a table before the thread u is put behind it, where each frame counts u already
record Awaits (table : Table) (u : LiveThread) : Type 0 where
  few : length table < MOST_THREADS
  counted : (a k : ℕ) (t : LiveThread) (l : Level) → thread_at table a ≡ Some t → slice_get t.frames k ≡ Some l → l.branches ≡ live_branches table a k l.first + cond (counts_to a k l.first (Some u)) 1 0
  first_made : (a k : ℕ) (t : LiveThread) (l : Level) (f : ℕ) → thread_at table a ≡ Some t → slice_get t.frames k ≡ Some l → l.first ≡ Some f → f < length table + 1
  branch_made : (a : ℕ) (t : LiveThread) (p : Parent) → thread_at table a ≡ Some t → t.parent ≡ Some p → p.first < length table + 1
  own : (p : Parent) → u.parent ≡ Some p → p.first < length table + 1
  no_branch : (k : ℕ) (l : Level) → slice_get u.frames k ≡ Some l → (l.first ≡ None) × (l.branches ≡ 0)

module _ (table : Table) (u : LiveThread) where
  at-push : (a : ℕ) (t : LiveThread) → thread_at (table ++ Some u ∷ []) a ≡ Some t → (thread_at table a ≡ Some t) ⊎ (t ≡ u)
  at-push a t found = ⊎_elim
      (λ (before : a < length table). inl (sym (get_or_append_left table (Some u ∷ []) None a before) ∙ found))
      (λ (behind : length table ≤ a). ⊎_elim
      (λ (last : a < length table + 1). inr (same_Some t u (sym found ∙ get_or_push table (Some u) None a (omega arith))))
      (λ (past : length table + 1 ≤ a). absurd (none-some t (sym (get_or_past (table ++ Some u ∷ []) a None (omega (arith, length_push table (Some u)))) ∙ found)))
      (cases_lt a (length table + 1)))
      (cases_lt a (length table))

  IsTable-push : Awaits table u → IsTable (table ++ Some u ∷ [])
  IsTable-push h =
      let longer : length (table ++ Some u ∷ []) ≡ length table + 1 = length_push table (Some u) in
      record {
        few = omega (arith, longer, h.few);
        counted = λ a k t l found placed. ⊎_elim
            (λ before. h.counted a k t l before placed ∙ sym (live-push table u a k l.first))
            (λ same. let none = h.no_branch k l (ap {A = LiveThread} (λ v. slice_get v.frames k) (sym same) ∙ placed) in
            none.1 ∙ sym (ap (live_branches (table ++ Some u ∷ []) a k) none.0 ∙ live-none (table ++ Some u ∷ []) a k)) (at-push a t found);
        first_made = λ a k t l f found placed first. ⊎_elim
            (λ before. rw longer (h.first_made a k t l f before placed first))
            (λ same. let none = h.no_branch k l (ap {A = LiveThread} (λ v. slice_get v.frames k) (sym same) ∙ placed) in absurd (none-some f (sym none.0 ∙ first))) (at-push a t found);
        branch_made = λ a t p found linked. ⊎_elim
            (λ before. rw longer (h.branch_made a t p before linked))
            (λ same. rw longer (h.own p (ap {A = LiveThread} (λ v. v.parent) (sym same) ∙ linked))) (at-push a t found);
      }

-- a new thread has one frame, which has no branch
alone : (frame : Frame) (k : ℕ) (l : Level) → slice_get (level frame ∷ []) k ≡ Some l → (l.first ≡ None) × (l.branches ≡ 0)
alone frame zero l is = let same = same_Some (level frame) l is in (ap (λ x. x.first) (sym same), ap (λ x. x.branches) (sym same))
alone frame (suc k) l is = absurd (none-some l is)

-- ---- a thread without parent

pub IsTable-spawned_alone : (table : Table) (frame : Frame) (args : List Value) (asker : Option Asker) → IsTable table → length table < MOST_THREADS
    → IsTable (spawned table frame args None asker)
IsTable-spawned_alone table frame args asker h few = IsTable-push table (new_thread frame args None asker) (record {
  few = few;
  counted = λ a k t l found placed. h.counted a k t l found placed ∙ omega arith;
  first_made = λ a k t l f found placed first. omega (arith, h.first_made a k t l f found placed first);
  branch_made = λ a t p found linked. omega (arith, h.branch_made a t p found linked);
  own = λ p linked. absurd (none-some p linked);
  no_branch = alone frame;
})

-- ---- a branch

-- before its first branch a frame has none
module _ (table : Table) (h : IsTable table) where
  -- no thread counts to a frame whose first branch is still to be made
  not_made : (a k i : ℕ) → counts_to a k (Some (length table)) (thread_at table i) ≡ false
  not_made a k i = by_thread (thread_at table i) refl
    where
      by_parent : (t : LiveThread) → thread_at table i ≡ Some t → (p : Option Parent) → t.parent ≡ p → is_branch_of a k (Some (length table)) p ≡ false
      by_parent t found None linked = refl
      by_parent t found (Some p) linked =
          and_right ((p.thread == a) && (p.frame == k)) (is_first (Some (length table)) p.first) (ne_eqb (length table) p.first (λ same. omega (arith, h.branch_made i t p found linked)))

      by_thread : (o : Option LiveThread) → thread_at table i ≡ o → counts_to a k (Some (length table)) o ≡ false
      by_thread None found = refl
      by_thread (Some t) found = by_parent t found t.parent refl

  live-not_made : (a k : ℕ) → live_branches table a k (Some (length table)) ≡ 0
  live-not_made a k = count_none (counts_to a k (Some (length table))) table None (λ i within. not_made a k i)

module _ (table : Table) (h : IsTable table) (p : ℕ) (t : LiveThread) (l : Level) (is : thread_at table p ≡ Some t) (inner : innermost t ≡ Some l) where
  abbrev place : ℕ
  place = length t.frames - 1

  abbrev first : ℕ
  first = unwrap_or l.first (length table)

  -- the parent, with one more branch of its innermost frame
  abbrev forking : LiveThread
  forking = record t { frames = set t.frames place (one_more (length table) l) }

  abbrev link : Parent
  link = record { thread = p; frame = place; first = first }

  forked_is : forked table (Some p) ≡ set table p (Some forking)
  forked_is = rw (is, inner) refl

  parent_is : parent_of table (Some p) ≡ Some link
  parent_is = rw (is, inner) refl

  -- the branches that live count to the frame's first one, also where that is still to be made
  live-first : live_branches table p place (Some first) ≡ l.branches
  live-first = by_case l.first refl
    where
      by_case : (o : Option ℕ) → l.first ≡ o → live_branches table p place (Some (unwrap_or o (length table))) ≡ l.branches
      by_case None none = live-not_made table h p place ∙ sym (h.counted p place t l is inner ∙ ap (live_branches table p place) none ∙ live-none table p place)
      by_case (Some f) some = sym (h.counted p place t l is inner ∙ ap (live_branches table p place) some)

  first-lt : first < length table + 1
  first-lt = by_case l.first refl
    where
      by_case : (o : Option ℕ) → l.first ≡ o → unwrap_or o (length table) < length table + 1
      by_case None none = omega arith
      by_case (Some f) some = omega (arith, h.first_made p place t l f is inner some)

  same_live : (a k : ℕ) (f : Option ℕ) → live_branches (set table p (Some forking)) a k f ≡ live_branches table a k f
  same_live a k f = live-set table p t (Some forking) a k f is refl

  abbrev Who : ℕ → LiveThread → Type 0
  Who a v = ((a ≡ p) × (v ≡ forking)) ⊎ ((a ≢ p) × (thread_at table a ≡ Some v))

  who : (a : ℕ) (v : LiveThread) → thread_at (set table p (Some forking)) a ≡ Some v → Who a v
  who a v found = ⊎_elim
      (λ same. inl (same, same_Some v forking (sym found ∙ ap (thread_at (set table p (Some forking))) same ∙ at-set_same table p t (Some forking) is)))
      (λ differs. inr (differs, sym (at-set_other table p a (Some forking) differs) ∙ found)) (cases_eq a p)

  -- a frame of the parent is its innermost one, which has one more branch, or as it was
  abbrev Which : ℕ → Level → Type 0
  Which k m = ((k ≡ place) × (m ≡ one_more (length table) l)) ⊎ ((k ≢ place) × (slice_get t.frames k ≡ Some m))

  which : (k : ℕ) (m : Level) → slice_get forking.frames k ≡ Some m → Which k m
  which k m placed = ⊎_elim
      (λ same. inl (
        same,
        same_Some m (one_more (length table) l)
            (sym placed ∙ ap (slice_get forking.frames) same ∙ get-set_same t.frames place (one_more (length table) l) (slice_get_within t.frames place l inner)),
      ))
      (λ differs. inr (differs, sym (get-set_other t.frames place k (one_more (length table) l) differs) ∙ placed)) (cases_eq k place)

  module _ (frame : Frame) (args : List Value) (asker : Option Asker) where
    abbrev branch : LiveThread
    branch = new_thread frame args (Some link) asker

    -- the branch counts to that frame alone
    counts_here : counts_to p place (Some first) (Some branch) ≡ true
    counts_here = and_from ((p == p) && (place == place)) (first == first) (and_from (p == p) (place == place) (eq-eqb p p refl) (eq-eqb place place refl)) (eq-eqb first first refl)

    counts_nowhere : (a k : ℕ) (f : Option ℕ) → (p ≢ a) ⊎ (place ≢ k) → counts_to a k f (Some branch) ≡ false
    counts_nowhere a k f (inl differs) = and_left ((p == a) && (place == k)) (is_first f first) (and_left (p == a) (place == k) (ne_eqb p a differs))
    counts_nowhere a k f (inr differs) = and_left ((p == a) && (place == k)) (is_first f first) (and_right (p == a) (place == k) (ne_eqb place k differs))

    not_counted : (a k : ℕ) (m : Level) → m.branches ≡ live_branches table a k m.first → (p ≢ a) ⊎ (place ≢ k)
        → m.branches ≡ live_branches (set table p (Some forking)) a k m.first + cond (counts_to a k m.first (Some branch)) 1 0
    not_counted a k m counted elsewhere =
        omega (arith, counted, same_live a k m.first, ap {B = ℕ} (λ b. cond b 1 0) (counts_nowhere a k m.first elsewhere))

    counted_by : (a k : ℕ) (v : LiveThread) (m : Level) → Who a v → slice_get v.frames k ≡ Some m
        → m.branches ≡ live_branches (set table p (Some forking)) a k m.first + cond (counts_to a k m.first (Some branch)) 1 0
    counted_by a k v m (inr q) placed = not_counted a k m (h.counted a k v m q.1 placed) (inl (λ same. q.0 (sym same)))
    counted_by a k v m (inl q) placed = by_level (which k m (ap (λ x. slice_get x.frames k) (sym q.1) ∙ placed))
      where
        by_level : Which k m → m.branches ≡ live_branches (set table p (Some forking)) a k m.first + cond (counts_to a k m.first (Some branch)) 1 0
        by_level (inr r) = not_counted a k m (h.counted a k t m (ap (thread_at table) q.0 ∙ is) r.1) (inr (λ same. r.0 (sym same)))
        by_level (inl r) = rw (q.0, r.0, r.1)
            (omega (arith, live-first, same_live p place (Some first), ap {B = ℕ} (λ b. cond b 1 0) counts_here))

    first_by : (a k : ℕ) (v : LiveThread) (m : Level) (f : ℕ) → Who a v → slice_get v.frames k ≡ Some m → m.first ≡ Some f → f < length table + 1
    first_by a k v m f (inr q) placed some = omega (arith, h.first_made a k v m f q.1 placed some)
    first_by a k v m f (inl q) placed some = by_level (which k m (ap (λ x. slice_get x.frames k) (sym q.1) ∙ placed))
      where
        by_level : Which k m → f < length table + 1
        by_level (inr r) = omega (arith, h.first_made p k t m f is r.1 some)
        by_level (inl r) = omega (arith, first-lt, same_Some first f (ap (λ x. x.first) (sym r.1) ∙ some))

    branch_by : (a : ℕ) (v : LiveThread) (q : Parent) → Who a v → v.parent ≡ Some q → q.first < length table + 1
    branch_by a v q (inr w) linked = omega (arith, h.branch_made a v q w.1 linked)
    branch_by a v q (inl w) linked = omega (arith, h.branch_made p t q is (ap (λ x. x.parent) (sym w.1) ∙ linked))

    IsTable-branch : length table < MOST_THREADS → IsTable (set table p (Some forking) ++ Some branch ∷ [])
    IsTable-branch few =
        let same : length (set table p (Some forking)) ≡ length table = length-set table p (Some forking) in
        IsTable-push (set table p (Some forking)) branch (record {
          few = rw same few;
          counted = λ a k v m found placed. counted_by a k v m (who a v found) placed;
          first_made = λ a k v m f found placed some. rw same (first_by a k v m f (who a v found) placed some);
          branch_made = λ a v q found linked. rw same (branch_by a v q (who a v found) linked);
          own = λ q linked. rw same (subst (λ x. x.first < length table + 1) (same_Some link q linked) first-lt);
          no_branch = alone frame;
        })

    pub IsTable-spawned : length table < MOST_THREADS → IsTable (spawned table frame args (Some p) asker)
    IsTable-spawned few = rw (forked_is, parent_is) (IsTable-branch few)

-- ---- with a parent that has a frame, or with none

pub IsTable-made : (table : Table) → IsTable table → length table < MOST_THREADS → (frame : Frame) (args : List Value) (parent : Option ℕ) (asker : Option Asker)
    → ((p : ℕ) → parent ≡ Some p → IsSome (level_at table p)) → IsTable (spawned table frame args parent asker)
IsTable-made table h few frame args None asker has = IsTable-spawned_alone table frame args asker h few
IsTable-made table h few frame args (Some p) asker has = by_thread (thread_at table p) refl (has p refl)
  where
    by_level : (t : LiveThread) → thread_at table p ≡ Some t → (o : Option Level) → innermost t ≡ o → IsSome o → IsTable (spawned table frame args (Some p) asker)
    by_level t is None inner some = absurd (true≢false (sym some))
    by_level t is (Some l) inner some = IsTable-spawned table h p t l is inner frame args asker few

    by_thread : (o : Option LiveThread) → thread_at table p ≡ o → IsSome (option_and_then innermost o) → IsTable (spawned table frame args (Some p) asker)
    by_thread None gone some = absurd (true≢false (sym some))
    by_thread (Some t) is some = by_level t is (innermost t) refl some
