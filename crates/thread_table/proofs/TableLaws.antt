-- What keeps of every table, whatever thread is changed, made or ends.
use Rattle.std.proofs.Common.{◌≡◌, ◌≢◌, ◌⊎◌, ℕ, zero, suc, ◌+◌, ◌-◌, ◌<◌, ◌≤◌, ◌==◌, ◌&&◌, Result, Ok, Err, OnOk, OnErr, Bool, true, false, cond, List, [], ◌∷◌, ◌++◌, length, get_or, set, take, count_by, Option, Some, None, IsSome, IsSomeAnd, refl, sym, ◌∙◌, ap, subst, inl, inr, ⊎_elim, arith}
use Rattle.std.specs.List.{slice_get}
use Rattle.std.specs.Option.{option_map, option_map_or, option_and_then}
use Rattle.std.proofs.lemmas.Bool.{cases_eq, true≢false, and_right}
use Rattle.std.proofs.lemmas.List.{get_or-set_same, get_or-set_other, length-set, set-get_or}
use Rattle.std.proofs.lemmas.List.Sums.{count_by-le-length, sum_by-cons}
use Rattle.std.proofs.lemmas.Option.{none-some, same_Some, slice_get_within}
use Rattle.thread_table.specs.declared.frame.Frame.{Frame}
use Rattle.thread_table.specs.declared.frame.Level.{Level}
use Rattle.thread_table.specs.declared.frame.Parent.{Parent}
use Rattle.thread_table.specs.LiveThread.{LiveThread, level, without_last, innermost, in_innermost, awaits_call, inside_of, outside}
use Rattle.thread_table.specs.Numbers.{thread_at}
use Rattle.thread_table.specs.Table.{Table, IsTable, level_at, changed, is_branch_of, counts_to, live_branches}
use Rattle.thread_table.proofs.NumberLaws.{count-set, count-push, within_threads}

-- ---- places of a list

pub get-set_same : {A : Type 0} (xs : List A) (k : ℕ) (y : A) → k < length xs → slice_get (set xs k y) k ≡ Some y
get-set_same [] k y within = absurd (omega arith)
get-set_same (x ∷ xs) zero y within = refl
get-set_same (x ∷ xs) (suc k) y within = get-set_same xs k y (omega arith)

pub get-set_other : {A : Type 0} (xs : List A) (k j : ℕ) (y : A) → j ≢ k → slice_get (set xs k y) j ≡ slice_get xs j
get-set_other [] k j y differs = refl
get-set_other (x ∷ xs) zero zero y differs = absurd (differs refl)
get-set_other (x ∷ xs) zero (suc j) y differs = refl
get-set_other (x ∷ xs) (suc k) zero y differs = refl
get-set_other (x ∷ xs) (suc k) (suc j) y differs = get-set_other xs k j y (λ same. differs (ap suc same))

get-take : {A : Type 0} (n : ℕ) (xs : List A) (k : ℕ) (x : A) → slice_get (take n xs) k ≡ Some x → slice_get xs k ≡ Some x
get-take zero [] k x is = absurd (none-some x is)
get-take zero (y ∷ xs) k x is = absurd (none-some x is)
get-take (suc n) [] k x is = is
get-take (suc n) (y ∷ xs) zero x is = is
get-take (suc n) (y ∷ xs) (suc k) x is = get-take n xs k x is

get-push : {A : Type 0} (xs : List A) (y : A) (k : ℕ) (x : A) → slice_get (xs ++ y ∷ []) k ≡ Some x → (slice_get xs k ≡ Some x) ⊎ (x ≡ y)
get-push [] y zero x is = inr (sym (same_Some y x is))
get-push [] y (suc k) x is = absurd (none-some x is)
get-push (z ∷ xs) y zero x is = inl is
get-push (z ∷ xs) y (suc k) x is = get-push xs y k x is

-- ---- how many branches live

-- a frame that never had a branch has none
no_branch : (n k : ℕ) (o : Option LiveThread) → counts_to n k None o ≡ false
no_branch n k None = refl
no_branch n k (Some t) = by_parent t.parent
  where
    by_parent : (p : Option Parent) → is_branch_of n k None p ≡ false
    by_parent None = refl
    by_parent (Some p) = and_right ((p.thread == n) && (p.frame == k)) false refl

pub count_none : {A : Type 0} (p : A → Bool) (xs : List A) (d : A) → ((i : ℕ) → i < length xs → p (get_or xs i d) ≡ false) → count_by p xs ≡ 0
count_none p [] d h = refl
count_none p (x ∷ xs) d h =
    omega (arith, sum_by-cons (λ y. cond (p y) 1 0) x xs, ap {B = ℕ} (λ b. cond b 1 0) (h 0 (omega arith)), count_none p xs d (λ i within. h (suc i) (omega arith)))

pub live-none : (table : Table) (n k : ℕ) → live_branches table n k None ≡ 0
live-none table n k = count_none (counts_to n k None) table None (λ i within. no_branch n k (get_or table i None))

-- a thread that counts to no other frame than before leaves each frame's number as it was
pub live-set : (table : Table) (m : ℕ) (t : LiveThread) (y : Option LiveThread) (n k : ℕ) (f : Option ℕ) → thread_at table m ≡ Some t → counts_to n k f y ≡ counts_to n k f (Some t)
    → live_branches (set table m y) n k f ≡ live_branches table n k f
live-set table m t y n k f is same =
    omega (
      arith,
      count-set (counts_to n k f) table m y None (within_threads table m t is),
      ap {B = ℕ} (λ o. cond (counts_to n k f o) 1 0) is,
      ap {B = ℕ} (λ b. cond b 1 0) same,
    )

-- one that counted to the frame, and ends, leaves one fewer
pub live-ends : (table : Table) (m : ℕ) (t : LiveThread) (n k : ℕ) (f : Option ℕ) → thread_at table m ≡ Some t → counts_to n k f (Some t) ≡ true
    → live_branches (set table m None) n k f + 1 ≡ live_branches table n k f
live-ends table m t n k f is counts =
    omega (
      arith,
      count-set (counts_to n k f) table m None None (within_threads table m t is),
      ap {B = ℕ} (λ o. cond (counts_to n k f o) 1 0) is,
      ap {B = ℕ} (λ b. cond b 1 0) counts,
    )

pub live-push : (table : Table) (u : LiveThread) (n k : ℕ) (f : Option ℕ) → live_branches (table ++ Some u ∷ []) n k f ≡ live_branches table n k f + cond (counts_to n k f (Some u)) 1 0
live-push table u n k f = count-push (counts_to n k f) table (Some u)

pub live-le : (table : Table) (n k : ℕ) (f : Option ℕ) → live_branches table n k f ≤ length table
live-le table n k f = count_by-le-length (counts_to n k f) table

-- ---- one thread is another one now

pub at-set_same : (table : Table) (n : ℕ) (t : LiveThread) (y : Option LiveThread) → thread_at table n ≡ Some t → thread_at (set table n y) n ≡ y
at-set_same table n t y is = get_or-set_same table n y None (within_threads table n t is)

pub at-set_other : (table : Table) (n m : ℕ) (y : Option LiveThread) → m ≢ n → thread_at (set table n y) m ≡ thread_at table m
at-set_other table n m y differs = get_or-set_other table n m y None differs

-- each frame is one of those before with as many branches, or has none
abbrev pub Kept : List Level → List Level → Type 0
Kept old new = (k : ℕ) (m : Level) → slice_get new k ≡ Some m
    → ((l : Level) × (slice_get old k ≡ Some l) × (m.first ≡ l.first) × (m.branches ≡ l.branches)) ⊎ ((m.first ≡ None) × (m.branches ≡ 0))

module _ (table : Table) (h : IsTable table) (n : ℕ) (t new : LiveThread) (is : thread_at table n ≡ Some t) where
  abbrev Who : ℕ → LiveThread → Type 0
  Who a u = ((a ≡ n) × (u ≡ new)) ⊎ ((a ≢ n) × (thread_at table a ≡ Some u))

  who : (a : ℕ) (u : LiveThread) → thread_at (set table n (Some new)) a ≡ Some u → Who a u
  who a u found = ⊎_elim
      (λ same. inl (same, same_Some u new (sym found ∙ ap (thread_at (set table n (Some new))) same ∙ at-set_same table n t (Some new) is)))
      (λ differs. inr (differs, sym (at-set_other table n a (Some new) differs) ∙ found)) (cases_eq a n)

  module _ (parent : new.parent ≡ t.parent) (kept : Kept t.frames new.frames) where
    same_live : (a k : ℕ) (f : Option ℕ) → live_branches (set table n (Some new)) a k f ≡ live_branches table a k f
    same_live a k f = live-set table n t (Some new) a k f is (ap (is_branch_of a k f) parent)

    counted_by : (a k : ℕ) (u : LiveThread) (m : Level) → Who a u → slice_get u.frames k ≡ Some m → m.branches ≡ live_branches table a k m.first
    counted_by a k u m (inr q) placed = h.counted a k u m q.1 placed
    counted_by a k u m (inl q) placed = by_level (kept k m (ap (λ v. slice_get v.frames k) (sym q.1) ∙ placed))
      where
        by_level : ((l : Level) × (slice_get t.frames k ≡ Some l) × (m.first ≡ l.first) × (m.branches ≡ l.branches)) ⊎ ((m.first ≡ None) × (m.branches ≡ 0))
            → m.branches ≡ live_branches table a k m.first
        by_level (inl l) = l.3 ∙ h.counted n k t l.0 is l.1 ∙ ap (λ i. live_branches table i k l.0.first) (sym q.0) ∙ ap (live_branches table a k) (sym l.2)
        by_level (inr none) = none.1 ∙ sym (ap (live_branches table a k) none.0 ∙ live-none table a k)

    first_by : (a k : ℕ) (u : LiveThread) (m : Level) (f : ℕ) → Who a u → slice_get u.frames k ≡ Some m → m.first ≡ Some f → f < length table
    first_by a k u m f (inr q) placed first = h.first_made a k u m f q.1 placed first
    first_by a k u m f (inl q) placed first = by_level (kept k m (ap (λ v. slice_get v.frames k) (sym q.1) ∙ placed))
      where
        by_level : ((l : Level) × (slice_get t.frames k ≡ Some l) × (m.first ≡ l.first) × (m.branches ≡ l.branches)) ⊎ ((m.first ≡ None) × (m.branches ≡ 0)) → f < length table
        by_level (inl l) = h.first_made n k t l.0 f is l.1 (sym l.2 ∙ first)
        by_level (inr none) = absurd (none-some f (sym none.0 ∙ first))

    branch_by : (a : ℕ) (u : LiveThread) (p : Parent) → Who a u → u.parent ≡ Some p → p.first < length table
    branch_by a u p (inr q) linked = h.branch_made a u p q.1 linked
    branch_by a u p (inl q) linked = h.branch_made n t p is (sym (ap (λ v. v.parent) q.1 ∙ parent) ∙ linked)

    -- a thread that counts to the frame that it did, and whose frames have the branches that they had, or none, may take another's place
    pub IsTable-set : IsTable (set table n (Some new))
    IsTable-set =
        let same : length (set table n (Some new)) ≡ length table = length-set table n (Some new) in
        record {
          few = rw same h.few;
          counted = λ a k u m found placed. counted_by a k u m (who a u found) placed ∙ sym (same_live a k m.first);
          first_made = λ a k u m f found placed first. rw same (first_by a k u m f (who a u found) placed first);
          branch_made = λ a u p found linked. rw same (branch_by a u p (who a u found) linked);
        }

-- ---- what a thread does to its own frames

pub kept_same : (old new : List Level) → new ≡ old → Kept old new
kept_same old new same k m placed = inl (m, ap (λ ls. slice_get ls k) (sym same) ∙ placed, refl, refl)

kept_at : (old : List Level) (place : ℕ) (l new : Level) → slice_get old place ≡ Some l → new.first ≡ l.first → new.branches ≡ l.branches → Kept old (set old place new)
kept_at old place l new is first branches k m placed = ⊎_elim
    (λ (same : k ≡ place).
    let at_place : slice_get old k ≡ Some l = ap (slice_get old) same ∙ is in
    let found : new ≡ m = same_Some new m (sym (ap (slice_get (set old place new)) same ∙ get-set_same old place new (slice_get_within old place l is)) ∙ placed) in
    inl (l, at_place, ap (λ x. x.first) (sym found) ∙ first, ap (λ x. x.branches) (sym found) ∙ branches))
    (λ (differs : k ≢ place). inl (m, sym (get-set_other old place k new differs) ∙ placed, refl, refl)) (cases_eq k place)

-- a change of the innermost frame that leaves its branches
pub kept_innermost : (f : Level → Level) (t : LiveThread) → ((l : Level) → (f l).first ≡ l.first) → ((l : Level) → (f l).branches ≡ l.branches) → Kept t.frames (in_innermost f t).frames
kept_innermost f t first branches = by_case (innermost t) refl
  where
    by_case : (o : Option Level) → innermost t ≡ o → Kept t.frames (option_map_or (λ l. record t { frames = set t.frames (length t.frames - 1) (f l) }) o t).frames
    by_case None is = kept_same t.frames t.frames refl
    by_case (Some l) is = kept_at t.frames (length t.frames - 1) l (f l) is (first l) (branches l)

pub kept_inside : (frame : Frame) (t : LiveThread) → Kept t.frames (inside_of frame t).frames
kept_inside frame t = by_case (awaits_call t.frames)
  where
    pushed : (ls : List Level) → ((k : ℕ) (m : Level) → slice_get ls k ≡ Some m → slice_get t.frames k ≡ Some m) → Kept t.frames (ls ++ level frame ∷ [])
    pushed ls before k m placed = ⊎_elim (λ (is : slice_get ls k ≡ Some m). inl (m, before k m is, refl, refl))
        (λ (is : m ≡ level frame). inr (ap (λ x. x.first) is, ap (λ x. x.branches) is)) (get-push ls (level frame) k m placed)

    by_case : (b : Bool) → Kept t.frames (cond b [] t.frames ++ level frame ∷ [])
    by_case true = pushed [] (λ k m is. absurd (none-some m is))
    by_case false = pushed t.frames (λ k m is. is)

pub kept_outside : (t : LiveThread) → Kept t.frames (outside t).frames
kept_outside t = by_case (t.inside == 0)
  where
    by_case : (b : Bool) → Kept t.frames (cond {A = LiveThread} b t (record t { frames = without_last t.frames; inside = t.inside - 1 })).frames
    by_case true = kept_same t.frames t.frames refl
    by_case false = λ k m placed. inl (m, get-take (length t.frames - 1) t.frames k m placed, refl, refl)

-- what holds of both outcomes holds
pub either : {A E R P Q : Type 0} (r : Result A E) → OnOk r P → OnErr r Q → (P → R) → (Q → R) → R
either (Ok x) ok err p q = p ok
either (Err e) ok err p q = q err

pub parent_innermost : (f : Level → Level) (t : LiveThread) → (in_innermost f t).parent ≡ t.parent
parent_innermost f t = by_case (innermost t)
  where
    by_case : (o : Option Level) → (option_map_or (λ l. record t { frames = set t.frames (length t.frames - 1) (f l) }) o t).parent ≡ t.parent
    by_case None = refl
    by_case (Some l) = refl

pub parent_outside : (t : LiveThread) → (outside t).parent ≡ t.parent
parent_outside t = by_case (t.inside == 0)
  where
    by_case : (b : Bool) → (cond {A = LiveThread} b t (record t { frames = without_last t.frames; inside = t.inside - 1 })).parent ≡ t.parent
    by_case true = refl
    by_case false = refl

-- a change of a thread that leaves what it counts to and its branches, also where there is no such thread
pub IsTable-changed : (table : Table) → IsTable table → (n : ℕ) (f : LiveThread → LiveThread) → ((t : LiveThread) → (f t).parent ≡ t.parent)
    → ((t : LiveThread) → Kept t.frames (f t).frames) → IsTable (changed table n f)
IsTable-changed table h n f parent kept = by_thread (thread_at table n) refl
  where
    by_thread : (o : Option LiveThread) → thread_at table n ≡ o → IsTable (set table n (option_map f o))
    by_thread None gone = subst IsTable (sym (ap (set table n) (sym gone) ∙ set-get_or table n None)) h
    by_thread (Some t) is = IsTable-set table h n t (f t) is (parent t) (kept t)

-- a frame has room for one more branch
pub room_for_branch : (table : Table) → IsTable table → (p : ℕ) → IsSome (level_at table p) → IsSomeAnd (level_at table p) (λ l. l.branches < 4294967295)
room_for_branch table h p has = by_thread (thread_at table p) refl has
  where
    by_level : (t : LiveThread) → thread_at table p ≡ Some t → (o : Option Level) → innermost t ≡ o → IsSome o → IsSomeAnd o (λ l. l.branches < 4294967295)
    by_level t is None inner some = absurd (true≢false (sym some))
    by_level t is (Some l) inner some =
        omega (arith, h.counted p (length t.frames - 1) t l is inner, live-le table p (length t.frames - 1) l.first, h.few)

    by_thread : (o : Option LiveThread) → thread_at table p ≡ o → IsSome (option_and_then innermost o) → IsSomeAnd (option_and_then innermost o) (λ l. l.branches < 4294967295)
    by_thread None gone some = absurd (true≢false (sym some))
    by_thread (Some t) is some = by_level t is (innermost t) refl some
