-- Who waits for branches waits for one that lives: no move leaves it otherwise.
use Rattle.law_processors.specs.Alone.{OwnStep}
use Rattle.std.proofs.Common.{◌≡◌, ◌⊎◌, inl, inr, ⊎_elim, ℕ, zero, suc, ◌<◌, List, [], ◌∷◌, ◌++◌, length, map, Bool, true, false, ◌||◌, Option, Some, None, refl, sym, ap, ◌∙◌, subst, arith}
use Rattle.std.specs.Option.{option_and_then}
use Rattle.std.specs.Prelude.{slice_get, if◌then◌else◌, nat_eq}
use Rattle.std.proofs.lemmas.Option.{none-some, same_Some}
use Rattle.std.proofs.lemmas.Bool.{false≢true}
use Rattle.std.proofs.lemmas.Bool.Decides.{nat_tests}
use Rattle.global_ptr.specs.declared.ends.FaultKind.TheVariants.{NullPointer}
use Rattle.cc_ops.specs.Values.{Value, Void, Int, Null, Ptr}
use Rattle.cc_ops.specs.Machine.{Address, Values}
use Rattle.cc_ops.specs.declared.number.ThreadNo.{ThreadNo}
use Rattle.cc_ops.specs.Shelves.{changed}
use Rattle.cc_core.specs.Core.{Shapes}
use Rattle.cc_core.specs.Asks.{Ask, Answer, Reads, Enters, Leaves}
use Rattle.cc_core.specs.Asks as asks
use Rattle.cc_core.specs.Numbers.{Post, Get, Put, Call, Cast, Make}
use Rattle.cc_core.specs.Needs.{Verdict, Go, Hold, Bad}
use Rattle.cc_core.specs.Effects.{is_call}
use Rattle.cc_code.specs.Code.{Code, Thread, Then, Move, Silent, Does, Ends, Stuck, move}
use Rattle.numbered_runs.specs.Posts.{posted}
use Rattle.numbered_runs.proofs.Lists.{get_changed, get_unchanged, length_changed}
use Rattle.law_mesh.specs.Local.{write_on, place_after, new_here}
use Rattle.law_mesh.specs.Moves.{new_fiber, with_value}
use Rattle.law_processors.specs.Living.{is_live, one_lives, joins_of}
use Rattle.law_mesh.specs.Spots.{Fiber, Spot, verdict, spot_of, answered}
use Rattle.law_mesh.specs.Queues.{Message, Asks, Answers, holds, holds_none, taken_values}
use Rattle.law_processors.specs.Processors.{Own, Stage, Goes, Joins, Asking, Has, Entry, Lives, Ended, Locked, Processor}
use Rattle.law_processors.specs.Alone.{Did, Went, Failed, be_ready, put_entry, put_hand, put_shelf, send, wake_at, wake_written, make_thread, make_threads, alone_at, seen_entry, seen, goes_into, is_taken, take_lock, hand_on, leave_lock, leave_object, leave_innermost, after_leaving, wait_for_lock, enters_later, joins_later, waits, rejoins, rejoined, tell, ended, here, effect_here, on_here, stepped_here, may_step, decided, asks_itself, asks_null, asks_here, asks_by, moves_by, entry_moves, hand_moves, moved, answer, park_get, served_so, serves, nobody, ask_of, told, taken_by, serves_inbox}
use Rattle.law_processors.specs.Orderly.{BranchesWait}
use Rattle.law_mesh.proofs.Queues.{same_number, number_itself}

-- ---- who lives

abbrev pub live_at : List Entry → ℕ → Bool
live_at es i = is_live (slice_get (map seen_entry es) i)

-- the live ones live on
abbrev pub LivesOn : List Entry → List Entry → Type 0
LivesOn es es' = (i : ℕ) → live_at es i ≡ true → live_at es' i ≡ true

live_alone : (q : ℕ) (xs ys : List Spot) → ((i : ℕ) → is_live (slice_get xs i) ≡ true → is_live (slice_get ys i) ≡ true) → (i j : ℕ)
    → is_live (option_and_then (λ (zs : List Spot). slice_get zs j) (slice_get (alone_at q [] xs) i)) ≡ true
    → is_live (option_and_then (λ (zs : List Spot). slice_get zs j) (slice_get (alone_at q [] ys) i)) ≡ true
live_alone zero xs ys h zero j e = h j e
live_alone zero xs ys h (suc i) j e = e
live_alone (suc q) xs ys h zero j e = e
live_alone (suc q) xs ys h (suc i) j e = live_alone q xs ys h i j e

kid_on_lives : (q : ℕ) (xs ys : List Spot) → ((i : ℕ) → is_live (slice_get xs i) ≡ true → is_live (slice_get ys i) ≡ true) → (kids : List (Option ThreadNo)) (k : ℕ)
    → is_live (option_and_then (spot_of (alone_at q [] xs)) (slice_get kids k)) ≡ true → is_live (option_and_then (spot_of (alone_at q [] ys)) (slice_get kids k)) ≡ true
kid_on_lives q xs ys h [] k e = e
kid_on_lives q xs ys h (None ∷ kids) zero e = e
kid_on_lives q xs ys h (Some t ∷ kids) zero e = live_alone q xs ys h t.processor t.thread e
kid_on_lives q xs ys h (kid ∷ kids) (suc k) e = kid_on_lives q xs ys h kids k e

or_case : (a b : Bool) → a || b ≡ true → (a ≡ true) ⊎ (b ≡ true)
or_case true b e = inl refl
or_case false b e = inr e

or_left : (a b : Bool) → a ≡ true → a || b ≡ true
or_left a b e = ap (λ z. z || b) e

or_right : (a b : Bool) → b ≡ true → a || b ≡ true
or_right true b e = refl
or_right false b e = e

pub one_lives_on : (q : ℕ) (es es' : List Entry) → LivesOn es es' → (kids : List (Option ThreadNo)) (ks : List ℕ) → one_lives (alone_at q [] (map seen_entry es)) kids ks ≡ true
    → one_lives (alone_at q [] (map seen_entry es')) kids ks ≡ true
one_lives_on q es es' h kids [] e = e
one_lives_on q es es' h kids (k ∷ ks) e = ⊎_elim
    (λ (g : is_live (option_and_then (spot_of (alone_at q [] (map seen_entry es))) (slice_get kids k)) ≡ true).
    or_left _ (one_lives (alone_at q [] (map seen_entry es')) kids ks) (kid_on_lives q (map seen_entry es) (map seen_entry es') h kids k g))
    (λ (g : one_lives (alone_at q [] (map seen_entry es)) kids ks ≡ true). or_right _ _ (one_lives_on q es es' h kids ks g))
    (or_case (is_live (option_and_then (spot_of (alone_at q [] (map seen_entry es))) (slice_get kids k))) (one_lives (alone_at q [] (map seen_entry es)) kids ks) e)

-- ---- what is kept

-- who waits so waited so
abbrev pub JoinsFrom : List Entry → List Entry → Type 0
JoinsFrom es es' = (i : ℕ) (f : Fiber) (c : Option ThreadNo) → slice_get es' i ≡ Some (Lives f Joins c) → slice_get es i ≡ Some (Lives f Joins c)

pub record KeepsBranches (es es' : List Entry) : Type 0 where
  pub lives : LivesOn es es'
  pub joins : JoinsFrom es es'

pub branches_kept : (code : Code) (q : ℕ) (p p' : Processor) → KeepsBranches p.table p'.table → BranchesWait code q p → BranchesWait code q p'
branches_kept code q p p' k h i f c e = one_lives_on q p.table p'.table k.lives f.kids (joins_of (move code f.thread)) (h i f c (k.joins i f c e))

same : (es : List Entry) → KeepsBranches es es
same es = record { lives = λ i e. e; joins = λ i f c e. e }

alike : (es es' : List Entry) → es' ≡ es → KeepsBranches es es'
alike es es' e = subst (KeepsBranches es) (sym e) (same es)

then_kept : (a b c : List Entry) → KeepsBranches a b → KeepsBranches b c → KeepsBranches a c
then_kept a b c k l = record { lives = λ i e. l.lives i (k.lives i e); joins = λ i f d e. k.joins i f d (l.joins i f d e) }

abbrev pub NotJoins : Stage → Type 0
NotJoins Joins = ⊥
NotJoins s = Unit {0}

not_joins : (s : Stage) → NotJoins s → s ≡ Joins → ⊥
not_joins s n e = subst NotJoins e n

put_lives : (es : List Entry) (n : ℕ) (f : Fiber) (s : Stage) (c : Option ThreadNo) → LivesOn es (changed es n (λ o. Lives f s c))
put_lives [] n f s c i e = e
put_lives (x ∷ es) zero f s c zero e = refl
put_lives (x ∷ es) zero f s c (suc i) e = e
put_lives (x ∷ es) (suc n) f s c zero e = e
put_lives (x ∷ es) (suc n) f s c (suc i) e = put_lives es n f s c i e

put_joins : (es : List Entry) (n : ℕ) (f : Fiber) (s : Stage) (c : Option ThreadNo) → NotJoins s → JoinsFrom es (changed es n (λ o. Lives f s c))
put_joins [] n f s c free i g d e = e
put_joins (x ∷ es) zero f s c free zero g d e =
    let a : Lives f s c ≡ Lives g Joins d = same_Some (Lives f s c) (Lives g Joins d) e in
    let b : s ≡ Joins = cc in
    absurd (not_joins s free b)
put_joins (x ∷ es) zero f s c free (suc i) g d e = e
put_joins (x ∷ es) (suc n) f s c free zero g d e = e
put_joins (x ∷ es) (suc n) f s c free (suc i) g d e = put_joins es n f s c free i g d e

put_kept : (es : List Entry) (n : ℕ) (f : Fiber) (s : Stage) (c : Option ThreadNo) → NotJoins s → KeepsBranches es (changed es n (λ o. Lives f s c))
put_kept es n f s c free = record { lives = put_lives es n f s c; joins = put_joins es n f s c free }

push_lives : (es : List Entry) (x : Entry) → LivesOn es (es ++ x ∷ [])
push_lives [] x i e = absurd (false≢true e)
push_lives (y ∷ es) x zero e = e
push_lives (y ∷ es) x (suc i) e = push_lives es x i e

push_joins : (es : List Entry) (f : Fiber) (c : Option ThreadNo) → JoinsFrom es (es ++ Lives f Goes c ∷ [])
push_joins [] f c zero g d e = let a : Lives f Goes c ≡ Lives g Joins d = same_Some (Lives f Goes c) (Lives g Joins d) e in let b : Goes ≡ Joins = cc in absurd (cc)
push_joins [] f c (suc i) g d e = absurd (none-some (Lives g Joins d) e)
push_joins (y ∷ es) f c zero g d e = e
push_joins (y ∷ es) f c (suc i) g d e = push_joins es f c i g d e

push_kept : (es : List Entry) (f : Fiber) (c : Option ThreadNo) → KeepsBranches es (es ++ Lives f Goes c ∷ [])
push_kept es f c = record { lives = push_lives es (Lives f Goes c); joins = push_joins es f c }

made_kept : (cs : List (Thread Address)) (p : Processor) → KeepsBranches p.table (make_threads cs p).table
made_kept [] p = same p.table
made_kept (c ∷ cs) p = then_kept p.table (make_thread c None p).table (make_threads (c ∷ cs) p).table (push_kept p.table (new_fiber c) None) (made_kept cs (make_thread c None p))

-- ---- what leaves the table as it is

wake_table : (a : Value Address) (p : Processor) → (wake_at a p).table ≡ p.table
wake_table Void p = refl
wake_table (Int n) p = refl
wake_table Null p = refl
wake_table (Ptr b x) p = refl

woken_table : (ws : List (Value Address × Value Address)) (p : Processor) → (wake_written ws p).table ≡ p.table
woken_table [] p = refl
woken_table (w ∷ ws) p = woken_table ws (wake_at w.0 p) ∙ wake_table w.0 p

taken_table : (n : ℕ) (o : Option Address) (p : Processor) → (take_lock n o p).table ≡ p.table
taken_table n None p = refl
taken_table n (Some b) p = refl

handed_table : (o : ℕ) (ws : List ℕ) (p : Processor) → (hand_on o ws p).table ≡ p.table
handed_table o [] p = refl
handed_table o (i ∷ is) p = refl

lock_table : (o : ℕ) (l : Option Locked) (p : Processor) → (leave_lock o l p).table ≡ p.table
lock_table o None p = refl
lock_table o (Some l) p = handed_table o l.waiters p

object_table : (b : Bool) (v : Value Address) (p : Processor) → (leave_object b v p).table ≡ p.table
object_table false v p = refl
object_table true Void p = refl
object_table true (Int n) p = refl
object_table true Null p = refl
object_table true (Ptr b x) p = lock_table b.object (p.locks b.object) p

innermost_table : (h : Shapes) (es : List (ℕ × Value Address)) (p : Processor) → (leave_innermost h es p).table ≡ p.table
innermost_table h [] p = refl
innermost_table h (e ∷ es) p = object_table (holds h e.0 e.1) e.1 p

left_table : (h : Shapes) (f : Fiber) (ask : Ask Address) (p : Processor) → (after_leaving h f ask p).table ≡ p.table
left_table h f Leaves p = innermost_table h f.inside p
left_table h f ask p = refl

lock_wait_table : (n o : ℕ) (l : Option Locked) (p : Processor) → (wait_for_lock n o l p).table ≡ p.table
lock_wait_table n o None p = refl
lock_wait_table n o (Some l) p = refl

later_table : (n : ℕ) (o : Option Address) (p : Processor) → (enters_later n o p).table ≡ p.table
later_table n None p = refl
later_table n (Some b) p = lock_wait_table n b.object (p.locks b.object) p

tell_table : (q n : ℕ) (c : Option ThreadNo) (v : Value Address) (p : Processor) → (tell q n c v p).table ≡ p.table
tell_table q n None v p = refl
tell_table q n (Some t) v p = refl

-- ---- the end of a thread

-- those of the first k threads that wait, wait rightly
abbrev pub WaitBelow : Code → (q k : ℕ) → Processor → Type 0
WaitBelow code q k p = (i : ℕ) → i < k → (f : Fiber) (c : Option ThreadNo) → slice_get p.table i ≡ Some (Lives f Joins c)
    → one_lives (alone_at q [] (map seen_entry p.table)) f.kids (joins_of (move code f.thread)) ≡ true

-- the same live; and entry k is as it was, or goes on
pub record Rejoins (code : Code) (q k : ℕ) (p p' : Processor) : Type 0 where
  pub lives : LivesOn p.table p'.table
  pub joins : JoinsFrom p.table p'.table
  pub now : (f : Fiber) (c : Option ThreadNo) → slice_get p'.table k ≡ Some (Lives f Joins c) → one_lives (alone_at q [] (map seen_entry p'.table)) f.kids (joins_of (move code f.thread)) ≡ true

pub rejoins_so : (code : Code) (q k : ℕ) (o : Option Entry) (p : Processor) → slice_get p.table k ≡ o → Rejoins code q k p (rejoins code q k o p)
rejoins_so code q k None p e = record { lives = λ i d. d; joins = λ i f c d. d; now = λ f c d. absurd (none-some (Lives f Joins c) (sym e ∙ d)) }
rejoins_so code q k (Some (Ended v)) p e =
    record { lives = λ i d. d; joins = λ i f c d. d; now = λ f c d. (let x : Ended v ≡ Lives f Joins c = same_Some (Ended v) (Lives f Joins c) (sym e ∙ d) in absurd (cc)) }
rejoins_so code q k (Some (Lives g Goes b)) p e =
    record { lives = λ i d. d; joins = λ i f c d. d; now = λ f c d. (let x : Lives g Goes b ≡ Lives f Joins c = same_Some (Lives g Goes b) (Lives f Joins c) (sym e ∙ d) in let y : Goes ≡ Joins = cc in absurd (cc)) }
rejoins_so code q k (Some (Lives g Asking b)) p e =
    record { lives = λ i d. d; joins = λ i f c d. d; now = λ f c d. (let x : Lives g Asking b ≡ Lives f Joins c = same_Some (Lives g Asking b) (Lives f Joins c) (sym e ∙ d) in let y : Asking ≡ Joins = cc in absurd (cc)) }
rejoins_so code q k (Some (Lives g (Has v) b)) p e =
    record { lives = λ i d. d; joins = λ i f c d. d; now = λ f c d. (let x : Lives g (Has v) b ≡ Lives f Joins c = same_Some (Lives g (Has v) b) (Lives f Joins c) (sym e ∙ d) in let y : Has v ≡ Joins = cc in absurd (cc)) }
rejoins_so code q k (Some (Lives g Joins b)) p e = by (one_lives (alone_at q [] (map seen_entry p.table)) g.kids (joins_of (move code g.thread))) refl
  where
    by : (z : Bool) → one_lives (alone_at q [] (map seen_entry p.table)) g.kids (joins_of (move code g.thread)) ≡ z
        → Rejoins code q k p (if z then p else be_ready (Own k) (put_entry k (Lives g Goes b) p))
    by true h = record {
      lives = λ i d. d;
      joins = λ i f c d. d;
      now = λ f c d. (let x : Lives g Joins b ≡ Lives f Joins c = same_Some (Lives g Joins b) (Lives f Joins c) (sym e ∙ d) in
          let y : g ≡ f = cc in subst (λ (w : Fiber). one_lives (alone_at q [] (map seen_entry p.table)) w.kids (joins_of (move code w.thread)) ≡ true) y h);
    }
    by false h = record {
      lives = put_lives p.table k g Goes b;
      joins = put_joins p.table k g Goes b tt;
      now = λ f c d. (let x : Lives g Goes b ≡ Lives f Joins c = same_Some (Lives g Goes b) (Lives f Joins c) (sym (get_changed p.table k (λ o. Lives g Goes b) (Lives g Joins b) e) ∙ d) in
          let y : Goes ≡ Joins = cc in absurd (cc));
    }

below_or : (i k : ℕ) → i < suc k → (i < k) ⊎ (i ≡ k)
below_or i k h = by (nat_eq i k) refl
  where
    by : (b : Bool) → nat_eq i k ≡ b → (i < k) ⊎ (i ≡ k)
    by true e = inr (same_number i k e)
    by false e = inl (grind (arith, nat_tests, h, e))

rejoined_wait : (code : Code) (q k : ℕ) (p : Processor) → WaitBelow code q k (rejoined code q k p)
rejoined_wait code q zero p i lt f c e = absurd (omega (arith, lt))
rejoined_wait code q (suc k) p i lt f c e = by (below_or i k lt) (rejoined_wait code q k p)
  where
    r : Rejoins code q k (rejoined code q k p) (rejoined code q (suc k) p)
    r = rejoins_so code q k (slice_get (rejoined code q k p).table k) (rejoined code q k p) refl

    by : (i < k) ⊎ (i ≡ k) → WaitBelow code q k (rejoined code q k p)
        → one_lives (alone_at q [] (map seen_entry (rejoined code q (suc k) p).table)) f.kids (joins_of (move code f.thread)) ≡ true
    by (inl less) before =
        one_lives_on q (rejoined code q k p).table (rejoined code q (suc k) p).table r.lives f.kids (joins_of (move code f.thread)) (before i less f c (r.joins i f c e))
    by (inr same_k) before = r.now f c (ap (slice_get (rejoined code q (suc k) p).table) (sym same_k) ∙ e)

rejoins_length : (code : Code) (q k : ℕ) (o : Option Entry) (p : Processor) → length (rejoins code q k o p).table ≡ length p.table
rejoins_length code q k None p = refl
rejoins_length code q k (Some (Ended v)) p = refl
rejoins_length code q k (Some (Lives g Goes b)) p = refl
rejoins_length code q k (Some (Lives g Asking b)) p = refl
rejoins_length code q k (Some (Lives g (Has v) b)) p = refl
rejoins_length code q k (Some (Lives g Joins b)) p = by (one_lives (alone_at q [] (map seen_entry p.table)) g.kids (joins_of (move code g.thread)))
  where
    by : (z : Bool) → length (if z then p else be_ready (Own k) (put_entry k (Lives g Goes b) p)).table ≡ length p.table
    by true = refl
    by false = length_changed p.table k (λ o. Lives g Goes b)

rejoined_length : (code : Code) (q k : ℕ) (p : Processor) → length (rejoined code q k p).table ≡ length p.table
rejoined_length code q zero p = refl
rejoined_length code q (suc k) p = rejoins_length code q k (slice_get (rejoined code q k p).table k) (rejoined code q k p) ∙ rejoined_length code q k p

in_range : {X : Type 0} (xs : List X) (i : ℕ) (x : X) → slice_get xs i ≡ Some x → i < length xs
in_range [] i x e = absurd (none-some x e)
in_range (y ∷ xs) zero x e = omega arith
in_range (y ∷ xs) (suc i) x e = let h = in_range xs i x e in omega (arith, h)

ended_wait : (code : Code) (q n : ℕ) (c : Option ThreadNo) (v : Value Address) (p : Processor) → BranchesWait code q (ended code q n c v p)
ended_wait code q n c v p i f d e =
    let r0 : Processor = tell q n c v (put_hand None (put_entry n (Ended v) p)) in
    let len : length (rejoined code q (length p.table) r0).table ≡ length p.table =
    rejoined_length code q (length p.table) r0 ∙ (ap (λ (es : List Entry). length es) (tell_table q n c v (put_hand None (put_entry n (Ended v) p))) ∙ length_changed p.table n (λ o. Ended v)) in
    let lt = in_range (rejoined code q (length p.table) r0).table i (Lives f Joins d) e in
    rejoined_wait code q (length p.table) r0 i (subst (λ z. i < z) len lt) f d e

-- ---- the thread in the hand

abbrev pub BranchesAfter : Code → ℕ → Did Processor → Type 0
BranchesAfter code q (Went step prints p') = BranchesWait code q p'
BranchesAfter code q (Failed kind t) = Unit {0}

joins_wait : (code : Code) (q n : ℕ) (f : Fiber) (caller : Option ThreadNo) (line : ℕ) (made : List ℕ) (k : Answer Address → Then Address) (p : Processor)
    → move code f.thread ≡ Does line (asks.Joins made) k → BranchesWait code q p → BranchesWait code q (joins_later q n f caller made p)
joins_wait code q n f caller line made k p asks h = by (one_lives (alone_at q [] (map seen_entry p.table)) f.kids made) refl
  where
    by : (b : Bool) → one_lives (alone_at q [] (map seen_entry p.table)) f.kids made ≡ b → BranchesWait code q (if b then put_hand None (put_entry n (Lives f Joins caller) p) else p)
    by false e i g c d = h i g c d
    by true e i g c d = here (nat_eq i n) refl
      where
        on : (w : Fiber) → one_lives (alone_at q [] (map seen_entry p.table)) w.kids (joins_of (move code w.thread)) ≡ true
            → one_lives (alone_at q [] (map seen_entry (changed p.table n (λ o. Lives f Joins caller)))) w.kids (joins_of (move code w.thread)) ≡ true
        on w z = one_lives_on q p.table (changed p.table n (λ o. Lives f Joins caller)) (put_lives p.table n f Joins caller) w.kids (joins_of (move code w.thread)) z

        mine : (es : List Entry) (j : ℕ) → slice_get (changed es j (λ o. Lives f Joins caller)) j ≡ Some (Lives g Joins c) → f ≡ g
        mine [] j z = absurd (none-some (Lives g Joins c) z)
        mine (x ∷ es) zero z = let y : Lives f Joins caller ≡ Lives g Joins c = same_Some (Lives f Joins caller) (Lives g Joins c) z in cc
        mine (x ∷ es) (suc j) z = mine es j z

        here : (z : Bool) → nat_eq i n ≡ z
            → one_lives (alone_at q [] (map seen_entry (changed p.table n (λ o. Lives f Joins caller)))) g.kids (joins_of (move code g.thread)) ≡ true
        here true z =
            let same_f : f ≡ g = mine p.table n (ap (slice_get (changed p.table n (λ o. Lives f Joins caller))) (sym (same_number i n z)) ∙ d) in
            subst (λ (w : Fiber). one_lives (alone_at q [] (map seen_entry (changed p.table n (λ o. Lives f Joins caller)))) w.kids (joins_of (move code w.thread)) ≡ true) same_f
            (on f (ap (λ mv. one_lives (alone_at q [] (map seen_entry p.table)) f.kids (joins_of mv)) asks ∙ e))
        here false z = on g (h i g c (sym (get_unchanged p.table n (λ o. Lives f Joins caller) i (λ w. absurd (false≢true (sym z ∙ subst (λ j. nat_eq i j ≡ true) w (number_itself i))))) ∙ d))

module _ (code : Code) (q n : ℕ) (f : Fiber) (caller : Option ThreadNo) (p : Processor) (h : BranchesWait code q p) where
  kept_so : (p' : Processor) → KeepsBranches p.table p'.table → BranchesWait code q p'
  kept_so p' k = branches_kept code q p p' k h

  waits_wait : (line : ℕ) (ask : Ask Address) (k : Answer Address → Then Address) → move code f.thread ≡ Does line ask k → BranchesWait code q (waits code q n f caller ask p)
  waits_wait line (Reads remote (Ptr b x)) k e = h
  waits_wait line (Reads remote Void) k e = h
  waits_wait line (Reads remote (Int z)) k e = h
  waits_wait line (Reads remote Null) k e = h
  waits_wait line (asks.Joins made) k e = joins_wait code q n f caller line made k p e h
  waits_wait line ask k e = kept_so (enters_later n (goes_into code.shapes ask) p) (alike p.table _ (later_table n (goes_into code.shapes ask) p))

  module _ (line : ℕ) (ask : Ask Address) (k : Answer Address → Then Address) (asks_so : move code f.thread ≡ Does line ask k) where
    stepped_wait : (found : Values) → BranchesWait code q (stepped_here code q n f caller ask k p found)
    stepped_wait found =
        let e = effect_here code q n f caller ask k p found in
        let s = (place_after code q n (here code q n f caller ask k p) f ask k found e).shelf in
        let new = new_here code q n (here code q n f caller ask k p) f ask k found e in
        let p2 = make_threads new (put_shelf s p) in
        let g = on_here code q n f caller ask k p found in
        let p3 = put_entry n (Lives g Goes caller) p2 in
        let p4 = wake_written e.writes p3 in
        let p5 = take_lock n (goes_into code.shapes ask) p4 in
        kept_so (stepped_here code q n f caller ask k p found)
        (then_kept p.table p2.table (stepped_here code q n f caller ask k p found).table (made_kept new (put_shelf s p))
        (then_kept p2.table p3.table (stepped_here code q n f caller ask k p found).table (put_kept p2.table n g Goes caller tt)
        (alike p3.table _ (left_table code.shapes f ask p5 ∙ (taken_table n (goes_into code.shapes ask) p4 ∙ woken_table e.writes p3)))))

    decided_wait : (v : Verdict Address) → BranchesAfter code q (decided code q n f caller ask k p v)
    decided_wait (Go found) = by (may_step code q n f caller ask k p found)
      where
        by : (b : Bool) → BranchesAfter code q (if b then Went (Some (OwnStep (record { processor = q; thread = n }))) (effect_here code q n f caller ask k p found).prints (stepped_here code q n f caller ask k p found) else Went None [] p)
        by true = stepped_wait found
        by false = h
    decided_wait Hold = waits_wait line ask k asks_so
    decided_wait (Bad kind) = tt

    asks_wait : (o : Option Post) → BranchesAfter code q (asks_by code q n f caller ask k p o)
    asks_wait None = by (asks_null ask) (asks_here q f ask)
      where
        itself : (b : Bool) → BranchesAfter code q (if b then Went None [] (enters_later n (goes_into code.shapes ask) p) else decided code q n f caller ask k p (verdict (seen code q p) q f ask))
        itself true = kept_so (enters_later n (goes_into code.shapes ask) p) (alike p.table _ (later_table n (goes_into code.shapes ask) p))
        itself false = decided_wait (verdict (seen code q p) q f ask)

        by : (b c : Bool) → BranchesAfter code q (if b then Failed NullPointer (record { processor = q; thread = n }) else (if c then asks_itself code q n f caller ask k p else Went None [] p))
        by true c = tt
        by false true = itself (is_taken p n (goes_into code.shapes ask))
        by false false = h
    asks_wait (Some post) = by (holds_none code.shapes f.inside)
      where
        by : (b : Bool) → BranchesAfter code q (if b then Went None [] (send (Asks (record { processor = q; thread = n }) post) (put_hand None (put_entry n (Lives f Asking caller) p))) else Went None [] p)
        by true = kept_so (send (Asks (record { processor = q; thread = n }) post) (put_hand None (put_entry n (Lives f Asking caller) p))) (put_kept p.table n f Asking caller tt)
        by false = h

  moves_wait : (mv : Move Address) → move code f.thread ≡ mv → BranchesAfter code q (moves_by code q n f caller mv p)
  moves_wait (Silent c) e =
      kept_so (put_entry n (Lives (record { thread = c; kids = f.kids; inside = f.inside }) Goes caller) p) (put_kept p.table n (record { thread = c; kids = f.kids; inside = f.inside }) Goes caller tt)
  moves_wait (Does line ask k) e = asks_wait line ask k e (posted ask)
  moves_wait (Ends v) e = ended_wait code q n caller v p
  moves_wait Stuck e = h

entry_wait : (code : Code) (q n : ℕ) (o : Option Entry) (p : Processor) → BranchesWait code q p → BranchesAfter code q (entry_moves code q n o p)
entry_wait code q n None p h = h
entry_wait code q n (Some (Ended v)) p h = h
entry_wait code q n (Some (Lives f Goes c)) p h = moves_wait code q n f c p h (move code f.thread) refl
entry_wait code q n (Some (Lives f Joins c)) p h = h
entry_wait code q n (Some (Lives f Asking c)) p h = h
entry_wait code q n (Some (Lives f (Has v) c)) p h = branches_kept code q p (put_entry n (Lives (with_value code f v) Goes c) p) (put_kept p.table n (with_value code f v) Goes c tt) h

hand_wait : (code : Code) (q : ℕ) (o : Option ℕ) (p : Processor) → BranchesWait code q p → BranchesAfter code q (hand_moves code q o p)
hand_wait code q None p h = h
hand_wait code q (Some n) p h = entry_wait code q n (slice_get p.table n) p h

pub moved_wait : (code : Code) (q : ℕ) (p : Processor) → BranchesWait code q p → BranchesAfter code q (moved code q p)
moved_wait code q p h = hand_wait code q p.hand p h

-- ---- messages

answer_kept : (t : ThreadNo) (post : Post) (found : Values) (p : Processor) → KeepsBranches p.table (answer t post found p).table
answer_kept t (Get a) found p = same p.table
answer_kept t (Put a v) found p = alike p.table _ (wake_table a (put_shelf (write_on p.shelf a v) p))
answer_kept t (Call f o vs) found p = push_kept p.table _ (Some t)
answer_kept t (Cast f o vs) found p = push_kept p.table _ None
answer_kept t (Make c vs) found p = same p.table

park_table : (t : ThreadNo) (post : Post) (after before : Processor) → after.table ≡ before.table → (park_get t post after before).table ≡ before.table
park_table t (Get Void) after before e = refl
park_table t (Get (Int n)) after before e = refl
park_table t (Get Null) after before e = refl
park_table t (Get (Ptr b x)) after before e = e
park_table t (Put a v) after before e = refl
park_table t (Call f o vs) after before e = refl
park_table t (Cast f o vs) after before e = refl
park_table t (Make c vs) after before e = refl

pub serves_wait : (code : Code) (q : ℕ) (t : ThreadNo) (post : Post) (after before : Processor) → after.table ≡ before.table → BranchesWait code q before
    → BranchesAfter code q (serves code q t post after before)
serves_wait code q t post after before e h = by (verdict (seen code q after) q nobody (ask_of post))
  where
    by : (v : Verdict Address) → BranchesAfter code q (served_so q t post v after before)
    by (Go found) = branches_kept code q before (answer t post found after) (then_kept before.table after.table _ (alike before.table after.table e) (answer_kept t post found after)) h
    by Hold = branches_kept code q before (park_get t post after before) (alike before.table _ (park_table t post after before e)) h
    by (Bad kind) = tt

taken_free : (code : Code) (f : Fiber) (v : Value Address) (mv : Move Address) → NotJoins (taken_by code f v mv).0
taken_free code f v (Silent c) = tt
taken_free code f v (Ends w) = tt
taken_free code f v Stuck = tt
taken_free code f v (Does line ask k) = by (is_call ask)
  where
    either : Bool → Stage × Fiber
    either b = if b then (Has v, f) else (Goes, answered code f (taken_values code ask v))

    by : (b : Bool) → NotJoins (either b).0
    by true = tt
    by false = tt

told_wait : (code : Code) (q n : ℕ) (v : Value Address) (o : Option Entry) (after before : Processor) → after.table ≡ before.table → BranchesWait code q before
    → BranchesAfter code q (told code n v o after before)
told_wait code q n v None after before e h = h
told_wait code q n v (Some (Ended w)) after before e h = h
told_wait code q n v (Some (Lives f Goes k)) after before e h = h
told_wait code q n v (Some (Lives f Joins k)) after before e h = h
told_wait code q n v (Some (Lives f Asking k)) after before e h =
    branches_kept code q before (be_ready (Own n) (put_entry n (Lives (taken_by code f v (move code f.thread)).1 (taken_by code f v (move code f.thread)).0 k) after)) (then_kept before.table after.table _ (alike before.table after.table e)
    (put_kept after.table n (taken_by code f v (move code f.thread)).1 (taken_by code f v (move code f.thread)).0 k (taken_free code f v (move code f.thread)))) h
told_wait code q n v (Some (Lives f (Has w) k)) after before e h = h

pub inbox_wait : (code : Code) (q : ℕ) (messages : List Message) (p : Processor) → BranchesWait code q p → BranchesAfter code q (serves_inbox code q messages p)
inbox_wait code q [] p h = h
inbox_wait code q (Asks t post ∷ rest) p h = serves_wait code q t post (record p { inbox = rest }) p refl h
inbox_wait code q (Answers t v ∷ rest) p h = told_wait code q t.thread v (slice_get p.table t.thread) (record p { inbox = rest }) p refl h
