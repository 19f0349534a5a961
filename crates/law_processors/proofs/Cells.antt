-- Who waits for a cell waits for one without a value: no move leaves it otherwise.
use Rattle.law_processors.specs.Alone.{OwnStep}
use Rattle.std.proofs.Common.{◌≡◌, ◌⊎◌, inl, inr, ⊎_elim, ℕ, zero, suc, List, [], ◌∷◌, ◌++◌, length, map, Bool, true, false, ◌&&◌, Option, Some, None, refl, sym, ap, ◌∙◌, subst}
use Rattle.std.specs.Option.{option_and_then}
use Rattle.std.specs.Prelude.{slice_get, if◌then◌else◌, nat_eq}
use Rattle.std.proofs.lemmas.Option.{none-some}
use Rattle.std.proofs.lemmas.Bool.{false≢true}
use Rattle.global_ptr.specs.declared.ends.FaultKind.TheVariants.{NullPointer}
use Rattle.cc_ops.specs.Values.{Value, Cell, Void, Int, Null, Ptr, Empty, Plain, Full, Result, Gives, Fails}
use Rattle.cc_ops.specs.Cells.{written}
use Rattle.cc_ops.specs.Machine.{Address, Values}
use Rattle.cc_ops.specs.declared.number.ThreadNo.{ThreadNo}
use Rattle.cc_ops.specs.Shelves.{Thing, Shelf, no_shelf, changed, cell_in}
use Rattle.cc_core.specs.Core.{Shapes, function_shape}
use Rattle.cc_core.specs.Asks.{Ask, Answer, Reads, Enters, Leaves}
use Rattle.cc_core.specs.Asks as asks
use Rattle.cc_core.specs.Numbers.{Post, Get, Put, Call, Cast, Make}
use Rattle.cc_core.specs.Needs.{Verdict, Go, Hold, Bad, and_also, read}
use Rattle.cc_code.specs.Code.{Code, Thread, Then, Move, Silent, Does, Ends, Stuck, move}
use Rattle.numbered_runs.specs.Machine.{Progress, Goes as GoesAhead, Over}
use Rattle.numbered_runs.specs.Changes.{with_cell, with_held, with_thing, with_new}
use Rattle.numbered_runs.specs.Posts.{posted}
use Rattle.numbered_runs.proofs.Lists.{get_unchanged}
use Rattle.law_mesh.specs.Local.{cell_on, with_result, with_written, write_on, write_all_on, put_all_on, when, note_on, leave_on, leave_all_on, held_after_on, freed_on, place_after, new_here}
use Rattle.law_processors.specs.Living.{one_lives, joins_of}
use Rattle.law_mesh.specs.Spots.{Fiber, verdict}
use Rattle.law_mesh.specs.Queues.{Message, Asks, Answers, holds, holds_none}
use Rattle.law_processors.specs.Processors.{Waiter, Own, Asked, Goes, Joins, Asking, Has, Entry, Lives, Ended, Locked, Processor}
use Rattle.law_processors.specs.Alone.{Did, Went, Failed, be_ready, put_entry, put_hand, put_shelf, send, park, wake_at, wake_written, make_thread, make_threads, alone_at, seen_entry, seen, goes_into, is_taken, take_lock, hand_on, leave_lock, leave_object, leave_innermost, after_leaving, wait_for_lock, enters_later, joins_later, waits, rejoins, rejoined, tell, ended, here, effect_here, on_here, stepped_here, may_step, decided, asks_itself, asks_null, asks_here, asks_by, moves_by, entry_moves, hand_moves, moved, answer, park_get, served_so, serves, nobody, ask_of, told, serves_inbox}
use Rattle.law_processors.specs.Orderly.{CellsWait}
use Rattle.law_mesh.proofs.Queues.{same_number, number_itself}
use Rattle.law_processors.proofs.Seen.{alone_there, is_on_so}

-- ---- cells without a value

-- cell x of object o has none
abbrev pub IsEmpty : (o x : ℕ) → Shelf → Type 0
IsEmpty o x s = cell_on s o x ≡ Some Empty

things_keep : (x : ℕ) (f : Thing → Thing) → ((t : Thing) → slice_get t.cells x ≡ Some Empty → slice_get (f t).cells x ≡ Some Empty) → (ts : List Thing) (o i : ℕ)
    → option_and_then (λ (t : Thing). slice_get t.cells x) (slice_get ts o) ≡ Some Empty
    → option_and_then (λ (t : Thing). slice_get t.cells x) (slice_get (changed ts i f) o) ≡ Some Empty
things_keep x f h [] o i e = absurd (none-some Empty e)
things_keep x f h (t ∷ ts) zero zero e = h t e
things_keep x f h (t ∷ ts) zero (suc i) e = e
things_keep x f h (t ∷ ts) (suc o) zero e = e
things_keep x f h (t ∷ ts) (suc o) (suc i) e = things_keep x f h ts o i e

things_else : (x : ℕ) (f : Thing → Thing) (ts : List Thing) (o i : ℕ) → (o ≡ i → ⊥) → option_and_then (λ (t : Thing). slice_get t.cells x) (slice_get ts o) ≡ Some Empty
    → option_and_then (λ (t : Thing). slice_get t.cells x) (slice_get (changed ts i f) o) ≡ Some Empty
things_else x f ts o i apart e = ap (option_and_then (λ (t : Thing). slice_get t.cells x)) (get_unchanged ts i f o apart) ∙ e

new_keeps : (o x : ℕ) (cells : List (Cell Address)) (s : Shelf) → IsEmpty o x s → IsEmpty o x (with_new cells s)
new_keeps o x cells s e = by s.things o e
  where
    by : (ts : List Thing) (i : ℕ) → option_and_then (λ (t : Thing). slice_get t.cells x) (slice_get ts i) ≡ Some Empty
        → option_and_then (λ (t : Thing). slice_get t.cells x) (slice_get (ts ++ record { cells = cells; held = false } ∷ []) i) ≡ Some Empty
    by [] i h = absurd (none-some Empty h)
    by (t ∷ ts) zero h = h
    by (t ∷ ts) (suc i) h = by ts i h

all_new_keep : (o x : ℕ) (es : List (ℕ × List (Cell Address))) (s : Shelf) → IsEmpty o x s → IsEmpty o x (put_all_on s es)
all_new_keep o x [] s e = e
all_new_keep o x (c ∷ cs) s e = all_new_keep o x cs (with_new c.1 s) (new_keeps o x c.1 s e)

note_keeps : (o x : ℕ) (h : Shapes) (f : ℕ) (v : Value Address) (held : Bool) (s : Shelf) → IsEmpty o x s → IsEmpty o x (note_on h f v held s)
note_keeps o x h f Void held s e = e
note_keeps o x h f (Int n) held s e = e
note_keeps o x h f Null held s e = e
note_keeps o x h f (Ptr a y) held s e = by (function_shape h f).atomic
  where
    by : (b : Bool) → IsEmpty o x (when b (with_thing a.object (with_held held)) s)
    by true = things_keep x (with_held held) (λ t z. z) s.things o a.object e
    by false = e

leave_keeps : (o x : ℕ) (h : Shapes) (es : List (ℕ × Value Address)) (s : Shelf) → IsEmpty o x s → IsEmpty o x (leave_on h es s)
leave_keeps o x h [] s e = e
leave_keeps o x h (c ∷ cs) s e = note_keeps o x h c.0 c.1 false s e

leave_all_keeps : (o x : ℕ) (h : Shapes) (es : List (ℕ × Value Address)) (s : Shelf) → IsEmpty o x s → IsEmpty o x (leave_all_on h es s)
leave_all_keeps o x h [] s e = e
leave_all_keeps o x h (c ∷ cs) s e = leave_all_keeps o x h cs (note_on h c.0 c.1 false s) (note_keeps o x h c.0 c.1 false s e)

held_keeps : (o x : ℕ) (h : Shapes) (inside : List (ℕ × Value Address)) (ask : Ask Address) (s : Shelf) → IsEmpty o x s → IsEmpty o x (held_after_on h inside ask s)
held_keeps o x h inside (Enters f v vs) s e = note_keeps o x h f v true s e
held_keeps o x h inside Leaves s e = leave_keeps o x h inside s e
held_keeps o x h inside ask s e = e

freed_keeps : (o x : ℕ) (code : Code) (z : Progress) (inside : List (ℕ × Value Address)) (s : Shelf) → IsEmpty o x s → IsEmpty o x (freed_on code z inside s)
freed_keeps o x code (GoesAhead r) inside s e = e
freed_keeps o x code (Over v) inside s e = leave_all_keeps o x code.shapes inside s e

-- what is written
abbrev pub IsWritten : (o x : ℕ) → List (Value Address × Value Address) → Type 0
IsWritten o x [] = ⊥
IsWritten o x (e ∷ es) = ((a : Address) × (e.0 ≡ Ptr a x) × (a.object ≡ o)) ⊎ IsWritten o x es

cell_else : (o x y : ℕ) (c : Cell Address) (s : Shelf) (i : ℕ) → (o ≡ i → x ≡ y → ⊥) → IsEmpty o x s → IsEmpty o x (with_thing i (with_cell y c) s)
cell_else o x y c s i apart e = by (nat_eq o i) refl
  where
    by : (b : Bool) → nat_eq o i ≡ b → IsEmpty o x (with_thing i (with_cell y c) s)
    by true d = things_keep x (with_cell y c) (λ t z. get_unchanged t.cells y (λ w. c) x (apart (same_number o i d)) ∙ z) s.things o i e
    by false d = things_else x (with_cell y c) s.things o i (λ z. absurd (false≢true (sym d ∙ subst (λ j. nat_eq o j ≡ true) z (number_itself o)))) e

result_else : (o x y : ℕ) (r : Result (Cell Address)) (s : Shelf) (i : ℕ) → (o ≡ i → x ≡ y → ⊥) → IsEmpty o x s → IsEmpty o x (with_result s i y r)
result_else o x y (Gives c) s i apart e = cell_else o x y c s i apart e
result_else o x y (Fails kind) s i apart e = e

written_else : (o x y : ℕ) (v : Value Address) (c : Option (Cell Address)) (s : Shelf) (i : ℕ) → (o ≡ i → x ≡ y → ⊥) → IsEmpty o x s → IsEmpty o x (with_written s i y v c)
written_else o x y v None s i apart e = e
written_else o x y v (Some c) s i apart e = result_else o x y (written c v) s i apart e

write_or : (o x : ℕ) (a v : Value Address) (s : Shelf) → IsEmpty o x s → IsEmpty o x (write_on s a v) ⊎ ((b : Address) × (a ≡ Ptr b x) × (b.object ≡ o))
write_or o x Void v s e = inl e
write_or o x (Int n) v s e = inl e
write_or o x Null v s e = inl e
write_or o x (Ptr b y) v s e = by (nat_eq o b.object) refl (nat_eq x y) refl
  where
    by : (z : Bool) → nat_eq o b.object ≡ z → (w : Bool) → nat_eq x y ≡ w
        → IsEmpty o x (write_on s (Ptr b y) v) ⊎ ((c : Address) × (Ptr b y ≡ Ptr c x) × (c.object ≡ o))
    by true d true f = inr (b, ap (Ptr b) (sym (same_number x y f)), sym (same_number o b.object d))
    by true d false f = inl (written_else o x y v (cell_on s b.object y) s b.object (λ _ z. absurd (false≢true (sym f ∙ subst (λ j. nat_eq x j ≡ true) z (number_itself x)))) e)
    by false d w f = inl (written_else o x y v (cell_on s b.object y) s b.object (λ z _. absurd (false≢true (sym d ∙ subst (λ j. nat_eq o j ≡ true) z (number_itself o)))) e)

write_all_or : (o x : ℕ) (es : List (Value Address × Value Address)) (s : Shelf) → IsEmpty o x s → IsEmpty o x (write_all_on s es) ⊎ IsWritten o x es
write_all_or o x [] s e = inl e
write_all_or o x (c ∷ cs) s e = ⊎_elim
    (λ (h : IsEmpty o x (write_on s c.0 c.1)). ⊎_elim (λ (g : IsEmpty o x (write_all_on (write_on s c.0 c.1) cs)). inl g) (λ (g : IsWritten o x cs). inr (inr g)) (write_all_or o x cs (write_on s c.0 c.1) h))
    (λ (h : (b : Address) × (c.0 ≡ Ptr b x) × (b.object ≡ o)). inr (inl h))
    (write_or o x c.0 c.1 s e)

-- ---- lists

-- all but who waits for what was written
abbrev pub CellsBut : List (Value Address × Value Address) → Processor → Type 0
CellsBut ws p = (o x : ℕ) → (p.cells o x ≡ []) ⊎ (IsEmpty o x p.shelf ⊎ IsWritten o x ws)

wake_one : (ws : List (Value Address × Value Address)) (e : Value Address × Value Address) (p : Processor) → CellsBut (e ∷ ws) p → CellsBut ws (wake_at e.0 p)
wake_one ws e p h o x = by e.0 refl (h o x)
  where
    by : (v : Value Address) → e.0 ≡ v → (p.cells o x ≡ []) ⊎ (IsEmpty o x p.shelf ⊎ IsWritten o x (e ∷ ws)) → ((wake_at v p).cells o x ≡ []) ⊎ (IsEmpty o x (wake_at v p).shelf ⊎ IsWritten o x ws)
    by Void d (inl g) = inl g
    by Void d (inr (inl g)) = inr (inl g)
    by Void d (inr (inr (inl g))) = let z : Void ≡ Ptr g.0 x = sym d ∙ g.1 in absurd (cc)
    by Void d (inr (inr (inr g))) = inr (inr g)
    by (Int n) d (inl g) = inl g
    by (Int n) d (inr (inl g)) = inr (inl g)
    by (Int n) d (inr (inr (inl g))) = let z : Int n ≡ Ptr g.0 x = sym d ∙ g.1 in absurd (cc)
    by (Int n) d (inr (inr (inr g))) = inr (inr g)
    by Null d (inl g) = inl g
    by Null d (inr (inl g)) = inr (inl g)
    by Null d (inr (inr (inl g))) = let z : Null ≡ Ptr g.0 x = sym d ∙ g.1 in absurd (cc)
    by Null d (inr (inr (inr g))) = inr (inr g)
    by (Ptr b y) d g = here (nat_eq o b.object && nat_eq x y) refl g
      where
        here : (z : Bool) → (nat_eq o b.object && nat_eq x y) ≡ z → (p.cells o x ≡ []) ⊎ (IsEmpty o x p.shelf ⊎ IsWritten o x (e ∷ ws))
            → ((if nat_eq o b.object && nat_eq x y then [] else p.cells o x) ≡ []) ⊎ (IsEmpty o x p.shelf ⊎ IsWritten o x ws)
        here true f k = inl (ap (λ z. if z then [] else p.cells o x) f)
        here false f (inl k) = inl (ap (λ z. if z then [] else p.cells o x) f ∙ k)
        here false f (inr (inl k)) = inr (inl k)
        here false f (inr (inr (inl k))) =
            let s : Ptr b y ≡ Ptr k.0 x = sym d ∙ k.1 in
            let same_a : b ≡ k.0 = cc in
            let same_x : y ≡ x = cc in
            absurd (false≢true (sym f ∙ (ap (λ j. nat_eq o j && nat_eq x y) (ap (λ (z : Address). z.object) same_a ∙ k.2)
            ∙ (ap (λ z. z && nat_eq x y) (number_itself o) ∙ (ap (nat_eq x) same_x ∙ number_itself x)))))
        here false f (inr (inr (inr k))) = inr (inr k)

wake_all : (ws : List (Value Address × Value Address)) (p : Processor) → CellsBut ws p → CellsWait (wake_written ws p)
wake_all [] p h = λ o x. ⊎_elim (λ (g : p.cells o x ≡ []). inl g) (λ (g : IsEmpty o x p.shelf ⊎ ⊥). ⊎_elim (λ (k : IsEmpty o x p.shelf). inr k) (λ (k : ⊥). absurd k) g) (h o x)
wake_all (e ∷ ws) p h = wake_all ws (wake_at e.0 p) (wake_one ws e p h)

park_cells : (o x : ℕ) (w : Waiter) (p : Processor) → IsEmpty o x p.shelf → CellsWait p → CellsWait (park o x w p)
park_cells o x w p e h i y = by (nat_eq i o) refl (nat_eq y x) refl
  where
    by : (b : Bool) → nat_eq i o ≡ b → (c : Bool) → nat_eq y x ≡ c → ((if nat_eq i o && nat_eq y x then p.cells o x ++ w ∷ [] else p.cells i y) ≡ []) ⊎ IsEmpty i y p.shelf
    by true d true f = inr (ap (λ z. cell_on p.shelf z y) (same_number i o d) ∙ (ap (cell_on p.shelf o) (same_number y x f) ∙ e))
    by true d false f = ⊎_elim (λ (g : p.cells i y ≡ []). inl (ap (λ z. if nat_eq i o && z then p.cells o x ++ w ∷ [] else p.cells i y) f
        ∙ (ap (λ z. if z && false then p.cells o x ++ w ∷ [] else p.cells i y) d ∙ g))) (λ (g : IsEmpty i y p.shelf). inr g) (h i y)
    by false d c f = ⊎_elim (λ (g : p.cells i y ≡ []). inl (ap (λ z. if z && nat_eq y x then p.cells o x ++ w ∷ [] else p.cells i y) d ∙ g)) (λ (g : IsEmpty i y p.shelf). inr g) (h i y)

-- ---- what is the same

pub record KeepsCells (p p' : Processor) : Type 0 where
  pub cells : p'.cells ≡ p.cells
  pub shelf : p'.shelf ≡ p.shelf

pub keeps_so : (p p' : Processor) → KeepsCells p p' → CellsWait p → CellsWait p'
keeps_so p p' k h o x = ⊎_elim (λ (g : p.cells o x ≡ []). inl (ap (λ c. c o x) k.cells ∙ g)) (λ (g : IsEmpty o x p.shelf). inr (ap (λ s. cell_on s o x) k.shelf ∙ g)) (h o x)

same : (p : Processor) → KeepsCells p p
same p = record { cells = refl; shelf = refl }

pub then_keeps : (p p1 p2 : Processor) → KeepsCells p p1 → KeepsCells p1 p2 → KeepsCells p p2
then_keeps p p1 p2 a b = record { cells = b.cells ∙ a.cells; shelf = b.shelf ∙ a.shelf }

pub made_keeps : (cs : List (Thread Address)) (p : Processor) → KeepsCells p (make_threads cs p)
made_keeps [] p = same p
made_keeps (c ∷ cs) p = let k = made_keeps cs (make_thread c None p) in record { cells = k.cells; shelf = k.shelf }

pub taken_keeps : (n : ℕ) (o : Option Address) (p : Processor) → KeepsCells p (take_lock n o p)
taken_keeps n None p = same p
taken_keeps n (Some b) p = record { cells = refl; shelf = refl }

handed_keeps : (o : ℕ) (ws : List ℕ) (p : Processor) → KeepsCells p (hand_on o ws p)
handed_keeps o [] p = record { cells = refl; shelf = refl }
handed_keeps o (i ∷ is) p = record { cells = refl; shelf = refl }

lock_keeps : (o : ℕ) (l : Option Locked) (p : Processor) → KeepsCells p (leave_lock o l p)
lock_keeps o None p = same p
lock_keeps o (Some l) p = handed_keeps o l.waiters p

object_keeps : (b : Bool) (v : Value Address) (p : Processor) → KeepsCells p (leave_object b v p)
object_keeps false v p = same p
object_keeps true Void p = same p
object_keeps true (Int n) p = same p
object_keeps true Null p = same p
object_keeps true (Ptr b x) p = lock_keeps b.object (p.locks b.object) p

innermost_keeps : (h : Shapes) (es : List (ℕ × Value Address)) (p : Processor) → KeepsCells p (leave_innermost h es p)
innermost_keeps h [] p = same p
innermost_keeps h (e ∷ es) p = object_keeps (holds h e.0 e.1) e.1 p

pub left_keeps : (h : Shapes) (f : Fiber) (ask : Ask Address) (p : Processor) → KeepsCells p (after_leaving h f ask p)
left_keeps h f Leaves p = innermost_keeps h f.inside p
left_keeps h f ask p = same p

lock_wait_keeps : (n o : ℕ) (l : Option Locked) (p : Processor) → KeepsCells p (wait_for_lock n o l p)
lock_wait_keeps n o None p = same p
lock_wait_keeps n o (Some l) p = record { cells = refl; shelf = refl }

pub later_keeps : (n : ℕ) (o : Option Address) (p : Processor) → KeepsCells p (enters_later n o p)
later_keeps n None p = same p
later_keeps n (Some b) p = lock_wait_keeps n b.object (p.locks b.object) p

pub joins_keeps : (q n : ℕ) (f : Fiber) (caller : Option ThreadNo) (made : List ℕ) (p : Processor) → KeepsCells p (joins_later q n f caller made p)
joins_keeps q n f caller made p = by (one_lives (alone_at q [] (map seen_entry p.table)) f.kids made)
  where
    by : (b : Bool) → KeepsCells p (if b then put_hand None (put_entry n (Lives f Joins caller) p) else p)
    by true = record { cells = refl; shelf = refl }
    by false = same p

rejoins_keeps : (code : Code) (q n : ℕ) (o : Option Entry) (p : Processor) → KeepsCells p (rejoins code q n o p)
rejoins_keeps code q n None p = same p
rejoins_keeps code q n (Some (Ended v)) p = same p
rejoins_keeps code q n (Some (Lives f Goes c)) p = same p
rejoins_keeps code q n (Some (Lives f Asking c)) p = same p
rejoins_keeps code q n (Some (Lives f (Has v) c)) p = same p
rejoins_keeps code q n (Some (Lives f Joins c)) p = by (one_lives (alone_at q [] (map seen_entry p.table)) f.kids (joins_of (move code f.thread)))
  where
    by : (b : Bool) → KeepsCells p (if b then p else be_ready (Own n) (put_entry n (Lives f Goes c) p))
    by true = same p
    by false = record { cells = refl; shelf = refl }

pub rejoined_keeps : (code : Code) (q k : ℕ) (p : Processor) → KeepsCells p (rejoined code q k p)
rejoined_keeps code q zero p = same p
rejoined_keeps code q (suc k) p =
    then_keeps p (rejoined code q k p) (rejoined code q (suc k) p) (rejoined_keeps code q k p) (rejoins_keeps code q k (slice_get (rejoined code q k p).table k) (rejoined code q k p))

tell_keeps : (q n : ℕ) (c : Option ThreadNo) (v : Value Address) (p : Processor) → KeepsCells p (tell q n c v p)
tell_keeps q n None v p = same p
tell_keeps q n (Some t) v p = record { cells = refl; shelf = refl }

pub ended_keeps : (code : Code) (q n : ℕ) (c : Option ThreadNo) (v : Value Address) (p : Processor) → KeepsCells p (ended code q n c v p)
ended_keeps code q n c v p =
    let p1 = put_hand None (put_entry n (Ended v) p) in
    let a = tell_keeps q n c v p1 in
    let b = rejoined_keeps code q (length p.table) (tell q n c v p1) in
    record { cells = b.cells ∙ a.cells; shelf = b.shelf ∙ a.shelf }

-- ---- what must wait

empty_if : (o : Option (Cell Address)) → and_also (read o) (Go []) ≡ Hold → o ≡ Some Empty
empty_if None e = let d : Bad _ ≡ Hold = e in absurd (cc)
empty_if (Some (Plain v)) e = let d : Go (v ∷ []) ≡ Hold = e in absurd (cc)
empty_if (Some Empty) e = refl
empty_if (Some (Full v)) e = let d : Go (v ∷ []) ≡ Hold = e in absurd (cc)

cell_alone : (q : ℕ) (s : Shelf) (a : Address) (x : ℕ) → a.processor ≡ q → cell_in (alone_at q no_shelf s) a x ≡ cell_on s a.object x
cell_alone q s a x e =
    ap (λ o. option_and_then (λ (t : Thing). slice_get t.cells x) (option_and_then (λ (z : Shelf). slice_get z.things a.object) o))
    (ap (slice_get (alone_at q no_shelf s)) e ∙ alone_there q no_shelf s)

waits_cells : (code : Code) (q n : ℕ) (f : Fiber) (caller : Option ThreadNo) (ask : Ask Address) (p : Processor) → asks_here q f ask ≡ true
    → verdict (seen code q p) q f ask ≡ Hold → CellsWait p → CellsWait (waits code q n f caller ask p)
waits_cells code q n f caller (Reads remote (Ptr b x)) p on hold h =
    park_cells b.object x (Own n) p (sym (cell_alone q p.shelf b x (is_on_so q (Ptr b x) on)) ∙ empty_if (cell_in (alone_at q no_shelf p.shelf) b x) hold) h
waits_cells code q n f caller (Reads remote Void) p on hold h = h
waits_cells code q n f caller (Reads remote (Int z)) p on hold h = h
waits_cells code q n f caller (Reads remote Null) p on hold h = h
waits_cells code q n f caller (asks.Joins made) p on hold h = keeps_so p (joins_later q n f caller made p) (joins_keeps q n f caller made p) h
waits_cells code q n f caller ask p on hold h = keeps_so p (enters_later n (goes_into code.shapes ask) p) (later_keeps n (goes_into code.shapes ask) p) h

-- ---- the thread in the hand

abbrev pub CellsAfter : Did Processor → Type 0
CellsAfter (Went step prints p') = CellsWait p'
CellsAfter (Failed kind t) = Unit {0}

module _ (code : Code) (q n : ℕ) (f : Fiber) (caller : Option ThreadNo) (ask : Ask Address) (k : Answer Address → Then Address) (p : Processor) (h : CellsWait p) where
  stepped_cells : (found : Values) → CellsWait (stepped_here code q n f caller ask k p found)
  stepped_cells found =
      let e = effect_here code q n f caller ask k p found in
      let s = (place_after code q n (here code q n f caller ask k p) f ask k found e).shelf in
      let new = new_here code q n (here code q n f caller ask k p) f ask k found e in
      let p2 = make_threads new (put_shelf s p) in
      let p3 = put_entry n (Lives (on_here code q n f caller ask k p found) Goes caller) p2 in
      let made = made_keeps new (put_shelf s p) in
      let p4 = wake_written e.writes p3 in
      let p5 = take_lock n (goes_into code.shapes ask) p4 in
      keeps_so p5 (after_leaving code.shapes f ask p5) (left_keeps code.shapes f ask p5)
      (keeps_so p4 p5 (taken_keeps n (goes_into code.shapes ask) p4)
      (wake_all e.writes p3 (λ o x. ⊎_elim
      (λ (g : p.cells o x ≡ []). inl (ap (λ c. c o x) made.cells ∙ g))
      (λ (g : IsEmpty o x p.shelf). ⊎_elim
      (λ (w : IsEmpty o x (write_all_on p.shelf e.writes)). inr (inl (ap (λ z. cell_on z o x) made.shelf ∙ freed_keeps o x code _ e.inside _ (held_keeps o x code.shapes f.inside ask _ (all_new_keep o x e.objects _ w)))))
      (λ (w : IsWritten o x e.writes). inr (inr w))
      (write_all_or o x e.writes p.shelf g))
      (h o x))))

  decided_cells : asks_here q f ask ≡ true → (v : Verdict Address) → verdict (seen code q p) q f ask ≡ v → CellsAfter (decided code q n f caller ask k p v)
  decided_cells on (Go found) e = by (may_step code q n f caller ask k p found)
    where
      by : (b : Bool) → CellsAfter (if b then Went (Some (OwnStep (record { processor = q; thread = n }))) (effect_here code q n f caller ask k p found).prints (stepped_here code q n f caller ask k p found) else Went None [] p)
      by true = stepped_cells found
      by false = h
  decided_cells on Hold e = waits_cells code q n f caller ask p on e h
  decided_cells on (Bad kind) e = tt

  asks_cells : (o : Option Post) → CellsAfter (asks_by code q n f caller ask k p o)
  asks_cells None = by (asks_null ask) (asks_here q f ask) refl
    where
      itself : asks_here q f ask ≡ true → (b : Bool)
          → CellsAfter (if b then Went None [] (enters_later n (goes_into code.shapes ask) p) else decided code q n f caller ask k p (verdict (seen code q p) q f ask))
      itself on true = keeps_so p (enters_later n (goes_into code.shapes ask) p) (later_keeps n (goes_into code.shapes ask) p) h
      itself on false = decided_cells on (verdict (seen code q p) q f ask) refl

      by : (b c : Bool) → asks_here q f ask ≡ c → CellsAfter (if b then Failed NullPointer (record { processor = q; thread = n }) else (if c then asks_itself code q n f caller ask k p else Went None [] p))
      by true c e = tt
      by false true e = itself e (is_taken p n (goes_into code.shapes ask))
      by false false e = h
  asks_cells (Some post) = by (holds_none code.shapes f.inside)
    where
      by : (b : Bool) → CellsAfter (if b then Went None [] (send (Asks (record { processor = q; thread = n }) post) (put_hand None (put_entry n (Lives f Asking caller) p))) else Went None [] p)
      by true = h
      by false = h

moves_cells : (code : Code) (q n : ℕ) (f : Fiber) (caller : Option ThreadNo) (mv : Move Address) (p : Processor) → CellsWait p → CellsAfter (moves_by code q n f caller mv p)
moves_cells code q n f caller (Silent c) p h = h
moves_cells code q n f caller (Does line ask k) p h = asks_cells code q n f caller ask k p h (posted ask)
moves_cells code q n f caller (Ends v) p h = keeps_so p (ended code q n caller v p) (ended_keeps code q n caller v p) h
moves_cells code q n f caller Stuck p h = h

entry_cells : (code : Code) (q n : ℕ) (o : Option Entry) (p : Processor) → CellsWait p → CellsAfter (entry_moves code q n o p)
entry_cells code q n None p h = h
entry_cells code q n (Some (Ended v)) p h = h
entry_cells code q n (Some (Lives f Goes c)) p h = moves_cells code q n f c (move code f.thread) p h
entry_cells code q n (Some (Lives f Joins c)) p h = h
entry_cells code q n (Some (Lives f Asking c)) p h = h
entry_cells code q n (Some (Lives f (Has v) c)) p h = h

hand_cells : (code : Code) (q : ℕ) (o : Option ℕ) (p : Processor) → CellsWait p → CellsAfter (hand_moves code q o p)
hand_cells code q None p h = h
hand_cells code q (Some n) p h = entry_cells code q n (slice_get p.table n) p h

pub moved_cells : (code : Code) (q : ℕ) (p : Processor) → CellsWait p → CellsAfter (moved code q p)
moved_cells code q p h = hand_cells code q p.hand p h

-- ---- messages

put_cells : (a v : Value Address) (p : Processor) → CellsWait p → CellsWait (wake_at a (put_shelf (write_on p.shelf a v) p))
put_cells a v p h =
    wake_all ((a, v) ∷ []) (put_shelf (write_on p.shelf a v) p) (λ o x. ⊎_elim
    (λ (g : p.cells o x ≡ []). inl g)
    (λ (g : IsEmpty o x p.shelf). ⊎_elim (λ (w : IsEmpty o x (write_on p.shelf a v)). inr (inl w)) (λ (w : (b : Address) × (a ≡ Ptr b x) × (b.object ≡ o)). inr (inr (inl w))) (write_or o x a v p.shelf g))
    (h o x))

answer_cells : (t : ThreadNo) (post : Post) (found : Values) (p : Processor) → CellsWait p → CellsWait (answer t post found p)
answer_cells t (Get a) found p h = h
answer_cells t (Put a v) found p h = put_cells a v p h
answer_cells t (Call f o vs) found p h = h
answer_cells t (Cast f o vs) found p h = h
answer_cells t (Make c vs) found p h = h

park_get_cells : (code : Code) (q : ℕ) (t : ThreadNo) (post : Post) (after before : Processor) → CellsWait after → CellsWait before
    → verdict (seen code q after) q nobody (ask_of post) ≡ Hold → (on : (a : Address) (x : ℕ) → post ≡ Get (Ptr a x) → a.processor ≡ q) → CellsWait (park_get t post after before)
park_get_cells code q t (Get (Ptr b x)) after before h g hold on =
    park_cells b.object x (Asked t (Get (Ptr b x))) after
    (sym (cell_alone q after.shelf b x (on b x refl)) ∙ empty_if (cell_in (alone_at q no_shelf after.shelf) b x) hold) h
park_get_cells code q t (Get Void) after before h g hold on = g
park_get_cells code q t (Get (Int n)) after before h g hold on = g
park_get_cells code q t (Get Null) after before h g hold on = g
park_get_cells code q t (Put a v) after before h g hold on = g
park_get_cells code q t (Call f o vs) after before h g hold on = g
park_get_cells code q t (Cast f o vs) after before h g hold on = g
park_get_cells code q t (Make c vs) after before h g hold on = g

pub serves_cells : (code : Code) (q : ℕ) (t : ThreadNo) (post : Post) (after before : Processor) → CellsWait after → CellsWait before
    → ((a : Address) (x : ℕ) → post ≡ Get (Ptr a x) → a.processor ≡ q) → CellsAfter (serves code q t post after before)
serves_cells code q t post after before h g on = by (verdict (seen code q after) q nobody (ask_of post)) refl
  where
    by : (v : Verdict Address) → verdict (seen code q after) q nobody (ask_of post) ≡ v → CellsAfter (served_so q t post v after before)
    by (Go found) e = answer_cells t post found after h
    by Hold e = park_get_cells code q t post after before h g e on
    by (Bad kind) e = tt

told_cells : (code : Code) (n : ℕ) (v : Value Address) (o : Option Entry) (after before : Processor) → CellsWait after → CellsWait before → CellsAfter (told code n v o after before)
told_cells code n v None after before h g = g
told_cells code n v (Some (Ended w)) after before h g = g
told_cells code n v (Some (Lives f Goes k)) after before h g = g
told_cells code n v (Some (Lives f Joins k)) after before h g = g
told_cells code n v (Some (Lives f Asking k)) after before h g = h
told_cells code n v (Some (Lives f (Has w) k)) after before h g = g

pub inbox_cells : (code : Code) (q : ℕ) (messages : List Message) (p : Processor) → CellsWait p
    → ((t : ThreadNo) (rest : List Message) (a : Address) (x : ℕ) → messages ≡ Asks t (Get (Ptr a x)) ∷ rest → a.processor ≡ q) → CellsAfter (serves_inbox code q messages p)
inbox_cells code q [] p h on = h
inbox_cells code q (Asks t post ∷ rest) p h on = serves_cells code q t post (record p { inbox = rest }) p h h (λ a x e. on t rest a x (ap (λ z. Asks t z ∷ rest) e))
inbox_cells code q (Answers t v ∷ rest) p h on = told_cells code t.thread v (slice_get p.table t.thread) (record p { inbox = rest }) p h h
