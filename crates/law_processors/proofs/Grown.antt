-- What a move leaves as it was of objects that are held, and of threads that are up.
use Rattle.std.proofs.Common.{◌≡◌, ◌⊎◌, inl, inr, ⊎_elim, ℕ, zero, suc, List, [], ◌∷◌, ◌++◌, length, map, Bool, true, false, Option, Some, None, refl, sym, ap, ◌∙◌, subst}
use Rattle.std.specs.Prelude.{slice_get, if◌then◌else◌, nat_eq, is_some}
use Rattle.std.specs.Option.{option_map_or}
use Rattle.std.proofs.lemmas.Option.{same_Some}
use Rattle.std.proofs.lemmas.Bool.{false≢true}
use Rattle.cc_ops.specs.Values.{Value, Cell, Void, Int, Null, Ptr, Result, Gives, Fails}
use Rattle.cc_ops.specs.Cells.{written}
use Rattle.cc_ops.specs.Machine.{Address}
use Rattle.cc_ops.specs.declared.number.ThreadNo.{ThreadNo}
use Rattle.cc_ops.specs.Shelves.{Thing, Shelf, changed}
use Rattle.cc_core.specs.Core.{Shapes}
use Rattle.cc_code.specs.Code.{Code, Thread, move}
use Rattle.numbered_runs.specs.Machine.{Progress, Goes as GoesAhead, Over}
use Rattle.numbered_runs.specs.Changes.{with_cell, with_held, with_thing, with_new}
use Rattle.numbered_runs.proofs.Lists.{get_unchanged, get_in_front}
use Rattle.law_mesh.specs.Local.{cell_on, with_result, with_written, write_on, write_all_on, put_all_on, when, note_on, leave_all_on, freed_on}
use Rattle.law_mesh.specs.Moves.{new_fiber}
use Rattle.law_processors.specs.Living.{one_lives, joins_of}
use Rattle.law_mesh.specs.Spots.{Fiber}
use Rattle.law_mesh.specs.Queues.{holds, holds_none}
use Rattle.law_processors.specs.Processors.{Waiter, Own, Goes, Joins, Asking, Has, Entry, Lives, Ended, Locked, Processor}
use Rattle.law_processors.specs.Alone.{be_ready, put_entry, put_hand, wake_at, wake_written, make_thread, make_threads, alone_at, seen_entry, rejoins, rejoined, tell, ended, ends_free}
use Rattle.law_processors.specs.Orderly.{IsIn, IsUp, GoesInto, held_on, LocksWait}
use Rattle.law_mesh.proofs.Queues.{same_number, number_itself}

-- ---- lists of waiters

pub in_front : (i : ℕ) (ws vs : List Waiter) → IsIn i ws → IsIn i (ws ++ vs)
in_front i [] vs h = absurd h
in_front i (w ∷ ws) vs (inl h) = inl h
in_front i (w ∷ ws) vs (inr h) = inr (in_front i ws vs h)

pub in_back : (i : ℕ) (ws vs : List Waiter) → IsIn i vs → IsIn i (ws ++ vs)
in_back i [] vs h = h
in_back i (w ∷ ws) vs h = inr (in_back i ws vs h)

pub in_without : (i : ℕ) (front : List Waiter) (w : Waiter) (back : List Waiter) → IsIn i (front ++ w ∷ back) → (w ≡ Own i) ⊎ IsIn i (front ++ back)
in_without i [] w back h = h
in_without i (v ∷ front) w back (inl h) = inr (inl h)
in_without i (v ∷ front) w back (inr h) = ⊎_elim (λ (g : w ≡ Own i). inl g) (λ (g : IsIn i (front ++ back)). inr (inr g)) (in_without i front w back h)

-- ---- objects that are held

pub things_held : (f : Thing → Thing) → ((t : Thing) → t.held ≡ true → (f t).held ≡ true) → (ts : List Thing) (o i : ℕ)
    → option_map_or (λ (t : Thing). t.held) (slice_get ts o) false ≡ true → option_map_or (λ (t : Thing). t.held) (slice_get (changed ts i f) o) false ≡ true
things_held f h [] o i e = e
things_held f h (t ∷ ts) zero zero e = h t e
things_held f h (t ∷ ts) zero (suc i) e = e
things_held f h (t ∷ ts) (suc o) zero e = e
things_held f h (t ∷ ts) (suc o) (suc i) e = things_held f h ts o i e

pub things_else : (f : Thing → Thing) (ts : List Thing) (o i : ℕ) → (o ≡ i → ⊥) → option_map_or (λ (t : Thing). t.held) (slice_get ts o) false ≡ true
    → option_map_or (λ (t : Thing). t.held) (slice_get (changed ts i f) o) false ≡ true
things_else f ts o i apart e = ap (λ z. option_map_or (λ (t : Thing). t.held) z false) (get_unchanged ts i f o apart) ∙ e

pub now_held : (ts : List Thing) (i : ℕ) → is_some (slice_get ts i) ≡ true → option_map_or (λ (t : Thing). t.held) (slice_get (changed ts i (with_held true)) i) false ≡ true
now_held [] i e = absurd (false≢true e)
now_held (t ∷ ts) zero e = refl
now_held (t ∷ ts) (suc i) e = now_held ts i e

-- the held stay held, and what is there stays there
pub record KeepsHeld (s s' : Shelf) : Type 0 where
  pub held : (o : ℕ) → held_on s o ≡ true → held_on s' o ≡ true
  pub there : (o : ℕ) → is_some (slice_get s.things o) ≡ true → is_some (slice_get s'.things o) ≡ true

pub held_then : (a b c : Shelf) → KeepsHeld a b → KeepsHeld b c → KeepsHeld a c
held_then a b c k l = record { held = λ o e. l.held o (k.held o e); there = λ o e. l.there o (k.there o e) }

pub same_held : (s : Shelf) → KeepsHeld s s
same_held s = record { held = λ o e. e; there = λ o e. e }

pub some_changed : (f : Thing → Thing) (ts : List Thing) (o i : ℕ) → is_some (slice_get ts o) ≡ true → is_some (slice_get (changed ts i f) o) ≡ true
some_changed f [] o i e = e
some_changed f (t ∷ ts) zero zero e = refl
some_changed f (t ∷ ts) zero (suc i) e = e
some_changed f (t ∷ ts) (suc o) zero e = e
some_changed f (t ∷ ts) (suc o) (suc i) e = some_changed f ts o i e

pub cell_held : (i y : ℕ) (c : Cell Address) (s : Shelf) → KeepsHeld s (with_thing i (with_cell y c) s)
cell_held i y c s = record { held = λ o e. things_held (with_cell y c) (λ t z. z) s.things o i e; there = λ o e. some_changed (with_cell y c) s.things o i e }

pub result_held : (i y : ℕ) (r : Result (Cell Address)) (s : Shelf) → KeepsHeld s (with_result s i y r)
result_held i y (Gives c) s = cell_held i y c s
result_held i y (Fails kind) s = same_held s

pub written_held : (i y : ℕ) (v : Value Address) (c : Option (Cell Address)) (s : Shelf) → KeepsHeld s (with_written s i y v c)
written_held i y v None s = same_held s
written_held i y v (Some c) s = result_held i y (written c v) s

pub write_held : (a v : Value Address) (s : Shelf) → KeepsHeld s (write_on s a v)
write_held Void v s = same_held s
write_held (Int n) v s = same_held s
write_held Null v s = same_held s
write_held (Ptr b y) v s = written_held b.object y v (cell_on s b.object y) s

pub writes_held : (es : List (Value Address × Value Address)) (s : Shelf) → KeepsHeld s (write_all_on s es)
writes_held [] s = same_held s
writes_held (e ∷ es) s = held_then s (write_on s e.0 e.1) (write_all_on s (e ∷ es)) (write_held e.0 e.1 s) (writes_held es (write_on s e.0 e.1))

pub new_held : (cells : List (Cell Address)) (s : Shelf) → KeepsHeld s (with_new cells s)
new_held cells s = record { held = λ o e. by s.things o e; there = λ o e. some s.things o e }
  where
    by : (ts : List Thing) (i : ℕ) → option_map_or (λ (t : Thing). t.held) (slice_get ts i) false ≡ true
        → option_map_or (λ (t : Thing). t.held) (slice_get (ts ++ record { cells = cells; held = false } ∷ []) i) false ≡ true
    by [] i h = absurd (false≢true h)
    by (t ∷ ts) zero h = h
    by (t ∷ ts) (suc i) h = by ts i h

    some : (ts : List Thing) (i : ℕ) → is_some (slice_get ts i) ≡ true → is_some (slice_get (ts ++ record { cells = cells; held = false } ∷ []) i) ≡ true
    some [] i h = absurd (false≢true h)
    some (t ∷ ts) zero h = h
    some (t ∷ ts) (suc i) h = some ts i h

pub news_held : (es : List (ℕ × List (Cell Address))) (s : Shelf) → KeepsHeld s (put_all_on s es)
news_held [] s = same_held s
news_held (c ∷ cs) s = held_then s (with_new c.1 s) (put_all_on s (c ∷ cs)) (new_held c.1 s) (news_held cs (with_new c.1 s))

-- who is inside no atomic function leaves none
pub note_none : (h : Shapes) (f : ℕ) (v : Value Address) (s : Shelf) → holds h f v ≡ false → note_on h f v false s ≡ s
note_none h f Void s e = refl
note_none h f (Int n) s e = refl
note_none h f Null s e = refl
note_none h f (Ptr a x) s e = ap (λ b. when b (with_thing a.object (with_held false)) s) e

pub leave_none : (h : Shapes) (es : List (ℕ × Value Address)) (s : Shelf) → holds_none h es ≡ true → leave_all_on h es s ≡ s
leave_none h [] s e = refl
leave_none h (x ∷ es) s e = by (λ c. leave_none h es s c) (holds h x.0 x.1) refl e
  where
    by : (holds_none h es ≡ true → leave_all_on h es s ≡ s) → (b : Bool) → holds h x.0 x.1 ≡ b → (if b then false else holds_none h es) ≡ true
        → leave_all_on h es (note_on h x.0 x.1 false s) ≡ s
    by more true d c = absurd (false≢true c)
    by more false d c = ap (leave_all_on h es) (note_none h x.0 x.1 s d) ∙ more c

pub freed_same : (code : Code) (f : Fiber) (z : Progress) (s : Shelf) → ends_free code f z ≡ true → freed_on code z f.inside s ≡ s
freed_same code f (GoesAhead r) s e = refl
freed_same code f (Over v) s e = leave_none code.shapes f.inside s e

-- ---- what grows

-- of all threads but thread n: who is up stays up, and what is held stays held
pub record Grows (n : ℕ) (p p' : Processor) : Type 0 where
  pub ready : (i : ℕ) → IsIn i p.ready → IsIn i p'.ready
  pub entries : (i : ℕ) (f : Fiber) (c : Option ThreadNo) → (i ≡ n → ⊥) → slice_get p.table i ≡ Some (Lives f Goes c) → slice_get p'.table i ≡ Some (Lives f Goes c)
  pub held : (o : ℕ) → held_on p.shelf o ≡ true → held_on p'.shelf o ≡ true
  pub locks : p'.locks ≡ p.locks

pub same : (n : ℕ) (p : Processor) → Grows n p p
same n p = record { ready = λ i h. h; entries = λ i f c d e. e; held = λ o e. e; locks = refl }

pub then_grows : (n : ℕ) (a b c : Processor) → Grows n a b → Grows n b c → Grows n a c
then_grows n a b c k l = record {
  ready = λ i h. l.ready i (k.ready i h);
  entries = λ i f d z e. l.entries i f d z (k.entries i f d z e);
  held = λ o e. l.held o (k.held o e);
  locks = l.locks ∙ k.locks;
}

pub put_grows : (n : ℕ) (e : Entry) (p : Processor) → Grows n p (put_entry n e p)
put_grows n e p = record { ready = λ i h. h; entries = λ i f c apart d. get_unchanged p.table n (λ o. e) i apart ∙ d; held = λ o d. d; locks = refl }

pub made_grows : (n : ℕ) (cs : List (Thread Address)) (p : Processor) → Grows n p (make_threads cs p)
made_grows n [] p = same n p
made_grows n (c ∷ cs) p = then_grows n p (make_thread c None p) (make_threads (c ∷ cs) p)
    (record {
      ready = λ i h. in_front i p.ready (Own (length p.table) ∷ []) h;
      entries = λ i f d apart e. get_in_front p.table (Lives (new_fiber c) Goes None ∷ []) (Lives f Goes d) i e;
      held = λ o e. e;
      locks = refl;
    })
    (made_grows n cs (make_thread c None p))

pub wake_grows : (n : ℕ) (a : Value Address) (p : Processor) → Grows n p (wake_at a p)
wake_grows n Void p = same n p
wake_grows n (Int z) p = same n p
wake_grows n Null p = same n p
wake_grows n (Ptr b x) p = record { ready = λ i h. in_front i p.ready (p.cells b.object x) h; entries = λ i f c d e. e; held = λ o e. e; locks = refl }

pub woken_grows : (n : ℕ) (ws : List (Value Address × Value Address)) (p : Processor) → Grows n p (wake_written ws p)
woken_grows n [] p = same n p
woken_grows n (w ∷ ws) p = then_grows n p (wake_at w.0 p) (wake_written (w ∷ ws) p) (wake_grows n w.0 p) (woken_grows n ws (wake_at w.0 p))

pub tell_grows : (n q i : ℕ) (c : Option ThreadNo) (v : Value Address) (p : Processor) → Grows n p (tell q i c v p)
tell_grows n q i None v p = same n p
tell_grows n q i (Some t) v p = record { ready = λ j h. h; entries = λ j f c d e. e; held = λ o e. e; locks = refl }

pub rejoins_grows : (n : ℕ) (code : Code) (q k : ℕ) (o : Option Entry) (p : Processor) → slice_get p.table k ≡ o → Grows n p (rejoins code q k o p)
rejoins_grows n code q k None p e = same n p
rejoins_grows n code q k (Some (Ended v)) p e = same n p
rejoins_grows n code q k (Some (Lives g Goes b)) p e = same n p
rejoins_grows n code q k (Some (Lives g Asking b)) p e = same n p
rejoins_grows n code q k (Some (Lives g (Has v) b)) p e = same n p
rejoins_grows n code q k (Some (Lives g Joins b)) p e = by (one_lives (alone_at q [] (map seen_entry p.table)) g.kids (joins_of (move code g.thread)))
  where
    not_k : (i : ℕ) (f : Fiber) (c : Option ThreadNo) → slice_get p.table i ≡ Some (Lives f Goes c) → i ≡ k → ⊥
    not_k i f c d z =
        let x : Lives g Joins b ≡ Lives f Goes c = same_Some (Lives g Joins b) (Lives f Goes c) (sym e ∙ (ap (slice_get p.table) (sym z) ∙ d)) in
        let y : Joins ≡ Goes = cc in cc

    by : (z : Bool) → Grows n p (if z then p else be_ready (Own k) (put_entry k (Lives g Goes b) p))
    by true = same n p
    by false = record {
      ready = λ i h. in_front i p.ready (Own k ∷ []) h;
      entries = λ i f c apart d. get_unchanged p.table k (λ o. Lives g Goes b) i (not_k i f c d) ∙ d;
      held = λ o d. d;
      locks = refl;
    }

pub rejoined_grows : (n : ℕ) (code : Code) (q k : ℕ) (p : Processor) → Grows n p (rejoined code q k p)
rejoined_grows n code q zero p = same n p
rejoined_grows n code q (suc k) p = then_grows n p (rejoined code q k p) (rejoined code q (suc k) p) (rejoined_grows n code q k p)
    (rejoins_grows n code q k (slice_get (rejoined code q k p).table k) (rejoined code q k p) refl)

pub ended_grows : (code : Code) (q n : ℕ) (c : Option ThreadNo) (v : Value Address) (p : Processor) → Grows n p (ended code q n c v p)
ended_grows code q n c v p =
    let p0 : Processor = put_hand None (put_entry n (Ended v) p) in
    let g : Grows n p (put_entry n (Ended v) p) = put_grows n (Ended v) p in
    then_grows n p p0 (ended code q n c v p) (record { ready = g.ready; entries = g.entries; held = g.held; locks = g.locks })
    (then_grows n p0 (tell q n c v p0) (ended code q n c v p) (tell_grows n q n c v p0) (rejoined_grows n code q (length p.table) (tell q n c v p0)))

-- ---- locks

module _ (code : Code) (p p' : Processor) (n : ℕ) (grows : Grows n p p') where
  pub goes_still : (i o : ℕ) → (i ≡ n → ⊥) → GoesInto code p i o → GoesInto code p' i o
  goes_still i o apart g = record {
    fiber = g.fiber;
    caller = g.caller;
    entry = grows.entries i g.fiber g.caller apart g.entry;
    line = g.line;
    function = g.function;
    object = g.object;
    cell = g.cell;
    values = g.values;
    next = g.next;
    asks = g.asks;
    atomic = g.atomic;
    is = g.is;
  }

  -- of one lock
  pub lock_still : ((i o : ℕ) → p.hand ≡ Some i → (i ≡ n → ⊥) → IsUp p' i) → (o : ℕ) (l : Locked) → (l.holder ≡ n → GoesInto code p n o → ⊥)
      → (held_on p.shelf o ≡ true) ⊎ (IsUp p l.holder × GoesInto code p l.holder o) → (held_on p'.shelf o ≡ true) ⊎ (IsUp p' l.holder × GoesInto code p' l.holder o)
  lock_still hand o l none (inl e) = inl (grows.held o e)
  lock_still hand o l none (inr h) = by (nat_eq l.holder n) refl
    where
      by : (b : Bool) → nat_eq l.holder n ≡ b → (held_on p'.shelf o ≡ true) ⊎ (IsUp p' l.holder × GoesInto code p' l.holder o)
      by true e = let s = same_number l.holder n e in absurd (none s (subst (λ z. GoesInto code p z o) s h.1))
      by false e =
          let apart : l.holder ≡ n → ⊥ = λ s. absurd (false≢true (sym e ∙ subst (λ z. nat_eq l.holder z ≡ true) s (number_itself l.holder))) in
          inr (⊎_elim (λ (g : p.hand ≡ Some l.holder). hand l.holder o g apart) (λ (g : IsIn l.holder p.ready). inr (grows.ready l.holder g)) h.0, goes_still l.holder o apart h.1)

  pub locks_still : ((i o : ℕ) → p.hand ≡ Some i → (i ≡ n → ⊥) → IsUp p' i) → ((o : ℕ) → GoesInto code p n o → ⊥) → LocksWait code p → LocksWait code p'
  locks_still hand none h o l e = lock_still hand o l (λ s. none o) (h o l (ap (λ (f : ℕ → Option Locked). f o) (sym grows.locks) ∙ e))

pub same_goes_of : (code : Code) (p p' : Processor) (i o : ℕ) → (g : GoesInto code p i o) → slice_get p'.table i ≡ Some (Lives g.fiber Goes g.caller) → GoesInto code p' i o
same_goes_of code p p' i o g e = record {
  fiber = g.fiber;
  caller = g.caller;
  entry = e;
  line = g.line;
  function = g.function;
  object = g.object;
  cell = g.cell;
  values = g.values;
  next = g.next;
  asks = g.asks;
  atomic = g.atomic;
  is = g.is;
}
