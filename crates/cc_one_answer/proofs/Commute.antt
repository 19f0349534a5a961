-- Moves of threads that are apart commute, and a fault lasts.
use Rattle.std.proofs.Common.{◌≡◌, ◌≢◌, ◌⊎◌, ℕ, ◌+◌, ◌<◌, ◌≤◌, Bool, List, [], ◌∷◌, ◌++◌, length, Option, Some, None, refl, sym, ap, subst, ◌∙◌}
use Rattle.std.proofs.Common.{⊎_elim, inl, inr, arith, length-append, append-nil}
use Rattle.std.specs.Prelude.{slice_get}
use Rattle.std.specs.FinMap as fin
use Rattle.global_ptr.specs.declared.ends.FaultKind.{FaultKind}
use Rattle.global_ptr.specs.declared.ends.FaultKind.TheVariants.{SyncTwice, NullPointer, IndexOut}
use Rattle.cc_ops.specs.Values.{Void, Int, Null, Ptr, Plain, Empty, Full}
use Rattle.cc_ops.specs.Cells.{written}
use Rattle.cc_core.specs.Names.{Name, Map, Value, Cell, count}
use Rattle.cc_core.specs.Core.{Program, shapes, Shapes}
use Rattle.cc_core.specs.Asks.{Ask, Reads, Writes, Copies, Indexes, Shifts, Computes, Tests, Makes, MakesWith, Builds, Enters}
use Rattle.cc_core.specs.Asks.{Leaves, ForksAll, ForksOne, Joins, Spawns, Prints, Calls, Casts, NewProcessor}
use Rattle.cc_core.specs.Config.{Config, Thread, Live, Object, cell, cells_of, home, count_slots, count_threads}
use Rattle.cc_core.specs.Needs.{Unfilled, Go, Bad, check, and_also, check_all, needs, writable, most_threads, most_slots, most_processors}
use Rattle.cc_core.specs.Effects.{effect, branch_count, start_home, first_objects, answer}
use Rattle.cc_core.specs.Steps.{Moves, Change, settle, settle_all, apply, change, changed, step}
use Rattle.cc_core.specs.Laws.{NamesAreFree}
use Rattle.cc_core.proofs.Maps.{cases_name, IsKey, entry_of_key}
use Rattle.cc_core.proofs.Forks.{ForksAsAsked, forks_as_asked}
use Rattle.cc_core.proofs.Fresh.{tail_of, new_thread_is, new_object_is, Own, Copy, settled_key_is}
use Rattle.cc_one_answer.specs.Answer.{IsFaulty, Meet, MovesCommute}
use Rattle.cc_one_answer.specs.Apart.{IsAsking, AnyNeed, EachNeed, LooksAt, LooksThrough, IsThere, Leads, IsSilent, IsPlace, AreApart}
use Rattle.cc_one_answer.proofs.Swaps.{IsOne, IsWriting, AreOthers, puts_swap, threads_swap, slots_swap, objects_swap, cases_number}
use Rattle.cc_one_answer.proofs.Moves.{taken, IsMet, IsMove, Met, Taken, move_case, fault_case, step_goes, step_breaks, step_takes}
use Rattle.cc_one_answer.proofs.Distinct.{none_written, same_place, same_object, same_offset, hold_not_go, bad_not_go, hold_not_bad, some_not_none, fails_not_gives}
use Rattle.cc_one_answer.proofs.Adds.{threads_of, slots_of, processors_of, fits, constructs, IsLost, IsOver, OverThreads, OverSlots}
use Rattle.cc_one_answer.proofs.Adds.{OverProcessors, Clash, over, threads_here, threads_there, threads_are, slots_here, slots_there, processors_are, writes_are, both_go}
use Rattle.cc_one_answer.proofs.After.{IsMade, IsChange, Later, Same, Waited, Lacks, StaysBad, thread_stays, ended_stays, home_stays, old_object, full_now, all_later}

prints_swap : (xs a b : List ℕ) → (a ≡ []) ⊎ (b ≡ []) → (xs ++ a) ++ b ≡ (xs ++ b) ++ a
prints_swap xs a b h = ⊎_elim
    (λ (e : a ≡ []).
    ap (λ z. (xs ++ z) ++ b) e ∙ (ap (λ z. z ++ b) (append-nil xs) ∙ sym (ap (λ z. (xs ++ b) ++ z) e ∙ append-nil (xs ++ b))))
    (λ (e : b ≡ []).
    ap (λ z. (xs ++ a) ++ z) e ∙ (append-nil (xs ++ a) ∙ sym (ap (λ z. (xs ++ z) ++ a) e ∙ ap (λ z. z ++ a) (append-nil xs))))
    h

same_config : (x y : Config) → x.threads ≡ y.threads → x.objects ≡ y.objects → x.output ≡ y.output → x.processors ≡ y.processors
    → x.threads_made ≡ y.threads_made → x.slots_made ≡ y.slots_made → x ≡ y
same_config x y a b c d e f =
    λ i. record { threads = a i; objects = b i; output = c i; processors = d i; threads_made = e i; slots_made = f i }

-- the write that an ask makes where the cell may be assigned
module _ (h : Shapes) (s : Config) (t : Name) (l : Thread) where
  write_there : (o : Name) (x : ℕ) (v : Value) (a : Object) (there : fin.get s.objects o ≡ Some a) (c : Option Cell)
      → slice_get a.cells x ≡ c → (found : List Value) → writable c ≡ Go found → IsWriting s.objects ((Ptr o x, v) ∷ [])
  write_there o x v a there None e found g = let f : Bad IndexOut ≡ Go found = g in cc
  write_there o x v a there (Some (Plain w)) e found g = inr (record {
    o = o;
    x = x;
    v = v;
    is = refl;
    write = record { object = a; there = there; old = Plain w; cell = e; new = Plain v; fits = refl };
  })
  write_there o x v a there (Some Empty) e found g = inr (record {
    o = o;
    x = x;
    v = v;
    is = refl;
    write = record { object = a; there = there; old = Empty; cell = e; new = Full v; fits = refl };
  })
  write_there o x v a there (Some (Full w)) e found g = let f : Bad SyncTwice ≡ Go found = g in cc

  write_at : (o : Name) (x : ℕ) (v : Value) (a : Option Object) → fin.get s.objects o ≡ a → (found : List Value)
      → writable (slice_get (cells_of a) x) ≡ Go found → IsWriting s.objects ((Ptr o x, v) ∷ [])
  write_at o x v None there found g = let f : Bad IndexOut ≡ Go found = g in cc
  write_at o x v (Some a) there found g = write_there o x v a there (slice_get a.cells x) refl found g

  writing : (a v : Value) (found : List Value) → check h s t l (Unfilled a) ≡ Go found → IsWriting s.objects ((a, v) ∷ [])
  writing Void v found g = let f : Bad NullPointer ≡ Go found = g in cc
  writing (Int n) v found g = let f : Bad NullPointer ≡ Go found = g in cc
  writing Null v found g = let f : Bad NullPointer ≡ Go found = g in cc
  writing (Ptr o x) v found g = write_at o x v (fin.get s.objects o) refl found g

  pub writing_of : (ask : Ask Name) (found : List Value) → check_all h s t l (needs h ask) ≡ Go found
      → IsWriting s.objects (effect h t l ask found).writes
  writing_of (Reads remote a) found g = inl refl
  writing_of (Writes remote a v) found g = let b = both_go h s t l (check h s t l (Unfilled a)) (Go []) found g in writing a v b.0 b.2
  writing_of (Copies a n) found g = inl refl
  writing_of (Indexes a n i) found g = inl refl
  writing_of (Shifts a i) found g = inl refl
  writing_of (Computes op vs) found g = inl refl
  writing_of Tests found g = inl refl
  writing_of (Makes kind n) found g = inl refl
  writing_of (MakesWith kind v) found g = inl refl
  writing_of (Builds c vs) found g = inl refl
  writing_of (Enters f o vs) found g = inl refl
  writing_of Leaves found g = inl refl
  writing_of (ForksAll n) found g = inl refl
  writing_of (ForksOne v) found g = inl refl
  writing_of (Joins made) found g = inl refl
  writing_of (Spawns f o vs) found g = inl refl
  writing_of (Prints parts vs) found g = inl refl
  writing_of (Calls f o vs) found g = inl refl
  writing_of (Casts f o vs) found g = inl refl
  writing_of (NewProcessor c vs) found g = inl refl

silent_is : (h : Shapes) (t : Name) (l : Thread) (ask : Ask Name) (found : List Value) → IsSilent ask → (effect h t l ask found).prints ≡ []
silent_is h t l (Reads remote a) found e = refl
silent_is h t l (Writes remote a v) found e = refl
silent_is h t l (Copies a n) found e = refl
silent_is h t l (Indexes a n i) found e = refl
silent_is h t l (Shifts a i) found e = refl
silent_is h t l (Computes op vs) found e = refl
silent_is h t l Tests found e = refl
silent_is h t l (Makes kind n) found e = refl
silent_is h t l (MakesWith kind v) found e = refl
silent_is h t l (Builds c vs) found e = refl
silent_is h t l (Enters f o vs) found e = refl
silent_is h t l Leaves found e = refl
silent_is h t l (ForksAll n) found e = refl
silent_is h t l (ForksOne v) found e = refl
silent_is h t l (Joins made) found e = refl
silent_is h t l (Spawns f o vs) found e = refl
silent_is h t l (Prints parts vs) found e = absurd e
silent_is h t l (Calls f o vs) found e = refl
silent_is h t l (Casts f o vs) found e = refl
silent_is h t l (NewProcessor c vs) found e = refl

-- the processor of a pointer is looked at by remote asks alone
start_stays : (s r : Config) (l : Thread) (h : Shapes) (ask : Ask Name) → EachNeed (IsThere s) (needs h ask)
    → ((v : Value) → Leads s v → home r v ≡ home s v) → start_home r l ask ≡ start_home s l ask
start_stays s r l h (Reads remote a) e same = refl
start_stays s r l h (Writes remote a v) e same = refl
start_stays s r l h (Copies a n) e same = refl
start_stays s r l h (Indexes a n i) e same = refl
start_stays s r l h (Shifts a i) e same = refl
start_stays s r l h (Computes op vs) e same = refl
start_stays s r l h Tests e same = refl
start_stays s r l h (Makes kind n) e same = refl
start_stays s r l h (MakesWith kind v) e same = refl
start_stays s r l h (Builds c vs) e same = refl
start_stays s r l h (Enters f o vs) e same = refl
start_stays s r l h Leaves e same = refl
start_stays s r l h (ForksAll n) e same = refl
start_stays s r l h (ForksOne v) e same = refl
start_stays s r l h (Joins made) e same = refl
start_stays s r l h (Spawns f o vs) e same = refl
start_stays s r l h (Prints parts vs) e same = refl
start_stays s r l h (Calls f o vs) e same = same o e.1.0
start_stays s r l h (Casts f o vs) e same = same o e.1.0
start_stays s r l h (NewProcessor c vs) e same = refl

-- how many threads, cells and processors a change adds
pub record Adds (t : Name) (l : Thread) (c : Change) : Type 0 where
  pub threads : ℕ
  pub at : Name
  pub slots : ℕ
  pub processors : ℕ
  pub threads_here : (m : Map ℕ) → count (count_threads m c.new) at ≡ count m at + threads
  pub threads_there : (m : Map ℕ) (r : Name) → r ≢ at → count (count_threads m c.new) r ≡ count m r
  pub slots_here : (m : Map ℕ) → l.home ≢ l.objects ∷ t → count (count_slots m c.effect.objects) l.home ≡ count m l.home + slots
  pub slots_there : (m : Map ℕ) (r : Name) → r ≢ l.home → r ≢ l.objects ∷ t → count (count_slots m c.effect.objects) r ≡ count m r
  pub made : c.effect.processors ≡ processors

pub record AddsFit (s : Config) (t : Name) (l : Thread) (c : Change) (a : Adds t l c) : Type 0 where
  pub threads : 0 < a.threads → count s.threads_made a.at + a.threads ≤ most_threads
  pub slots : 0 < a.slots → count s.slots_made l.home + a.slots ≤ most_slots
  pub processors : 0 < a.processors → s.processors + a.processors ≤ most_processors

module _ (p : Program) (s : Config) (free : NamesAreFree s) (apart : AreApart p s) where
  abbrev h : Shapes
  h = shapes p

  abbrev pub change_met : (t : Name) (a : IsAsking p s t) (found : List Value) → check_all h s t a.l (needs h a.ask) ≡ Go found
      → IsChange s t (change p t s a.l a.ask a.k found)
  change_met t a found met =
      let e = effect h t a.l a.ask found in
      let x = a.k (answer a.l a.ask e found) in
      record {
        l = a.l;
        live = a.live;
        threads = λ u k.
            let n = entry_of_key u _ k in
            let i = new_thread_is t a.l.threads (start_home s a.l a.ask) (first_objects a.ask) (e.starts ++ x.branches) u n.0 n.1 in
            (i.number, i.named, i.low);
        objects = λ o k. elim (new_object_is h t a.l a.ask found o k) [
          | Own i ↦ inl (i.number, i.named, i.low)
          | Copy i ↦ inr i.named
        ];
        writes = writing_of h s t a.l a.ask found met;
      }

  abbrev adds_met : (t : Name) (a : IsAsking p s t) (found : List Value) → check_all h s t a.l (needs h a.ask) ≡ Go found
      → Adds t a.l (change p t s a.l a.ask a.k found)
  adds_met t a found met =
      let e = effect h t a.l a.ask found in
      let x = a.k (answer a.l a.ask e found) in
      let q = start_home s a.l a.ask in
      let terms = e.starts ++ x.branches in
      record {
        threads = threads_of a.ask;
        at = q;
        slots = slots_of h a.ask;
        processors = processors_of a.ask;
        threads_here = λ m.
            threads_here t a.l.threads q (first_objects a.ask) terms m ∙ ap (λ n. count m q + n) (how_many_made t a found);
        threads_there = λ m r ne. threads_there t a.l.threads q (first_objects a.ask) terms m r ne;
        slots_here = λ m ne. slots_here h t a.l m a.ask found s (constructs h s t a.l a.ask found met) ne;
        slots_there = λ m r ne new. slots_there h t a.l m a.ask found r ne new;
        made = processors_are h t a.l a.ask found;
      }
    where
      how_many_made : (t : Name) (a : IsAsking p s t) (found : List Value)
          → length ((effect h t a.l a.ask found).starts ++ (a.k (answer a.l a.ask (effect h t a.l a.ask found) found)).branches)
          ≡ threads_of a.ask
      how_many_made t a found =
          let e = effect h t a.l a.ask found in
          let x = a.k (answer a.l a.ask e found) in
          let branches : length x.branches ≡ branch_count a.ask =
          subst ForksAsAsked a.asks (forks_as_asked p a.l.term) (answer a.l a.ask e found) in
          length-append e.starts x.branches
          ∙ (ap (λ n. length e.starts + n) branches ∙ threads_are h t a.l a.ask found)

  -- a move, as a change

  abbrev change_by : (t : Name) (s1 : Config) → IsMove p t s s1 → Change
  change_by t s1 (Met m) = change p t s m.a.l m.a.ask m.a.k m.found
  change_by t s1 (Taken j) = taken j.a.l j.a.k j.v

  abbrev thread_by : (t : Name) (s1 : Config) → IsMove p t s s1 → Thread
  thread_by t s1 (Met m) = m.a.l
  thread_by t s1 (Taken j) = j.a.l

  is_by : (t : Name) (s1 : Config) (m : IsMove p t s s1) → s1 ≡ apply p t (change_by t s1 m) s
  is_by t s1 (Met m) = m.is
  is_by t s1 (Taken j) = j.is

  is_change : (t : Name) (s1 : Config) (m : IsMove p t s s1) → IsChange s t (change_by t s1 m)
  is_change t s1 (Met m) = change_met t m.a m.found m.met
  is_change t s1 (Taken j) = record {
    l = j.a.l;
    live = j.a.live;
    threads = λ u k. absurd k;
    objects = λ o k. absurd k;
    writes = inl refl;
  }

  live_by : (t : Name) (s1 : Config) (m : IsMove p t s s1) → fin.get s.threads t ≡ Some (Live (thread_by t s1 m))
  live_by t s1 (Met m) = m.a.live
  live_by t s1 (Taken j) = j.a.live

  abbrev adds_by : (t : Name) (s1 : Config) (m : IsMove p t s s1) → Adds t (thread_by t s1 m) (change_by t s1 m)
  adds_by t s1 (Met m) = adds_met t m.a m.found m.met
  adds_by t s1 (Taken j) = record {
    threads = 0;
    at = [];
    slots = 0;
    processors = 0;
    threads_here = λ m. omega arith;
    threads_there = λ m r ne. refl;
    slots_here = λ m ne. omega arith;
    slots_there = λ m r ne new. refl;
    made = refl;
  }

  silent_by : (t u : Name) (s1 s2 : Config) → t ≢ u → (m : IsMove p t s s1) (n : IsMove p u s s2)
      → ((change_by t s1 m).effect.prints ≡ []) ⊎ ((change_by u s2 n).effect.prints ≡ [])
  silent_by t u s1 s2 ne (Taken j) n = inl refl
  silent_by t u s1 s2 ne (Met m) (Taken j) = inr refl
  silent_by t u s1 s2 ne (Met m) (Met n) = ⊎_elim
      (λ (a : IsSilent m.a.ask). inl (silent_is h t m.a.l m.a.ask m.found a))
      (λ (b : IsSilent n.a.ask). inr (silent_is h u n.a.l n.a.ask n.found b))
      (apart.prints t u ne m.a n.a)

  -- what u needs, after the move of t

  -- a plain cell that t writes is none that u looks at
  unwritten : (t u : Name) (s1 : Config) → t ≢ u → (m : IsMove p t s s1) (b : IsAsking p s u) (o : Name) (x : ℕ) (v w : Value)
      → (change_by t s1 m).effect.writes ≡ (Ptr o x, v) ∷ [] → cell s o x ≡ Some (Plain w) → AnyNeed (LooksAt o x) (needs h b.ask) → ⊥
  unwritten t u s1 ne (Taken j) b o x v w e f k = none_written _ e
  unwritten t u s1 ne (Met m) b o x v w e f k = ⊎_elim
      (λ (none : (effect h t m.a.l m.a.ask m.found).writes ≡ []). none_written _ (sym none ∙ e))
      (λ (i : (remote : Bool) × (a : Value) × (v' : Value) × (m.a.ask ≡ Writes remote a v')
      × ((effect h t m.a.l m.a.ask m.found).writes ≡ (a, v') ∷ [])).
      let to = same_place i.1 i.2 (Ptr o x) v (sym i.4 ∙ e) in
      apart.cells t u ne m.a b i.0 o x i.2 w (i.3 ∙ ap (λ y. Writes i.0 y i.2) to) f k)
      (writes_are h t m.a.l m.a.ask m.found)

  uncopied : (t u : Name) (s1 : Config) → t ≢ u → (m : IsMove p t s s1) (b : IsAsking p s u) (o : Name) (x : ℕ) (v : Value)
      → (change_by t s1 m).effect.writes ≡ (Ptr o x, v) ∷ [] → AnyNeed (LooksThrough o) (needs h b.ask) → ⊥
  uncopied t u s1 ne (Taken j) b o x v e k = none_written _ e
  uncopied t u s1 ne (Met m) b o x v e k = ⊎_elim
      (λ (none : (effect h t m.a.l m.a.ask m.found).writes ≡ []). none_written _ (sym none ∙ e))
      (λ (i : (remote : Bool) × (a : Value) × (v' : Value) × (m.a.ask ≡ Writes remote a v')
      × ((effect h t m.a.l m.a.ask m.found).writes ≡ (a, v') ∷ [])).
      let to = same_place i.1 i.2 (Ptr o x) v (sym i.4 ∙ e) in
      apart.whole t u ne m.a b i.0 o x i.2 (i.3 ∙ ap (λ y. Writes i.0 y i.2) to) k)
      (writes_are h t m.a.l m.a.ask m.found)

  module _ (t u : Name) (ne : t ≢ u) (s1 : Config) (m : IsMove p t s s1) where
    abbrev c : Change
    c = change_by t s1 m

    abbrev r : Config
    r = apply p t c s

    other : u ≢ t
    other e = ne (sym e)

    abbrev asks_still : IsAsking p s u → IsAsking p r u
    asks_still b = record {
      l = b.l;
      line = b.line;
      ask = b.ask;
      k = b.k;
      live = thread_stays p s t c free (is_change t s1 m) u (Live b.l) other b.live;
      asks = b.asks;
      not_asked = b.not_asked;
    }

    later : (b : IsAsking p s u)
        → Later (check_all h s u b.l (needs h b.ask)) (check_all h r u b.l (needs h b.ask)) (AnyNeed (IsLost h s r c b.l) (needs h b.ask))
    later b = all_later p s t c free (is_change t s1 m) h u b.l apart.not_atomic (needs h b.ask) (apart.there u b)
        (unwritten t u s1 ne m b) (uncopied t u s1 ne m b)

    same_change : (b : IsAsking p s u) (found : List Value) → change p u r b.l b.ask b.k found ≡ change p u s b.l b.ask b.k found
    same_change b found =
        let e = effect h u b.l b.ask found in
        ap (λ q. changed u b.l b.ask (b.k (answer b.l b.ask e found)) q e)
        (start_stays s r b.l h b.ask (apart.there u b) (home_stays p s t c free (is_change t s1 m)))

    -- u's needs are met again
    abbrev Goes : (s2 : Config) → IsMove p u s s2 → Type 0
    Goes s2 (Met n) = check_all h r u n.a.l (needs h n.a.ask) ≡ Go n.found
    Goes s2 (Taken j) = Unit {0}

    abbrev Over : (s2 : Config) → IsMove p u s s2 → Type 0
    Over s2 (Met n) = IsOver h s r c n.a.l n.a.ask
    Over s2 (Taken j) = ⊥

    pub data Again (s2 : Config) (n : IsMove p u s s2) : Type 0 where
      MovesOn : step p u r ≡ Moves (apply p u (change_by u s2 n) r) → Goes s2 n → Again s2 n
      Breaks : IsFaulty p u r → Over s2 n → Again s2 n

    again_met : (s2 : Config) (n : IsMet p u s s2) → Again s2 (Met n)
    again_met s2 n = elim (later n.a) [
      | Same e ↦
          let go : check_all h r u n.a.l (needs h n.a.ask) ≡ Go n.found = sym e ∙ n.met in
          MovesOn
          (step_goes p r u (asks_still n.a) n.found go ∙ ap (λ z. Moves (apply p u z r)) (same_change n.a n.found))
          go
      | Waited e ↦ absurd (hold_not_go n.found (sym e ∙ n.met))
      | Lacks found e kind f lost ↦ Breaks (kind, n.a.line, step_breaks p r u (asks_still n.a) kind f) (over h s r c n.a.l n.a.ask lost)
      | StaysBad kind e worse f ↦ absurd (bad_not_go kind n.found (sym e ∙ n.met))
    ]

    pub again : (s2 : Config) (n : IsMove p u s s2) → Again s2 n
    again s2 (Met n) = again_met s2 n
    again s2 (Taken j) = MovesOn
        (step_takes p r u (record {
          l = j.a.l;
          line = j.a.line;
          ask = j.a.ask;
          k = j.a.k;
          live = thread_stays p s t c free (is_change t s1 m) u (Live j.a.l) other j.a.live;
          asks = j.a.asks;
          made = j.a.made;
          asked = j.a.asked;
        }) j.v (ended_stays p s t c free (is_change t s1 m) (j.a.made ∷ u) j.v j.ended))
        tt

    pub breaks_still : (b : IsAsking p s u) (kind : FaultKind) → check_all h s u b.l (needs h b.ask) ≡ Bad kind → IsFaulty p u r
    breaks_still b kind bad = elim (later b) [
      | Same e ↦ (kind, b.line, step_breaks p r u (asks_still b) kind (sym e ∙ bad))
      | Waited e ↦ absurd (hold_not_bad kind (sym e ∙ bad))
      | Lacks found e j f lost ↦ absurd (bad_not_go kind found (sym (sym e ∙ bad)))
      | StaysBad j e worse f ↦ (worse, b.line, step_breaks p r u (asks_still b) worse f)
    ]

    -- where both go, they write different cells
    both_write : (n : IsAsking p s u) (found : List Value) (remote : Bool) (v : Value) (w : IsOne s.objects c.effect.writes)
        → n.ask ≡ Writes remote (Ptr w.o w.x) v → check_all h r u n.l (needs h n.ask) ≡ Go found → ⊥
    both_write n found remote v w is went = old w.write.old refl
      where
        was : cell s w.o w.x ≡ Some w.write.old
        was = ap (λ z. slice_get (cells_of z) w.x) w.write.there ∙ w.write.cell

        old : (z : Cell) → w.write.old ≡ z → ⊥
        old (Plain y) e =
            unwritten t u s1 ne m n w.o w.x w.v y w.is (was ∙ ap Some e)
            (subst (λ q. AnyNeed (LooksAt w.o w.x) (needs h q)) (sym is) (inl refl))
        old Empty e =
            let bad : and_also (writable (cell r w.o w.x)) (Go []) ≡ Go found =
            subst (λ q. check_all h r u n.l (needs h q) ≡ Go found) is went in
            bad_not_go SyncTwice found
            (sym (ap (λ y. and_also (writable y) (Go [])) (full_now p s t c free (is_change t s1 m) w e)) ∙ bad)
        old (Full y) e =
            fails_not_gives SyncTwice w.write.new (ap (λ q. written q w.v) (sym e) ∙ w.write.fits)

    pub others : (s2 : Config) (n : IsMove p u s s2) → Goes s2 n → AreOthers s.objects c.effect.writes (change_by u s2 n).effect.writes
    others s2 (Taken j) went w z e f = none_written _ z.is
    others s2 (Met n) went w z e f = ⊎_elim
        (λ (none : (effect h u n.a.l n.a.ask n.found).writes ≡ []). none_written _ (sym none ∙ z.is))
        (λ (i : (remote : Bool) × (a : Value) × (v : Value) × (n.a.ask ≡ Writes remote a v)
        × ((effect h u n.a.l n.a.ask n.found).writes ≡ (a, v) ∷ [])).
        let to = same_place i.1 i.2 (Ptr z.o z.x) z.v (sym i.4 ∙ z.is) in
        let here : Ptr z.o z.x ≡ Ptr w.o w.x = ap (λ q. Ptr q z.x) (sym e) ∙ ap (Ptr w.o) (sym f) in
        both_write n.a n.found i.0 i.2 w (i.3 ∙ ap (λ q. Writes i.0 q i.2) (to ∙ here)) went)
        (writes_are h u n.a.l n.a.ask n.found)

    fits_again : (s2 : Config) (n : IsMove p u s s2) → Goes s2 n
        → AddsFit r u (thread_by u s2 n) (change_by u s2 n) (adds_by u s2 n)
    fits_again s2 (Taken j) went = record {
      threads = λ z. absurd (omega (arith, z));
      slots = λ z. absurd (omega (arith, z));
      processors = λ z. absurd (omega (arith, z));
    }
    fits_again s2 (Met n) went =
        let f = fits h r u n.a.l n.a.ask n.found went in
        let here = start_stays s r n.a.l h n.a.ask (apart.there u n.a) (home_stays p s t c free (is_change t s1 m)) in
        record {
          threads = λ z. subst (λ q. count r.threads_made q + threads_of n.a.ask ≤ most_threads) here (f.threads z);
          slots = f.slots;
          processors = f.processors;
        }

  place_is_old : (q o : Name) → IsPlace s q → o ≢ [] → fin.get s.objects o ≡ None → q ≢ o
  place_is_old q o place long none e = ⊎_elim
      (λ (root : q ≡ []). long (sym e ∙ root))
      (λ (a : (a : Object) × (fin.get s.objects q ≡ Some a)).
      some_not_none a.0 (sym a.1 ∙ (ap (fin.get s.objects) e ∙ none)))
      place

  not_root : (k : ℕ) (t : Name) → k ∷ t ≢ []
  not_root k t e = let f : [] ≡ k ∷ t = sym e in cc

  home_is_old : (t u : Name) (l m : Thread) → fin.get s.threads t ≡ Some (Live l) → fin.get s.threads u ≡ Some (Live m)
      → l.home ≢ m.objects ∷ u
  home_is_old t u l m live there =
      place_is_old l.home (m.objects ∷ u) (apart.places t l live) (not_root m.objects u)
      (free.objects u m there m.objects (omega arith))

  -- where u goes after t, t goes after u
  module _ (t u : Name) (ne : t ≢ u) (s1 s2 : Config) (m : IsMove p t s s1) (n : IsMove p u s s2) where
    abbrev at : Adds t (thread_by t s1 m) (change_by t s1 m)
    at = adds_by t s1 m

    abbrev au : Adds u (thread_by u s2 n) (change_by u s2 n)
    au = adds_by u s2 n

    abbrev r1 : Config
    r1 = apply p t (change_by t s1 m) s

    abbrev r2 : Config
    r2 = apply p u (change_by u s2 n) s

    no_threads : AddsFit r1 u (thread_by u s2 n) (change_by u s2 n) au → count s.threads_made at.at + at.threads ≤ most_threads
        → most_threads < count r2.threads_made at.at + at.threads → ⊥
    no_threads f fit over = ⊎_elim
        (λ (e : at.at ≡ au.at). ⊎_elim
        (λ (z : au.threads ≡ 0).
        let a = subst (λ q. count (count_threads s.threads_made (change_by u s2 n).new) q ≡ count s.threads_made q + au.threads) (sym e)
        (au.threads_here s.threads_made) in
        absurd (omega (arith, a, z, fit, over)))
        (λ (z : au.threads ≢ 0).
        let a = subst (λ q. count (count_threads s.threads_made (change_by u s2 n).new) q ≡ count s.threads_made q + au.threads) (sym e)
        (au.threads_here s.threads_made) in
        let b = at.threads_here s.threads_made in
        let g = subst (λ q. count r1.threads_made q + au.threads ≤ most_threads) (sym e) (f.threads (omega (arith, z))) in
        absurd (omega (arith, a, b, g, over)))
        (cases_number au.threads 0))
        (λ (e : at.at ≢ au.at). let a = au.threads_there s.threads_made at.at e in absurd (omega (arith, a, fit, over)))
        (cases_name at.at au.at)

    no_slots : AddsFit r1 u (thread_by u s2 n) (change_by u s2 n) au
        → count s.slots_made (thread_by t s1 m).home + at.slots ≤ most_slots
        → most_slots < count r2.slots_made (thread_by t s1 m).home + at.slots → ⊥
    no_slots f fit over = ⊎_elim
        (λ (e : (thread_by t s1 m).home ≡ (thread_by u s2 n).home). ⊎_elim
        (λ (z : au.slots ≡ 0). let a = here e in absurd (omega (arith, a, z, fit, over)))
        (λ (z : au.slots ≢ 0).
        let a = here e in
        let b = at.slots_here s.slots_made (home_is_old t t _ _ (live_by t s1 m) (live_by t s1 m)) in
        let g = subst (λ q. count r1.slots_made q + au.slots ≤ most_slots) (sym e) (f.slots (omega (arith, z))) in
        absurd (omega (arith, a, b, g, over)))
        (cases_number au.slots 0))
        (λ (e : (thread_by t s1 m).home ≢ (thread_by u s2 n).home).
        let a = au.slots_there s.slots_made (thread_by t s1 m).home e (home_is_old t u _ _ (live_by t s1 m) (live_by u s2 n)) in
        absurd (omega (arith, a, fit, over)))
        (cases_name (thread_by t s1 m).home (thread_by u s2 n).home)
      where
        here : (thread_by t s1 m).home ≡ (thread_by u s2 n).home
            → count (count_slots s.slots_made (change_by u s2 n).effect.objects) (thread_by t s1 m).home
            ≡ count s.slots_made (thread_by t s1 m).home + au.slots
        here e = subst (λ q. count (count_slots s.slots_made (change_by u s2 n).effect.objects) q ≡ count s.slots_made q + au.slots) (sym e)
            (au.slots_here s.slots_made (home_is_old u u _ _ (live_by u s2 n) (live_by u s2 n)))

    no_processors : AddsFit r1 u (thread_by u s2 n) (change_by u s2 n) au → s.processors + at.processors ≤ most_processors
        → most_processors < r2.processors + at.processors → ⊥
    no_processors f fit over = ⊎_elim
        (λ (z : au.processors ≡ 0). let a = au.made in absurd (omega (arith, a, z, fit, over)))
        (λ (z : au.processors ≢ 0).
        let a = au.made in let b = at.made in let g = f.processors (omega (arith, z)) in absurd (omega (arith, a, b, g, over)))
        (cases_number au.processors 0)

    keys_apart : (q : Name) → IsKey q ((u, settle p (change_by u s2 n).thread) ∷ settle_all p (change_by u s2 n).new)
        → IsKey q ((t, settle p (change_by t s1 m).thread) ∷ settle_all p (change_by t s1 m).new) → ⊥
    keys_apart q a b = ⊎_elim
        (λ (e : q ≡ u). ⊎_elim
        (λ (f : q ≡ t). ne (sym f ∙ e))
        (λ (f : IsKey q (settle_all p (change_by t s1 m).new)). not_new t s1 m u s2 n q e f)
        b)
        (λ (e : IsKey q (settle_all p (change_by u s2 n).new)). ⊎_elim
        (λ (f : q ≡ t). not_new u s2 n t s1 m q f e)
        (λ (f : IsKey q (settle_all p (change_by t s1 m).new)).
        let i = (is_change u s2 n).threads q (settled_key_is p _ q e) in
        let j = (is_change t s1 m).threads q (settled_key_is p _ q f) in
        ne (tail_of j.0 i.0 t u (sym j.1 ∙ i.1)))
        b)
        a
      where
        not_new : (t : Name) (s1 : Config) (m : IsMove p t s s1) (u : Name) (s2 : Config) (n : IsMove p u s s2) (q : Name) → q ≡ u
            → IsKey q (settle_all p (change_by t s1 m).new) → ⊥
        not_new t s1 m u s2 n q e f =
            let j = (is_change t s1 m).threads q (settled_key_is p _ q f) in
            let none = free.threads t _ (is_change t s1 m).live j.0 j.2 in
            some_not_none (Live (thread_by u s2 n)) (sym (live_by u s2 n) ∙ (ap (fin.get s.threads) (sym e ∙ j.1) ∙ none))

    made_apart : (q : Name) → IsKey q (change_by u s2 n).effect.objects → IsKey q (change_by t s1 m).effect.objects → ⊥
    made_apart q a b =
        both (is_change u s2 n).l (is_change t s1 m).l (is_change u s2 n).live (is_change t s1 m).live
        ((is_change u s2 n).objects q a) ((is_change t s1 m).objects q b)
      where
        both : (k l : Thread) → fin.get s.threads u ≡ Some (Live k) → fin.get s.threads t ≡ Some (Live l) → IsMade u k q → IsMade t l q → ⊥
        both k l lu lt x y = ⊎_elim
            (λ (i : (i : ℕ) × (q ≡ i ∷ u) × (k.objects ≤ i)). ⊎_elim
            (λ (j : (j : ℕ) × (q ≡ j ∷ t) × (l.objects ≤ j)). ne (tail_of j.0 i.0 t u (sym j.1 ∙ i.1)))
            (λ (j : q ≡ 0 ∷ l.threads ∷ t).
            let e : u ≡ l.threads ∷ t = tail_of i.0 0 u (l.threads ∷ t) (sym i.1 ∙ j) in
            some_not_none (Live k) (sym lu ∙ (ap (fin.get s.threads) e ∙ free.threads t l lt l.threads (omega arith))))
            y)
            (λ (i : q ≡ 0 ∷ k.threads ∷ u). ⊎_elim
            (λ (j : (j : ℕ) × (q ≡ j ∷ t) × (l.objects ≤ j)).
            let e : t ≡ k.threads ∷ u = tail_of j.0 0 t (k.threads ∷ u) (sym j.1 ∙ i) in
            some_not_none (Live l) (sym lt ∙ (ap (fin.get s.threads) e ∙ free.threads u k lu k.threads (omega arith))))
            (λ (j : q ≡ 0 ∷ l.threads ∷ t).
            let e : k.threads ∷ u ≡ l.threads ∷ t = tail_of 0 0 (k.threads ∷ u) (l.threads ∷ t) (sym i ∙ j) in
            ne (sym (tail_of k.threads l.threads u t e)))
            y)
            x

    -- both orders lead to one configuration
    commute : AreOthers s.objects (change_by t s1 m).effect.writes (change_by u s2 n).effect.writes
        → apply p u (change_by u s2 n) r1 ≡ apply p t (change_by t s1 m) r2
    commute others = same_config _ _
        (puts_swap ((u, settle p (change_by u s2 n).thread) ∷ settle_all p (change_by u s2 n).new)
        ((t, settle p (change_by t s1 m).thread) ∷ settle_all p (change_by t s1 m).new) s.threads keys_apart)
        (objects_swap (change_by t s1 m).effect.objects (change_by u s2 n).effect.objects s.objects
        (change_by t s1 m).effect.writes (change_by u s2 n).effect.writes (is_change t s1 m).writes (is_change u s2 n).writes others
        (λ w k. old_object p s t (change_by t s1 m) free (is_change t s1 m) w.o w.write.object w.write.there k)
        (λ w k. old_object p s u (change_by u s2 n) free (is_change u s2 n) w.o w.write.object w.write.there k)
        made_apart)
        (prints_swap s.output (change_by t s1 m).effect.prints (change_by u s2 n).effect.prints (silent_by t u s1 s2 ne m n))
        (omega arith)
        (threads_swap (change_by t s1 m).new (change_by u s2 n).new s.threads_made)
        (slots_swap (change_by t s1 m).effect.objects (change_by u s2 n).effect.objects s.slots_made)

  not_over : (t u : Name) (ne : t ≢ u) (s1 s2 : Config) (m : IsMove p t s s1) (n : IsMove p u s s2) → Goes t u ne s1 m s2 n
      → Over u t (λ e. ne (sym e)) s2 n s1 m → ⊥
  not_over t u ne s1 s2 (Taken j) n went o = o
  not_over t u ne s1 s2 (Met m) n went o = from o
    where
      fit : AddsFit (apply p t (change_by t s1 (Met m)) s) u (thread_by u s2 n) (change_by u s2 n) (adds_by u s2 n)
      fit = fits_again t u ne s1 (Met m) s2 n went

      clash : (remote : Bool) (a v : Value) → m.a.ask ≡ Writes remote a v → (o : Name) (x : ℕ) (y : Value) → a ≡ Ptr o x
          → (change_by u s2 n).effect.writes ≡ (Ptr o x, y) ∷ [] → ⊥
      clash remote a v is o x y to wrote = ⊎_elim
          (λ (none : (change_by t s1 (Met m)).effect.writes ≡ []).
          let e : (effect h t m.a.l m.a.ask m.found).writes ≡ (a, v) ∷ [] = ap (λ q. (effect h t m.a.l q m.found).writes) is in
          none_written _ (sym none ∙ e))
          (λ (w : IsOne s.objects (change_by t s1 (Met m)).effect.writes). ⊎_elim
          (λ (none : (change_by u s2 n).effect.writes ≡ []). none_written _ (sym none ∙ wrote))
          (λ (z : IsOne s.objects (change_by u s2 n).effect.writes).
          let e : (effect h t m.a.l m.a.ask m.found).writes ≡ (a, v) ∷ [] = ap (λ q. (effect h t m.a.l q m.found).writes) is in
          let f = same_place (Ptr w.o w.x) w.v (Ptr o x) v (sym w.is ∙ (e ∙ ap (λ q. (q, v) ∷ []) to)) in
          let g = same_place (Ptr z.o z.x) z.v (Ptr o x) y (sym z.is ∙ wrote) in
          let wo = same_object w.o o w.x x f in
          let wx = same_offset w.o o w.x x f in
          let zo = same_object z.o o z.x x g in
          let zx = same_offset z.o o z.x x g in
          others t u ne s1 (Met m) s2 n went w z (wo ∙ sym zo) (wx ∙ sym zx))
          (is_change u s2 n).writes)
          (is_change t s1 (Met m)).writes

      from : IsOver h s (apply p u (change_by u s2 n) s) (change_by u s2 n) m.a.l m.a.ask → ⊥
      from (OverThreads a b) = no_threads t u ne s1 s2 (Met m) n fit a b
      from (OverSlots a b) = no_slots t u ne s1 s2 (Met m) n fit a b
      from (OverProcessors a b) = no_processors t u ne s1 s2 (Met m) n fit a b
      from (Clash remote a v is lost) = clash remote a v is lost.0 lost.1 lost.2 lost.3 lost.4

  meet : (t u : Name) (ne : t ≢ u) (s1 s2 : Config) (m : IsMove p t s s1) (n : IsMove p u s s2)
      → Meet p t u (apply p t (change_by t s1 m) s) (apply p u (change_by u s2 n) s)
  meet t u ne s1 s2 m n = elim (again t u ne s1 m s2 n) [
    | Breaks f over ↦ inr f
    | MovesOn e went ↦ second e went (again u t (λ z. ne (sym z)) s2 n s1 m)
  ]
    where
      second : step p u (apply p t (change_by t s1 m) s) ≡ Moves (apply p u (change_by u s2 n) (apply p t (change_by t s1 m) s))
          → Goes t u ne s1 m s2 n → Again u t (λ z. ne (sym z)) s2 n s1 m
          → Meet p t u (apply p t (change_by t s1 m) s) (apply p u (change_by u s2 n) s)
      second e went (MovesOn f back) = inl (
        apply p u (change_by u s2 n) (apply p t (change_by t s1 m) s),
        e,
        f ∙ ap Moves (sym (commute t u ne s1 s2 m n (others t u ne s1 m s2 n went))),
      )
      second e went (Breaks f over) = absurd (not_over t u ne s1 s2 m n went over)

  pub apart_commute : MovesCommute p s
  apart_commute = record {
    two_moves = λ t u s1 s2 ne a b.
        let m = move_case p t s s1 a in
        let n = move_case p u s s2 b in
        subst (λ x. Meet p t u x s2) (sym (is_by t s1 m))
        (subst (λ x. Meet p t u (apply p t (change_by t s1 m) s) x) (sym (is_by u s2 n)) (meet t u ne s1 s2 m n));
    fault_lasts = λ t u s1 ne a f.
        let m = move_case p t s s1 a in
        let b = fault_case p u s f.0 f.1 f.2 in
        subst (IsFaulty p u) (sym (is_by t s1 m)) (breaks_still t u ne s1 m b.a b.kind b.bad);
  }
