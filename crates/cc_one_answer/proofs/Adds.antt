-- How many threads, cells and processors a move adds, and that they are as many as its needs ask room for.
use Rattle.std.proofs.Common.{◌≡◌, ◌≢◌, ◌⊎◌, ℕ, zero, suc, ◌+◌, ◌<◌, ◌≤◌, Bool, true, false, cond, List, [], ◌∷◌, ◌++◌, length, Option, Some, None, refl, sym, ap, subst, ◌∙◌}
use Rattle.std.proofs.Common.{⊎_elim, inl, inr, arith, length-append}
use Rattle.std.specs.Prelude.{nat_le, slice_get, slice_set, replicate, drop}
use Rattle.std.proofs.lemmas.Bool.{cases_Bool, leb-true, leb-false}
use Rattle.global_ptr.specs.declared.ends.FaultKind.{FaultKind}
use Rattle.cc_ops.specs.Values.{Ptr, Plain, Empty, Result, Gives, Fails, on_gives, fresh, started, first, after_first}
use Rattle.cc_ops.specs.Cells.{written, write_at}
use Rattle.cc_ops.specs.Classes.{BuildSet, ClassShape, construct, assign, assign_all, fresh_cells, size, arity, evaluate, place}
use Rattle.cc_ops.specs.declared.kind.Kind.{Kind}
use Rattle.cc_ops.specs.declared.shape.CellRun.{CellRun}
use Rattle.cc_core.specs.Names.{Name, same_name, Map, Value, Cell, count, added}
use Rattle.cc_core.specs.Core.{Term, Shapes, class_shape, function_shape}
use Rattle.cc_core.specs.Asks.{Ask, Reads, Writes, Copies, Indexes, Shifts, Computes, Tests, Makes, MakesWith, Builds, Enters}
use Rattle.cc_core.specs.Asks.{Leaves, ForksAll, ForksOne, Joins, Spawns, Prints, Calls, Casts, NewProcessor}
use Rattle.cc_core.specs.Config.{Config, Thread, cell, home, count_threads, count_slots}
use Rattle.cc_core.specs.Needs.{Need, Known, Filled, Unfilled, AllCells, Object as ObjectNeed, Free, Done, Deeper, Threads, ThreadAt}
use Rattle.cc_core.specs.Needs.{Slots, FirstSlots, Processor, Constructs, Verdict, Go, Hold, Bad, room, check, and_also, check_all, needs, of_result}
use Rattle.cc_core.specs.Needs.{most_threads, most_slots, most_processors}
use Rattle.cc_core.specs.Effects.{effect, branch_count, start_home, cells_with, parameters, constructed}
use Rattle.cc_core.specs.Steps.{new_threads, Change}
use Rattle.cc_core.proofs.Maps.{count-added_same, count-added_other}
use Rattle.cc_one_answer.specs.Apart.{AnyNeed, EachNeed}

-- how many threads an ask makes
abbrev pub threads_of : Ask Name → ℕ
threads_of (Reads remote a) = 0
threads_of (Writes remote a v) = 0
threads_of (Copies a n) = 0
threads_of (Indexes a n i) = 0
threads_of (Shifts a i) = 0
threads_of (Computes op vs) = 0
threads_of Tests = 0
threads_of (Makes kind n) = 0
threads_of (MakesWith kind v) = 0
threads_of (Builds c vs) = 0
threads_of (Enters f o vs) = 0
threads_of Leaves = 0
threads_of (ForksAll n) = n
threads_of (ForksOne v) = 1
threads_of (Joins made) = 0
threads_of (Spawns f o vs) = 1
threads_of (Prints parts vs) = 0
threads_of (Calls f o vs) = 1
threads_of (Casts f o vs) = 1
threads_of (NewProcessor c vs) = 0

-- how many cells an ask makes on the processor of its thread
abbrev pub slots_of : Shapes → Ask Name → ℕ
slots_of h (Reads remote a) = 0
slots_of h (Writes remote a v) = 0
slots_of h (Copies a n) = 0
slots_of h (Indexes a n i) = 0
slots_of h (Shifts a i) = 0
slots_of h (Computes op vs) = 0
slots_of h Tests = 0
slots_of h (Makes kind n) = n
slots_of h (MakesWith kind v) = 1
slots_of h (Builds c vs) = size (class_shape h c).cells
slots_of h (Enters f o vs) = arity (function_shape h f).params
slots_of h Leaves = 0
slots_of h (ForksAll n) = 0
slots_of h (ForksOne v) = 1
slots_of h (Joins made) = 0
slots_of h (Spawns f o vs) = 0
slots_of h (Prints parts vs) = 0
slots_of h (Calls f o vs) = 0
slots_of h (Casts f o vs) = 0
slots_of h (NewProcessor c vs) = 0

abbrev pub processors_of : Ask Name → ℕ
processors_of (Reads remote a) = 0
processors_of (Writes remote a v) = 0
processors_of (Copies a n) = 0
processors_of (Indexes a n i) = 0
processors_of (Shifts a i) = 0
processors_of (Computes op vs) = 0
processors_of Tests = 0
processors_of (Makes kind n) = 0
processors_of (MakesWith kind v) = 0
processors_of (Builds c vs) = 0
processors_of (Enters f o vs) = 0
processors_of Leaves = 0
processors_of (ForksAll n) = 0
processors_of (ForksOne v) = 0
processors_of (Joins made) = 0
processors_of (Spawns f o vs) = 0
processors_of (Prints parts vs) = 0
processors_of (Calls f o vs) = 0
processors_of (Casts f o vs) = 0
processors_of (NewProcessor c vs) = 1

-- room or not
pub room_case : (made n most : ℕ) (kind : FaultKind)
    → ((room {N = Name} made n most kind ≡ Go []) × (made + n ≤ most)) ⊎ ((room {N = Name} made n most kind ≡ Bad kind) × (most < made + n))
room_case made n most kind = ⊎_elim
    (λ (e : nat_le (made + n) most ≡ true). inl (ap (λ b. cond b (Go []) (Bad kind)) e, leb-true _ _ e))
    (λ (e : nat_le (made + n) most ≡ false). inr (ap (λ b. cond b (Go []) (Bad kind)) e, leb-false _ _ e))
    (cases_Bool (nat_le (made + n) most))

pub room_fits : (made n most : ℕ) (kind : FaultKind) (found : List Value) → room made n most kind ≡ Go found → made + n ≤ most
room_fits made n most kind found h = ⊎_elim
    (λ (a : (room made n most kind ≡ Go []) × (made + n ≤ most)). a.1)
    (λ (b : (room made n most kind ≡ Bad kind) × (most < made + n)). let f : Bad kind ≡ Go found = sym b.0 ∙ h in cc)
    (room_case made n most kind)

module _ (h : Shapes) (s : Config) (t : Name) (l : Thread) where
  -- what a need that is met says of the counts
  abbrev pub FitsNeed : Need Name → Type 0
  FitsNeed (Known r) = Unit {0}
  FitsNeed (Filled a) = Unit {0}
  FitsNeed (Unfilled a) = Unit {0}
  FitsNeed (AllCells a n) = Unit {0}
  FitsNeed (ObjectNeed a) = Unit {0}
  FitsNeed (Free f a) = Unit {0}
  FitsNeed (Done made) = Unit {0}
  FitsNeed Deeper = Unit {0}
  FitsNeed (Threads n) = count s.threads_made l.home + n ≤ most_threads
  FitsNeed (ThreadAt a) = count s.threads_made (home s a) + 1 ≤ most_threads
  FitsNeed (Slots n) = count s.slots_made l.home + n ≤ most_slots
  FitsNeed (FirstSlots n) = Unit {0}
  FitsNeed Processor = s.processors + 1 ≤ most_processors
  FitsNeed (Constructs c vs) = (cells : List Cell) × (construct same_name (class_shape h c) vs ≡ Gives cells)

  result_gives : {A : Type 0} (r : Result A) (f : A → List Value) (found : List Value) → of_result r f ≡ Go found → (a : A) × (r ≡ Gives a)
  result_gives (Gives a) f found e = (a, refl)
  result_gives {A} (Fails kind) f found e = let g : Bad kind ≡ Go found = e in absurd cc

  fits_need : (n : Need Name) (found : List Value) → check h s t l n ≡ Go found → FitsNeed n
  fits_need (Known r) found e = tt
  fits_need (Filled a) found e = tt
  fits_need (Unfilled a) found e = tt
  fits_need (AllCells a n) found e = tt
  fits_need (ObjectNeed a) found e = tt
  fits_need (Free f a) found e = tt
  fits_need (Done made) found e = tt
  fits_need Deeper found e = tt
  fits_need (Threads n) found e = room_fits (count s.threads_made l.home) n most_threads _ found e
  fits_need (ThreadAt a) found e = room_fits (count s.threads_made (home s a)) 1 most_threads _ found e
  fits_need (Slots n) found e = room_fits (count s.slots_made l.home) n most_slots _ found e
  fits_need (FirstSlots n) found e = tt
  fits_need Processor found e = room_fits s.processors 1 most_processors _ found e
  fits_need (Constructs c vs) found e = result_gives (construct same_name (class_shape h c) vs) _ found e

  pub both_go : (v w : Verdict Name) (found : List Value) → and_also v w ≡ Go found
      → (a : List Value) × (b : List Value) × (v ≡ Go a) × (w ≡ Go b) × (found ≡ a ++ b)
  both_go (Go a) (Go b) found e = (a, b, refl, refl, same _ _ e)
    where
      same : (x y : List Value) → Go x ≡ Go y → y ≡ x
      same x y f = cc
  both_go (Go a) Hold found e = let f : Hold ≡ Go found = e in absurd cc
  both_go (Go a) (Bad kind) found e = let f : Bad kind ≡ Go found = e in absurd cc
  both_go Hold w found e = let f : Hold ≡ Go found = e in absurd cc
  both_go (Bad kind) w found e = let f : Bad kind ≡ Go found = e in absurd cc

  each_fits : (ns : List (Need Name)) (found : List Value) → check_all h s t l ns ≡ Go found → EachNeed FitsNeed ns
  each_fits [] found e = tt
  each_fits (n ∷ ns) found e =
      let b = both_go (check h s t l n) (check_all h s t l ns) found e in (fits_need n b.0 b.2, each_fits ns b.1 b.3)

  -- room for all that an ask makes
  pub record Fits (ask : Ask Name) : Type 0 where
    pub threads : 0 < threads_of ask → count s.threads_made (start_home s l ask) + threads_of ask ≤ most_threads
    pub slots : 0 < slots_of h ask → count s.slots_made l.home + slots_of h ask ≤ most_slots
    pub processors : 0 < processors_of ask → s.processors + processors_of ask ≤ most_processors

  fits_of : (ask : Ask Name) → EachNeed FitsNeed (needs h ask) → Fits ask
  fits_of (Reads remote a) e = record { threads = λ z. absurd (omega (arith, z)); slots = λ z. absurd (omega (arith, z)); processors = λ z. absurd (omega (arith, z)) }
  fits_of (Writes remote a v) e = record { threads = λ z. absurd (omega (arith, z)); slots = λ z. absurd (omega (arith, z)); processors = λ z. absurd (omega (arith, z)) }
  fits_of (Copies a n) e = record { threads = λ z. absurd (omega (arith, z)); slots = λ z. absurd (omega (arith, z)); processors = λ z. absurd (omega (arith, z)) }
  fits_of (Indexes a n i) e = record { threads = λ z. absurd (omega (arith, z)); slots = λ z. absurd (omega (arith, z)); processors = λ z. absurd (omega (arith, z)) }
  fits_of (Shifts a i) e = record { threads = λ z. absurd (omega (arith, z)); slots = λ z. absurd (omega (arith, z)); processors = λ z. absurd (omega (arith, z)) }
  fits_of (Computes op vs) e = record { threads = λ z. absurd (omega (arith, z)); slots = λ z. absurd (omega (arith, z)); processors = λ z. absurd (omega (arith, z)) }
  fits_of Tests e = record { threads = λ z. absurd (omega (arith, z)); slots = λ z. absurd (omega (arith, z)); processors = λ z. absurd (omega (arith, z)) }
  fits_of (Makes kind n) e = record { threads = λ z. absurd (omega (arith, z)); slots = λ z. e.0; processors = λ z. absurd (omega (arith, z)) }
  fits_of (MakesWith kind v) e = record { threads = λ z. absurd (omega (arith, z)); slots = λ z. e.0; processors = λ z. absurd (omega (arith, z)) }
  fits_of (Builds c vs) e = record { threads = λ z. absurd (omega (arith, z)); slots = λ z. e.0; processors = λ z. absurd (omega (arith, z)) }
  fits_of (Enters f o vs) e = record { threads = λ z. absurd (omega (arith, z)); slots = λ z. e.1.1.1.0; processors = λ z. absurd (omega (arith, z)) }
  fits_of Leaves e = record { threads = λ z. absurd (omega (arith, z)); slots = λ z. absurd (omega (arith, z)); processors = λ z. absurd (omega (arith, z)) }
  fits_of (ForksAll n) e = record { threads = λ z. e.0; slots = λ z. absurd (omega (arith, z)); processors = λ z. absurd (omega (arith, z)) }
  fits_of (ForksOne v) e = record { threads = λ z. e.0; slots = λ z. e.1.0; processors = λ z. absurd (omega (arith, z)) }
  fits_of (Joins made) e = record { threads = λ z. absurd (omega (arith, z)); slots = λ z. absurd (omega (arith, z)); processors = λ z. absurd (omega (arith, z)) }
  fits_of (Spawns f o vs) e = record { threads = λ z. e.1.0; slots = λ z. absurd (omega (arith, z)); processors = λ z. absurd (omega (arith, z)) }
  fits_of (Prints parts vs) e = record { threads = λ z. absurd (omega (arith, z)); slots = λ z. absurd (omega (arith, z)); processors = λ z. absurd (omega (arith, z)) }
  fits_of (Calls f o vs) e = record { threads = λ z. e.1.0; slots = λ z. absurd (omega (arith, z)); processors = λ z. absurd (omega (arith, z)) }
  fits_of (Casts f o vs) e = record { threads = λ z. e.1.0; slots = λ z. absurd (omega (arith, z)); processors = λ z. absurd (omega (arith, z)) }
  fits_of (NewProcessor c vs) e = record { threads = λ z. absurd (omega (arith, z)); slots = λ z. absurd (omega (arith, z)); processors = λ z. e.0 }

  pub fits : (ask : Ask Name) (found : List Value) → check_all h s t l (needs h ask) ≡ Go found → Fits ask
  fits ask found e = fits_of ask (each_fits (needs h ask) found e)

  -- what a constructor makes
  abbrev pub HasConstructed : Ask Name → Type 0
  HasConstructed (Reads remote a) = Unit {0}
  HasConstructed (Writes remote a v) = Unit {0}
  HasConstructed (Copies a n) = Unit {0}
  HasConstructed (Indexes a n i) = Unit {0}
  HasConstructed (Shifts a i) = Unit {0}
  HasConstructed (Computes op vs) = Unit {0}
  HasConstructed Tests = Unit {0}
  HasConstructed (Makes kind n) = Unit {0}
  HasConstructed (MakesWith kind v) = Unit {0}
  HasConstructed (Builds c vs) = (cells : List Cell) × (construct same_name (class_shape h c) vs ≡ Gives cells)
  HasConstructed (Enters f o vs) = Unit {0}
  HasConstructed Leaves = Unit {0}
  HasConstructed (ForksAll n) = Unit {0}
  HasConstructed (ForksOne v) = Unit {0}
  HasConstructed (Joins made) = Unit {0}
  HasConstructed (Spawns f o vs) = Unit {0}
  HasConstructed (Prints parts vs) = Unit {0}
  HasConstructed (Calls f o vs) = Unit {0}
  HasConstructed (Casts f o vs) = Unit {0}
  HasConstructed (NewProcessor c vs) = (cells : List Cell) × (construct same_name (class_shape h c) vs ≡ Gives cells)

  constructs_of : (ask : Ask Name) → EachNeed FitsNeed (needs h ask) → HasConstructed ask
  constructs_of (Reads remote a) e = tt
  constructs_of (Writes remote a v) e = tt
  constructs_of (Copies a n) e = tt
  constructs_of (Indexes a n i) e = tt
  constructs_of (Shifts a i) e = tt
  constructs_of (Computes op vs) e = tt
  constructs_of Tests e = tt
  constructs_of (Makes kind n) e = tt
  constructs_of (MakesWith kind v) e = tt
  constructs_of (Builds c vs) e = e.1.0
  constructs_of (Enters f o vs) e = tt
  constructs_of Leaves e = tt
  constructs_of (ForksAll n) e = tt
  constructs_of (ForksOne v) e = tt
  constructs_of (Joins made) e = tt
  constructs_of (Spawns f o vs) e = tt
  constructs_of (Prints parts vs) e = tt
  constructs_of (Calls f o vs) e = tt
  constructs_of (Casts f o vs) e = tt
  constructs_of (NewProcessor c vs) e = e.1.1.0

  pub constructs : (ask : Ask Name) (found : List Value) → check_all h s t l (needs h ask) ≡ Go found → HasConstructed ask
  constructs ask found e = constructs_of ask (each_fits (needs h ask) found e)

-- what another move took from a need that was met: room for it, or the cell that was still undefined
module _ (h : Shapes) (s s1 : Config) (c : Change) (l : Thread) where
  abbrev pub IsClash : Value → Type 0
  IsClash a = (o : Name) × (x : ℕ) × (v : Value) × (a ≡ Ptr o x) × (c.effect.writes ≡ (Ptr o x, v) ∷ []) × (cell s o x ≡ Some Empty)

  abbrev pub IsLost : Need Name → Type 0
  IsLost (Known r) = ⊥
  IsLost (Filled a) = ⊥
  IsLost (Unfilled a) = IsClash a
  IsLost (AllCells a n) = ⊥
  IsLost (ObjectNeed a) = ⊥
  IsLost (Free f a) = ⊥
  IsLost (Done made) = ⊥
  IsLost Deeper = ⊥
  IsLost (Threads n) = (count s.threads_made l.home + n ≤ most_threads) × (most_threads < count s1.threads_made l.home + n)
  IsLost (ThreadAt a) = (count s.threads_made (home s a) + 1 ≤ most_threads) × (most_threads < count s1.threads_made (home s a) + 1)
  IsLost (Slots n) = (count s.slots_made l.home + n ≤ most_slots) × (most_slots < count s1.slots_made l.home + n)
  IsLost (FirstSlots n) = ⊥
  IsLost Processor = (s.processors + 1 ≤ most_processors) × (most_processors < s1.processors + 1)
  IsLost (Constructs c vs) = ⊥

  pub data IsOver (ask : Ask Name) : Type 0 where
    OverThreads : count s.threads_made (start_home s l ask) + threads_of ask ≤ most_threads
        → most_threads < count s1.threads_made (start_home s l ask) + threads_of ask → IsOver ask
    OverSlots : count s.slots_made l.home + slots_of h ask ≤ most_slots → most_slots < count s1.slots_made l.home + slots_of h ask
        → IsOver ask
    OverProcessors : s.processors + processors_of ask ≤ most_processors → most_processors < s1.processors + processors_of ask → IsOver ask
    Clash : (remote : Bool) (a v : Value) → ask ≡ Writes remote a v → IsClash a → IsOver ask

  nothing_lost : (ask : Ask Name) → ⊥ ⊎ ⊥ → IsOver ask
  nothing_lost ask e = ⊎_elim (λ (a : ⊥). absurd a) (λ (b : ⊥). absurd b) e

  pub over : (ask : Ask Name) → AnyNeed IsLost (needs h ask) → IsOver ask
  over (Reads remote a) e = nothing_lost _ e
  over (Writes remote a v) e = ⊎_elim (λ (x : IsClash a). Clash remote a v refl x) (λ (b : ⊥). absurd b) e
  over (Copies a n) e = nothing_lost _ e
  over (Indexes a n i) e = nothing_lost _ e
  over (Shifts a i) e = nothing_lost _ e
  over (Computes op vs) e = nothing_lost _ e
  over Tests e = absurd e
  over (Makes kind n) e = ⊎_elim (λ (a : IsLost (Slots n)). OverSlots a.0 a.1) (λ (b : ⊥). absurd b) e
  over (MakesWith kind v) e = ⊎_elim (λ (a : IsLost (Slots 1)). OverSlots a.0 a.1) (λ (b : ⊥). absurd b) e
  over (Builds c' vs) e = ⊎_elim (λ (a : IsLost (Slots (size (class_shape h c').cells))). OverSlots a.0 a.1) (λ (b : ⊥ ⊎ ⊥). nothing_lost _ b) e
  over (Enters f o vs) e = ⊎_elim (λ (a : ⊥). absurd a) (λ (a : AnyNeed IsLost (Free f o ∷ Deeper ∷ Slots (arity (function_shape h f).params) ∷ [])). ⊎_elim (λ (b : ⊥). absurd b) (λ (b : AnyNeed IsLost (Deeper ∷ Slots (arity (function_shape h f).params) ∷ [])). ⊎_elim (λ (d : ⊥). absurd d) (λ (d : AnyNeed IsLost (Slots (arity (function_shape h f).params) ∷ [])). ⊎_elim (λ (g : IsLost (Slots (arity (function_shape h f).params))). OverSlots g.0 g.1) (λ (g : ⊥). absurd g) d) b) a) e
  over Leaves e = absurd e
  over (ForksAll n) e = ⊎_elim (λ (a : IsLost (Threads n)). OverThreads a.0 a.1) (λ (b : ⊥). absurd b) e
  over (ForksOne v) e = ⊎_elim (λ (a : IsLost (Threads 1)). OverThreads a.0 a.1) (λ (a : AnyNeed IsLost (Slots 1 ∷ Filled v ∷ [])). ⊎_elim (λ (b : IsLost (Slots 1)). OverSlots b.0 b.1) (λ (b : ⊥ ⊎ ⊥). nothing_lost _ b) a) e
  over (Joins made) e = nothing_lost _ e
  over (Spawns f o vs) e = ⊎_elim (λ (a : ⊥). absurd a) (λ (a : AnyNeed IsLost (Threads 1 ∷ [])). ⊎_elim (λ (b : IsLost (Threads 1)). OverThreads b.0 b.1) (λ (b : ⊥). absurd b) a) e
  over (Prints parts vs) e = absurd e
  over (Calls f o vs) e = ⊎_elim (λ (a : ⊥). absurd a) (λ (a : AnyNeed IsLost (ThreadAt o ∷ [])). ⊎_elim (λ (b : IsLost (ThreadAt o)). OverThreads b.0 b.1) (λ (b : ⊥). absurd b) a) e
  over (Casts f o vs) e = ⊎_elim (λ (a : ⊥). absurd a) (λ (a : AnyNeed IsLost (ThreadAt o ∷ [])). ⊎_elim (λ (b : IsLost (ThreadAt o)). OverThreads b.0 b.1) (λ (b : ⊥). absurd b) a) e
  over (NewProcessor c' vs) e = ⊎_elim (λ (a : IsLost Processor). OverProcessors a.0 a.1) (λ (a : ⊥ ⊎ (⊥ ⊎ ⊥)). ⊎_elim (λ (b : ⊥). absurd b) (λ (b : ⊥ ⊎ ⊥). nothing_lost _ b) a) e

-- threads are counted where they are made
pub threads_here : (t : Name) (k : ℕ) (q : Name) (own : ℕ) (terms : List Term) (m : Map ℕ)
    → count (count_threads m (new_threads t k q own terms)) q ≡ count m q + length terms
threads_here t k q own [] m = omega arith
threads_here t k q own (term ∷ terms) m =
    let a = threads_here t (suc k) q own terms (added m q 1) in let b = count-added_same m q 1 in omega (arith, a, b)

pub threads_there : (t : Name) (k : ℕ) (q : Name) (own : ℕ) (terms : List Term) (m : Map ℕ) (r : Name) → r ≢ q
    → count (count_threads m (new_threads t k q own terms)) r ≡ count m r
threads_there t k q own [] m r ne = refl
threads_there t k q own (term ∷ terms) m r ne =
    threads_there t (suc k) q own terms (added m q 1) r ne ∙ count-added_other m q r 1 ne

pub threads_are : (h : Shapes) (t : Name) (l : Thread) (ask : Ask Name) (found : List Value)
    → length (effect h t l ask found).starts + branch_count ask ≡ threads_of ask
threads_are h t l (Reads remote a) found = refl
threads_are h t l (Writes remote a v) found = refl
threads_are h t l (Copies a n) found = refl
threads_are h t l (Indexes a n i) found = refl
threads_are h t l (Shifts a i) found = refl
threads_are h t l (Computes op vs) found = refl
threads_are h t l Tests found = refl
threads_are h t l (Makes kind n) found = refl
threads_are h t l (MakesWith kind v) found = refl
threads_are h t l (Builds c vs) found = refl
threads_are h t l (Enters f o vs) found = refl
threads_are h t l Leaves found = refl
threads_are h t l (ForksAll n) found = omega arith
threads_are h t l (ForksOne v) found = refl
threads_are h t l (Joins made) found = refl
threads_are h t l (Spawns f o vs) found = refl
threads_are h t l (Prints parts vs) found = refl
threads_are h t l (Calls f o vs) found = refl
threads_are h t l (Casts f o vs) found = refl
threads_are h t l (NewProcessor c vs) found = refl

-- cells are counted where they are made

length_set : (cells : List Cell) (i : ℕ) (c : Cell) → length (slice_set cells i c) ≡ length cells
length_set [] i c = refl
length_set (d ∷ cells) zero c = refl
length_set (d ∷ cells) (suc i) c = ap suc (length_set cells i c)

pub length_replicate : {X : Type 0} (n : ℕ) (x : X) → length (replicate n x) ≡ n
length_replicate zero x = refl
length_replicate (suc n) x = ap suc (length_replicate n x)

length_fresh : (runs : List CellRun) → length (fresh_cells {N = Name} runs) ≡ size runs
length_fresh [] = refl
length_fresh (run ∷ runs) =
    length-append (replicate run.count (fresh {N = Name} run.kind)) (fresh_cells runs)
    ∙ (ap (λ n. n + length (fresh_cells {N = Name} runs)) (length_replicate run.count (fresh {N = Name} run.kind))
    ∙ ap (λ n. run.count + n) (length_fresh runs))

-- a result that keeps the number of cells
abbrev Keeps : ℕ → Result (List Cell) → Type 0
Keeps n (Gives cells) = length cells ≡ n
Keeps n (Fails kind) = Unit {0}

keeps_on : {A : Type 0} (n : ℕ) (r : Result A) (go : A → Result (List Cell)) → ((a : A) → Keeps n (go a)) → Keeps n (on_gives r go)
keeps_on n (Gives a) go h = h a
keeps_on {A} n (Fails kind) go h = tt

keeps_write : (cells : List Cell) (i : ℕ) (v : Value) (o : Option Cell) → Keeps (length cells) (write_at cells i v o)
keeps_write cells i v None = tt
keeps_write cells i v (Some c) = keeps_on (length cells) (written c v) (λ d. Gives (slice_set cells i d)) (λ d. length_set cells i d)

module _ (args : List Value) where
  keeps_assign : (cells : List Cell) (set : BuildSet) → Keeps (length cells) (assign same_name args cells set)
  keeps_assign cells set =
      keeps_on (length cells) (place same_name args set set.index) _ (λ i.
      keeps_on (length cells) (evaluate same_name args set.value) _ (λ v. keeps_write cells i v (slice_get cells i)))

  keeps_all : (n : ℕ) (cells : List Cell) (sets : List BuildSet) → length cells ≡ n → Keeps n (assign_all same_name args cells sets)
  keeps_all n cells [] e = e
  keeps_all n cells (set ∷ sets) e = from (assign same_name args cells set) (keeps_assign cells set) (λ more k. keeps_all n more sets k)
    where
      from : (r : Result (List Cell)) → Keeps (length cells) r → ((more : List Cell) → length more ≡ n → Keeps n (assign_all same_name args more sets))
          → Keeps n (on_gives r (λ more. assign_all same_name args more sets))
      from (Gives more) h again = again more (h ∙ e)
      from (Fails kind) h again = tt

pub length_constructed : (c : ClassShape) (args : List Value) (cells : List Cell) → construct same_name c args ≡ Gives cells
    → length (constructed (construct same_name c args)) ≡ size c.cells
length_constructed c args cells e =
    ap (λ r. length (constructed r)) e
    ∙ subst (Keeps (size c.cells)) e (keeps_all args (size c.cells) (fresh_cells c.cells) c.sets (length_fresh c.cells))

length_with : (kinds : List Kind) (vs : List Value) → length (cells_with kinds vs) ≡ length kinds
length_with [] vs = refl
length_with (kind ∷ kinds) vs = ap suc (length_with kinds (after_first vs))

params_here : (t : Name) (k : ℕ) (q : Name) (params : List (List Kind)) (vs : List Value) (m : Map ℕ)
    → count (count_slots m (parameters t k q params vs)) q ≡ count m q + arity params
params_here t k q [] vs m = omega arith
params_here t k q (kinds ∷ more) vs m =
    let n = length (cells_with kinds vs) in
    let a = params_here t (suc k) q more (drop (length kinds) vs) (added m q n) in
    let b = count-added_same m q n in
    let d = length_with kinds vs in
    omega (arith, a, b, d)

params_there : (t : Name) (k : ℕ) (q : Name) (params : List (List Kind)) (vs : List Value) (m : Map ℕ) (r : Name) → r ≢ q
    → count (count_slots m (parameters t k q params vs)) r ≡ count m r
params_there t k q [] vs m r ne = refl
params_there t k q (kinds ∷ more) vs m r ne =
    params_there t (suc k) q more (drop (length kinds) vs) (added m q (length (cells_with kinds vs))) r ne
    ∙ count-added_other m q r (length (cells_with kinds vs)) ne

one_here : (m : Map ℕ) (q : Name) (cells : List Cell) (n : ℕ) → length cells ≡ n → count (added m q (length cells)) q ≡ count m q + n
one_here m q cells n e = let a = count-added_same m q (length cells) in omega (arith, a, e)

none_here : (m : Map ℕ) (q : Name) → count m q ≡ count m q + 0
none_here m q = omega arith

module _ (h : Shapes) (t : Name) (l : Thread) (m : Map ℕ) where
  pub slots_here : (ask : Ask Name) (found : List Value) → (s : Config) → HasConstructed h s t l ask → l.home ≢ l.objects ∷ t
      → count (count_slots m (effect h t l ask found).objects) l.home ≡ count m l.home + slots_of h ask
  slots_here (Reads remote a) found s e ne = none_here m l.home
  slots_here (Writes remote a v) found s e ne = none_here m l.home
  slots_here (Copies a n) found s e ne = none_here m l.home
  slots_here (Indexes a n i) found s e ne = none_here m l.home
  slots_here (Shifts a i) found s e ne = none_here m l.home
  slots_here (Computes op vs) found s e ne = none_here m l.home
  slots_here Tests found s e ne = none_here m l.home
  slots_here (Makes kind n) found s e ne = one_here m l.home (replicate n (fresh kind)) n (length_replicate n (fresh kind))
  slots_here (MakesWith kind v) found s e ne = one_here m l.home (started kind v ∷ []) 1 refl
  slots_here (Builds c vs) found s e ne = one_here m l.home (constructed (construct same_name (class_shape h c) vs)) (size (class_shape h c).cells) (length_constructed (class_shape h c) vs e.0 e.1)
  slots_here (Enters f o vs) found s e ne = params_here t l.objects l.home (function_shape h f).params vs m
  slots_here Leaves found s e ne = none_here m l.home
  slots_here (ForksAll n) found s e ne = none_here m l.home
  slots_here (ForksOne v) found s e ne = one_here m l.home (Plain (first found) ∷ []) 1 refl
  slots_here (Joins made) found s e ne = none_here m l.home
  slots_here (Spawns f o vs) found s e ne = none_here m l.home
  slots_here (Prints parts vs) found s e ne = none_here m l.home
  slots_here (Calls f o vs) found s e ne = none_here m l.home
  slots_here (Casts f o vs) found s e ne = none_here m l.home
  slots_here (NewProcessor c vs) found s e ne = count-added_other m (l.objects ∷ t) l.home (length (constructed (construct same_name (class_shape h c) vs))) ne ∙ none_here m l.home

  pub slots_there : (ask : Ask Name) (found : List Value) (r : Name) → r ≢ l.home → r ≢ l.objects ∷ t
      → count (count_slots m (effect h t l ask found).objects) r ≡ count m r
  slots_there (Reads remote a) found r ne new = refl
  slots_there (Writes remote a v) found r ne new = refl
  slots_there (Copies a n) found r ne new = refl
  slots_there (Indexes a n i) found r ne new = refl
  slots_there (Shifts a i) found r ne new = refl
  slots_there (Computes op vs) found r ne new = refl
  slots_there Tests found r ne new = refl
  slots_there (Makes kind n) found r ne new = count-added_other m l.home r _ ne
  slots_there (MakesWith kind v) found r ne new = count-added_other m l.home r _ ne
  slots_there (Builds c vs) found r ne new = count-added_other m l.home r _ ne
  slots_there (Enters f o vs) found r ne new = params_there t l.objects l.home (function_shape h f).params vs m r ne
  slots_there Leaves found r ne new = refl
  slots_there (ForksAll n) found r ne new = refl
  slots_there (ForksOne v) found r ne new = count-added_other m l.home r _ ne
  slots_there (Joins made) found r ne new = refl
  slots_there (Spawns f o vs) found r ne new = refl
  slots_there (Prints parts vs) found r ne new = refl
  slots_there (Calls f o vs) found r ne new = refl
  slots_there (Casts f o vs) found r ne new = refl
  slots_there (NewProcessor c vs) found r ne new = count-added_other m (l.objects ∷ t) r _ new

-- what an ask writes, and how many processors it makes
pub processors_are : (h : Shapes) (t : Name) (l : Thread) (ask : Ask Name) (found : List Value)
    → (effect h t l ask found).processors ≡ processors_of ask
processors_are h t l (Reads remote a) found = refl
processors_are h t l (Writes remote a v) found = refl
processors_are h t l (Copies a n) found = refl
processors_are h t l (Indexes a n i) found = refl
processors_are h t l (Shifts a i) found = refl
processors_are h t l (Computes op vs) found = refl
processors_are h t l Tests found = refl
processors_are h t l (Makes kind n) found = refl
processors_are h t l (MakesWith kind v) found = refl
processors_are h t l (Builds c vs) found = refl
processors_are h t l (Enters f o vs) found = refl
processors_are h t l Leaves found = refl
processors_are h t l (ForksAll n) found = refl
processors_are h t l (ForksOne v) found = refl
processors_are h t l (Joins made) found = refl
processors_are h t l (Spawns f o vs) found = refl
processors_are h t l (Prints parts vs) found = refl
processors_are h t l (Calls f o vs) found = refl
processors_are h t l (Casts f o vs) found = refl
processors_are h t l (NewProcessor c vs) found = refl

pub writes_are : (h : Shapes) (t : Name) (l : Thread) (ask : Ask Name) (found : List Value)
    → ((effect h t l ask found).writes ≡ []) ⊎ ((remote : Bool) × (a : Value) × (v : Value) × (ask ≡ Writes remote a v)
    × ((effect h t l ask found).writes ≡ (a, v) ∷ []))
writes_are h t l (Reads remote a) found = inl refl
writes_are h t l (Writes remote a v) found = inr (remote, a, v, refl, refl)
writes_are h t l (Copies a n) found = inl refl
writes_are h t l (Indexes a n i) found = inl refl
writes_are h t l (Shifts a i) found = inl refl
writes_are h t l (Computes op vs) found = inl refl
writes_are h t l Tests found = inl refl
writes_are h t l (Makes kind n) found = inl refl
writes_are h t l (MakesWith kind v) found = inl refl
writes_are h t l (Builds c vs) found = inl refl
writes_are h t l (Enters f o vs) found = inl refl
writes_are h t l Leaves found = inl refl
writes_are h t l (ForksAll n) found = inl refl
writes_are h t l (ForksOne v) found = inl refl
writes_are h t l (Joins made) found = inl refl
writes_are h t l (Spawns f o vs) found = inl refl
writes_are h t l (Prints parts vs) found = inl refl
writes_are h t l (Calls f o vs) found = inl refl
writes_are h t l (Casts f o vs) found = inl refl
writes_are h t l (NewProcessor c vs) found = inl refl
