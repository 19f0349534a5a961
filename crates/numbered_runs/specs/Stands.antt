-- A machine of numbers stands for a configuration of a run: its numbers are those that the run gives.
use Rattle.std.specs.Prelude.{◌≡◌, ℕ, Bool, false, List, ◌∷◌, length, slice_get, Option, Some, None, ℤ}
use Rattle.std.specs.Option.{option_and_then}
use Rattle.std.specs.FinMap as fin
use Rattle.cc_ops.specs.Values.{Value, Ptr, Cell, Plain, Empty, Full}
use Rattle.cc_ops.specs.Machine.{Address}
use Rattle.cc_ops.specs.declared.number.ThreadNo.{ThreadNo}
use Rattle.cc_ops.specs.Shelves.{Thing, Shelf}
use Rattle.cc_core.specs.Names.{Name, same_name, count}
use Rattle.cc_core.specs.Core.{Program, Shapes, shapes}
use Rattle.cc_core.specs.Config as core
use Rattle.cc_core.specs.Config.{Config, Object, State, Live, Ended}
use Rattle.cc_core.specs.Needs.{any_holds}
use Rattle.cc_core.specs.Source.{IsProgram}
use Rattle.cc_core.specs.Numbers.{Numbers, listed}
use Rattle.cc_code.specs.Code.{Code, Move, Silent, Does, Ends, Stuck, move}
use Rattle.cc_code.specs.Layout.{layout}
use Rattle.code_names.specs.Same.{Pairwise, Told, SameValue}
use Rattle.numbered_threads.specs.Numbered.{Stands as Follows}
use Rattle.run_numbers.specs.RunNumbers.{IsNumbered}
use Rattle.numbered_runs.specs.Machine.{Machine, Runner, Progress, Goes, Over}

-- ---- which numbers stand for which names

abbrev pub object_named : Numbers → Address → Option Name
object_named n a = option_and_then (λ q. slice_get (listed n.objects q) a.object) (slice_get n.processors a.processor)

abbrev pub thread_named : Numbers → ThreadNo → Option Name
thread_named n t = option_and_then (λ q. slice_get (listed n.threads q) t.thread) (slice_get n.processors t.processor)

abbrev pub is_named : Option Name → Name → Bool
is_named None o = false
is_named (Some u) o = same_name u o

-- whether these are the numbers of object o
abbrev pub is_object : Numbers → Address → Name → Bool
is_object n a o = is_named (object_named n a) o

abbrev pub IsThread : Numbers → ThreadNo → Name → Type 0
IsThread n t x = thread_named n t ≡ Some x

-- ---- what stands for what: the machine's on the left, the definition's on the right

abbrev pub IsAsk : Move Address → Type 0
IsAsk (Silent c) = ⊥
IsAsk (Does n q k) = Unit {0}
IsAsk (Ends v) = ⊥
IsAsk Stuck = ⊥

module _ (n : Numbers) where
  abbrev pub Alike : Value Address → Value Name → Type 0
  Alike = SameValue (Told (is_object n))

  abbrev pub SameCell : Cell Address → Cell Name → Type 0
  SameCell (Plain v) (Plain w) = Alike v w
  SameCell Empty Empty = Unit {0}
  SameCell (Full v) (Full w) = Alike v w
  SameCell c d = ⊥

  abbrev pub SameInside : (ℕ × Value Address) → (ℕ × Value Name) → Type 0
  SameInside e d = (e.0 ≡ d.0) × Alike e.1 d.1

  -- the thread that a remote call waits for, by its number and as the k-th that its asker made
  abbrev pub SameAsked : (kids : List ThreadNo) → Option ThreadNo → Option ℕ → Type 0
  SameAsked kids None None = Unit {0}
  SameAsked kids (Some t) (Some k) = slice_get kids k ≡ Some t
  SameAsked kids a b = ⊥

  -- Thread x: the code's thread stands for what the source's has left to do, and what it does next is to ask.
  pub record SameLive (p : Program) (code : Code) (x : Name) (r : Runner) (l : core.Thread) : Type 0 where
    pub thread : Follows p code (is_object n) r.thread l.term
    pub asks : IsAsk (move code r.thread)
    pub asked : SameAsked r.kids r.asked l.asked
    pub made : length r.kids ≡ l.threads
    pub kids : (k : ℕ) (t : ThreadNo) → slice_get r.kids k ≡ Some t → IsThread n t (k ∷ x)
    pub inside : Pairwise SameInside r.inside l.inside

  abbrev pub SameState : Program → Code → Name → Progress → State → Type 0
  SameState p code x (Goes r) (Live l) = SameLive p code x r l
  SameState p code x (Over v) (Ended u) = Alike v u
  SameState p code x a b = ⊥

  -- a thread or an object of this name, and one of this number
  abbrev pub IsThreadAt : Program → Code → Config → Name → Progress → Type 0
  IsThreadAt p code s x a = (b : State) × (fin.get s.threads x ≡ Some b) × SameState p code x a b

  -- A thing is held where a thread is inside an atomic function of it.
  abbrev pub IsThingAt : Shapes → Config → Name → Thing → Type 0
  IsThingAt h s o x = (b : Object) × (fin.get s.objects o ≡ Some b) × Pairwise SameCell x.cells b.cells
      × (x.held ≡ any_holds h (Ptr o 0) (fin.values s.threads))

  -- those of processor q, one by one
  abbrev pub AreThreads : Program → Code → Config → Name → List Progress → Type 0
  AreThreads p code s q table = Pairwise (IsThreadAt p code s) (listed n.threads q) table

  abbrev pub IsShelf : Shapes → Config → Name → Shelf → Type 0
  IsShelf h s q shelf = Pairwise (IsThingAt h s) (listed n.objects q) shelf.things × (shelf.slots ≡ count s.slots_made q)

-- The machine w stands for s, to which a run of p has come, with the numbers n that the run has given.
pub record Stands (p : Program) (w : Machine) (s : Config) (n : Numbers) : Type 0 where
  pub source : IsProgram p
  pub code : w.code ≡ layout p
  pub ints : List ℤ
  pub run : IsNumbered p ints s n
  pub output : w.output ≡ s.output
  pub processors : s.processors ≡ length n.processors
  pub threads : Pairwise (AreThreads n p w.code s) n.processors w.threads
  pub shelves : Pairwise (IsShelf n (shapes p) s) n.processors w.shelves
