-- The numbers of a run: each thread and each object has one.
use Rattle.std.specs.Prelude.{◌≡◌, ℕ, List, slice_get, Some, ℤ}
use Rattle.std.specs.FinMap as fin
use Rattle.cc_core.specs.Names.{Name, Map}
use Rattle.cc_core.specs.Core.{Program}
use Rattle.cc_core.specs.Config.{Config}
use Rattle.cc_core.specs.Numbers.{Numbers, listed, first_numbers, numbers_step}
use Rattle.cc_core.specs.Steps.{Moves, step, start}

-- a run of p from these ints has come to s, and has given these numbers
pub data IsNumbered (p : Program) (ns : List ℤ) : Config → Numbers → Type 0 where
  begins : IsNumbered p ns (start p ns) (first_numbers p ns)
  goes_on : (t : Name) (s : Config) {r : Config} (n : Numbers) → IsNumbered p ns s n → step p t s ≡ Moves r
      → IsNumbered p ns r (numbers_step p t s n)

-- on processor q the number k is that of x
abbrev pub IsListed : Map (List Name) → (q : Name) → (k : ℕ) → (x : Name) → Type 0
IsListed lists q k x = slice_get (listed lists q) k ≡ Some x

-- each name of a map has a number, each number is that of a name of the map, and no name has two
pub record AreNumbered {X : Type 0} (lists : Map (List Name)) (things : Map X) : Type 0 where
  pub numbered : (x : Name) (a : X) → fin.get things x ≡ Some a → (q : Name) × (k : ℕ) × IsListed lists q k x
  pub named : (q : Name) (k : ℕ) (x : Name) → IsListed lists q k x → (a : X) × (fin.get things x ≡ Some a)
  pub once : (q r : Name) (k j : ℕ) (x : Name) → IsListed lists q k x → IsListed lists r j x → (q ≡ r) × (k ≡ j)

-- each number stays that of its name
abbrev pub NumbersStay : Map (List Name) → Map (List Name) → Type 0
NumbersStay before after = (q : Name) (k : ℕ) (x : Name) → IsListed before q k x → IsListed after q k x
