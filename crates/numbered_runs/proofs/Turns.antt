-- What else an ask decides, by numbers and by names: whether it is a call, how many branches it makes, on which processor its threads are
-- made, and whether the thread enters or leaves a function by it.
use Rattle.std.proofs.Common.{◌≡◌, ℕ, true, List, [], ◌∷◌, slice_get, Some, refl, sym, ap}
use Rattle.std.specs.FinMap as fin
use Rattle.std.proofs.lemmas.Bool.{false≢true}
use Rattle.cc_ops.specs.Values as values
use Rattle.cc_ops.specs.Machine.{Address, Values}
use Rattle.cc_ops.specs.declared.number.ThreadNo.{ThreadNo}
use Rattle.cc_ops.specs.Shelves.{Shelf}
use Rattle.cc_core.specs.Names.{Name, Value}
use Rattle.cc_core.specs.Core.{Program, Shapes}
use Rattle.cc_core.specs.Asks.{Ask, Reads, Writes, Copies, Indexes, Shifts, Computes, Tests, Makes, MakesWith, Builds, Enters, Leaves}
use Rattle.cc_core.specs.Asks.{ForksAll, ForksOne, Joins, Spawns, Prints, Calls, Casts, NewProcessor}
use Rattle.cc_core.specs.Config as config
use Rattle.cc_core.specs.Config.{Config, Live}
use Rattle.cc_core.specs.Effects as core
use Rattle.cc_core.specs.Effects.{branch_count, is_call}
use Rattle.cc_core.specs.Numbers.{Numbers}
use Rattle.cc_code.specs.Code.{Thread, Starting}
use Rattle.code_names.specs.Same.{Told, SameAsk}
use Rattle.numbered_runs.specs.Machine.{Machine, Runner}
use Rattle.numbered_runs.specs.Effects.{effect, start_home, held_after}
use Rattle.numbered_runs.specs.Stands.{Stands, IsThread, is_object, Alike}
use Rattle.numbered_runs.proofs.Naming.{home, pointer_home}

-- an ask by which a thread neither enters a function nor leaves one
abbrev pub StaysInside : {N : Type 0} → Ask N → Type 0
StaysInside (Enters f o vs) = ⊥
StaysInside Leaves = ⊥
StaysInside q = Unit {0}

pub data SameHolding (n : Numbers) (q : Ask Address) (a : Ask Name) : Type 0 where
  Entered : (f : ℕ) (o : values.Value Address) (vs : Values) (u : Value) (us : List Value) → q ≡ Enters f o vs → a ≡ Enters f u us → Alike n o u
      → SameHolding n q a
  Left : q ≡ Leaves → a ≡ Leaves → SameHolding n q a
  Stayed : StaysInside q → StaysInside a → SameHolding n q a

-- an ask of a thread on processor i, and one of l
pub record SameTurn (s : Config) (n : Numbers) (i : ℕ) (l : config.Thread) (q : Ask Address) (a : Ask Name) : Type 0 where
  pub calls : is_call q ≡ core.is_call a
  pub branches : branch_count q ≡ core.branch_count a
  pub home : slice_get n.processors (start_home i q) ≡ Some (core.start_home s l a)
  pub holding : SameHolding n q a

-- a call starts one thread
pub one_call : (w : Machine) (i : ℕ) (r : Runner) (vs : Values) (q : Ask Address) → is_call q ≡ true
    → (c : Thread Address) × ((effect w i r q vs).starts ≡ c ∷ [])
one_call w i r vs (Calls f o os) e = (Starting f o os, refl)
one_call w i r vs q e = absurd (false≢true e)

pub held_as_before : (h : Shapes) (inside : List (ℕ × values.Value Address)) (shelves : List Shelf) (q : Ask Address) → StaysInside q
    → held_after h inside q shelves ≡ shelves
held_as_before h inside shelves (Enters f o vs) stays = absurd stays
held_as_before h inside shelves Leaves stays = absurd stays
held_as_before h inside shelves q stays = refl

pub inside_as_before : (h : Shapes) (x : Name) (l : config.Thread) (us : List Value) (a : Ask Name) → StaysInside a
    → (core.effect h x l a us).inside ≡ l.inside
inside_as_before h x l us (Enters f o vs) stays = absurd stays
inside_as_before h x l us Leaves stays = absurd stays
inside_as_before h x l us a stays = refl

module _ (p : Program) (w : Machine) (s : Config) (n : Numbers) (st : Stands p w s n)
    (t : ThreadNo) (x : Name) (l : config.Thread) (at : IsThread n t x) (live : fin.get s.threads x ≡ Some (Live l)) where
  abbrev Same : Ask Address → Ask Name → Type 0
  Same = SameTurn s n t.processor l

  here : slice_get n.processors t.processor ≡ Some l.home
  here = home p w s n st t x l at live

  pub turn_alike : (q : Ask Address) (a : Ask Name) → SameAsk (Told (is_object n)) q a → Same q a
  turn_alike (Reads b o) (Reads c u) h = record { calls = refl; branches = refl; home = here; holding = Stayed tt tt }
  turn_alike (Writes b o v) (Writes c u y) h = record { calls = refl; branches = refl; home = here; holding = Stayed tt tt }
  turn_alike (Copies o k) (Copies u j) h = record { calls = refl; branches = refl; home = here; holding = Stayed tt tt }
  turn_alike (Indexes o k i) (Indexes u j m) h = record { calls = refl; branches = refl; home = here; holding = Stayed tt tt }
  turn_alike (Shifts o i) (Shifts u j) h = record { calls = refl; branches = refl; home = here; holding = Stayed tt tt }
  turn_alike (Computes op os) (Computes oq xs) h = record { calls = refl; branches = refl; home = here; holding = Stayed tt tt }
  turn_alike Tests Tests h = record { calls = refl; branches = refl; home = here; holding = Stayed tt tt }
  turn_alike (Makes kind k) (Makes kind' j) h = record { calls = refl; branches = refl; home = here; holding = Stayed tt tt }
  turn_alike (MakesWith kind v) (MakesWith kind' y) h = record { calls = refl; branches = refl; home = here; holding = Stayed tt tt }
  turn_alike (Builds c os) (Builds d xs) h = record { calls = refl; branches = refl; home = here; holding = Stayed tt tt }
  turn_alike (Enters f o os) (Enters g u xs) h = record {
    calls = refl;
    branches = refl;
    home = here;
    holding = Entered f o os u xs refl (ap (λ k. Enters k u xs) (sym h.0)) h.1;
  }
  turn_alike Leaves Leaves h = record { calls = refl; branches = refl; home = here; holding = Left refl refl }
  turn_alike (ForksAll k) (ForksAll j) h = record { calls = refl; branches = h; home = here; holding = Stayed tt tt }
  turn_alike (ForksOne v) (ForksOne y) h = record { calls = refl; branches = refl; home = here; holding = Stayed tt tt }
  turn_alike (Joins ks) (Joins js) h = record { calls = refl; branches = refl; home = here; holding = Stayed tt tt }
  turn_alike (Spawns f o os) (Spawns g u xs) h = record { calls = refl; branches = refl; home = here; holding = Stayed tt tt }
  turn_alike (Prints parts os) (Prints parts' xs) h = record { calls = refl; branches = refl; home = here; holding = Stayed tt tt }
  turn_alike (Calls f o os) (Calls g u xs) h =
      record { calls = refl; branches = refl; home = pointer_home p w s n st o u h.1; holding = Stayed tt tt }
  turn_alike (Casts f o os) (Casts g u xs) h =
      record { calls = refl; branches = refl; home = pointer_home p w s n st o u h.1; holding = Stayed tt tt }
  turn_alike (NewProcessor c os) (NewProcessor d xs) h = record { calls = refl; branches = refl; home = here; holding = Stayed tt tt }
  turn_alike q a h = absurd h
