-- Typed configurations: there is a world in which all objects and threads have their types.
use Rattle.std.specs.Prelude.{◌≡◌, ℕ, List, [], ◌∷◌, length, ℤ, Some}
use Rattle.std.specs.FinMap as fin
use Rattle.cc_core.specs.Names.{Name, Map, Value}
use Rattle.cc_core.specs.Core.{Program, function}
use Rattle.cc_core.specs.Asks.{Answer, Calls}
use Rattle.cc_core.specs.Next.{After, Asks, next}
use Rattle.cc_core.specs.Core.{Term}
use Rattle.cc_core.specs.Config.{Config, Thread, State, Live, Ended, Object}
use Rattle.cc_core.specs.Laws.{IsReached}
use Rattle.core_types.specs.Types.{AnInt, Types, function_types}
use Rattle.core_types.specs.Values.{ObjectEntry, ThreadEntry, World, Fits, IsWhole, CellsFit}
use Rattle.core_types.specs.Typing.{nowhere, HasType}

-- a thread waits for the value of a call through a global pointer, which the thread made for it ends with
pub record IsWaiting (p : Program) (y : Types) (w : World) (t : Name) (l : Thread) (made : ℕ) : Type 0 where
  pub line : ℕ
  pub f : ℕ
  pub object : Value
  pub values : List Value
  pub go : Answer Name → After Term
  pub asks : next p l.term ≡ Asks line (Calls f object values) go
  pub entry : ThreadEntry
  pub there : fin.get w.threads (made ∷ t) ≡ Some entry
  pub gives : entry.result ≡ (function_types y f).result

-- an object is what it is known to be
abbrev pub ObjectFits : Types → World → ObjectEntry → Object → Type 0
ObjectFits y w e x = (x.home ≡ e.home) × CellsFit y w e.home e.content x.cells × IsWhole y e.content x.cells

abbrev pub InStep : Types → World → Map Object → Map ObjectEntry → Type 0
InStep y w m k = (o : Name) (e : ObjectEntry) → fin.get k o ≡ Some e → (x : Object) × (fin.get m o ≡ Some x) × ObjectFits y w e x

abbrev pub IsKnown : Map Object → Map ObjectEntry → Type 0
IsKnown m k = (o : Name) (x : Object) → fin.get m o ≡ Some x → (e : ObjectEntry) × (fin.get k o ≡ Some e)

-- in the world w a configuration is typed
pub record IsTypedAt (p : Program) (y : Types) (w : World) (s : Config) : Type 0 where
  -- each object is where it is known to be, and its cells have their types there
  pub objects : InStep y w s.objects w.objects
  pub known : IsKnown s.objects w.objects
  -- what a thread has left to do gives a value of the thread's type on the thread's processor; so has one that has ended
  pub threads : (t : Name) (l : Thread) → fin.get s.threads t ≡ Some (Live l)
      → (k : ThreadEntry) × (fin.get w.threads t ≡ Some k) × (l.home ≡ k.home) × HasType p y w k.home nowhere l.term k.result
  pub ended : (t : Name) (v : Value) → fin.get s.threads t ≡ Some (Ended v)
      → (k : ThreadEntry) × (fin.get w.threads t ≡ Some k) × Fits y w k.home v k.result
  pub kept : (t : Name) (k : ThreadEntry) → fin.get w.threads t ≡ Some k → (x : State) × (fin.get s.threads t ≡ Some x)
  pub waiting : (t : Name) (l : Thread) (made : ℕ) → fin.get s.threads t ≡ Some (Live l) → l.asked ≡ Some made → IsWaiting p y w t l made
  -- the first thread ends with an int
  pub main : (k : ThreadEntry) × (fin.get w.threads [] ≡ Some k) × (k.result ≡ AnInt)

abbrev pub IsTypedConfig : Program → Types → Config → Type 0
IsTypedConfig p y s = (w : World) × IsTypedAt p y w s

-- a run from an int for each parameter of main comes to s
abbrev pub IsReachedFrom : Program → List ℤ → Config → Type 0
IsReachedFrom p ns s = (length ns ≡ length (function p p.main).shape.params) × IsReached p ns s
