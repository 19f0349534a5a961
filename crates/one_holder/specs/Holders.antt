-- Who is inside atomic functions of an object.
use Rattle.std.specs.Prelude.{◌≡◌, ℕ, true, false, List, [], ◌∷◌, ◌++◌, Some}
use Rattle.std.specs.FinMap as fin
use Rattle.cc_core.specs.Names.{Name, Value}
use Rattle.cc_core.specs.Core.{Shapes}
use Rattle.cc_core.specs.Config.{Config, Thread, Live}
use Rattle.cc_core.specs.Needs.{is_inside}

-- at most one thread is inside atomic functions of each object
abbrev pub HasOneHolder : Shapes → Config → Type 0
HasOneHolder h s = (o : Value) (x y : Name) (l m : Thread) → fin.get s.threads x ≡ Some (Live l) → fin.get s.threads y ≡ Some (Live m)
    → is_inside h o l.inside ≡ true → is_inside h o m.inside ≡ true → x ≡ y

-- of these functions at most one is an atomic function of each object
abbrev pub IsInsideOnce : Shapes → List (ℕ × Value) → Type 0
IsInsideOnce h inside = (o : Value) (before : List (ℕ × Value)) (e : ℕ × Value) (after : List (ℕ × Value)) → inside ≡ before ++ e ∷ after
    → is_inside h o (e ∷ []) ≡ true → is_inside h o after ≡ false
