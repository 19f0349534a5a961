-- Where the latest variable of each name stands among those in scope.
use Rattle.std.specs.Prelude.{◌≡◌, ℕ, suc, true, if◌then◌else◌, List, [], ◌∷◌, ◌++◌, Option, Some, None, is_some, bytes_eq}
use Rattle.std.specs.BTreeMap.{get_by_text}
use Rattle.cc_scopes.specs.declared.locals.Entry.{Entry}
use Rattle.cc_scopes.specs.declared.state.Local.{Local}
use Rattle.cc_scopes.specs.declared.places.Places.{Places}

-- ---- the map: a name that it does not have is one without a place

abbrev pub flat : Option (Option ℕ) → Option ℕ
flat None = None
flat (Some place) = place

abbrev pub place_of : Places → List ℕ → Option ℕ
place_of places name = flat (get_by_text places.map name)

abbrev pub IsKnown : Places → List ℕ → Type 0
IsKnown places name = is_some (get_by_text places.map name) ≡ true

abbrev pub KeepsPlaces : (old new : Places) → Type 0
KeepsPlaces old new = (name : List ℕ) → place_of new name ≡ place_of old name

abbrev pub MovesPlace : (old new : Places) → List ℕ → Option ℕ → Type 0
MovesPlace old new moved place =
    (name : List ℕ) → place_of new name ≡ (if bytes_eq moved name then place else place_of old name)

-- ---- the list: the latest variable of a name, by its place

abbrev pub place_from : List ℕ → ℕ → Option ℕ → List Local → Option ℕ
place_from name n found [] = found
place_from name n found (l ∷ ls) = place_from name (suc n) (if bytes_eq l.name name then Some n else found) ls

abbrev pub place : List ℕ → List Local → Option ℕ
place name = place_from name 0 None

abbrev pub locals_of : List Entry → List Local
locals_of [] = []
locals_of (e ∷ es) = e.local ∷ locals_of es

-- behind some variables, each entry knows the place of the one that it hides
abbrev pub HideFrom : List Local → List Entry → Type 0
HideFrom before [] = Unit {0}
HideFrom before (e ∷ es) = (e.hides ≡ place e.local.name before) × HideFrom (before ++ e.local ∷ []) es

-- both agree
pub record AreKept (all : List Entry) (places : Places) : Type 0 where
  pub hide : HideFrom [] all
  pub finds : (name : List ℕ) → place_of places name ≡ place name (locals_of all)
