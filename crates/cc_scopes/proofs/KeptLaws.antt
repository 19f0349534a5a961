-- What stays where variables come and go: the places are those of the list, and what is hidden comes back.
use Rattle.std.proofs.Common.{◌≡◌, ℕ, zero, suc, Bool, true, false, if◌then◌else◌, List, [], ◌∷◌, ◌++◌, length, drop, Option, Some, None, is_some, refl, sym, ap, ◌∙◌, arith, bytes_eq, slice_get}
use Rattle.std.specs.Cmp.Lexicographic.{bytes_decides}
use Rattle.std.specs.Map.{update}
use Rattle.std.specs.BTreeMap.{get_by_text}
use Rattle.cc_scopes.specs.declared.locals.Entry.{Entry}
use Rattle.cc_scopes.specs.declared.scope.Found.{Found}
use Rattle.cc_scopes.specs.declared.places.Places.{Places}
use Rattle.cc_scopes.specs.Places.{AreKept, IsKnown, KeepsPlaces, MovesPlace, flat, place, place_of, locals_of}
use Rattle.cc_names.specs.Table.{Name}
use Rattle.cc_scopes.specs.Scope.{found_as, variable}
use Rattle.cc_scopes.proofs.PlaceLaws.{at, behind, hide_pop, hide_push, is_behind, locals_length, locals_push, place_push, variable_at}

-- ---- the map

-- a change at one name, through the names without a place
pub flat_update : (moved : Name) (place : Option ℕ) (old : Name → Option (Option ℕ)) (name : Name)
    → flat (update bytes_eq old moved (Some place) name) ≡ (if bytes_eq moved name then place else flat (old name))
flat_update moved place old name = by (bytes_eq moved name)
  where
    by : (b : Bool) → flat (if b then Some place else old name) ≡ (if b then place else flat (old name))
    by true = refl
    by false = refl

-- a name that was not known has no place before and none after
pub flat_new : (new : Name) (old : Name → Option (Option ℕ)) (name : Name) → old new ≡ None
    → flat (update bytes_eq old new (Some None) name) ≡ flat (old name)
flat_new new old name absent = flat_update new None old name ∙ by (bytes_eq new name) refl
  where
    by : (b : Bool) → bytes_eq new name ≡ b → (if b then None else flat (old name)) ≡ flat (old name)
    by true same = sym (ap flat (ap old (sym ((bytes_decides new name).0 same)) ∙ absent))
    by false differs = refl

has_place : (r : Option (Option ℕ)) (p : ℕ) → flat r ≡ Some p → is_some r ≡ true
has_place None p e = grind arith
has_place (Some q) p e = refl

none_of : (r : Option (Option ℕ)) → false ≡ is_some r → r ≡ None
none_of None e = refl
none_of (Some q) e = grind arith

pub absent : (places : Places) (name : Name) → false ≡ is_some (get_by_text places.map name) → get_by_text places.map name ≡ None
absent places name e = none_of (get_by_text places.map name) e

-- ---- variables come and go

-- places that stay where they were
pub known : {all : List Entry} {old new : Places} → AreKept all old → KeepsPlaces old new → AreKept all new
known kept keeps = record { hide = kept.hide; finds = λ name. keeps name ∙ kept.finds name }

pub pushed : (all : List Entry) (old new : Places) (e : Entry) → AreKept all old → e.hides ≡ place_of old e.local.name
    → MovesPlace old new e.local.name (Some (length all)) → AreKept (all ++ e ∷ []) new
pushed all old new e kept hides moved = record {
  hide = hide_push [] all e kept.hide (hides ∙ kept.finds e.local.name);
  finds = λ name. moved name ∙ by name (bytes_eq e.local.name name)
      ∙ sym (ap (place name) (locals_push all e) ∙ place_push name (locals_of all) e.local);
}
  where
    by : (name : Name) (b : Bool)
        → (if b then Some (length all) else place_of old name) ≡ (if b then Some (length (locals_of all)) else place name (locals_of all))
    by name true = ap Some (sym (locals_length all))
    by name false = kept.finds name

-- where the latest variable stands
latest : (all : List Entry) (old : Places) (e : Entry) → AreKept (all ++ e ∷ []) old → (name : Name)
    → place_of old name ≡ (if bytes_eq e.local.name name then Some (length (locals_of all)) else place name (locals_of all))
latest all old e kept name = kept.finds name ∙ ap (place name) (locals_push all e) ∙ place_push name (locals_of all) e.local

pub is_known : (all : List Entry) (old : Places) (e : Entry) → AreKept (all ++ e ∷ []) old → IsKnown old e.local.name
is_known all old e kept = has_place (get_by_text old.map e.local.name) (length (locals_of all))
    (latest all old e kept e.local.name
    ∙ ap (λ b. if b then Some (length (locals_of all)) else place e.local.name (locals_of all)) ((bytes_decides e.local.name e.local.name).1 refl))

pub popped : (all : List Entry) (old new : Places) (e : Entry) → AreKept (all ++ e ∷ []) old
    → MovesPlace old new e.local.name e.hides → AreKept all new
popped all old new e kept moved =
    let hide = hide_pop [] all e kept.hide in
    record { hide = hide.0; finds = λ name. moved name ∙ by hide.1 name (bytes_eq e.local.name name) refl }
  where
    by : e.hides ≡ place e.local.name (locals_of all) → (name : Name) (b : Bool) → bytes_eq e.local.name name ≡ b
        → (if b then e.hides else place_of old name) ≡ place name (locals_of all)
    by hides name true same = hides ∙ ap (λ n. place n (locals_of all)) ((bytes_decides e.local.name name).0 same)
    by hides name false differs = latest all old e kept name
        ∙ ap (λ b. if b then Some (length (locals_of all)) else place name (locals_of all)) differs

-- ---- look-ups

pub found_behind : {all : List Entry} {places : Places} → AreKept all places → (n : ℕ) (name : Name)
    → is_behind n (place_of places name) ≡ is_some (variable name (drop n (locals_of all)))
found_behind {all} kept n name = ap (is_behind n) (kept.finds name) ∙ sym (behind name n (locals_of all))

abbrev pub at_entry : Option Entry → Option Found
at_entry None = None
at_entry (Some e) = Some (found_as e.local)

at_place : (es : List Entry) (p : ℕ) → at_entry (slice_get es p) ≡ at (locals_of es) (Some p)
at_place [] p = refl
at_place (e ∷ es) zero = refl
at_place (e ∷ es) (suc p) = at_place es p

-- the entry at the place of a name is its latest variable
pub found_none : {all : List Entry} {places : Places} → AreKept all places → (name : Name) → place_of places name ≡ None
    → None ≡ variable name (locals_of all)
found_none {all} kept name none =
    sym (variable_at name (locals_of all) ∙ ap (at (locals_of all)) (sym (kept.finds name) ∙ none))

pub found_at : {all : List Entry} {places : Places} → AreKept all places → (name : Name) (p : ℕ) → place_of places name ≡ Some p
    → at_entry (slice_get all p) ≡ variable name (locals_of all)
found_at {all} kept name p found =
    at_place all p ∙ sym (variable_at name (locals_of all) ∙ ap (at (locals_of all)) (sym (kept.finds name) ∙ found))
