-- A machine notes which objects are held: what it notes when a thread enters a function, leaves it, or ends.
use Rattle.std.proofs.Common.{◌≡◌, ℕ, Bool, true, false, ◌&&◌, ◌||◌, List, [], ◌∷◌, refl, sym, ap, ◌∙◌, subst}
use Rattle.std.proofs.lemmas.Bool.{false_from_ne_true}
use Rattle.std.specs.Prelude.{if◌then◌else◌}
use Rattle.cc_ops.specs.Values as values
use Rattle.cc_ops.specs.Values.{Void, Int, Null, Ptr}
use Rattle.cc_ops.specs.Machine.{Address}
use Rattle.cc_ops.specs.Shelves.{Shelf, put_held}
use Rattle.cc_core.specs.Names.{Name, Map, Value, same_name}
use Rattle.cc_core.specs.Core.{Shapes, function_shape}
use Rattle.cc_core.specs.Asks.{Ask, Enters, Leaves}
use Rattle.cc_core.specs.Config.{State, Live, Ended, Object}
use Rattle.cc_core.specs.Needs.{is_inside, same_object}
use Rattle.cc_core.specs.Numbers.{Numbers}
use Rattle.code_names.specs.Same.{Pairwise, Told}
use Rattle.cc_core.proofs.NameLaws.{told_same, told_itself}
use Rattle.numbered_runs.specs.Machine.{Progress, Goes, Over}
use Rattle.numbered_runs.specs.Effects.{note_held, leave, leave_all, held_after}
use Rattle.numbered_runs.specs.Stands.{is_object, Alike, SameInside, SameState}
use Rattle.numbered_runs.specs.Steps.{freed}
use Rattle.cc_core.specs.Core.{Program}
use Rattle.cc_code.specs.Code.{Code}
use Rattle.numbered_runs.proofs.Naming.{object_place}
use Rattle.numbered_runs.proofs.Objects.{AreOnce, Shelves, shelves_kept, thing_changed}
use Rattle.numbered_runs.proofs.Writes.{ThingIs}
use Rattle.numbered_runs.proofs.Turns.{StaysInside, SameHolding, Entered, Left, Stayed, held_as_before}

-- ---- what is noted, by names: `held` says which objects are held

-- after a thread has entered function f of u, or has left it
abbrev pub noted : Shapes → (f : ℕ) → (u : Value) → (now : Bool) → (held : Name → Bool) → Name → Bool
noted h f u now held o = if (function_shape h f).atomic && same_object (Ptr o 0) u then now else held o

abbrev pub left : Shapes → List (ℕ × Value) → (held : Name → Bool) → Name → Bool
left h [] held = held
left h (d ∷ ds) held = noted h d.0 d.1 false held

abbrev pub all_left : Shapes → List (ℕ × Value) → (held : Name → Bool) → Name → Bool
all_left h ds held o = if is_inside h (Ptr o 0) ds then false else held o

abbrev pub held_next : Shapes → List (ℕ × Value) → Ask Name → (held : Name → Bool) → Name → Bool
held_next h inside (Enters f u vs) held = noted h f u true held
held_next h inside Leaves held = left h inside held
held_next h inside a held = held

abbrev pub held_freed : Shapes → State → List (ℕ × Value) → (held : Name → Bool) → Name → Bool
held_freed h (Live l) ds held = held
held_freed h (Ended v) ds held = all_left h ds held

next_as_before : (h : Shapes) (inside : List (ℕ × Value)) (a : Ask Name) (held : Name → Bool) → StaysInside a → held ≡ held_next h inside a held
next_as_before h inside (Enters f u vs) held stays = absurd stays
next_as_before h inside Leaves held stays = absurd stays
next_as_before h inside a held stays = refl

not_atomic_of_none : (b now was : Bool) → was ≡ (if b && false then now else was)
not_atomic_of_none true now was = refl
not_atomic_of_none false now was = refl

one_by_one : (a b was : Bool) → (if b then false else (if a then false else was)) ≡ (if a || b then false else was)
one_by_one true true was = refl
one_by_one true false was = refl
one_by_one false true was = refl
one_by_one false false was = refl

-- ---- what the machine notes

module _ (h : Shapes) (n : Numbers) (m : Map Object) (slots : Map ℕ) (once : AreOnce n.processors n.objects) where
  abbrev pub Held : (Name → Bool) → List Shelf → Type 0
  Held held shelves = Shelves (ThingIs n m held) n.processors n.objects slots shelves

  pub held_same : (held now : Name → Bool) (shelves : List Shelf) → ((o : Name) → held o ≡ now o) → Held held shelves → Held now shelves
  held_same held now shelves same =
      shelves_kept (ThingIs n m held) (ThingIs n m now) n.processors n.objects slots shelves
      (λ q k o x at s. (s.0, s.1, s.2, s.3 ∙ same o))

  module _ (held : Name → Bool) (now : Bool) (shelves : List Shelf) (all : Held held shelves) where
    put_alike : (a : Address) (o : Name) → Told (is_object n) a o → Held (λ u. if same_name u o then now else held u) (put_held shelves a now)
    put_alike a o told =
        let place = object_place n a o told in
        thing_changed (ThingIs n m held) (ThingIs n m (λ u. if same_name u o then now else held u)) n.processors n.objects slots once a o
        place.0 place.1 place.2 (λ t. record { cells = t.cells; held = now })
        (λ x s. (s.0, s.1, s.2, sym (ap (λ b. if b then now else held o) (told_itself o))))
        (λ u x ne s.
        (s.0, s.1, s.2, s.3 ∙ sym (ap (λ b. if b then now else held u) (false_from_ne_true (same_name u o) (λ e. ne (told_same u o e))))))
        shelves all

    where_atomic : (atomic : Bool) (a : Address) (o : Name) → Told (is_object n) a o
        → Held (λ u. if atomic && same_name u o then now else held u) (if atomic then put_held shelves a now else shelves)
    where_atomic true a o told = put_alike a o told
    where_atomic false a o told = all

    no_object : (f : ℕ) → Held (λ u. if (function_shape h f).atomic && false then now else held u) shelves
    no_object f = held_same held _ shelves (λ o. not_atomic_of_none (function_shape h f).atomic now (held o)) all

    pub note_alike : (f : ℕ) (v : values.Value Address) (u : Value) → Alike n v u → Held (noted h f u now held) (note_held h f v now shelves)
    note_alike f Void Void same = no_object f
    note_alike f (Int i) (Int j) same = no_object f
    note_alike f Null Null same = no_object f
    note_alike f (Ptr a i) (Ptr o j) same = where_atomic (function_shape h f).atomic a o same.0
    note_alike f v u same = absurd same

  -- of the function e of a thread, which is d by names
  left_one : (held : Name → Bool) (shelves : List Shelf) → Held held shelves → (e : ℕ × values.Value Address) (d : ℕ × Value) → SameInside n e d
      → Held (noted h d.0 d.1 false held) (note_held h e.0 e.1 false shelves)
  left_one held shelves all e d same =
      subst (λ f. Held (noted h f d.1 false held) (note_held h e.0 e.1 false shelves)) same.0
      (note_alike held false shelves all e.0 e.1 d.1 same.1)

  left_alike : (held : Name → Bool) (shelves : List Shelf) → Held held shelves → (es : List (ℕ × values.Value Address)) (ds : List (ℕ × Value))
      → Pairwise (SameInside n) es ds → Held (left h ds held) (leave h es shelves)
  left_alike held shelves all [] [] same = all
  left_alike held shelves all [] (d ∷ ds) same = absurd same
  left_alike held shelves all (e ∷ es) [] same = absurd same
  left_alike held shelves all (e ∷ es) (d ∷ ds) same = left_one held shelves all e d same.0

  all_left_alike : (es : List (ℕ × values.Value Address)) (ds : List (ℕ × Value)) → Pairwise (SameInside n) es ds → (held : Name → Bool)
      (shelves : List Shelf) → Held held shelves → Held (all_left h ds held) (leave_all h es shelves)
  all_left_alike [] [] same held shelves all = all
  all_left_alike [] (d ∷ ds) same held shelves all = absurd same
  all_left_alike (e ∷ es) [] same held shelves all = absurd same
  all_left_alike (e ∷ es) (d ∷ ds) same held shelves all =
      held_same (all_left h ds (noted h d.0 d.1 false held)) (all_left h (d ∷ ds) held) (leave_all h es (note_held h e.0 e.1 false shelves))
      (λ o. one_by_one ((function_shape h d.0).atomic && same_object (Ptr o 0) d.1) (is_inside h (Ptr o 0) ds) (held o))
      (all_left_alike es ds same.1 (noted h d.0 d.1 false held) (note_held h e.0 e.1 false shelves) (left_one held shelves all e d same.0))

  -- ---- after an ask, and after the end of a thread

  module _ (es : List (ℕ × values.Value Address)) (ds : List (ℕ × Value)) (same : Pairwise (SameInside n) es ds) (held : Name → Bool)
      (shelves : List Shelf) (all : Held held shelves) where
    pub held_after_alike : (q : Ask Address) (a : Ask Name) → SameHolding n q a → Held (held_next h ds a held) (held_after h es q shelves)
    held_after_alike q a (Entered f v vs u us is are alike) =
        subst (λ b. Held (held_next h ds b held) (held_after h es q shelves)) (sym are)
        (subst (λ r. Held (noted h f u true held) (held_after h es r shelves)) (sym is) (note_alike held true shelves all f v u alike))
    held_after_alike q a (Left is are) =
        subst (λ b. Held (held_next h ds b held) (held_after h es q shelves)) (sym are)
        (subst (λ r. Held (left h ds held) (held_after h es r shelves)) (sym is) (left_alike held shelves all es ds same))
    held_after_alike q a (Stayed mine its) =
        subst (λ g. Held g (held_after h es q shelves)) (next_as_before h ds a held its)
        (subst (λ us. Held held us) (sym (held_as_before h es shelves q mine)) all)

    pub freed_alike : (p : Program) (code : Code) → code.shapes ≡ h → (x : Name) (b : Progress) (c : State) → SameState n p code x b c
        → Held (held_freed h c ds held) (freed code b es shelves)
    freed_alike p code shapes_are x (Goes r) (Live l) state = all
    freed_alike p code shapes_are x (Over v) (Ended u) state =
        subst (λ k. Held (all_left h ds held) (leave_all k es shelves)) (sym shapes_are) (all_left_alike es ds same held shelves all)
    freed_alike p code shapes_are x b c state = absurd state
