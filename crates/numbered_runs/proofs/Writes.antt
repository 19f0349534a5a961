-- A write changes the same cell by numbers and by names.
use Rattle.std.proofs.Common.{◌≡◌, ℕ, zero, suc, Bool, List, [], ◌∷◌, slice_get, slice_set, Option, Some, None, sym, ap, ◌∙◌, subst}
use Rattle.std.specs.Option.{option_and_then}
use Rattle.std.specs.FinMap as fin
use Rattle.std.proofs.lemmas.Option.{same_Some}
use Rattle.cc_ops.specs.Values as values
use Rattle.cc_ops.specs.Values.{Void, Int, Null, Ptr, Plain, Empty, Full}
use Rattle.cc_ops.specs.Cells as cells
use Rattle.cc_ops.specs.Machine.{Address}
use Rattle.cc_ops.specs.Shelves.{Thing, Shelf, changed, put_cell, cell_in}
use Rattle.cc_core.specs.Names.{Name, Map, Value, Cell}
use Rattle.cc_core.specs.Config as core
use Rattle.cc_core.specs.Config.{Object, put_cells, cells_of}
use Rattle.cc_core.specs.Numbers.{Numbers, listed}
use Rattle.cc_core.proofs.Maps.{get_same, get_other}
use Rattle.code_names.specs.Same.{Pairwise, Told, SameValue}
use Rattle.run_numbers.specs.RunNumbers.{IsListed}
use Rattle.numbered_runs.specs.Effects.{write_value, write_at, write_all}
use Rattle.numbered_runs.specs.Stands.{is_object, Alike, SameCell}
use Rattle.numbered_runs.proofs.Lists.{SameOption, same_option, pairwise_right}
use Rattle.numbered_runs.proofs.Naming.{object_place}
use Rattle.numbered_runs.proofs.Objects.{AreOnce, ShelfOf, Shelves, thing_changed}

-- a thing is the object of this name: it has its cells, and is held where the name is said to be
abbrev pub ThingIs : Numbers → Map Object → (held : Name → Bool) → Name → Thing → Type 0
ThingIs n m held o x = (b : Object) × (fin.get m o ≡ Some b) × Pairwise (SameCell n) x.cells b.cells × (x.held ≡ held o)

-- ---- cells

set_alike : {A B : Type 0} (S : A → B → Type 0) (xs : List A) (ys : List B) (i : ℕ) (x : A) (y : B) → Pairwise S xs ys → S x y
    → Pairwise S (changed xs i (λ z. x)) (slice_set ys i y)
set_alike S [] [] i x y h e = tt
set_alike S [] (z ∷ ys) i x y h e = absurd h
set_alike S (z ∷ xs) [] i x y h e = absurd h
set_alike S (z ∷ xs) (u ∷ ys) zero x y h e = (e, h.1)
set_alike S (z ∷ xs) (u ∷ ys) (suc i) x y h e = (h.0, set_alike S xs ys i x y h.1 e)

-- ---- a write at an address, where n names and `after` says which values are alike

module _ (n after : Numbers) (held : Name → Bool) (slots : Map ℕ) (once : AreOnce n.processors n.objects) where
  abbrev pub Things : Map Object → List Shelf → Type 0
  Things m shelves = Shelves (ThingIs after m held) n.processors n.objects slots shelves

  module _ (m : Map Object) (shelves : List Shelf) (h : Things m shelves) (a : Address) (o q : Name)
      (here : slice_get n.processors a.processor ≡ Some q) (at : IsListed n.objects q a.object o) (b : Object) (is : fin.get m o ≡ Some b)
      (i : ℕ) where
    abbrev with_cell : Cell → Object
    with_cell d = record { home = b.home; cells = slice_set b.cells i d }

    put_alike : (c : values.Cell Address) (d : Cell) → SameCell after c d → Things (fin.insert m o (with_cell d)) (put_cell shelves a i c)
    put_alike c d e =
        thing_changed (ThingIs after m held) (ThingIs after (fin.insert m o (with_cell d)) held) n.processors n.objects slots once a o q here at
        (λ t. record { cells = changed t.cells i (λ _. c); held = t.held })
        (λ x s.
        let same : s.0 ≡ b = same_Some s.0 b (sym s.1 ∙ is) in (
          with_cell d,
          get_same m o (with_cell d),
          set_alike (SameCell after) x.cells b.cells i c d (subst (λ (u : Object). Pairwise (SameCell after) x.cells u.cells) same s.2) e,
          s.3,
        ))
        (λ u x ne s. (s.0, get_other m o (with_cell d) u ne ∙ s.1, s.2, s.3))
        shelves h

    written_alike : (v : values.Value Address) (w : Value) → Alike after v w → (c : Option (values.Cell Address)) (d : Option Cell)
        → SameOption (SameCell after) c d → Things (put_cells m o (Some b) (cells.write_at b.cells i w d)) (write_at shelves a i v c)
    written_alike v w e None None f = h
    written_alike v w e None (Some d) f = absurd f
    written_alike v w e (Some c) None f = absurd f
    written_alike v w e (Some (Plain x)) (Some (Plain y)) f = put_alike (Plain v) (Plain w) e
    written_alike v w e (Some Empty) (Some Empty) f = put_alike (Full v) (Full w) e
    written_alike v w e (Some (Full x)) (Some (Full y)) f = h
    written_alike v w e (Some c) (Some d) f = absurd f

  pointer_alike : (m : Map Object) (shelves : List Shelf) → Things m shelves → (a : Address) (o : Name) → Told (is_object n) a o → (i : ℕ)
      (v : values.Value Address) (w : Value) → Alike after v w → Things (core.write_value m (Ptr o i) w) (write_value shelves (Ptr a i) v)
  pointer_alike m shelves h a o told i v w e =
      let place = object_place n a o told in
      let shelf = pairwise_right (ShelfOf (ThingIs after m held) n.objects slots) n.processors shelves h a.processor place.0 place.1 in
      let thing = pairwise_right (ThingIs after m held) (listed n.objects place.0) shelf.0.things shelf.2.0 a.object o place.2 in
      let b : Object = thing.2.0 in
      let found : cell_in shelves a i ≡ slice_get thing.0.cells i =
      ap (λ s. option_and_then (λ (t : Thing). slice_get t.cells i) (option_and_then (λ (u : Shelf). slice_get u.things a.object) s)) shelf.1
      ∙ ap (λ t. option_and_then (λ (u : Thing). slice_get u.cells i) t) thing.1 in
      subst (λ c. Things (core.write_value m (Ptr o i) w) (write_at shelves a i v c)) (sym found)
      (subst (λ u. Things (put_cells m o u (cells.write_cell (cells_of u) i w)) (write_at shelves a i v (slice_get thing.0.cells i))) (sym thing.2.1)
      (written_alike m shelves h a o place.0 place.1 place.2 b thing.2.1 i v w e (slice_get thing.0.cells i) (slice_get b.cells i)
      (same_option (SameCell after) thing.0.cells b.cells thing.2.2 i)))

  pub write_alike : (m : Map Object) (shelves : List Shelf) → Things m shelves → (a : values.Value Address) (b : Value)
      → SameValue (Told (is_object n)) a b → (v : values.Value Address) (w : Value) → Alike after v w
      → Things (core.write_value m b w) (write_value shelves a v)
  write_alike m shelves h Void Void same v w e = h
  write_alike m shelves h (Int k) (Int j) same v w e = h
  write_alike m shelves h Null Null same v w e = h
  write_alike m shelves h (Ptr a i) (Ptr o j) same v w e =
      subst (λ k. Things (core.write_value m (Ptr o k) w) (write_value shelves (Ptr a i) v)) same.1 (pointer_alike m shelves h a o same.0 i v w e)
  write_alike m shelves h a b same v w e = absurd same

  -- the values written, each with its address
  abbrev pub SameWrite : (values.Value Address × values.Value Address) → (Value × Value) → Type 0
  SameWrite e d = SameValue (Told (is_object n)) e.0 d.0 × Alike after e.1 d.1

  pub writes_alike : (es : List (values.Value Address × values.Value Address)) (ds : List (Value × Value)) (m : Map Object) (shelves : List Shelf)
      → Pairwise SameWrite es ds → Things m shelves → Things (core.write_all m ds) (write_all shelves es)
  writes_alike [] [] m shelves same h = h
  writes_alike [] (d ∷ ds) m shelves same h = absurd same
  writes_alike (e ∷ es) [] m shelves same h = absurd same
  writes_alike (e ∷ es) (d ∷ ds) m shelves same h =
      writes_alike es ds (core.write_value m d.0 d.1) (write_value shelves e.0 e.1) same.1
      (write_alike m shelves h e.0 d.0 same.0.0 e.1 d.1 same.0.1)
