-- A step that asks of one processor alone changes that processor alone.
use Rattle.std.proofs.Common.{◌≡◌, ℕ, zero, suc, List, [], ◌∷◌, length, Bool, true, false, Option, Some, None, refl, sym, ap, ◌∙◌}
use Rattle.std.specs.Prelude.{slice_get, if◌then◌else◌}
use Rattle.std.specs.Option.{option_and_then, option_map_or}
use Rattle.cc_ops.specs.Values.{Value, Cell, Void, Int, Null, Ptr, Result, Gives, Fails}
use Rattle.cc_ops.specs.Cells.{written}
use Rattle.cc_ops.specs.Machine.{Address}
use Rattle.cc_ops.specs.Shelves.{Thing, Shelf, changed, cell_in, put_held, put_thing, next_address, change_thing}
use Rattle.cc_core.specs.Core.{Shapes, function_shape}
use Rattle.cc_code.specs.Code.{Code}
use Rattle.numbered_runs.specs.Machine.{Progress, Goes, Over}
use Rattle.numbered_runs.specs.Changes.{with_cell, with_held, with_thing, with_new}
use Rattle.numbered_runs.specs.Effects.{put_written, write_at, write_value, write_all, put_things, addresses, note_held, leave, leave_all}
use Rattle.numbered_runs.specs.Steps.{freed}
use Rattle.numbered_runs.proofs.Lists.{get_changed}
use Rattle.law_mesh.specs.Local.{cell_on, with_result, with_written, write_on, write_all_on, put_all_on, when, note_on, leave_on, leave_all_on, freed_on, addresses_on, IsOn, AreOn}

module _ {X : Type 0} where
  pub changed_same : (xs : List X) (i : ℕ) → changed xs i (λ x. x) ≡ xs
  changed_same [] i = refl
  changed_same (x ∷ xs) zero = refl
  changed_same (x ∷ xs) (suc i) = ap (λ ys. x ∷ ys) (changed_same xs i)

  pub changed_twice : (xs : List X) (i : ℕ) (f g : X → X) → changed (changed xs i f) i g ≡ changed xs i (λ x. g (f x))
  changed_twice [] i f g = refl
  changed_twice (x ∷ xs) zero f g = refl
  changed_twice (x ∷ xs) (suc i) f g = ap (λ ys. x ∷ ys) (changed_twice xs i f g)

  -- what is there is changed alike
  pub changed_alike : (xs : List X) (i : ℕ) (f g : X → X) → ((x : X) → slice_get xs i ≡ Some x → f x ≡ g x) → changed xs i f ≡ changed xs i g
  changed_alike [] i f g h = refl
  changed_alike (x ∷ xs) zero f g h = ap (λ y. y ∷ xs) (h x refl)
  changed_alike (x ∷ xs) (suc i) f g h = ap (λ ys. x ∷ ys) (changed_alike xs i f g h)

module _ (q : ℕ) where
  -- F changes processor q alone, as g says
  abbrev pub ChangesOn : (List Shelf → List Shelf) → (Shelf → Shelf) → Type 0
  ChangesOn F g = (ss : List Shelf) → F ss ≡ changed ss q g

  pub nothing_on : ChangesOn (λ ss. ss) (λ s. s)
  nothing_on ss = sym (changed_same ss q)

  pub then_on : (F G : List Shelf → List Shelf) (f g : Shelf → Shelf) → ChangesOn F f → ChangesOn G g → ChangesOn (λ ss. G (F ss)) (λ s. g (f s))
  then_on F G f g a b ss = b (F ss) ∙ (ap (λ ts. changed ts q g) (a ss) ∙ changed_twice ss q f g)

  thing_on : (a : Address) (f : Thing → Thing) → a.processor ≡ q → ChangesOn (λ ss. change_thing ss a f) (with_thing a.object f)
  thing_on a f e ss = ap (λ p. changed ss p (λ s. record { things = changed s.things a.object f; slots = s.slots })) e

  result_on : (a : Address) (x : ℕ) (r : Result (Cell Address)) → a.processor ≡ q → ChangesOn (λ ss. put_written ss a x r) (λ s. with_result s a.object x r)
  result_on a x (Gives c) e = thing_on a (with_cell x c) e
  result_on a x (Fails kind) e = nothing_on

  written_on : (a : Address) (x : ℕ) (v : Value Address) (c : Option (Cell Address)) → a.processor ≡ q
      → ChangesOn (λ ss. write_at ss a x v c) (λ s. with_written s a.object x v c)
  written_on a x v None e = nothing_on
  written_on a x v (Some c) e = result_on a x (written c v) e

  cell_found : (a : Address) (x : ℕ) → a.processor ≡ q → (ss : List Shelf) (s : Shelf) → slice_get ss q ≡ Some s → cell_in ss a x ≡ cell_on s a.object x
  cell_found a x e ss s at =
      ap (λ o. option_and_then (λ (t : Thing). slice_get t.cells x) (option_and_then (λ (z : Shelf). slice_get z.things a.object) o))
      (ap (slice_get ss) e ∙ at)

  pub value_on : (a v : Value Address) → IsOn q a → ChangesOn (λ ss. write_value ss a v) (λ s. write_on s a v)
  value_on Void v on ss = nothing_on ss
  value_on (Int n) v on ss = nothing_on ss
  value_on Null v on ss = nothing_on ss
  value_on (Ptr a x) v on ss =
      written_on a x v (cell_in ss a x) on ss
      ∙ changed_alike ss q _ _ (λ s at. ap (λ c. with_written s a.object x v c) (cell_found a x on ss s at))

  abbrev pub WritesOn : List (Value Address × Value Address) → Type 0
  WritesOn [] = Unit {0}
  WritesOn (e ∷ es) = IsOn q e.0 × WritesOn es

  pub values_on : (es : List (Value Address × Value Address)) → WritesOn es → ChangesOn (λ ss. write_all ss es) (λ s. write_all_on s es)
  values_on [] on = nothing_on
  values_on (e ∷ es) on = then_on (λ ss. write_value ss e.0 e.1) (λ ss. write_all ss es) (λ s. write_on s e.0 e.1) (λ s. write_all_on s es)
      (value_on e.0 e.1 on.0) (values_on es on.1)

  abbrev pub MadeOn : List (ℕ × List (Cell Address)) → Type 0
  MadeOn [] = Unit {0}
  MadeOn (e ∷ es) = (e.0 ≡ q) × MadeOn es

  made_one : (e : ℕ × List (Cell Address)) → e.0 ≡ q → ChangesOn (λ ss. put_thing ss e.0 e.1) (with_new e.1)
  made_one e on ss = ap (λ p. put_thing ss p e.1) on

  pub made_on : (es : List (ℕ × List (Cell Address))) → MadeOn es → ChangesOn (λ ss. put_things ss es) (λ s. put_all_on s es)
  made_on [] on = nothing_on
  made_on (e ∷ es) on = then_on (λ ss. put_thing ss e.0 e.1) (λ ss. put_things ss es) (with_new e.1) (λ s. put_all_on s es) (made_one e on.0) (made_on es on.1)

  pub addresses_here : (es : List (ℕ × List (Cell Address))) → MadeOn es → (ss : List Shelf) (s : Shelf) → slice_get ss q ≡ Some s
      → addresses ss es ≡ addresses_on q s es
  addresses_here [] on ss s at = refl
  addresses_here (e ∷ es) on ss s at =
      let first : next_address ss e.0 ≡ Ptr (record { processor = q; object = length s.things }) 0 =
      ap (next_address ss) on.0 ∙ ap (λ o. Ptr (record { processor = q; object = option_map_or (λ (z : Shelf). length z.things) o 0 }) 0) at in
      let there : slice_get (put_thing ss e.0 e.1) q ≡ Some (with_new e.1 s) =
      ap (λ ts. slice_get ts q) (made_one e on.0 ss) ∙ get_changed ss q (with_new e.1) s at in
      ap (λ a. a ∷ addresses (put_thing ss e.0 e.1) es) first
      ∙ ap (λ vs. Ptr (record { processor = q; object = length s.things }) 0 ∷ vs) (addresses_here es on.1 (put_thing ss e.0 e.1) (with_new e.1 s) there)

  -- ---- who is inside

  noted_when : (b : Bool) (a : Address) (held : Bool) → a.processor ≡ q
      → ChangesOn (λ ss. if b then put_held ss a held else ss) (when b (with_thing a.object (with_held held)))
  noted_when true a held e = thing_on a (with_held held) e
  noted_when false a held e = nothing_on

  pub noted_on : (h : Shapes) (f : ℕ) (o : Value Address) (held : Bool) → IsOn q o → ChangesOn (note_held h f o held) (note_on h f o held)
  noted_on h f Void held on = nothing_on
  noted_on h f (Int n) held on = nothing_on
  noted_on h f Null held on = nothing_on
  noted_on h f (Ptr a x) held on = noted_when (function_shape h f).atomic a held on

  pub left_on : (h : Shapes) (es : List (ℕ × Value Address)) → AreOn q es → ChangesOn (leave h es) (leave_on h es)
  left_on h [] on = nothing_on
  left_on h (e ∷ es) on = noted_on h e.0 e.1 false on.0

  pub all_left_on : (h : Shapes) (es : List (ℕ × Value Address)) → AreOn q es → ChangesOn (leave_all h es) (leave_all_on h es)
  all_left_on h [] on = nothing_on
  all_left_on h (e ∷ es) on = then_on (note_held h e.0 e.1 false) (leave_all h es) (note_on h e.0 e.1 false) (leave_all_on h es)
      (noted_on h e.0 e.1 false on.0) (all_left_on h es on.1)

  pub freed_at : (code : Code) (x : Progress) (es : List (ℕ × Value Address)) → AreOn q es → ChangesOn (freed code x es) (freed_on code x es)
  freed_at code (Goes r) es on = nothing_on
  freed_at code (Over v) es on = all_left_on code.shapes es on
