-- A step of a thread that asks of its processor alone makes of a mesh what it makes of that processor.
use Rattle.std.proofs.Common.{◌≡◌, ℕ, List, [], ◌∷◌, ◌++◌, length, true, false, Some, None, refl, sym, ap, ◌∙◌, subst, append_assoc}
use Rattle.std.specs.Prelude.{slice_get}
use Rattle.std.specs.Option.{option_map_or}
use Rattle.std.proofs.lemmas.Option.{same_Some}
use Rattle.cc_ops.specs.Values.{Value}
use Rattle.cc_ops.specs.Machine.{Address, Values}
use Rattle.cc_core.specs.Core.{Shapes, function_shape}
use Rattle.cc_ops.specs.declared.kind.Kind.{Kind}
use Rattle.cc_ops.specs.declared.number.ThreadNo.{ThreadNo}
use Rattle.cc_ops.specs.Shelves.{Shelf, changed}
use Rattle.cc_core.specs.Effects.{numbers, left_behind, branch_count}
use Rattle.cc_core.specs.Asks.{Ask, Answer}
use Rattle.cc_core.specs.Asks.{Reads, Writes, Copies, Indexes, Shifts, Computes, Tests, Makes, MakesWith, Builds, Enters, Leaves}
use Rattle.cc_core.specs.Asks.{ForksAll, ForksOne, Joins, Spawns, Prints, Calls, Casts, NewProcessor}
use Rattle.cc_code.specs.Code.{Then}
use Rattle.numbered_runs.specs.Effects.{Effect, more_shelves, start_home, write_all, put_things, addresses, held_after, parameters}
use Rattle.numbered_runs.specs.Steps.{settle, freed, numbers_on}
use Rattle.numbered_runs.proofs.Lists.{get_changed}
use Rattle.law_mesh.specs.Spots.{Fiber, Spot, Active, Mesh, runs, put_item, made_of}
use Rattle.law_mesh.specs.Moves.{effect_of, push_item, push_items, more_lists, new_spots, known, acted, gone_on}
use Rattle.law_mesh.specs.Local.{Place, place_after, AsksOn, AreOn, write_all_on, put_all_on, held_after_on, freed_on, addresses_on}
use Rattle.law_mesh.proofs.Local.{changed_twice, changed_alike, changed_same, ChangesOn, nothing_on, then_on, values_on, made_on, addresses_here, noted_on, left_on, freed_at, WritesOn, MadeOn}

-- what an effect must be like
pub record IsHere (q : ℕ) (e : Effect) (ask : Ask Address) : Type 0 where
  pub processors : e.processors ≡ 0
  pub writes : WritesOn q e.writes
  pub objects : MadeOn q e.objects
  pub home : start_home q ask ≡ q
  pub inside : AreOn q e.inside

parameters_on : (q : ℕ) (params : List (List Kind)) (vs : Values) → MadeOn q (parameters q params vs)
parameters_on q [] vs = tt
parameters_on q (kinds ∷ more) vs = (refl, parameters_on q more _)

left_inside : (q : ℕ) (es : List (ℕ × Value Address)) → AreOn q es → AreOn q (left_behind es)
left_inside q [] on = tt
left_inside q (e ∷ es) on = on.1

module _ (m : Mesh) (q : ℕ) (f : Fiber) (found : Values) (inside : AreOn q f.inside) where
  simply : (ask : Ask Address) → (effect_of m q f ask found).processors ≡ 0 → (effect_of m q f ask found).writes ≡ [] → MadeOn q (effect_of m q f ask found).objects
      → start_home q ask ≡ q → (effect_of m q f ask found).inside ≡ f.inside → IsHere q (effect_of m q f ask found) ask
  simply ask none writes objects home same = record {
    processors = none;
    writes = subst (WritesOn q) (sym writes) tt;
    objects = objects;
    home = home;
    inside = subst (AreOn q) (sym same) inside;
  }

  pub effect_here : (ask : Ask Address) → AsksOn q f ask → IsHere q (effect_of m q f ask found) ask
  effect_here (Reads true a) on = absurd on
  effect_here (Reads false a) on = simply (Reads false a) refl refl tt refl refl
  effect_here (Writes true a v) on = absurd on
  effect_here (Writes false a v) on = record { processors = refl; writes = (on, tt); objects = tt; home = refl; inside = inside }
  effect_here (Copies a n) on = simply (Copies a n) refl refl tt refl refl
  effect_here (Indexes a n i) on = simply (Indexes a n i) refl refl tt refl refl
  effect_here (Shifts a i) on = simply (Shifts a i) refl refl tt refl refl
  effect_here (Computes op vs) on = simply (Computes op vs) refl refl tt refl refl
  effect_here Tests on = simply Tests refl refl tt refl refl
  effect_here (Makes kind n) on = simply (Makes kind n) refl refl (refl, tt) refl refl
  effect_here (MakesWith kind v) on = simply (MakesWith kind v) refl refl (refl, tt) refl refl
  effect_here (Builds c vs) on = simply (Builds c vs) refl refl (refl, tt) refl refl
  effect_here (Enters g o vs) on =
      record { processors = refl; writes = tt; objects = parameters_on q (function_shape m.code.shapes g).params vs; home = refl; inside = (on, inside) }
  effect_here Leaves on = record { processors = refl; writes = tt; objects = tt; home = refl; inside = left_inside q f.inside inside }
  effect_here (ForksAll n) on = simply (ForksAll n) refl refl tt refl refl
  effect_here (ForksOne v) on = simply (ForksOne v) refl refl (refl, tt) refl refl
  effect_here (Joins made) on = simply (Joins made) refl refl tt refl refl
  effect_here (Spawns g o vs) on = simply (Spawns g o vs) refl refl tt refl refl
  effect_here (Prints parts vs) on = simply (Prints parts vs) refl refl tt refl refl
  effect_here (Calls g o vs) on = absurd on
  effect_here (Casts g o vs) on = absurd on
  effect_here (NewProcessor c vs) on = absurd on

  pub held_here : (h : Shapes) (ask : Ask Address) → AsksOn q f ask → ChangesOn q (held_after h f.inside ask) (held_after_on h f.inside ask)
  held_here h (Enters g o vs) on = noted_on q h g o true on
  held_here h Leaves on = left_on q h f.inside inside
  held_here h ask on = nothing_on q

-- ---- where the threads stand

module _ {X : Type 0} (q : ℕ) where
  pub pushed_row : (xs : List X) (table : List (List X)) → push_items table q xs ≡ changed table q (λ ys. ys ++ xs)
  pushed_row [] table = sym (changed_alike table q _ (λ ys. ys) (λ ys at. append_none ys) ∙ changed_same table q)
    where
      append_none : (ys : List X) → ys ++ [] ≡ ys
      append_none [] = refl
      append_none (y ∷ ys) = ap (λ zs. y ∷ zs) (append_none ys)
  pushed_row (x ∷ xs) table =
      pushed_row xs (push_item table q x)
      ∙ (changed_twice table q (λ ys. ys ++ x ∷ []) (λ ys. ys ++ xs)
      ∙ changed_alike table q _ _ (λ ys at. append_assoc ys (x ∷ []) xs))

  pub put_row : (table : List (List X)) (xs : List X) (n : ℕ) (x : X)
      → put_item (push_items table q xs) (record { processor = q; thread = n }) x ≡ changed table q (λ ys. changed (ys ++ xs) n (λ y. x))
  put_row table xs n x =
      ap (λ ts. changed ts q (λ ys. changed ys n (λ y. x))) (pushed_row xs table)
      ∙ changed_twice table q (λ ys. ys ++ xs) (λ ys. changed ys n (λ y. x))

-- ---- the step

module _ (m : Mesh) (q n : ℕ) (p : Place) (shelf : slice_get m.shelves q ≡ Some p.shelf) (spots : slice_get m.spots q ≡ Some p.spots)
    (f : Fiber) (inside : AreOn q f.inside) (ask : Ask Address) (on : AsksOn q f ask) (k : Answer Address → Then Address) (found : Values) where
  abbrev e : Effect
  e = effect_of m q f ask found

  here : IsHere q e ask
  here = effect_here m q f found inside ask on

  abbrev t : ThreadNo
  t = record { processor = q; thread = n }

  abbrev first_shelves : List Shelf
  first_shelves = write_all m.shelves e.writes

  abbrev then_of : Values → Then Address
  then_of vs = k (record { values = vs; made = numbers (length f.kids) (branch_count ask) })

  abbrev gone_of : Values → (next home : ℕ) → Fiber
  gone_of vs next home =
      record { thread = (then_of vs).left; kids = f.kids ++ known (numbers_on home next (e.starts ++ (then_of vs).branches)); inside = e.inside }

  abbrev shelves_of : List Shelf → Fiber → List Shelf
  shelves_of ss g = freed m.code (settle m.code (runs g None [])) e.inside (held_after m.code.shapes f.inside ask (put_things ss e.objects))

  abbrev spots_of : List (List Spot) → Values → (next home : ℕ) → List (List Spot)
  spots_of table vs next home = put_item (push_items table home (new_spots (e.starts ++ (then_of vs).branches))) t (Active (gone_of vs next home))

  abbrev mesh_of : List Shelf → List (List Spot) → Mesh
  mesh_of ss table = record { code = m.code; shelves = ss; spots = table; holder = m.holder; output = m.output ++ e.prints }

  abbrev values : Values
  values = addresses_on q (write_all_on p.shelf e.writes) e.objects ++ found

  grounded : more_shelves e.processors first_shelves ≡ first_shelves
  grounded = ap (λ i. more_shelves i first_shelves) here.processors

  first_is : first_shelves ≡ changed m.shelves q (λ s. write_all_on s e.writes)
  first_is = values_on q e.writes here.writes m.shelves

  given_is : addresses (more_shelves e.processors first_shelves) e.objects ++ found ≡ values
  given_is =
      ap (λ vs. vs ++ found) (ap (λ ss. addresses ss e.objects) grounded
      ∙ addresses_here q e.objects here.objects first_shelves (write_all_on p.shelf e.writes)
      (ap (λ ss. slice_get ss q) first_is ∙ get_changed m.shelves q (λ s. write_all_on s e.writes) p.shelf shelf))

  next_is : made_of (more_lists e.processors m.spots) (start_home q ask) ≡ length p.spots
  next_is =
      ap (λ i. made_of (more_lists i m.spots) (start_home q ask)) here.processors
      ∙ (ap (made_of m.spots) here.home ∙ ap (λ o. option_map_or (λ (ps : List Spot). length ps) o 0) spots)

  abbrev gone : Fiber
  gone = gone_of values (length p.spots) q

  gone_is : gone_on m q f ask k found e ≡ gone
  gone_is =
      ap (λ vs. gone_of vs (made_of (more_lists e.processors m.spots) (start_home q ask)) (start_home q ask)) given_is
      ∙ (ap (λ i. gone_of values i (start_home q ask)) next_is ∙ ap (gone_of values (length p.spots)) here.home)

  shelves_are : shelves_of (more_shelves e.processors first_shelves) (gone_on m q f ask k found e)
      ≡ changed m.shelves q (λ s. (place_after m.code q n p f ask k found e).shelf)
  shelves_are =
      ap (λ ss. shelves_of ss (gone_on m q f ask k found e)) grounded
      ∙ (ap (shelves_of first_shelves) gone_is
      ∙ (then_on q (λ ss. held_after m.code.shapes f.inside ask (put_things (write_all ss e.writes) e.objects)) (freed m.code (settle m.code (runs gone None [])) e.inside)
      (λ s. held_after_on m.code.shapes f.inside ask (put_all_on (write_all_on s e.writes) e.objects)) (freed_on m.code (settle m.code (runs gone None [])) e.inside)
      (then_on q (λ ss. put_things (write_all ss e.writes) e.objects) (held_after m.code.shapes f.inside ask)
      (λ s. put_all_on (write_all_on s e.writes) e.objects) (held_after_on m.code.shapes f.inside ask)
      (then_on q (λ ss. write_all ss e.writes) (λ ss. put_things ss e.objects) (λ s. write_all_on s e.writes) (λ s. put_all_on s e.objects)
      (values_on q e.writes here.writes) (made_on q e.objects here.objects))
      (held_here m q f found inside m.code.shapes ask on))
      (freed_at q m.code (settle m.code (runs gone None [])) e.inside here.inside) m.shelves
      ∙ changed_alike m.shelves q _ _ (λ s at. ap (λ z. freed_on m.code (settle m.code (runs gone None [])) e.inside
      (held_after_on m.code.shapes f.inside ask (put_all_on (write_all_on z e.writes) e.objects))) (same_Some s p.shelf (sym at ∙ shelf)))))

  spots_are : spots_of (more_lists e.processors m.spots) (addresses (more_shelves e.processors first_shelves) e.objects ++ found)
      (made_of (more_lists e.processors m.spots) (start_home q ask)) (start_home q ask)
      ≡ changed m.spots q (λ ps. (place_after m.code q n p f ask k found e).spots)
  spots_are =
      ap (λ i. spots_of (more_lists i m.spots) (addresses (more_shelves e.processors first_shelves) e.objects ++ found)
      (made_of (more_lists e.processors m.spots) (start_home q ask)) (start_home q ask)) here.processors
      ∙ (ap (λ vs. spots_of m.spots vs (made_of (more_lists e.processors m.spots) (start_home q ask)) (start_home q ask)) given_is
      ∙ (ap (λ i. spots_of m.spots values i (start_home q ask)) next_is
      ∙ (ap (spots_of m.spots values (length p.spots)) here.home
      ∙ (put_row q m.spots (new_spots (e.starts ++ (then_of values).branches)) n (Active gone)
      ∙ changed_alike m.spots q _ _ (λ ps at.
      ap (λ us. changed (us ++ new_spots (e.starts ++ (then_of values).branches)) n (λ y. Active gone)) (same_Some ps p.spots (sym at ∙ spots)))))))

  -- all that changes is the processor, and the output behind what it was
  pub acted_here : acted m t f ask k found
      ≡ mesh_of (changed m.shelves q (λ s. (place_after m.code q n p f ask k found e).shelf)) (changed m.spots q (λ ps. (place_after m.code q n p f ask k found e).spots))
  acted_here =
      ap (λ ss. mesh_of ss (spots_of (more_lists e.processors m.spots) (addresses (more_shelves e.processors first_shelves) e.objects ++ found)
      (made_of (more_lists e.processors m.spots) (start_home q ask)) (start_home q ask))) shelves_are
      ∙ ap (mesh_of (changed m.shelves q (λ s. (place_after m.code q n p f ask k found e).shelf))) spots_are
