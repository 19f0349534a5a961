-- What is seen on one processor, without the list of which it is one.
use Rattle.std.proofs.Common.{◌≡◌, ℕ, zero, suc, List, [], ◌∷◌, length, map, false, Some, refl, ap, ◌∙◌}
use Rattle.std.specs.Prelude.{slice_get}
use Rattle.std.specs.Option.{option_and_then, option_map_or}
use Rattle.std.proofs.lemmas.List.{length-map}
use Rattle.cc_ops.specs.Values.{Ptr}
use Rattle.cc_ops.specs.Machine.{Address}
use Rattle.cc_ops.specs.declared.number.ThreadNo.{ThreadNo}
use Rattle.cc_ops.specs.Shelves.{Thing, Shelf, no_shelf, cell_in, cells_in, is_held, slots_in}
use Rattle.law_mesh.specs.Local.{cell_on}
use Rattle.law_processors.specs.Orderly.{held_on}
use Rattle.law_processors.specs.Processors.{Entry, Lives, Ended}
use Rattle.law_mesh.specs.Spots.{Spot, made_of, is_gone, item_in}
use Rattle.law_processors.specs.Alone.{alone_at, seen_entry, cells_on, has_ended_on}
use Rattle.law_processors.proofs.Seen.{alone_there}

module _ (q : ℕ) (s : Shelf) (a : Address) (here : a.processor ≡ q) where
  shelf_there : slice_get (alone_at q no_shelf s) a.processor ≡ Some s
  shelf_there = ap (slice_get (alone_at q no_shelf s)) here ∙ alone_there q no_shelf s

  pub cell_seen : (x : ℕ) → cell_in (alone_at q no_shelf s) a x ≡ cell_on s a.object x
  cell_seen x = ap (λ o. option_and_then (λ (t : Thing). slice_get t.cells x) (option_and_then (λ (z : Shelf). slice_get z.things a.object) o)) shelf_there

  pub cells_seen : cells_in (alone_at q no_shelf s) a ≡ cells_on s a.object
  cells_seen = ap (λ o. option_map_or (λ (t : Thing). t.cells) (option_and_then (λ (z : Shelf). slice_get z.things a.object) o) []) shelf_there

  pub held_seen : (x : ℕ) → is_held (alone_at q no_shelf s) (Ptr a x) ≡ held_on s a.object
  held_seen x = ap (λ o. option_map_or (λ (t : Thing). t.held) (option_and_then (λ (z : Shelf). slice_get z.things a.object) o) false) shelf_there

pub slots_seen : (q : ℕ) (s : Shelf) → slots_in (alone_at q no_shelf s) q ≡ s.slots
slots_seen q s = ap (λ o. option_map_or (λ (z : Shelf). z.slots) o 0) (alone_there q no_shelf s)

pub made_seen : (q : ℕ) (es : List Entry) → made_of (alone_at q [] (map seen_entry es)) q ≡ length es
made_seen q es = ap (λ o. option_map_or (λ (ps : List Spot). length ps) o 0) (alone_there q [] (map seen_entry es)) ∙ length-map es seen_entry

pub ended_seen : (q : ℕ) (es : List Entry) (t : ThreadNo) → t.processor ≡ q → is_gone (item_in (alone_at q [] (map seen_entry es)) t) ≡ has_ended_on (slice_get es t.thread)
ended_seen q es t here =
    ap (λ o. is_gone (option_and_then (λ (ps : List Spot). slice_get ps t.thread) o)) (ap (slice_get (alone_at q [] (map seen_entry es))) here ∙ alone_there q [] (map seen_entry es))
    ∙ by es t.thread
  where
    by : (xs : List Entry) (i : ℕ) → is_gone (slice_get (map seen_entry xs) i) ≡ has_ended_on (slice_get xs i)
    by [] i = refl
    by (Lives f g c ∷ xs) zero = refl
    by (Ended v ∷ xs) zero = refl
    by (x ∷ xs) (suc i) = by xs i
