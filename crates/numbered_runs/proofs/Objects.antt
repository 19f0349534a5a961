-- The objects of each processor, as a step changes them: what they are kept, changed, written and made.
use Rattle.std.proofs.Common.{◌≡◌, ◌≢◌, ℕ, ◌+◌, false, List, [], ◌∷◌, ◌++◌, length, slice_get, Some, refl, sym, ap, ◌∙◌, subst}
use Rattle.std.specs.Prelude.{ℤ}
use Rattle.std.specs.Option.{option_map_or}
use Rattle.cc_ops.specs.Values as values
use Rattle.cc_ops.specs.Values.{Ptr}
use Rattle.cc_ops.specs.Machine.{Address}
use Rattle.cc_ops.specs.Shelves.{Thing, Shelf, no_shelf, changed, change_thing, put_thing, next_address}
use Rattle.cc_core.specs.Names.{Name, Map, count, added}
use Rattle.cc_core.specs.Core.{Program}
use Rattle.cc_core.specs.Config.{Config, Object, count_slots}
use Rattle.cc_core.specs.Effects as core
use Rattle.cc_core.specs.Numbers.{Numbers, listed, listing, list_objects}
use Rattle.cc_core.proofs.Maps.{count-added_same, count-added_other}
use Rattle.code_names.specs.Same.{Pairwise, Told, SameValue, SameValues}
use Rattle.run_numbers.specs.RunNumbers.{IsNumbered, IsListed}
use Rattle.run_numbers.proofs.Lists.{listed_same, listed_other}
use Rattle.run_numbers.proofs.Free.{objects_stay}
use Rattle.run_numbers.proofs.Numbers.{threads_are_numbered, objects_are_numbered}
use Rattle.run_numbers.proofs.Processors.{one_number}
use Rattle.numbered_runs.specs.Effects.{put_things, addresses}
use Rattle.numbered_runs.specs.Stands.{is_object}
use Rattle.numbered_runs.proofs.Lists.{get_one, get_last, pairwise_length, pairwise_right, pairwise_kept, pairwise_changed, pairwise_push}
use Rattle.numbered_runs.proofs.Naming.{object_placed}

-- no processor has two numbers, and no name has two
pub record AreOnce (processors : List Name) (lists : Map (List Name)) : Type 0 where
  pub one_processor : (j k : ℕ) (q : Name) → slice_get processors j ≡ Some q → slice_get processors k ≡ Some q → j ≡ k
  pub one_name : (q r : Name) (k j : ℕ) (x : Name) → IsListed lists q k x → IsListed lists r j x → (q ≡ r) × (k ≡ j)

-- so it is with the numbers of a run
module _ (p : Program) (ns : List ℤ) (s : Config) (n : Numbers) (run : IsNumbered p ns s n) where
  pub threads_once : AreOnce n.processors n.threads
  threads_once = record { one_processor = one_number p ns s n run; one_name = (threads_are_numbered p ns s n run).once }

  pub objects_once : AreOnce n.processors n.objects
  objects_once = record { one_processor = one_number p ns s n run; one_name = (objects_are_numbered p ns s n run).once }

module _ (S : Name → Thing → Type 0) where
  -- the objects of processor q, one by one, and how many cells were made there
  abbrev pub ShelfOf : Map (List Name) → Map ℕ → Name → Shelf → Type 0
  ShelfOf lists slots q shelf = Pairwise S (listed lists q) shelf.things × (shelf.slots ≡ count slots q)

  abbrev pub Shelves : List Name → Map (List Name) → Map ℕ → List Shelf → Type 0
  Shelves processors lists slots shelves = Pairwise (ShelfOf lists slots) processors shelves

-- ---- objects that are kept, and one that is changed

module _ (S T : Name → Thing → Type 0) (processors : List Name) (lists : Map (List Name)) (slots : Map ℕ) where
  pub shelves_kept : (shelves : List Shelf) → ((q : Name) (k : ℕ) (o : Name) (x : Thing) → IsListed lists q k o → S o x → T o x)
      → Shelves S processors lists slots shelves → Shelves T processors lists slots shelves
  shelves_kept shelves keep =
      pairwise_kept (ShelfOf S lists slots) (ShelfOf T lists slots) processors shelves
      (λ j q shelf _ _ h. (pairwise_kept S T (listed lists q) shelf.things (λ k o x at _ s. keep q k o x at s) h.0, h.1))

  module _ (once : AreOnce processors lists) (a : Address) (o q : Name) (here : slice_get processors a.processor ≡ Some q)
      (at : IsListed lists q a.object o) (f : Thing → Thing) (now : (x : Thing) → S o x → T o (f x))
      (others : (u : Name) (x : Thing) → u ≢ o → S u x → T u x) where
    its_shelf : (r : Name) (shelf : Shelf) → slice_get processors a.processor ≡ Some r → ShelfOf S lists slots r shelf
        → ShelfOf T lists slots r (record { things = changed shelf.things a.object f; slots = shelf.slots })
    its_shelf r shelf is h =
        let same : q ≡ r = get_one processors a.processor q r here is in (
          pairwise_changed S T (listed lists r) shelf.things a.object f
              (λ u x is_u _ s.
              let named : o ≡ u = get_one (listed lists r) a.object o u (subst (λ v. IsListed lists v a.object o) same at) is_u in
              subst (λ v. T v (f x)) named (now x (subst (λ v. S v x) (sym named) s)))
              (λ k u x ne is_u _ s. others u x (λ e. ne (once.one_name r q k a.object o (subst (λ v. IsListed lists r k v) e is_u) at).1) s)
              h.0,
          h.1,
        )

    other_shelf : (j : ℕ) (r : Name) (shelf : Shelf) → j ≢ a.processor → slice_get processors j ≡ Some r → ShelfOf S lists slots r shelf
        → ShelfOf T lists slots r shelf
    other_shelf j r shelf ne is h = (
      pairwise_kept S T (listed lists r) shelf.things
          (λ k u x is_u _ s. others u x (λ e.
          let same : r ≡ q = (once.one_name r q k a.object o (subst (λ v. IsListed lists r k v) e is_u) at).0 in
          ne (once.one_processor j a.processor q (is ∙ ap Some same) here)) s)
          h.0,
      h.1,
    )

    pub thing_changed : (shelves : List Shelf) → Shelves S processors lists slots shelves
        → Shelves T processors lists slots (change_thing shelves a f)
    thing_changed shelves =
        pairwise_changed (ShelfOf S lists slots) (ShelfOf T lists slots) processors shelves a.processor _
        (λ r shelf is _ h. its_shelf r shelf is h)
        (λ j r shelf ne is _ h. other_shelf j r shelf ne is h)

-- ---- objects that are made

module _ (S : Name → Thing → Type 0) where
  -- a processor more, on which nothing is
  pub one_shelf_more : (processors : List Name) (lists : Map (List Name)) (slots : Map ℕ) (shelves : List Shelf) (q : Name)
      → listed lists q ≡ [] → count slots q ≡ 0 → Shelves S processors lists slots shelves
      → Shelves S (processors ++ q ∷ []) lists slots (shelves ++ no_shelf ∷ [])
  one_shelf_more processors lists slots shelves q none zero_slots h =
      pairwise_push (ShelfOf S lists slots) processors shelves q no_shelf h
      (subst (λ us. Pairwise S us []) (sym none) tt, sym zero_slots)

  -- an object that is made, by its processor's number and by name
  abbrev pub IsMade : List Name → (ℕ × List (values.Cell Address)) → (Name × Object) → Type 0
  IsMade processors e d = (slice_get processors e.0 ≡ Some d.1.home) × S d.0 (record { cells = e.1; held = false }) × (length e.1 ≡ length d.1.cells)

  module _ (processors : List Name) (only : (j k : ℕ) (q : Name) → slice_get processors j ≡ Some q → slice_get processors k ≡ Some q → j ≡ k) where
    thing_put : (lists : Map (List Name)) (slots : Map ℕ) (shelves : List Shelf) (i m : ℕ) (q o : Name) (cells : List (values.Cell Address))
        → slice_get processors i ≡ Some q → S o (record { cells = cells; held = false }) → length cells ≡ m
        → Shelves S processors lists slots shelves → Shelves S processors (listing lists q o) (added slots q m) (put_thing shelves i cells)
    thing_put lists slots shelves i m q o cells here s long =
        pairwise_changed (ShelfOf S lists slots) (ShelfOf S (listing lists q o) (added slots q m)) processors shelves i _
        (λ r shelf is _ h.
        let same : q ≡ r = get_one processors i q r here is in
        subst (λ v. ShelfOf S (listing lists q o) (added slots q m) v
        (record { things = shelf.things ++ record { cells = cells; held = false } ∷ []; slots = shelf.slots + length cells })) same
        (grown shelf (subst (λ v. ShelfOf S lists slots v shelf) (sym same) h)))
        (λ j r shelf ne is _ h.
        let other : r ≢ q = λ e. ne (only j i q (is ∙ ap Some e) here) in (
          subst (λ us. Pairwise S us shelf.things) (sym (listed_other lists q o r other)) h.0,
          h.1 ∙ sym (count-added_other slots q r m other),
        ))
      where
        grown : (shelf : Shelf) → ShelfOf S lists slots q shelf
            → ShelfOf S (listing lists q o) (added slots q m) q
            (record { things = shelf.things ++ record { cells = cells; held = false } ∷ []; slots = shelf.slots + length cells })
        grown shelf h = (
          subst (λ us. Pairwise S us (shelf.things ++ record { cells = cells; held = false } ∷ [])) (sym (listed_same lists q o))
              (pairwise_push S (listed lists q) shelf.things o (record { cells = cells; held = false }) h.0 s),
          ap (λ k. k + length cells) h.1 ∙ (ap (λ k. count slots q + k) long ∙ sym (count-added_same slots q m)),
        )

    pub things_put : (es : List (ℕ × List (values.Cell Address))) (ds : List (Name × Object)) (lists : Map (List Name)) (slots : Map ℕ)
        (shelves : List Shelf) → Pairwise (IsMade processors) es ds → Shelves S processors lists slots shelves
        → Shelves S processors (list_objects lists ds) (count_slots slots ds) (put_things shelves es)
    things_put [] [] lists slots shelves made h = h
    things_put [] (d ∷ ds) lists slots shelves made h = absurd made
    things_put (e ∷ es) [] lists slots shelves made h = absurd made
    things_put (e ∷ es) (d ∷ ds) lists slots shelves made h =
        things_put es ds (listing lists d.1.home d.0) (added slots d.1.home (length d.1.cells)) (put_thing shelves e.0 e.1) made.1
        (thing_put lists slots shelves e.0 (length d.1.cells) d.1.home d.0 e.1 made.0.0 made.0.1 made.0.2 h)

    -- the next address is that of the object that is made next
    next_is : (n : Numbers) (lists : Map (List Name)) (slots : Map ℕ) (shelves : List Shelf) (i : ℕ) (q o : Name) (ds : List (Name × Object))
        → n.processors ≡ processors → n.objects ≡ list_objects (listing lists q o) ds → slice_get processors i ≡ Some q
        → Shelves S processors lists slots shelves → (a : Address) × (next_address shelves i ≡ Ptr a 0) × Told (is_object n) a o
    next_is n lists slots shelves i q o ds are all here h =
        let at = pairwise_right (ShelfOf S lists slots) processors shelves h i q here in
        let long : length (listed lists q) ≡ length at.0.things = pairwise_length S (listed lists q) at.0.things at.2.0 in
        let newest : IsListed (listing lists q o) q (length (listed lists q)) o =
        ap (λ us. slice_get us (length (listed lists q))) (listed_same lists q o) ∙ get_last (listed lists q) o in
        let stays : IsListed n.objects q (length at.0.things) o =
        subst (λ k. IsListed n.objects q k o) long
        (subst (λ m. IsListed m q (length (listed lists q)) o) (sym all) (objects_stay ds (listing lists q o) q (length (listed lists q)) o newest)) in
        let a : Address = record { processor = i; object = length at.0.things } in (
          a,
          ap (λ s. Ptr (record { processor = i; object = option_map_or (λ (u : Shelf). length u.things) s 0 }) 0) at.1,
          object_placed n a q o (ap (λ us. slice_get us i) are ∙ here) stays,
        )

    pub addresses_alike : (n : Numbers) (es : List (ℕ × List (values.Cell Address))) (ds : List (Name × Object)) (lists : Map (List Name))
        (slots : Map ℕ) (shelves : List Shelf) → n.processors ≡ processors → n.objects ≡ list_objects lists ds → Pairwise (IsMade processors) es ds
        → Shelves S processors lists slots shelves → SameValues (Told (is_object n)) (addresses shelves es) (core.addresses ds)
    addresses_alike n [] [] lists slots shelves are all made h = tt
    addresses_alike n [] (d ∷ ds) lists slots shelves are all made h = absurd made
    addresses_alike n (e ∷ es) [] lists slots shelves are all made h = absurd made
    addresses_alike n (e ∷ es) (d ∷ ds) lists slots shelves are all made h =
        let at = next_is n lists slots shelves e.0 d.1.home d.0 ds are all made.0.0 h in (
          subst (λ v. SameValue (Told (is_object n)) v (Ptr d.0 0)) (sym at.1) (at.2, refl),
          addresses_alike n es ds (listing lists d.1.home d.0) (added slots d.1.home (length d.1.cells)) (put_thing shelves e.0 e.1) are all made.1
              (thing_put lists slots shelves e.0 (length d.1.cells) d.1.home d.0 e.1 made.0.0 made.0.1 made.0.2 h),
        )
