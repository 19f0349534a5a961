-- The objects after a step, before it is noted who is inside: they are written and made as the definition says.
use Rattle.std.proofs.Common.{◌≡◌, ◌≢◌, ⊎_elim, ℕ, Bool, List, [], ◌∷◌, ◌++◌, slice_get, Some, None, refl, sym, ◌∙◌, subst, append-nil}
use Rattle.std.specs.FinMap as fin
use Rattle.cc_ops.specs.Values as values
use Rattle.cc_ops.specs.Values.{Ptr, Plain, Empty, Full}
use Rattle.cc_ops.specs.Machine.{Address}
use Rattle.cc_ops.specs.Shelves.{Shelf}
use Rattle.cc_core.specs.Names.{Name, Map, Value, Cell, puts}
use Rattle.cc_core.specs.Core.{Program, shapes}
use Rattle.cc_core.specs.Config as config
use Rattle.cc_core.specs.Config.{Config, Object, count_slots}
use Rattle.cc_core.specs.Effects as core
use Rattle.cc_core.specs.Needs.{any_holds}
use Rattle.cc_core.specs.Numbers.{Numbers, list_objects, new_processors}
use Rattle.code_names.specs.Same.{Pairwise, Told, SameValues}
use Rattle.code_names.proofs.Values.{value_later}
use Rattle.numbered_threads.specs.Numbered.{IsLater}
use Rattle.run_numbers.proofs.Free.{AllFree, writes_some, none_or_some}
use Rattle.run_numbers.proofs.Slots.{slots_housed}
use Rattle.numbered_runs.specs.Machine.{Machine}
use Rattle.numbered_runs.specs.Effects.{Effect, write_all, more_shelves, put_things, addresses}
use Rattle.numbered_runs.specs.Stands.{Stands, is_object, Alike, SameCell}
use Rattle.numbered_runs.proofs.Lists.{pairwise_kept, pairwise_length}
use Rattle.numbered_runs.proofs.Objects.{objects_once, Shelves, shelves_kept, one_shelf_more, IsMade, things_put, addresses_alike}
use Rattle.numbered_runs.proofs.Writes.{ThingIs, writes_alike}
use Rattle.numbered_runs.proofs.Asks.{SameMade, SameProcessors, SameWritten, SameEffect}
use Rattle.numbered_runs.proofs.News.{AllThere, AllAbsent, still_there, all_there, all_absent, nobody_inside, no_number, no_objects}

-- ---- what is alike stays so, where more has names

module _ (n after : Numbers) (later : IsLater (is_object n) (is_object after)) where
  pub alike_later : (v : values.Value Address) (u : Value) → Alike n v u → Alike after v u
  alike_later = value_later (Told (is_object n)) (Told (is_object after)) later

  cell_later : (c : values.Cell Address) (d : Cell) → SameCell n c d → SameCell after c d
  cell_later (Plain v) (Plain u) h = alike_later v u h
  cell_later Empty Empty h = tt
  cell_later (Full v) (Full u) h = alike_later v u h
  cell_later c d h = absurd h

  pub cells_later : (cs : List (values.Cell Address)) (ds : List Cell) → Pairwise (SameCell n) cs ds → Pairwise (SameCell after) cs ds
  cells_later cs ds = pairwise_kept (SameCell n) (SameCell after) cs ds (λ k c d _ _ h. cell_later c d h)

-- a thread's effect on a machine that stands for s, and on s: what is alike by the numbers n
module _ (p : Program) (w : Machine) (s : Config) (n : Numbers) (st : Stands p w s n) (e : Effect) (d : core.Effect)
    (alike : SameEffect p w.code s n e d) (after : Numbers) (later : IsLater (is_object n) (is_object after))
    (processors_are : after.processors ≡ n.processors ++ new_processors d.objects) (objects_are : after.objects ≡ list_objects n.objects d.objects)
    (only : (j k : ℕ) (q : Name) → slice_get after.processors j ≡ Some q → slice_get after.processors k ≡ Some q → j ≡ k)
    (free : AllFree (config.write_all s.objects d.writes) d.objects) where
  abbrev pub held_before : Name → Bool
  held_before o = any_holds (shapes p) (Ptr o 0) (fin.values s.threads)

  abbrev written : Map Object
  written = config.write_all s.objects d.writes

  abbrev made : Map Object
  made = puts d.objects written

  abbrev Are : Map Object → List Name → List Shelf → Type 0
  Are m processors shelves = Shelves (ThingIs after m held_before) processors n.objects s.slots_made shelves

  -- ---- what is written

  before : Are s.objects n.processors w.shelves
  before =
      shelves_kept (ThingIs n s.objects held_before) (ThingIs after s.objects held_before) n.processors n.objects s.slots_made w.shelves
      (λ q k o x at h. (h.0, h.1, cells_later n after later x.cells h.0.cells h.2, h.3)) st.shelves

  after_writes : Are written n.processors (write_all w.shelves e.writes)
  after_writes =
      writes_alike n after held_before s.slots_made (objects_once p st.ints s n st.run) e.writes d.writes s.objects w.shelves
      (pairwise_kept (SameWritten n) _ e.writes d.writes (λ k a b _ _ h. (h.0, alike_later n after later a.1 b.1 h.1)) alike.writes) before

  -- what is there stays when more is made
  kept : Are made n.processors (write_all w.shelves e.writes)
  kept =
      shelves_kept (ThingIs after written held_before) (ThingIs after made held_before) n.processors n.objects s.slots_made
      (write_all w.shelves e.writes) (λ q k o x at h. (h.0, still_there d.objects written free o h.0 h.1, h.2, h.3)) after_writes

  -- ---- a processor more

  with_more : (many : ℕ) (names : List Name) → SameProcessors s many names
      → Are made (n.processors ++ names) (more_shelves many (write_all w.shelves e.writes))
  with_more many names same = ⊎_elim
      (λ (none : (many ≡ 0) × (names ≡ [])).
      subst (λ qs. Are made (n.processors ++ qs) (more_shelves many (write_all w.shelves e.writes))) (sym none.1)
      (subst (λ k. Are made (n.processors ++ []) (more_shelves k (write_all w.shelves e.writes))) (sym none.0)
      (subst (λ qs. Are made qs (write_all w.shelves e.writes)) (sym (append-nil n.processors)) kept)))
      (λ (one : (q : Name) × (many ≡ 1) × (names ≡ q ∷ []) × (q ≢ []) × (fin.get s.objects q ≡ None)).
      subst (λ qs. Are made (n.processors ++ qs) (more_shelves many (write_all w.shelves e.writes))) (sym one.2)
      (subst (λ k. Are made (n.processors ++ one.0 ∷ []) (more_shelves k (write_all w.shelves e.writes))) (sym one.1)
      (one_shelf_more (ThingIs after made held_before) n.processors n.objects s.slots_made (write_all w.shelves e.writes) one.0
      (no_objects p w s n st one.0 one.3 one.4)
      (slots_housed p st.ints s n st.run one.0 (no_number p w s n st one.0 one.3 one.4)) kept)))
      same

  abbrev ground' : List Shelf
  ground' = more_shelves e.processors (write_all w.shelves e.writes)

  on_ground : Are made after.processors ground'
  on_ground = subst (λ qs. Are made qs ground') (sym processors_are) (with_more e.processors (new_processors d.objects) alike.processors)

  -- ---- what is made

  not_written : (o : Name) → fin.get written o ≡ None → fin.get s.objects o ≡ None
  not_written o none = ⊎_elim
      (λ (h : fin.get s.objects o ≡ None). h)
      (λ (h : (b : Object) × (fin.get s.objects o ≡ Some b)).
      let still = writes_some d.writes s.objects o h.0 h.1 in
      let both : None ≡ Some still.0 = sym none ∙ still.1 in
      cc)
      (none_or_some (fin.get s.objects o))

  all_made : (es : List (ℕ × List (values.Cell Address))) (ds : List (Name × Object)) (processors : List Name)
      → Pairwise (SameMade n processors) es ds → AllThere made ds → AllAbsent written ds
      → Pairwise (IsMade (ThingIs after made held_before) processors) es ds
  all_made [] [] processors same there absent = tt
  all_made [] (b ∷ ds) processors same there absent = absurd same
  all_made (a ∷ es) [] processors same there absent = absurd same
  all_made (a ∷ es) (b ∷ ds) processors same there absent = (
    (
      same.0.0,
      (
        b.1,
        there.0,
        cells_later n after later a.1 b.1.cells same.0.1,
        sym (nobody_inside p w s n st b.0 (not_written b.0 absent.0)),
      ),
      pairwise_length (SameCell n) a.1 b.1.cells same.0.1,
    ),
    all_made es ds processors same.1 there.1 absent.1,
  )

  are_made : Pairwise (IsMade (ThingIs after made held_before) after.processors) e.objects d.objects
  are_made =
      subst (λ qs. Pairwise (IsMade (ThingIs after made held_before) qs) e.objects d.objects) (sym processors_are)
      (all_made e.objects d.objects (n.processors ++ new_processors d.objects) alike.objects (all_there d.objects written free)
      (all_absent d.objects written free))

  pub objects_after : Shelves (ThingIs after made held_before) after.processors after.objects (count_slots s.slots_made d.objects)
      (put_things ground' e.objects)
  objects_after =
      subst (λ m. Shelves (ThingIs after made held_before) after.processors m (count_slots s.slots_made d.objects) (put_things ground' e.objects))
      (sym objects_are)
      (things_put (ThingIs after made held_before) after.processors only e.objects d.objects n.objects s.slots_made ground' are_made on_ground)

  pub addresses_after : SameValues (Told (is_object after)) (addresses ground' e.objects) (core.addresses d.objects)
  addresses_after =
      addresses_alike (ThingIs after made held_before) after.processors only after e.objects d.objects n.objects s.slots_made ground' refl objects_are
      are_made on_ground
