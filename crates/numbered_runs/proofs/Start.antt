-- Where a run begins: the parameters of main are made alike, and main's thread is entered alike.
use Rattle.std.proofs.Common.{◌≡◌, ◌≢◌, ℕ, suc, ◌<◌, Bool, true, false, true≢false, ◌&&◌, ◌||◌, List, [], ◌∷◌, length, drop, slice_get, Option, Some, None, ℤ, refl, sym, ap, ◌∙◌, subst, arith}
use Rattle.std.proofs.lemmas.List.{length-map}
use Rattle.std.proofs.lemmas.Bool.{cases_Bool}
use Rattle.std.proofs.lemmas.Option.{same_Some}
use Rattle.std.proofs.Common.{⊎_elim}
use Rattle.std.specs.FinMap as fin
use Rattle.cc_ops.specs.Values.{Void, Ptr}
use Rattle.cc_ops.specs.declared.kind.Kind.{Kind}
use Rattle.cc_ops.specs.Shelves.{Shelf, no_shelf}
use Rattle.cc_ops.specs.Machine.{Values}
use Rattle.cc_core.specs.Names.{Name, Map, Value, name_cmp, or_zero}
use Rattle.cc_core.specs.Core.{Program, Shapes, Function, shapes, function, function_shape}
use Rattle.cc_core.specs.Config as core
use Rattle.cc_core.specs.Config.{Config, Object, State, Live, count_slots}
use Rattle.cc_core.specs.Effects as effects
use Rattle.cc_core.specs.Effects.{cells_with}
use Rattle.cc_core.specs.Needs.{any_holds, is_inside}
use Rattle.cc_core.specs.Next.{entered}
use Rattle.cc_core.specs.Numbers.{Numbers, listed, new_processors, first_numbers}
use Rattle.cc_core.specs.Source.{IsProgram}
use Rattle.cc_core.specs.Steps as steps
use Rattle.cc_core.proofs.Maps.{cases_name, get_same, get_other}
use Rattle.cc_core.proofs.Fresh.{live_settled}
use Rattle.cc_code.specs.Code.{Runs, enter_at}
use Rattle.cc_code.specs.Layout.{layout}
use Rattle.cc_follows.proofs.Program.{layout_stands, layout_settles}
use Rattle.code_names.specs.Same.{Pairwise, Told, SameValues}
use Rattle.numbered_threads.specs.Numbered.{Stands as Follows}
use Rattle.numbered_threads.proofs.Numbered.{entered_stands}
use Rattle.one_holder.proofs.Values.{holds_found}
use Rattle.run_numbers.specs.RunNumbers.{begins}
use Rattle.run_numbers.proofs.Lists.{listed_empty}
use Rattle.run_numbers.proofs.Free.{first_parameters_free}
use Rattle.numbered_runs.specs.Machine.{Runner}
use Rattle.numbered_runs.specs.Effects.{parameters}
use Rattle.numbered_runs.specs.Stands.{Stands, is_object, SameCell, IsThreadAt, IsThingAt, AreThreads}
use Rattle.numbered_runs.specs.Steps.{settle}
use Rattle.numbered_runs.specs.Alike.{ints, first_machine, first_shelves, first_addresses}
use Rattle.numbered_runs.proofs.Lists.{pairwise_length}
use Rattle.numbered_runs.proofs.Asks.{cells_alike, dropped_alike}
use Rattle.numbered_runs.proofs.News.{AllThere, all_there}
use Rattle.numbered_runs.proofs.Objects.{Shelves, one_shelf_more, IsMade, things_put, addresses_alike}
use Rattle.run_numbers.proofs.Processors.{one_number}
use Rattle.numbered_runs.proofs.Settled.{SameRest, settled_alike}

-- ---- the parameters of main, from the k-th on: they are made on the first processor, and nobody holds one

abbrev parameters_named : ℕ → List (List Kind) → List Value → List (Name × Object)
parameters_named k = effects.parameters [] k []

ints_alike : (n : Numbers) (is : List ℤ) → SameValues (Told (is_object n)) (ints is) (steps.ints is)
ints_alike n [] = tt
ints_alike n (i ∷ is) = (refl, ints_alike n is)

made_alike : (n : Numbers) (s : Config) (h : Shapes) → slice_get n.processors 0 ≡ Some []
    → ((o : Name) → false ≡ any_holds h (Ptr o 0) (fin.values s.threads)) → (kinds : List (List Kind)) (k : ℕ) (vs : Values) (us : List Value)
    → SameValues (Told (is_object n)) vs us → AllThere s.objects (parameters_named k kinds us)
    → Pairwise (IsMade (IsThingAt n h s) n.processors) (parameters 0 kinds vs) (parameters_named k kinds us)
made_alike n s h root free [] k vs us same there = tt
made_alike n s h root free (ks ∷ kinds) k vs us same there =
    let cells : Pairwise (SameCell n) (cells_with ks vs) (effects.cells_with ks us) = cells_alike n ks vs us same in
    let thing : IsThingAt n h s (k ∷ []) (record { cells = cells_with ks vs; held = false }) =
    (record { home = []; cells = effects.cells_with ks us }, there.0, cells, free (k ∷ [])) in (
      (root, thing, pairwise_length (SameCell n) (cells_with ks vs) (effects.cells_with ks us) cells),
      made_alike n s h root free kinds (suc k) (drop (length ks) vs) (drop (length ks) us) (dropped_alike n (length ks) vs us same) there.1,
    )

no_processors : (k : ℕ) (kinds : List (List Kind)) (us : List Value) → new_processors (parameters_named k kinds us) ≡ []
no_processors k [] us = refl
no_processors k (ks ∷ kinds) us = no_processors (suc k) kinds (drop (length ks) us)

-- ---- the machine at the beginning

module _ (p : Program) (source : IsProgram p) (below : p.main < length p.functions) (is : List ℤ) where
  abbrev s : Config
  s = steps.start p is

  abbrev n : Numbers
  n = first_numbers p is

  abbrev kinds : List (List Kind)
  kinds = (function p p.main).shape.params

  abbrev made : List (Name × Object)
  made = parameters_named 0 kinds (steps.ints is)

  abbrev main : core.Thread
  main = record {
    home = [];
    term = entered p p.main Void (effects.addresses made);
    asked = None;
    threads = 0;
    objects = length made;
    inside = (p.main, Void) ∷ [];
  }

  abbrev runner : Runner
  runner = record {
    thread = Runs (enter_at (layout p) p.main Void (first_addresses p is)) [] [];
    asked = None;
    kids = [];
    inside = (p.main, Void) ∷ [];
  }

  processors : n.processors ≡ [] ∷ []
  processors = ap (λ qs. [] ∷ qs) (no_processors 0 kinds (steps.ints is))

  root : slice_get n.processors 0 ≡ Some []
  root = refl

  main_there : fin.get s.threads [] ≡ Some (steps.settle p main)
  main_there = get_same fin.empty [] (steps.settle p main)

  -- main alone is there, and it is inside no function of an object
  main_outside : (o : Name) → is_inside (shapes p) (Ptr o 0) main.inside ≡ true → ⊥
  main_outside o inside = outside (function_shape (shapes p) p.main).atomic inside
    where
      outside : (atomic : Bool) → (atomic && false) || false ≡ true → ⊥
      outside true e = true≢false (sym e)
      outside false e = true≢false (sym e)

  alone : (x : Name) (l : core.Thread) → fin.get s.threads x ≡ Some (Live l) → l ≡ main
  alone x l there = ⊎_elim
      (λ (is : x ≡ []).
      let same : Some (steps.settle p main) ≡ Some (Live l) = sym main_there ∙ (sym (ap (fin.get s.threads) is) ∙ there) in
      live_settled p main l (same_Some (steps.settle p main) (Live l) same))
      (λ (other : x ≢ []).
      let none : None ≡ Some (Live l) = sym (fin.get-empty name_cmp x) ∙ (sym (get_other fin.empty [] (steps.settle p main) x other) ∙ there) in cc)
      (cases_name x [])

  free_object : (o : Name) → false ≡ any_holds (shapes p) (Ptr o 0) (fin.values s.threads)
  free_object o = ⊎_elim
      (λ (held : any_holds (shapes p) (Ptr o 0) (fin.values s.threads) ≡ true).
      let found = holds_found (shapes p) (Ptr o 0) s.threads held in
      absurd (main_outside o (sym (ap (λ (l : core.Thread). is_inside (shapes p) (Ptr o 0) l.inside) (alone found.0 found.1 found.2)) ∙ found.3)))
      (λ (not_held : any_holds (shapes p) (Ptr o 0) (fin.values s.threads) ≡ false). sym not_held)
      (cases_Bool (any_holds (shapes p) (Ptr o 0) (fin.values s.threads)))

  only_root : (j k : ℕ) (q : Name) → slice_get n.processors j ≡ Some q → slice_get n.processors k ≡ Some q → j ≡ k
  only_root = one_number p is s n begins

  abbrev AreShelves : Map (List Name) → Map ℕ → List Shelf → Type 0
  AreShelves = Shelves (IsThingAt n (shapes p) s) n.processors

  nothing_made : AreShelves fin.empty fin.empty (no_shelf ∷ [])
  nothing_made =
      subst (λ (qs : List Name). Shelves (IsThingAt n (shapes p) s) qs fin.empty fin.empty (no_shelf ∷ [])) (sym processors)
      (one_shelf_more (IsThingAt n (shapes p) s) [] fin.empty fin.empty [] [] (listed_empty []) (ap or_zero (fin.get-empty name_cmp [])) tt)

  all_made : Pairwise (IsMade (IsThingAt n (shapes p) s) n.processors) (parameters 0 kinds (ints is)) made
  all_made =
      made_alike n s (shapes p) root free_object kinds 0 (ints is) (steps.ints is) (ints_alike n is)
      (all_there made fin.empty (first_parameters_free [] [] kinds (steps.ints is)))

  shelves : AreShelves n.objects s.slots_made (first_shelves p is)
  shelves = things_put (IsThingAt n (shapes p) s) n.processors only_root (parameters 0 kinds (ints is)) made fin.empty fin.empty (no_shelf ∷ []) all_made nothing_made

  below_all : p.main < length (shapes p).functions
  below_all = let long = length-map p.functions (λ (f : Function). f.shape) in omega (arith, below, long)

  main_follows : Follows p (layout p) (is_object n) runner.thread main.term
  main_follows =
      entered_stands p (layout p) (layout_stands p source) p.main below_all (is_object n) Void Void tt (first_addresses p is) (effects.addresses made)
      (addresses_alike (IsThingAt n (shapes p) s) n.processors only_root n (parameters 0 kinds (ints is)) made fin.empty fin.empty (no_shelf ∷ []) refl refl
      all_made nothing_made)

  main_stands : IsThreadAt n p (layout p) s [] (settle (layout p) runner)
  main_stands =
      let rest : SameRest n [] runner main = record { asked = tt; made = refl; kids = λ k t h. let none : None ≡ Some t = h in cc; inside = ((refl, tt), tt) } in (
        steps.settle p main,
        main_there,
        settled_alike p (layout p) (layout_settles p source) n [] runner main rest main_follows,
      )

  listed_main : listed n.threads [] ≡ [] ∷ []
  listed_main = ap (λ (o : Option (List Name)). elim o [ None ↦ [] | Some xs ↦ xs ]) (get_same fin.empty [] ([] ∷ []))

  main_row : AreThreads n p (layout p) s [] (settle (layout p) runner ∷ [])
  main_row =
      subst (λ (xs : List Name). Pairwise (IsThreadAt n p (layout p) s) xs (settle (layout p) runner ∷ [])) (sym listed_main) (main_stands, tt)

  pub run_begins : Stands p (first_machine p is) s n
  run_begins = record {
    source = source;
    code = refl;
    ints = is;
    run = begins;
    output = refl;
    processors = ap (λ (qs : List Name). length qs) (sym processors);
    threads = subst (λ (qs : List Name). Pairwise (AreThreads n p (layout p) s) qs (first_machine p is).threads) (sym processors) (main_row, tt);
    shelves = shelves;
  }
