-- What an ask changes, by numbers and by names, is alike: the same is made, written, started and printed.
use Rattle.std.proofs.Common.{◌≡◌, ◌≢◌, ◌⊎◌, inl, inr, ℕ, zero, suc, ◌<◌, ◌≤◌, false, List, [], ◌∷◌, ◌++◌, length, drop, replicate, slice_get, Some, None, refl, sym, ap, ◌∙◌, subst, arith}
use Rattle.std.proofs.lemmas.Bool.{false_from_ne_true}
use Rattle.std.specs.Prelude.{if◌then◌else◌}
use Rattle.std.specs.FinMap as fin
use Rattle.cc_ops.specs.Values as values
use Rattle.cc_ops.specs.Values.{Void, Int, Null, Ptr, Plain, Result, Gives, Fails, fresh, first, after_first, int_of}
use Rattle.cc_ops.specs.Classes.{construct}
use Rattle.cc_ops.specs.Machine.{Address, same_address, Values}
use Rattle.cc_ops.specs.declared.kind.Kind.{Kind}
use Rattle.cc_ops.specs.declared.number.ThreadNo.{ThreadNo}
use Rattle.cc_core.specs.Names.{Name, same_name, Value, Cell}
use Rattle.cc_core.specs.Core.{Program, PrintPart, Number, Text, Endl, shapes, function_shape, class_shape}
use Rattle.cc_core.specs.Asks.{Ask, Reads, Writes, Copies, Indexes, Shifts, Computes, Tests, Makes, MakesWith, Builds, Enters, Leaves}
use Rattle.cc_core.specs.Asks.{ForksAll, ForksOne, Joins, Spawns, Prints, Calls, Casts, NewProcessor}
use Rattle.cc_core.specs.Config as config
use Rattle.cc_core.specs.Config.{Config, Live, Object}
use Rattle.cc_core.specs.Effects as core
use Rattle.cc_core.specs.Effects.{cells_with, constructed, printed, left_behind}
use Rattle.cc_core.specs.Laws.{NamesAreFree}
use Rattle.cc_core.specs.Numbers.{Numbers, new_processors}
use Rattle.cc_core.proofs.Fresh.{free_reached}
use Rattle.cc_code.specs.Code.{Code}
use Rattle.cc_code.specs.Agrees.{ProgramStands}
use Rattle.code_names.specs.Same.{Pairwise, Told, SameValues, SameAsk}
use Rattle.code_names.proofs.Values.{int_same, first_same, rest_same}
use Rattle.numbered_threads.specs.Numbered.{Stands as Follows}
use Rattle.numbered_threads.proofs.Numbered.{started_stands}
use Rattle.run_numbers.proofs.Numbers.{reached}
use Rattle.cc_core.proofs.NameLaws.{told_same, told_itself}
use Rattle.run_numbers.proofs.Processors.{object_founds}
use Rattle.numbered_runs.specs.Machine.{Machine, Runner}
use Rattle.numbered_runs.specs.Effects.{Effect, effect, nothing, object, start, parameters}
use Rattle.numbered_runs.specs.Stands.{Stands, IsThread, is_object, Alike, SameCell, SameInside}
use Rattle.numbered_runs.proofs.Lists.{get_in_front, get_last, pairwise_length}
use Rattle.numbered_runs.proofs.Naming.{same_objects, home}
use Rattle.numbered_runs.proofs.Values.{SameResult, SameCells, fresh_same, started_same, replicated_same, construct_same}

-- which functions an ask starts threads of
abbrev pub CallsWithin : (functions : ℕ) → Ask Address → Type 0
CallsWithin functions (Spawns f o vs) = f < functions
CallsWithin functions (Calls f o vs) = f < functions
CallsWithin functions (Casts f o vs) = f < functions
CallsWithin functions q = Unit {0}

-- an object that is made, by its processor's number and by name
abbrev pub SameMade : Numbers → (processors : List Name) → (ℕ × List (values.Cell Address)) → (Name × Object) → Type 0
SameMade n processors e d = (slice_get processors e.0 ≡ Some d.1.home) × Pairwise (SameCell n) e.1 d.1.cells

-- no processor is made, or one, with a name that is free
abbrev pub SameProcessors : Config → ℕ → List Name → Type 0
SameProcessors s many names = ((many ≡ 0) × (names ≡ []))
    ⊎ ((q : Name) × (many ≡ 1) × (names ≡ q ∷ []) × (q ≢ []) × (fin.get s.objects q ≡ None))

abbrev pub SameWritten : Numbers → (values.Value Address × values.Value Address) → (Value × Value) → Type 0
SameWritten n e d = Alike n e.0 d.0 × Alike n e.1 d.1

pub record SameEffect (p : Program) (code : Code) (s : Config) (n : Numbers) (e : Effect) (d : core.Effect) : Type 0 where
  pub objects : Pairwise (SameMade n (n.processors ++ new_processors d.objects)) e.objects d.objects
  pub writes : Pairwise (SameWritten n) e.writes d.writes
  pub starts : Pairwise (Follows p code (is_object n)) e.starts d.starts
  pub processors : SameProcessors s e.processors (new_processors d.objects)
  pub prints : e.prints ≡ d.prints
  pub inside : Pairwise (SameInside n) e.inside d.inside

-- ---- values

module _ (n : Numbers) where
  pub cells_alike : (kinds : List Kind) (vs : Values) (us : List Value) → SameValues (Told (is_object n)) vs us
      → Pairwise (SameCell n) (cells_with kinds vs) (core.cells_with kinds us)
  cells_alike [] vs us h = tt
  cells_alike (kind ∷ kinds) vs us h = (
    started_same n kind (first vs) (first us) (first_same (Told (is_object n)) vs us h),
    cells_alike kinds (after_first vs) (after_first us) (rest_same (Told (is_object n)) vs us h),
  )

  pub dropped_alike : (k : ℕ) (vs : Values) (us : List Value) → SameValues (Told (is_object n)) vs us
      → SameValues (Told (is_object n)) (drop k vs) (drop k us)
  dropped_alike zero vs us h = h
  dropped_alike (suc k) [] [] h = tt
  dropped_alike (suc k) [] (u ∷ us) h = absurd h
  dropped_alike (suc k) (v ∷ vs) [] h = absurd h
  dropped_alike (suc k) (v ∷ vs) (u ∷ us) h = dropped_alike k vs us h.1

  printed_alike : (parts : List PrintPart) (vs : Values) (us : List Value) → SameValues (Told (is_object n)) vs us
      → printed parts vs ≡ core.printed parts us
  printed_alike [] vs us h = refl
  printed_alike (Number ∷ parts) vs us h =
      let more = printed_alike parts (after_first vs) (after_first us) (rest_same (Told (is_object n)) vs us h) in
      let one = int_same (Told (is_object n)) (first vs) (first us) (first_same (Told (is_object n)) vs us h) in
      rw (one, more) refl
  printed_alike (Text bytes ∷ parts) vs us h = ap (λ out. bytes ++ out) (printed_alike parts vs us h)
  printed_alike (Endl ∷ parts) vs us h = ap (λ out. 10 ∷ out) (printed_alike parts vs us h)

  left_alike : (es : List (ℕ × values.Value Address)) (ds : List (ℕ × Value)) → Pairwise (SameInside n) es ds
      → Pairwise (SameInside n) (left_behind es) (core.left_behind ds)
  left_alike [] [] h = tt
  left_alike [] (d ∷ ds) h = absurd h
  left_alike (e ∷ es) [] h = absurd h
  left_alike (e ∷ es) (d ∷ ds) h = h.1

  constructed_alike : (cells : Result (List (values.Cell Address))) (named : Result (List Cell)) → SameResult (SameCells n) cells named
      → Pairwise (SameCell n) (constructed cells) (core.constructed named)
  constructed_alike (Gives cells) (Gives named) h = h
  constructed_alike (Fails kind) (Fails other) h = tt
  constructed_alike cells named h = absurd h

-- ---- names that are made

no_processor : (o q : Name) (cells : List Cell) (more : List (Name × Object)) → same_name o q ≡ false
    → new_processors ((o, record { home = q; cells = cells }) ∷ more) ≡ new_processors more
no_processor o q cells more e = ap (λ b. if b then o ∷ new_processors more else new_processors more) e

one_processor : (o : Name) (cells : List Cell) → new_processors ((o, record { home = o; cells = cells }) ∷ []) ≡ o ∷ []
one_processor o cells = ap (λ b. if b then o ∷ [] else []) (told_itself o)

module _ (p : Program) (w : Machine) (s : Config) (n : Numbers) (st : Stands p w s n) (t : ThreadNo) (x : Name) (l : config.Thread)
    (at : IsThread n t x) (live : fin.get s.threads x ≡ Some (Live l)) where
  here : slice_get n.processors t.processor ≡ Some l.home
  here = home p w s n st t x l at live

  abbrev pub free : NamesAreFree s
  free = free_reached p st.ints s (reached p st.ints s n st.run)

  own_free : (k : ℕ) → l.objects ≤ k → fin.get s.objects (k ∷ x) ≡ None
  own_free = free.objects x l live

  copy_free : fin.get s.objects (0 ∷ l.threads ∷ x) ≡ None
  copy_free = free.no_objects (l.threads ∷ x) (free.threads x l live l.threads (omega arith)) 0

  -- a free name is not that of the thread's processor
  apart : (o : Name) → o ≢ [] → fin.get s.objects o ≡ None → same_name o l.home ≡ false
  apart o ne none = false_from_ne_true (same_name o l.home) (λ e.
      let same : o ≡ l.home = told_same o l.home e in
      let b = object_founds p st.ints s n st.run t.processor o (here ∙ ap (λ q. Some q) (sym same)) ne in
      let no : None ≡ Some b.0 = sym none ∙ b.1 in
      cc)

  longer : (k : ℕ) (u : Name) → k ∷ u ≢ []
  longer k u e = cc

  module _ (r : Runner) (inside : Pairwise (SameInside n) r.inside l.inside) where
    abbrev Same : Effect → core.Effect → Type 0
    Same = SameEffect p w.code s n

    nothing_alike : Same (nothing r) (core.nothing l)
    nothing_alike = record { objects = tt; writes = tt; starts = tt; processors = inl (refl, refl); prints = refl; inside = inside }

    write_alike : (o v : values.Value Address) (u y : Value) → Alike n o u → Alike n v y
        → Same (record (nothing r) { writes = (o, v) ∷ [] }) (record (core.nothing l) { writes = (u, y) ∷ [] })
    write_alike o v u y h g =
        record { objects = tt; writes = ((h, g), tt); starts = tt; processors = inl (refl, refl); prints = refl; inside = inside }

    print_alike : (out named : List ℕ) → out ≡ named → Same (record (nothing r) { prints = out }) (record (core.nothing l) { prints = named })
    print_alike out named h =
        record { objects = tt; writes = tt; starts = tt; processors = inl (refl, refl); prints = h; inside = inside }

    leave_alike : Same (record (nothing r) { inside = left_behind r.inside }) (record (core.nothing l) { inside = core.left_behind l.inside })
    leave_alike = record {
      objects = tt;
      writes = tt;
      starts = tt;
      processors = inl (refl, refl);
      prints = refl;
      inside = left_alike n r.inside l.inside inside;
    }

    one_alike : (own : ℕ) (o : Name) → o ≢ [] → fin.get s.objects o ≡ None → (cells : List (values.Cell Address)) (named : List Cell)
        → Pairwise (SameCell n) cells named
        → Same (object r t.processor cells) (record (core.nothing l) { objects = (o, record { home = l.home; cells = named }) ∷ []; own = own })
    one_alike own o ne none cells named h = record {
      objects = ((get_in_front n.processors _ l.home t.processor here, h), tt);
      writes = tt;
      starts = tt;
      processors = inl (refl, no_processor o l.home named [] (apart o ne none));
      prints = refl;
      inside = inside;
    }

    object_alike : (cells : List (values.Cell Address)) (named : List Cell) → Pairwise (SameCell n) cells named
        → Same (object r t.processor cells) (core.object x l l.home named)
    object_alike = one_alike 1 (l.objects ∷ x) (longer l.objects x) (own_free l.objects (omega arith))

    -- an object on a processor of its own
    first_alike : (cells : List (values.Cell Address)) (named : List Cell) → Pairwise (SameCell n) cells named
        → Same (record (object r (length w.shelves) cells) { processors = 1 }) (record (core.object x l (l.objects ∷ x) named) { processors = 1 })
    first_alike cells named h =
        let o : Name = l.objects ∷ x in
        let new : new_processors ((o, record { home = o; cells = named }) ∷ []) ≡ o ∷ [] = one_processor o named in
        let many : length n.processors ≡ length w.shelves = pairwise_length _ n.processors w.shelves st.shelves in
        let there : slice_get (n.processors ++ o ∷ []) (length w.shelves) ≡ Some o =
        subst (λ k. slice_get (n.processors ++ o ∷ []) k ≡ Some o) many (get_last n.processors o) in
        record {
          objects = ((subst (λ qs. slice_get (n.processors ++ qs) (length w.shelves) ≡ Some o) (sym new) there, h), tt);
          writes = tt;
          starts = tt;
          processors = inr (o, refl, new, longer l.objects x, own_free l.objects (omega arith));
          prints = refl;
          inside = inside;
        }

    start_alike : ProgramStands p w.code → (f : ℕ) → f < length w.code.shapes.functions → (o : values.Value Address) (u : Value) → Alike n o u
        → (vs : Values) (us : List Value) → SameValues (Told (is_object n)) vs us → Same (start r f o vs) (core.start l f u us)
    start_alike stands f below o u h vs us same = record {
      objects = tt;
      writes = tt;
      starts = (started_stands p w.code stands f below (is_object n) o u h vs us same, tt);
      processors = inl (refl, refl);
      prints = refl;
      inside = inside;
    }

    -- the objects of parameters, from the thread's object k on
    no_processors : (k : ℕ) → l.objects ≤ k → (params : List (List Kind)) (us : List Value)
        → new_processors (core.parameters x k l.home params us) ≡ []
    no_processors k low [] us = refl
    no_processors k low (kinds ∷ more) us =
        no_processor (k ∷ x) l.home (core.cells_with kinds us) (core.parameters x (suc k) l.home more (drop (length kinds) us))
        (apart (k ∷ x) (longer k x) (own_free k low))
        ∙ no_processors (suc k) (omega (arith, low)) more (drop (length kinds) us)

    parameters_alike : (k : ℕ) (processors : List Name) → slice_get processors t.processor ≡ Some l.home → (params : List (List Kind)) (vs : Values)
        (us : List Value) → SameValues (Told (is_object n)) vs us
        → Pairwise (SameMade n processors) (parameters t.processor params vs) (core.parameters x k l.home params us)
    parameters_alike k processors at_home [] vs us h = tt
    parameters_alike k processors at_home (kinds ∷ more) vs us h = (
      (at_home, cells_alike n kinds vs us h),
      parameters_alike (suc k) processors at_home more (drop (length kinds) vs) (drop (length kinds) us) (dropped_alike n (length kinds) vs us h),
    )

    module _ (stands : ProgramStands p w.code) (shapes_are : w.code.shapes ≡ shapes p) (vs : Values) (us : List Value) (found : SameValues (Told (is_object n)) vs us) where
      built : (c : ℕ) (os : Values) (xs : List Value) → SameValues (Told (is_object n)) os xs
          → Pairwise (SameCell n) (constructed (construct same_address (class_shape w.code.shapes c) os))
          (core.constructed (construct same_name (class_shape (shapes p) c) xs))
      built c os xs h =
          subst (λ k. Pairwise (SameCell n) (constructed (construct same_address (class_shape k c) os))
          (core.constructed (construct same_name (class_shape (shapes p) c) xs))) (sym shapes_are)
          (constructed_alike n _ _ (construct_same n (same_objects p w s n st) os xs h (class_shape (shapes p) c)))

      entered : (f : ℕ) (o : values.Value Address) (u : Value) → Alike n o u → (os : Values) (xs : List Value)
          → SameValues (Told (is_object n)) os xs → Same (effect w t.processor r (Enters f o os) vs) (core.effect (shapes p) x l (Enters f u xs) us)
      entered f o u h os xs same =
          let kinds : List (List Kind) = (function_shape (shapes p) f).params in
          let none : new_processors (core.parameters x l.objects l.home kinds xs) ≡ [] = no_processors l.objects (omega arith) kinds xs in
          record {
            objects = subst (λ k. Pairwise (SameMade n (n.processors ++ new_processors (core.parameters x l.objects l.home kinds xs)))
                (parameters t.processor (function_shape k f).params os) (core.parameters x l.objects l.home kinds xs)) (sym shapes_are)
                (parameters_alike l.objects _ (get_in_front n.processors _ l.home t.processor here) kinds os xs same);
            writes = tt;
            starts = tt;
            processors = inl (refl, none);
            prints = refl;
            inside = ((refl, h), inside);
          }

      pub effect_alike : (q : Ask Address) (a : Ask Name) → SameAsk (Told (is_object n)) q a → CallsWithin (length w.code.shapes.functions) q
          → Same (effect w t.processor r q vs) (core.effect (shapes p) x l a us)
      effect_alike (Reads b o) (Reads c u) h below = nothing_alike
      effect_alike (Writes b o v) (Writes c u y) h below = write_alike o v u y h.1 h.2
      effect_alike (Copies o k) (Copies u j) h below = nothing_alike
      effect_alike (Indexes o k i) (Indexes u j m) h below = nothing_alike
      effect_alike (Shifts o i) (Shifts u j) h below = nothing_alike
      effect_alike (Computes op os) (Computes oq xs) h below = nothing_alike
      effect_alike Tests Tests h below = nothing_alike
      effect_alike (Makes kind k) (Makes kind' j) h below =
          object_alike (replicate k (fresh kind)) (replicate j (fresh kind'))
          (subst (λ m. Pairwise (SameCell n) (replicate k (fresh kind)) (replicate m (fresh kind'))) h.1
          (subst (λ z. Pairwise (SameCell n) (replicate k (fresh kind)) (replicate k (fresh z))) h.0
          (replicated_same n k (fresh kind) (fresh kind) (fresh_same n kind))))
      effect_alike (MakesWith kind v) (MakesWith kind' y) h below =
          subst (λ z. Same (effect w t.processor r (MakesWith kind v) vs) (core.effect (shapes p) x l (MakesWith z y) us)) h.0
          (object_alike (values.started kind v ∷ []) (values.started kind y ∷ []) (started_same n kind v y h.1, tt))
      effect_alike (Builds c os) (Builds d xs) h below =
          subst (λ z. Same (effect w t.processor r (Builds c os) vs) (core.effect (shapes p) x l (Builds z xs) us)) h.0
          (object_alike _ _ (built c os xs h.1))
      effect_alike (Enters f o os) (Enters g u xs) h below =
          subst (λ z. Same (effect w t.processor r (Enters f o os) vs) (core.effect (shapes p) x l (Enters z u xs) us)) h.0
          (entered f o u h.1 os xs h.2)
      effect_alike Leaves Leaves h below = leave_alike
      effect_alike (ForksAll k) (ForksAll j) h below = nothing_alike
      effect_alike (ForksOne v) (ForksOne y) h below =
          one_alike 0 (0 ∷ l.threads ∷ x) (longer 0 (l.threads ∷ x)) copy_free (Plain (first vs) ∷ []) (Plain (first us) ∷ [])
          (first_same (Told (is_object n)) vs us found, tt)
      effect_alike (Joins ks) (Joins js) h below = nothing_alike
      effect_alike (Spawns f o os) (Spawns g u xs) h below =
          subst (λ z. Same (start r f o os) (core.start l z u xs)) h.0 (start_alike stands f below o u h.1 os xs h.2)
      effect_alike (Prints parts os) (Prints parts' xs) h below =
          print_alike _ _ (printed_alike n parts os xs h.1 ∙ ap (λ z. core.printed z xs) h.0)
      effect_alike (Calls f o os) (Calls g u xs) h below =
          subst (λ z. Same (start r f o os) (core.start l z u xs)) h.0 (start_alike stands f below o u h.1 os xs h.2)
      effect_alike (Casts f o os) (Casts g u xs) h below =
          subst (λ z. Same (start r f o os) (core.start l z u xs)) h.0 (start_alike stands f below o u h.1 os xs h.2)
      effect_alike (NewProcessor c os) (NewProcessor d xs) h below =
          subst (λ z. Same (effect w t.processor r (NewProcessor c os) vs) (core.effect (shapes p) x l (NewProcessor z xs) us)) h.0
          (first_alike _ _ (built c os xs h.1))
      effect_alike q a h below = absurd h
