-- An ask's needs are met by the machine as they are by the configuration that it stands for.
use Rattle.std.proofs.Common.{◌≡◌, ⊎_elim, ℕ, ◌+◌, ◌<◌, ◌≤◌, List, [], ◌∷◌, length, map, Bool, true, false, ◌&&◌, ◌||◌, Option, Some, None, refl, sym, ap, ◌∙◌, subst, arith}
use Rattle.std.proofs.lemmas.Bool.{and_right, or_from}
use Rattle.std.proofs.lemmas.Option.{slice_get_cases}
use Rattle.std.specs.Prelude.{slice_get, get_or, nat_le, nat_lt, if◌then◌else◌, is_some}
use Rattle.std.specs.Option.{option_and_then, option_map_or}
use Rattle.std.specs.FinMap as fin
use Rattle.global_ptr.specs.declared.ends.FaultKind.{FaultKind}
use Rattle.global_ptr.specs.declared.ends.FaultKind.TheVariants.{NullPointer}
use Rattle.cc_ops.specs.Values.{Value, Void, Int, Null, Ptr, Cell, Plain, Empty, Full, Result, Gives, Fails, int_of}
use Rattle.cc_ops.specs.Operators.{compute}
use Rattle.cc_ops.specs.Addresses.{indexed, shifted}
use Rattle.cc_ops.specs.Classes.{construct, arity, size}
use Rattle.cc_ops.specs.Machine.{Address, same_address}
use Rattle.cc_ops.specs.declared.number.ThreadNo.{ThreadNo}
use Rattle.cc_ops.specs.Shelves.{Thing, cell_in, cells_in, is_held, slots_in, home_in}
use Rattle.cc_core.specs.Names.{Name, same_name, count}
use Rattle.cc_core.specs.Core.{Program, Shapes, shapes, function_shape, class_shape}
use Rattle.cc_core.specs.Asks.{Ask, Reads, Writes, Copies, Indexes, Shifts, Computes, Tests, Makes, MakesWith, Builds, Enters, Leaves}
use Rattle.cc_core.specs.Asks.{ForksAll, ForksOne, Joins, Spawns, Prints, Calls, Casts, NewProcessor}
use Rattle.cc_core.specs.Config as config
use Rattle.cc_core.specs.Config.{Config, Thread, State, Live, Ended}
use Rattle.cc_core.specs.Needs as core
use Rattle.cc_core.specs.Needs.{Need, Known, Filled, Unfilled, AllCells, Object, Free, Done, Deeper, Threads, ThreadAt, Slots, FirstSlots, Processor, Constructs}
use Rattle.cc_core.specs.Needs.{Verdict, Go, Hold, Bad, one, of_result, at_object, read, writable, value_in, all_in, object_there, room, and_also, all_of}
use Rattle.cc_core.specs.Needs.{most_processors, most_threads, most_slots, most_calls}
use Rattle.cc_core.specs.Numbers.{Numbers, listed}
use Rattle.cc_core.proofs.Fresh.{free_reached}
use Rattle.cc_code.specs.Code.{Code}
use Rattle.code_names.specs.Same.{Pairwise, Told, SameValues, SameAsk}
use Rattle.code_names.proofs.Values.{int_same}
use Rattle.run_numbers.proofs.Numbers.{reached}
use Rattle.run_numbers.proofs.Counts.{threads_are_counted}
use Rattle.numbered_runs.specs.Machine.{Machine, Runner, Progress, Goes, Over, thread_in, made_in, ended_with}
use Rattle.numbered_runs.specs.Looks.{needs, has_ended, all_ended, check, check_all}
use Rattle.numbered_runs.specs.Stands.{Stands, is_object, IsThread, Alike, SameCell, SameLive, SameState, SameInside, IsThreadAt, IsThingAt, IsShelf}
use Rattle.numbered_runs.proofs.Lists.{pairwise_length, pairwise_append, SameOption, same_option}
use Rattle.numbered_runs.proofs.Naming.{same_objects, table_at, shelf_at, thread_at, thing_at, home, pointer_home}
use Rattle.numbered_runs.proofs.Values.{SameResult, on_same, SameCells, indexed_same, shifted_same, computed_same, construct_same}

module _ (n : Numbers) where
  abbrev pub AllAlike : List (Value Address) → List (Value Name) → Type 0
  AllAlike = SameValues (Told (is_object n))

  -- ---- verdicts

  abbrev pub SameVerdict : Verdict Address → Verdict Name → Type 0
  SameVerdict (Go vs) (Go us) = AllAlike vs us
  SameVerdict Hold Hold = Unit {0}
  SameVerdict (Bad kind) (Bad other) = kind ≡ other
  SameVerdict v u = ⊥

  and_also_same : (v : Verdict Address) (u : Verdict Name) (v' : Verdict Address) (u' : Verdict Name) → SameVerdict v u → SameVerdict v' u'
      → SameVerdict (and_also v v') (and_also u u')
  and_also_same (Go vs) (Go us) (Go vs') (Go us') h g = pairwise_append (Alike n) vs vs' us us' h g
  and_also_same (Go vs) (Go us) Hold Hold h g = tt
  and_also_same (Go vs) (Go us) (Bad kind) (Bad other) h g = g
  and_also_same (Go vs) (Go us) v' u' h g = absurd g
  and_also_same Hold Hold v' u' h g = tt
  and_also_same (Bad kind) (Bad other) v' u' h g = h
  and_also_same v u v' u' h g = absurd h

  if_same : (b c : Bool) (v v' : Verdict Address) (u u' : Verdict Name) → b ≡ c → SameVerdict v u → SameVerdict v' u'
      → SameVerdict (if b then v else v') (if c then u else u')
  if_same b c v v' u u' e h g = subst (λ d. SameVerdict (if b then v else v') (if d then u else u')) e (either b)
    where
      either : (d : Bool) → SameVerdict (if d then v else v') (if d then u else u')
      either true = h
      either false = g

  room_same : (made also k j most : ℕ) (kind : FaultKind) → made ≡ also → k ≡ j → SameVerdict (room made k most kind) (room also j most kind)
  room_same made also k j most kind e f = if_same _ _ (Go []) (Bad kind) (Go []) (Bad kind)
      (ap (λ i. nat_le (i + k) most) e ∙ ap (λ i. nat_le (also + i) most) f) tt refl

  of_result_same : {A B : Type 0} → (S : A → B → Type 0) (r : Result A) (q : Result B) (f : A → List (Value Address)) (g : B → List (Value Name))
      → SameResult S r q → ((a : A) (b : B) → S a b → AllAlike (f a) (g b)) → SameVerdict (of_result r f) (of_result q g)
  of_result_same S (Gives a) (Gives b) f g h each = each a b h
  of_result_same S (Fails kind) (Fails other) f g h each = h
  of_result_same S r q f g h each = absurd h

  -- ---- cells

  read_same : (c : Option (Cell Address)) (d : Option (Cell Name)) → SameOption (SameCell n) c d → SameVerdict (read c) (read d)
  read_same None None h = refl
  read_same (Some (Plain v)) (Some (Plain u)) h = (h, tt)
  read_same (Some Empty) (Some Empty) h = tt
  read_same (Some (Full v)) (Some (Full u)) h = (h, tt)
  read_same c d h = absurd h

  writable_same : (c : Option (Cell Address)) (d : Option (Cell Name)) → SameOption (SameCell n) c d → SameVerdict (writable c) (writable d)
  writable_same None None h = refl
  writable_same (Some (Plain v)) (Some (Plain u)) h = tt
  writable_same (Some Empty) (Some Empty) h = tt
  writable_same (Some (Full v)) (Some (Full u)) h = refl
  writable_same c d h = absurd h

  value_in_same : (c : Cell Address) (d : Cell Name) → SameCell n c d → Alike n (value_in c) (value_in d)
  value_in_same (Plain v) (Plain u) h = h
  value_in_same Empty Empty h = tt
  value_in_same (Full v) (Full u) h = h
  value_in_same c d h = absurd h

  values_in_same : (cs : List (Cell Address)) (ds : List (Cell Name)) → SameCells n cs ds → AllAlike (map value_in cs) (map value_in ds)
  values_in_same [] [] h = tt
  values_in_same [] (d ∷ ds) h = absurd h
  values_in_same (c ∷ cs) [] h = absurd h
  values_in_same (c ∷ cs) (d ∷ ds) h = (value_in_same c d h.0, values_in_same cs ds h.1)

  all_in_same : (k j : ℕ) (cs : List (Cell Address)) (ds : List (Cell Name)) → k ≡ j → SameCells n cs ds → SameVerdict (all_in k cs) (all_in j ds)
  all_in_same k j cs ds e h = if_same _ _ _ _ _ _
      (ap (λ i. nat_lt i k) (pairwise_length (SameCell n) cs ds h) ∙ ap (nat_lt (length ds)) e) refl (values_in_same cs ds h)

  pointed_same : (v : Value Address) (u : Value Name) (f : Address → ℕ → Verdict Address) (g : Name → ℕ → Verdict Name) → Alike n v u
      → ((a : Address) (o : Name) (i j : ℕ) → Told (is_object n) a o → i ≡ j → SameVerdict (f a i) (g o j))
      → SameVerdict (at_object v (Bad NullPointer) f) (at_object u (Bad NullPointer) g)
  pointed_same Void Void f g h each = refl
  pointed_same (Int i) (Int j) f g h each = refl
  pointed_same Null Null f g h each = refl
  pointed_same (Ptr a i) (Ptr o j) f g h each = each a o i j h.0 h.1
  pointed_same v u f g h each = absurd h

  object_there_same : (v : Value Address) (u : Value Name) → Alike n v u → SameVerdict (object_there v) (object_there u)
  object_there_same Void Void h = tt
  object_there_same (Int i) (Int j) h = refl
  object_there_same Null Null h = refl
  object_there_same (Ptr a x) (Ptr o y) h = tt
  object_there_same v u h = absurd h

  -- ---- needs

  abbrev pub SameNeed : Need Address → Need Name → Type 0
  SameNeed (Known r) (Known q) = SameResult AllAlike r q
  SameNeed (Filled v) (Filled u) = Alike n v u
  SameNeed (Unfilled v) (Unfilled u) = Alike n v u
  SameNeed (AllCells v k) (AllCells u j) = Alike n v u × (k ≡ j)
  SameNeed (Object v) (Object u) = Alike n v u
  SameNeed (Free f v) (Free g u) = (f ≡ g) × Alike n v u
  SameNeed (Done made) (Done also) = made ≡ also
  SameNeed Deeper Deeper = Unit {0}
  SameNeed (Threads k) (Threads j) = k ≡ j
  SameNeed (ThreadAt v) (ThreadAt u) = Alike n v u
  SameNeed (Slots k) (Slots j) = k ≡ j
  SameNeed (FirstSlots k) (FirstSlots j) = k ≡ j
  SameNeed Processor Processor = Unit {0}
  SameNeed (Constructs c vs) (Constructs d us) = (c ≡ d) × AllAlike vs us
  SameNeed x y = ⊥

  one_same : (r : Result (Value Address)) (q : Result (Value Name)) → SameResult (Alike n) r q → SameResult AllAlike (one r) (one q)
  one_same r q h = on_same (Alike n) AllAlike r q _ _ h (λ v u g. (g, tt))

  module _ (told : (a : Address) (o : Name) (b : Address) (u : Name) → Told (is_object n) a o → Told (is_object n) b u
      → same_address a b ≡ same_name o u) (h : Shapes) where
    slots_of : (c d : ℕ) → c ≡ d → size (class_shape h c).cells ≡ size (class_shape h d).cells
    slots_of c d e = ap (λ k. size (class_shape h k).cells) e

    needs_same : (q : Ask Address) (a : Ask Name) → SameAsk (Told (is_object n)) q a → Pairwise SameNeed (needs h q) (core.needs h a)
    needs_same (Reads r v) (Reads r' u) e = (e.1, tt)
    needs_same (Writes r v w) (Writes r' u x) e = (e.1, tt)
    needs_same (Copies v k) (Copies u j) e = ((e.0, e.1), tt)
    needs_same (Indexes v k i) (Indexes u m j) e = (
      one_same (indexed v k i) (indexed u m j)
          (subst (λ z. SameResult (Alike n) (indexed v k i) (indexed u z j)) e.1 (indexed_same (Told (is_object n)) v u k i j e.0 e.2)),
      tt,
    )
    needs_same (Shifts v i) (Shifts u j) e = (
      one_same (shifted v (int_of i)) (shifted u (int_of j))
          (subst (λ z. SameResult (Alike n) (shifted v (int_of i)) (shifted u z)) (int_same (Told (is_object n)) i j e.1)
          (shifted_same (Told (is_object n)) v u (int_of i) e.0)),
      tt,
    )
    needs_same (Computes op vs) (Computes op' us) e = (
      one_same (compute same_address op vs) (compute same_name op' us)
          (subst (λ z. SameResult (Alike n) (compute same_address op vs) (compute same_name z us)) e.0 (computed_same n told op vs us e.1)),
      tt,
    )
    needs_same Tests Tests e = tt
    needs_same (Makes kind k) (Makes kind' j) e = (e.1, tt)
    needs_same (MakesWith kind v) (MakesWith kind' u) e = (refl, tt)
    needs_same (Builds c vs) (Builds d us) e = (slots_of c d e.0, ((e.0, e.1), tt))
    needs_same (Enters f v vs) (Enters g u us) e =
        (e.1, ((e.0, e.1), (tt, (ap (λ k. arity (function_shape h k).params) e.0, tt))))
    needs_same Leaves Leaves e = tt
    needs_same (ForksAll k) (ForksAll j) e = (e, tt)
    needs_same (ForksOne v) (ForksOne u) e = (refl, (refl, (e, tt)))
    needs_same (Joins made) (Joins also) e = (e, tt)
    needs_same (Spawns f v vs) (Spawns g u us) e = (e.1, (refl, tt))
    needs_same (Prints parts vs) (Prints parts' us) e = tt
    needs_same (Calls f v vs) (Calls g u us) e = (e.1, (e.1, tt))
    needs_same (Casts f v vs) (Casts g u us) e = (e.1, (e.1, tt))
    needs_same (NewProcessor c vs) (NewProcessor d us) e = (tt, (slots_of c d e.0, ((e.0, e.1), tt)))
    needs_same q a e = absurd e

-- ---- who is inside an atomic function of an object

-- two values that lead to one object, or both to none, are held alike
module _ (h : Shapes) (v u : Value Name) (one_object : (w : Value Name) → core.same_object v w ≡ core.same_object u w) where
  inside_same : (es : List (ℕ × Value Name)) → core.is_inside h v es ≡ core.is_inside h u es
  inside_same [] = refl
  inside_same (e ∷ es) =
      ap (λ b. ((function_shape h e.0).atomic && b) || core.is_inside h v es) (one_object e.1)
      ∙ ap (λ b. ((function_shape h e.0).atomic && core.same_object u e.1) || b) (inside_same es)

  holds_same : (a : State) → core.holds h v a ≡ core.holds h u a
  holds_same (Live l) = inside_same l.inside
  holds_same (Ended w) = refl

  any_holds_same : (xs : List State) → core.any_holds h v xs ≡ core.any_holds h u xs
  any_holds_same [] = refl
  any_holds_same (x ∷ xs) = ap (λ b. b || core.any_holds h v xs) (holds_same x) ∙ ap (λ b. core.holds h u x || b) (any_holds_same xs)

module _ (h : Shapes) (v : Value Name) (no_object : (w : Value Name) → core.same_object v w ≡ false) where
  none_inside : (es : List (ℕ × Value Name)) → core.is_inside h v es ≡ false
  none_inside [] = refl
  none_inside (e ∷ es) = or_from _ _ (and_right (function_shape h e.0).atomic _ (no_object e.1)) (none_inside es)

  none_holds : (xs : List State) → core.any_holds h v xs ≡ false
  none_holds [] = refl
  none_holds (Live l ∷ xs) = or_from _ _ (none_inside l.inside) (none_holds xs)
  none_holds (Ended w ∷ xs) = none_holds xs

-- ---- of a machine that stands for s

module _ (p : Program) (w : Machine) (s : Config) (n : Numbers) (st : Stands p w s n) where
  same_shapes : w.code.shapes ≡ shapes p
  same_shapes = ap (λ (c : Code). c.shapes) st.code

  thing_cells : (x : Thing) (o : Name) → IsThingAt n (shapes p) s o x → SameCells n x.cells (config.cells_of (fin.get s.objects o))
  thing_cells x o at = subst (λ b. SameCells n x.cells (config.cells_of b)) (sym at.1) at.2

  pub cells_at : (a : Address) (o : Name) → Told (is_object n) a o
      → SameCells n (cells_in w.shelves a) (config.cells_of (fin.get s.objects o))
  cells_at a o h =
      let thing = thing_at p w s n st a o h in
      subst (λ x. SameCells n (option_map_or (λ t. t.cells) x []) (config.cells_of (fin.get s.objects o))) (sym thing.1)
      (thing_cells thing.0 o thing.2)

  pub cell_at : (a : Address) (o : Name) (i j : ℕ) → Told (is_object n) a o → i ≡ j
      → SameOption (SameCell n) (cell_in w.shelves a i) (config.cell s o j)
  cell_at a o i j h e =
      let thing = thing_at p w s n st a o h in
      let there = config.cells_of (fin.get s.objects o) in
      subst (λ x. SameOption (SameCell n) (option_and_then (λ t. slice_get t.cells i) x) (config.cell s o j)) (sym thing.1)
      (subst (λ k. SameOption (SameCell n) (slice_get thing.0.cells i) (slice_get there k)) e
      (same_option (SameCell n) thing.0.cells there (thing_cells thing.0 o thing.2) i))

  pub held_at : (v : Value Address) (u : Value Name) → Alike n v u → is_held w.shelves v ≡ core.any_holds (shapes p) u (fin.values s.threads)
  held_at Void Void h = sym (none_holds (shapes p) Void (λ x. refl) (fin.values s.threads))
  held_at (Int i) (Int j) h = sym (none_holds (shapes p) (Int j) (λ x. refl) (fin.values s.threads))
  held_at Null Null h = sym (none_holds (shapes p) Null (λ x. refl) (fin.values s.threads))
  held_at (Ptr a x) (Ptr o y) h =
      let thing = thing_at p w s n st a o h.0 in
      ap (λ t. option_map_or (λ t. t.held) t false) thing.1
      ∙ thing.2.3
      ∙ any_holds_same (shapes p) (Ptr o 0) (Ptr o y) (λ x. refl) (fin.values s.threads)
  held_at v u h = absurd h

  -- ---- counts

  pub made_at : (k : ℕ) (q : Name) → slice_get n.processors k ≡ Some q → made_in w.threads k ≡ count s.threads_made q
  made_at k q h =
      let table = table_at p w s n st k q h in
      ap (λ ts. option_map_or (λ xs. length xs) ts 0) table.1
      ∙ sym (pairwise_length (IsThreadAt n p w.code s) (listed n.threads q) table.0 table.2)
      ∙ threads_are_counted p st.ints s n st.run q

  pub slots_at : (k : ℕ) (q : Name) → slice_get n.processors k ≡ Some q → slots_in w.shelves k ≡ count s.slots_made q
  slots_at k q h = let shelf = shelf_at p w s n st k q h in ap (λ x. option_map_or (λ y. y.slots) x 0) shelf.1 ∙ shelf.2.1

  pub shelves_counted : length w.shelves ≡ s.processors
  shelves_counted = sym (pairwise_length (IsShelf n (shapes p) s) n.processors w.shelves st.shelves) ∙ sym st.processors

  -- ---- thread t, which is r, and thread x, which is l

  module _ (t : ThreadNo) (x : Name) (r : Runner) (l : Thread) (number : IsThread n t x) (live : fin.get s.threads x ≡ Some (Live l))
      (alike : SameLive n p w.code x r l) where
    progress_ended : (y : Name) (a : Progress) (b : State) → SameState n p w.code y a b → is_some (ended_with (Some a)) ≡ core.ended (Some b)
    progress_ended y (Goes r') (Live l') h = refl
    progress_ended y (Over v) (Ended u) h = refl
    progress_ended y a b h = absurd h

    -- of the k-th thread that it made, or of none
    ended_same : (k : ℕ) → has_ended w.threads r.kids k ≡ core.ended (fin.get s.threads (k ∷ x))
    ended_same k = ⊎_elim
        (λ (a : (kid : ThreadNo) × (k < length r.kids) × (slice_get r.kids k ≡ Some kid) × (get_or r.kids k kid ≡ kid)).
        let kid = thread_at p w s n st a.0 (k ∷ x) (alike.kids k a.0 a.2) in
        ap (λ o. is_some (ended_with (option_and_then (thread_in w.threads) o))) a.2
        ∙ ap (λ o. is_some (ended_with o)) kid.1
        ∙ progress_ended (k ∷ x) kid.0 kid.2.0 kid.2.2
        ∙ ap core.ended (sym kid.2.1))
        (λ (b : (length r.kids ≤ k) × (slice_get r.kids k ≡ None)).
        let many = alike.made in
        let least = b.0 in
        let free = free_reached p st.ints s (reached p st.ints s n st.run) in
        ap (λ o. is_some (ended_with (option_and_then (thread_in w.threads) o))) b.1
        ∙ ap core.ended (sym (free.threads x l live k (omega (arith, many, least)))))
        (slice_get_cases r.kids k).1

    all_ended_same : (made : List ℕ) → all_ended w.threads r.kids made ≡ core.all_ended s.threads x made
    all_ended_same made = λ i. all_of (λ k. ended_same k i) made

    free_same : (f g : ℕ) (v : Value Address) (u : Value Name) → f ≡ g → Alike n v u
        → SameVerdict n (check w t.processor r (Free f v)) (core.check (shapes p) s x l (Free g u))
    free_same f g v u e h = if_same n _ _ Hold (Go []) Hold (Go [])
        (ap (λ b. b && is_held w.shelves v) (ap (λ c. (function_shape c f).atomic) same_shapes ∙ ap (λ i. (function_shape (shapes p) i).atomic) e)
        ∙ ap (λ b. (function_shape (shapes p) g).atomic && b) (held_at v u h)) tt tt

    constructs_same : (c d : ℕ) (vs : List (Value Address)) (us : List (Value Name)) → c ≡ d → AllAlike n vs us
        → SameVerdict n (check w t.processor r (Constructs c vs)) (core.check (shapes p) s x l (Constructs d us))
    constructs_same c d vs us e h =
        let classes : class_shape w.code.shapes c ≡ class_shape (shapes p) d = ap (λ z. class_shape z c) same_shapes ∙ ap (class_shape (shapes p)) e in
        of_result_same n (SameCells n) _ _ (λ cells. []) (λ cells. [])
        (subst (λ z. SameResult (SameCells n) (construct same_address (class_shape w.code.shapes c) vs) (construct same_name z us)) classes
        (construct_same n (same_objects p w s n st) vs us h (class_shape w.code.shapes c)))
        (λ cs ds g. tt)

    its_processor : slice_get n.processors t.processor ≡ Some l.home
    its_processor = home p w s n st t x l number live

    check_same : (need : Need Address) (also : Need Name) → SameNeed n need also
        → SameVerdict n (check w t.processor r need) (core.check (shapes p) s x l also)
    check_same (Known a) (Known b) h = of_result_same n (AllAlike n) a b (λ vs. vs) (λ us. us) h (λ vs us g. g)
    check_same (Filled v) (Filled u) h =
        pointed_same n v u _ _ h (λ a o i j g e. read_same n (cell_in w.shelves a i) (config.cell s o j) (cell_at a o i j g e))
    check_same (Unfilled v) (Unfilled u) h =
        pointed_same n v u _ _ h (λ a o i j g e. writable_same n (cell_in w.shelves a i) (config.cell s o j) (cell_at a o i j g e))
    check_same (AllCells v k) (AllCells u m) h = pointed_same n v u _ _ h.0 (λ a o i j g e.
        all_in_same n k m (cells_in w.shelves a) (config.cells_of (fin.get s.objects o)) h.1 (cells_at a o g))
    check_same (Object v) (Object u) h = object_there_same n v u h
    check_same (Free f v) (Free g u) h = free_same f g v u h.0 h.1
    check_same (Done made) (Done also) h = if_same n _ _ (Go []) Hold (Go []) Hold
        (all_ended_same made ∙ ap (core.all_ended s.threads x) h) tt tt
    check_same Deeper Deeper h =
        room_same n _ _ 1 1 most_calls _ (pairwise_length (SameInside n) r.inside l.inside alike.inside) refl
    check_same (Threads k) (Threads j) h = room_same n _ _ k j most_threads _ (made_at t.processor l.home its_processor) h
    check_same (ThreadAt v) (ThreadAt u) h =
        room_same n _ _ 1 1 most_threads _ (made_at (home_in v) (config.home s u) (pointer_home p w s n st v u h)) refl
    check_same (Slots k) (Slots j) h = room_same n _ _ k j most_slots _ (slots_at t.processor l.home its_processor) h
    check_same (FirstSlots k) (FirstSlots j) h = room_same n 0 0 k j most_slots _ refl h
    check_same Processor Processor h = room_same n _ _ 1 1 most_processors _ shelves_counted refl
    check_same (Constructs c vs) (Constructs d us) h = constructs_same c d vs us h.0 h.1
    check_same need also h = absurd h

    check_all_same : (needs : List (Need Address)) (also : List (Need Name)) → Pairwise (SameNeed n) needs also
        → SameVerdict n (check_all w t.processor r needs) (core.check_all (shapes p) s x l also)
    check_all_same [] [] h = tt
    check_all_same [] (other ∷ also) h = absurd h
    check_all_same (need ∷ needs) [] h = absurd h
    check_all_same (need ∷ needs) (other ∷ also) h =
        and_also_same n (check w t.processor r need) (core.check (shapes p) s x l other) (check_all w t.processor r needs)
        (core.check_all (shapes p) s x l also) (check_same need other h.0) (check_all_same needs also h.1)

    ask_same : (q : Ask Address) (a : Ask Name) → SameAsk (Told (is_object n)) q a
        → SameVerdict n (check_all w t.processor r (needs w.code.shapes q)) (core.check_all (shapes p) s x l (core.needs (shapes p) a))
    ask_same q a h = subst
        (λ (z : Shapes). SameVerdict n (check_all w t.processor r (needs z q)) (core.check_all (shapes p) s x l (core.needs (shapes p) a)))
        (sym same_shapes)
        (check_all_same (needs (shapes p) q) (core.needs (shapes p) a) (needs_same n (same_objects p w s n st) (shapes p) q a h))

  pub checks_alike : (t : ThreadNo) (x : Name) (r : Runner) (l : Thread) (q : Ask Address) (a : Ask Name) → IsThread n t x
      → fin.get s.threads x ≡ Some (Live l) → SameLive n p w.code x r l → SameAsk (Told (is_object n)) q a
      → SameVerdict n (check_all w t.processor r (needs w.code.shapes q)) (core.check_all (shapes p) s x l (core.needs (shapes p) a))
  checks_alike t x r l q a number live alike same = ask_same t x r l number live alike q a same
