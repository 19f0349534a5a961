-- Which numbers stand for which names, and what stands under a number.
use Rattle.std.proofs.Common.{◌≡◌, ℕ, Bool, true, false, List, Option, Some, None, refl, sym, ap, ◌∙◌, subst}
use Rattle.std.proofs.lemmas.Bool.{and_parts, and_from, eqb-true, eq-eqb, false≢true}
use Rattle.std.proofs.lemmas.Option.{same_Some}
use Rattle.std.specs.Prelude.{◌==◌, slice_get}
use Rattle.std.specs.FinMap as fin
use Rattle.cc_ops.specs.Values.{Value, Void, Int, Null, Ptr}
use Rattle.cc_ops.specs.Machine.{Address, same_address}
use Rattle.cc_ops.specs.declared.number.ThreadNo.{ThreadNo}
use Rattle.cc_ops.specs.Shelves.{Thing, Shelf, thing_in, home_in}
use Rattle.cc_core.specs.Names.{Name, same_name}
use Rattle.cc_core.specs.Core.{Program, shapes}
use Rattle.cc_core.specs.Config as core
use Rattle.cc_core.specs.Config.{Config, Live, Object}
use Rattle.cc_core.specs.Numbers.{Numbers, listed, numbers_step}
use Rattle.cc_core.specs.Steps.{Moves, step}
use Rattle.code_names.specs.Same.{Told}
use Rattle.numbered_threads.specs.Numbered.{IsLater}
use Rattle.run_numbers.specs.RunNumbers.{IsListed}
use Rattle.run_numbers.proofs.Numbers.{threads_are_numbered, objects_are_numbered, threads_stay_numbered, objects_stay_numbered}
use Rattle.run_numbers.proofs.Homes.{live_at_home, made_at_home}
use Rattle.cc_core.proofs.NameLaws.{told_same, told_itself}
use Rattle.run_numbers.proofs.Processors.{one_number, root_first, processors_stay_numbered}
use Rattle.numbered_runs.specs.Machine.{Machine, Progress, thread_in}
use Rattle.numbered_runs.specs.Stands.{Stands, object_named, is_named, is_object, Alike, IsThread, IsThreadAt, IsThingAt, AreThreads, IsShelf}
use Rattle.numbered_runs.proofs.Lists.{both_found, then_found, pairwise_right, pairwise_left}

module _ (n : Numbers) where
  -- ---- numbers that are told to be those of an object are

  told_named : (u : Option Name) (o : Name) → is_named u o ≡ true → u ≡ Some o
  told_named None o h = absurd (false≢true h)
  told_named (Some u) o h = ap (λ x. Some x) (told_same u o h)

  pub object_told : (a : Address) (o : Name) → Told (is_object n) a o → object_named n a ≡ Some o
  object_told a o h = told_named (object_named n a) o h

  pub object_is : (a : Address) (o : Name) → object_named n a ≡ Some o → Told (is_object n) a o
  object_is a o h = ap (λ u. is_named u o) h ∙ told_itself o

  pub one_name : (a : Address) (o u : Name) → Told (is_object n) a o → Told (is_object n) a u → o ≡ u
  one_name a o u h g = same_Some o u (sym (object_told a o h) ∙ object_told a u g)

  pub one_thread_name : (t : ThreadNo) (x y : Name) → IsThread n t x → IsThread n t y → x ≡ y
  one_thread_name t x y h g = same_Some x y (sym h ∙ g)

  -- ---- the processor, and the number there

  pub object_place : (a : Address) (o : Name) → Told (is_object n) a o
      → (q : Name) × (slice_get n.processors a.processor ≡ Some q) × IsListed n.objects q a.object o
  object_place a o h = both_found (λ q. slice_get (listed n.objects q) a.object) (slice_get n.processors a.processor) o (object_told a o h)

  pub object_placed : (a : Address) (q o : Name) → slice_get n.processors a.processor ≡ Some q → IsListed n.objects q a.object o
      → Told (is_object n) a o
  object_placed a q o h g =
      object_is a o (then_found (λ r. slice_get (listed n.objects r) a.object) (slice_get n.processors a.processor) q o h g)

  pub thread_place : (t : ThreadNo) (x : Name) → IsThread n t x
      → (q : Name) × (slice_get n.processors t.processor ≡ Some q) × IsListed n.threads q t.thread x
  thread_place t x h = both_found (λ q. slice_get (listed n.threads q) t.thread) (slice_get n.processors t.processor) x h

  pub thread_placed : (t : ThreadNo) (q x : Name) → slice_get n.processors t.processor ≡ Some q → IsListed n.threads q t.thread x
      → IsThread n t x
  thread_placed t q x h g = then_found (λ r. slice_get (listed n.threads r) t.thread) (slice_get n.processors t.processor) q x h g

-- ---- a step leaves each number with its name

module _ (p : Program) (x : Name) (s r : Config) (n : Numbers) (moves : step p x s ≡ Moves r) where
  abbrev next_numbers : Numbers
  next_numbers = numbers_step p x s n

  pub objects_later : IsLater (is_object n) (is_object next_numbers)
  objects_later = λ a o h.
      let at = object_place n a o h in
      object_placed next_numbers a at.0 o (processors_stay_numbered p x s r n moves a.processor at.0 at.1)
      (objects_stay_numbered p x s r n moves at.0 a.object o at.2)

  pub threads_later : (t : ThreadNo) (y : Name) → IsThread n t y → IsThread next_numbers t y
  threads_later t y h =
      let at = thread_place n t y h in
      thread_placed next_numbers t at.0 y (processors_stay_numbered p x s r n moves t.processor at.0 at.1)
      (threads_stay_numbered p x s r n moves at.0 t.thread y at.2)

-- ---- where the machine stands for s

pub both_true : (b c : Bool) → (b ≡ true → c ≡ true) → (c ≡ true → b ≡ true) → b ≡ c
both_true true c h g = sym (h refl)
both_true false true h g = g refl
both_true false false h g = refl

abbrev address : ℕ → ℕ → Address
address q k = record { processor = q; object = k }

abbrev thread_no : ℕ → ℕ → ThreadNo
thread_no q k = record { processor = q; thread = k }

same_address_is : (a b : Address) → a.processor ≡ b.processor → a.object ≡ b.object → a ≡ b
same_address_is a b e f = ap (λ q. address q a.object) e ∙ ap (λ k. address b.processor k) f

told_address : (a b : Address) → same_address a b ≡ true → a ≡ b
told_address a b h =
    let both = and_parts (a.processor == b.processor) (a.object == b.object) h in
    same_address_is a b (eqb-true a.processor b.processor both.0) (eqb-true a.object b.object both.1)

address_told : (a : Address) → same_address a a ≡ true
address_told a = and_from _ (a.object == a.object) (eq-eqb a.processor a.processor refl) (eq-eqb a.object a.object refl)

same_thread_is : (t u : ThreadNo) → t.processor ≡ u.processor → t.thread ≡ u.thread → t ≡ u
same_thread_is t u e f = ap (λ q. thread_no q t.thread) e ∙ ap (λ k. thread_no u.processor k) f

module _ (p : Program) (w : Machine) (s : Config) (n : Numbers) (st : Stands p w s n) where
  one_processor : (j k : ℕ) (q r : Name) → slice_get n.processors j ≡ Some q → slice_get n.processors k ≡ Some r → q ≡ r → j ≡ k
  one_processor j k q r h g e = one_number p st.ints s n st.run j k r (h ∙ ap (λ u. Some u) e) g

  pub one_address : (a b : Address) (o : Name) → Told (is_object n) a o → Told (is_object n) b o → a ≡ b
  one_address a b o h g =
      let x = object_place n a o h in
      let y = object_place n b o g in
      let same = (objects_are_numbered p st.ints s n st.run).once x.0 y.0 a.object b.object o x.2 y.2 in
      same_address_is a b (one_processor a.processor b.processor x.0 y.0 x.1 y.1 same.0) same.1

  pub one_thread : (t u : ThreadNo) (x : Name) → IsThread n t x → IsThread n u x → t ≡ u
  one_thread t u x h g =
      let a = thread_place n t x h in
      let b = thread_place n u x g in
      let same = (threads_are_numbered p st.ints s n st.run).once a.0 b.0 t.thread u.thread x a.2 b.2 in
      same_thread_is t u (one_processor t.processor u.processor a.0 b.0 a.1 b.1 same.0) same.1

  -- objects are the same by their numbers where they are by their names
  pub same_objects : (a : Address) (o : Name) (b : Address) (u : Name) → Told (is_object n) a o → Told (is_object n) b u
      → same_address a b ≡ same_name o u
  same_objects a o b u h g = both_true (same_address a b) (same_name o u)
      (λ e.
      let moved : Told (is_object n) b o = subst (λ c. Told (is_object n) c o) (told_address a b e) h in
      subst (λ x. same_name o x ≡ true) (one_name n b o u moved g) (told_itself o))
      (λ e.
      let moved : Told (is_object n) a u = subst (λ x. Told (is_object n) a x) (told_same o u e) h in
      subst (λ c. same_address a c ≡ true) (one_address a b u moved g) (address_told a))

  -- ---- the table and the shelf of a processor

  pub table_at : (k : ℕ) (q : Name) → slice_get n.processors k ≡ Some q
      → (table : List Progress) × (slice_get w.threads k ≡ Some table) × AreThreads n p w.code s q table
  table_at k q h = pairwise_right (AreThreads n p w.code s) n.processors w.threads st.threads k q h

  pub shelf_at : (k : ℕ) (q : Name) → slice_get n.processors k ≡ Some q
      → (shelf : Shelf) × (slice_get w.shelves k ≡ Some shelf) × IsShelf n (shapes p) s q shelf
  shelf_at k q h = pairwise_right (IsShelf n (shapes p) s) n.processors w.shelves st.shelves k q h

  -- ---- what stands under a number

  pub thread_at : (t : ThreadNo) (x : Name) → IsThread n t x
      → (a : Progress) × (thread_in w.threads t ≡ Some a) × IsThreadAt n p w.code s x a
  thread_at t x h =
      let place = thread_place n t x h in
      let table = table_at t.processor place.0 place.1 in
      let found = pairwise_right (IsThreadAt n p w.code s) (listed n.threads place.0) table.0 table.2 t.thread x place.2 in
      (found.0, then_found (λ ts. slice_get ts t.thread) (slice_get w.threads t.processor) table.0 found.0 table.1 found.1, found.2)

  pub thing_at : (a : Address) (o : Name) → Told (is_object n) a o
      → (x : Thing) × (thing_in w.shelves a ≡ Some x) × IsThingAt n (shapes p) s o x
  thing_at a o h =
      let place = object_place n a o h in
      let shelf = shelf_at a.processor place.0 place.1 in
      let found = pairwise_right (IsThingAt n (shapes p) s) (listed n.objects place.0) shelf.0.things shelf.2.0 a.object o place.2 in
      (found.0, then_found (λ u. slice_get u.things a.object) (slice_get w.shelves a.processor) shelf.0 found.0 shelf.1 found.1, found.2)

  pub thread_of : (t : ThreadNo) (a : Progress) → thread_in w.threads t ≡ Some a → (x : Name) × IsThread n t x
  thread_of t a h =
      let found = both_found (λ ts. slice_get ts t.thread) (slice_get w.threads t.processor) a h in
      let table = pairwise_left (AreThreads n p w.code s) n.processors w.threads st.threads t.processor found.0 found.1 in
      let named = pairwise_left (IsThreadAt n p w.code s) (listed n.threads table.0) found.0 table.2 t.thread a found.2 in
      (named.0, thread_placed n t table.0 named.0 table.1 named.1)

  pub thing_of : (a : Address) (x : Thing) → thing_in w.shelves a ≡ Some x → (o : Name) × Told (is_object n) a o
  thing_of a x h =
      let found = both_found (λ u. slice_get u.things a.object) (slice_get w.shelves a.processor) x h in
      let shelf = pairwise_left (IsShelf n (shapes p) s) n.processors w.shelves st.shelves a.processor found.0 found.1 in
      let named = pairwise_left (IsThingAt n (shapes p) s) (listed n.objects shelf.0) found.0.things shelf.2.0 a.object x found.2 in
      (named.0, object_placed n a shelf.0 named.0 shelf.1 named.1)

  -- ---- a thread and an object are numbered on their own processor

  pub home : (t : ThreadNo) (x : Name) (l : core.Thread) → IsThread n t x → fin.get s.threads x ≡ Some (Live l)
      → slice_get n.processors t.processor ≡ Some l.home
  home t x l h there =
      let place = thread_place n t x h in
      place.1 ∙ ap (λ q. Some q) (sym (live_at_home p st.ints s n st.run place.0 t.thread x l place.2 there))

  pub object_home : (a : Address) (o : Name) (b : Object) → Told (is_object n) a o → fin.get s.objects o ≡ Some b
      → slice_get n.processors a.processor ≡ Some b.home
  object_home a o b h there =
      let place = object_place n a o h in
      place.1 ∙ ap (λ q. Some q) (sym (made_at_home p st.ints s n st.run place.0 a.object o b place.2 there))

  -- the processor of the object that a pointer leads to, the first one where it leads to none
  pub pointer_home : (v : Value Address) (u : Value Name) → Alike n v u → slice_get n.processors (home_in v) ≡ Some (core.home s u)
  pointer_home Void Void h = root_first p st.ints s n st.run
  pointer_home (Int i) (Int j) h = root_first p st.ints s n st.run
  pointer_home Null Null h = root_first p st.ints s n st.run
  pointer_home (Ptr a x) (Ptr o y) h =
      let thing = thing_at a o h.0 in
      object_home a o thing.2.0 h.0 thing.2.1 ∙ ap (λ b. Some (core.home_of b)) (sym thing.2.1)
  pointer_home v u h = absurd h
