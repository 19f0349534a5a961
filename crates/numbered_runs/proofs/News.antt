-- What is new: entries that are put into a map under free names, and names under which nothing was.
use Rattle.std.proofs.Common.{◌≡◌, ◌≢◌, ⊎_elim, ℕ, true, false, ◌&&◌, List, [], ◌∷◌, slice_get, Some, None, refl, sym, ap, ◌∙◌, subst}
use Rattle.std.proofs.lemmas.Bool.{false≢true, false_from_ne_true, or_cases, and_parts}
use Rattle.std.proofs.lemmas.Option.{same_Some}
use Rattle.std.specs.FinMap as fin
use Rattle.cc_ops.specs.Values as values
use Rattle.cc_ops.specs.Values.{Void, Int, Null, Ptr}
use Rattle.cc_ops.specs.Machine.{Address}
use Rattle.cc_ops.specs.declared.number.ThreadNo.{ThreadNo}
use Rattle.cc_core.specs.Names.{Name, Map, Value, puts}
use Rattle.cc_core.specs.Core.{Program, Shapes, shapes, function_shape}
use Rattle.cc_core.specs.Config as config
use Rattle.cc_core.specs.Config.{Config, Live}
use Rattle.cc_core.specs.Needs.{is_inside, same_object, any_holds}
use Rattle.cc_core.specs.Numbers.{Numbers, listed}
use Rattle.cc_core.proofs.Maps.{cases_name, get_same, get_other}
use Rattle.code_names.specs.Same.{Pairwise, Told}
use Rattle.run_numbers.proofs.Free.{AllFree}
use Rattle.run_numbers.proofs.Numbers.{threads_are_numbered}
use Rattle.cc_core.proofs.NameLaws.{told_same}
use Rattle.run_numbers.proofs.Processors.{object_founds, thread_is_housed, object_is_housed}
use Rattle.one_holder.proofs.Values.{holds_found}
use Rattle.numbered_runs.specs.Machine.{Machine, Progress, Goes, Over}
use Rattle.numbered_runs.specs.Stands.{Stands, is_object, SameInside, SameState}
use Rattle.numbered_runs.proofs.Naming.{thread_placed, thread_at, thing_at}

-- ---- entries that are put into a map

module _ {X : Type 0} where
  abbrev pub AllThere : Map X → List (Name × X) → Type 0
  AllThere m [] = Unit {0}
  AllThere m (e ∷ es) = (fin.get m e.0 ≡ Some e.1) × AllThere m es

  abbrev pub AllAbsent : Map X → List (Name × X) → Type 0
  AllAbsent m [] = Unit {0}
  AllAbsent m (e ∷ es) = (fin.get m e.0 ≡ None) × AllAbsent m es

  apart : (m : Map X) (q u : Name) (a : X) → fin.get m q ≡ Some a → fin.get m u ≡ None → q ≢ u
  apart m q u a there none e = let no : Some a ≡ None = sym there ∙ (ap (fin.get m) e ∙ none) in cc

  -- what was there stays
  pub still_there : (es : List (Name × X)) (m : Map X) → AllFree m es → (q : Name) (a : X) → fin.get m q ≡ Some a → fin.get (puts es m) q ≡ Some a
  still_there [] m free q a there = there
  still_there (e ∷ es) m free q a there =
      still_there es (fin.insert m e.0 e.1) free.1 q a (get_other m e.0 e.1 q (apart m q e.0 a there free.0) ∙ there)

  -- what is put is there
  pub all_there : (es : List (Name × X)) (m : Map X) → AllFree m es → AllThere (puts es m) es
  all_there [] m free = tt
  all_there (e ∷ es) m free = (
    still_there es (fin.insert m e.0 e.1) free.1 e.0 e.1 (get_same m e.0 e.1),
    all_there es (fin.insert m e.0 e.1) free.1,
  )

  absent_before : (es : List (Name × X)) (m : Map X) (k : Name) (a : X) → AllAbsent (fin.insert m k a) es → AllAbsent m es
  absent_before [] m k a absent = tt
  absent_before (e ∷ es) m k a absent = (
    ⊎_elim
        (λ (same : e.0 ≡ k). let no : Some a ≡ None = sym (get_same m k a) ∙ (ap (fin.get (fin.insert m k a)) (sym same) ∙ absent.0) in cc)
        (λ (ne : e.0 ≢ k). sym (get_other m k a e.0 ne) ∙ absent.0)
        (cases_name e.0 k),
    absent_before es m k a absent.1,
  )

  -- it was not there before
  pub all_absent : (es : List (Name × X)) (m : Map X) → AllFree m es → AllAbsent m es
  all_absent [] m free = tt
  all_absent (e ∷ es) m free = (free.0, absent_before es m e.0 e.1 (all_absent es (fin.insert m e.0 e.1) free.1))

-- ---- a name that no object has

-- of the functions of a thread
module _ (h : Shapes) (n : Numbers) (o : Name) where
  its_object : (v : values.Value Address) (u : Value) → SameInside n (0, v) (0, u) → same_object (Ptr o 0) u ≡ true
      → (a : Address) × Told (is_object n) a o
  its_object (Ptr a i) (Ptr q j) same is = (a, subst (λ (y : Name). Told (is_object n) a y) (sym (told_same o q is)) same.1.0)
  its_object Void Void same is = absurd (false≢true is)
  its_object (Int i) (Int j) same is = absurd (false≢true is)
  its_object Null Null same is = absurd (false≢true is)
  its_object v u same is = absurd same.1

  object_inside : (es : List (ℕ × values.Value Address)) (ds : List (ℕ × Value)) → Pairwise (SameInside n) es ds → is_inside h (Ptr o 0) ds ≡ true
      → (a : Address) × Told (is_object n) a o
  object_inside [] [] same is = absurd (false≢true is)
  object_inside [] (d ∷ ds) same is = absurd same
  object_inside (e ∷ es) [] same is = absurd same
  object_inside (e ∷ es) (d ∷ ds) same is = ⊎_elim
      (λ (here : (function_shape h d.0).atomic && same_object (Ptr o 0) d.1 ≡ true).
      its_object e.1 d.1 (refl, same.0.1) (and_parts (function_shape h d.0).atomic (same_object (Ptr o 0) d.1) here).1)
      (λ (behind : is_inside h (Ptr o 0) ds ≡ true). object_inside es ds same.1 behind)
      (or_cases ((function_shape h d.0).atomic && same_object (Ptr o 0) d.1) (is_inside h (Ptr o 0) ds) is)

module _ (p : Program) (w : Machine) (s : Config) (n : Numbers) (st : Stands p w s n) where
  -- a thread that goes on has a number
  thread_numbered : (y : Name) (m : config.Thread) → fin.get s.threads y ≡ Some (Live m) → (a : Progress) × SameState n p w.code y a (Live m)
  thread_numbered y m there =
      let number = (threads_are_numbered p st.ints s n st.run).numbered y (Live m) there in
      let house = thread_is_housed p st.ints s n st.run number.0 number.1 y number.2 in
      let t : ThreadNo = record { processor = house.0; thread = number.1 } in
      let at = thread_at p w s n st t y (thread_placed n t number.0 y house.1 number.2) in
      (at.0, subst (λ b. SameState n p w.code y at.0 b) (same_Some at.2.0 (Live m) (sym at.2.1 ∙ there)) at.2.2)

  object_of : (o y : Name) (m : config.Thread) (a : Progress) → SameState n p w.code y a (Live m) → is_inside (shapes p) (Ptr o 0) m.inside ≡ true
      → (b : Address) × Told (is_object n) b o
  object_of o y m (Goes r) same is = object_inside (shapes p) n o r.inside m.inside same.inside is
  object_of o y m (Over v) same is = absurd same

  -- nobody is inside a function of an object that is not there
  pub nobody_inside : (o : Name) → fin.get s.objects o ≡ None → any_holds (shapes p) (Ptr o 0) (fin.values s.threads) ≡ false
  nobody_inside o none = false_from_ne_true (any_holds (shapes p) (Ptr o 0) (fin.values s.threads)) (λ e.
      let found = holds_found (shapes p) (Ptr o 0) s.threads e in
      let state = thread_numbered found.0 found.1 found.2 in
      let at = object_of o found.0 found.1 state.0 state.1 found.3 in
      let thing = thing_at p w s n st at.0 o at.1 in
      let no : None ≡ Some thing.2.0 = sym none ∙ thing.2.1 in
      cc)

  -- ---- a name that no processor has

  module _ (q : Name) (ne : q ≢ []) (none : fin.get s.objects q ≡ None) where
    pub no_number : (j : ℕ) → slice_get n.processors j ≡ Some q → ⊥
    no_number j at = let b = object_founds p st.ints s n st.run j q at ne in let no : None ≡ Some b.0 = sym none ∙ b.1 in cc

    empty : (us : List Name) → ((u : Name) → slice_get us 0 ≡ Some u → ⊥) → us ≡ []
    empty [] first = refl
    empty (u ∷ us) first = absurd (first u refl)

    pub no_threads : listed n.threads q ≡ []
    no_threads = empty (listed n.threads q) (λ u at. let house = thread_is_housed p st.ints s n st.run q 0 u at in no_number house.0 house.1)

    pub no_objects : listed n.objects q ≡ []
    no_objects = empty (listed n.objects q) (λ u at. let house = object_is_housed p st.ints s n st.run q 0 u at in no_number house.0 house.1)
