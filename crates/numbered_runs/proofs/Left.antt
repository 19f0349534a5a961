-- As many threads go on in the machine as in the configuration that it stands for: both count each name once.
use Rattle.std.proofs.Common.{◌≡◌, ◌≢◌, ◌⊎◌, inl, inr, ⊎_elim, ℕ, zero, suc, ◌+◌, List, [], ◌∷◌, ◌++◌, length, map, slice_get, Option, Some, None, refl, sym, ap, ◌∙◌, subst, arith}
use Rattle.std.proofs.lemmas.Option.{none-some, same_Some}
use Rattle.std.specs.FinMap as fin
use Rattle.cc_core.specs.Names.{Name, name_cmp, Map}
use Rattle.cc_core.specs.Core.{Program}
use Rattle.cc_core.specs.Config.{Config, State, Live, Ended}
use Rattle.cc_core.specs.Numbers.{Numbers, listed}
use Rattle.cc_core.specs.Steps.{live, threads_left}
use Rattle.cc_core.proofs.Maps.{cases_name, get_same, get_other, same_map}
use Rattle.cc_code.specs.Code.{Code}
use Rattle.code_names.specs.Same.{Pairwise}
use Rattle.one_holder.proofs.Values.{live_inserted}
use Rattle.run_numbers.specs.RunNumbers.{AreNumbered}
use Rattle.run_numbers.proofs.Numbers.{threads_are_numbered}
use Rattle.run_numbers.proofs.Processors.{one_number, thread_is_housed}
use Rattle.numbered_runs.specs.Machine.{Machine, Progress, Goes, Over, going, all_going}
use Rattle.numbered_runs.specs.Stands.{Stands, SameState, IsThreadAt, AreThreads}

-- ---- lists of names, no two the same

abbrev IsIn : Name → List Name → Type 0
IsIn x [] = ⊥
IsIn x (y ∷ ys) = (x ≡ y) ⊎ IsIn x ys

abbrev AreApart : List Name → Type 0
AreApart [] = Unit {0}
AreApart (x ∷ xs) = ¬ IsIn x xs × AreApart xs

place_of : (xs : List Name) (x : Name) → IsIn x xs → (k : ℕ) × (slice_get xs k ≡ Some x)
place_of [] x inside = absurd inside
place_of (y ∷ ys) x inside = ⊎_elim
    (λ (e : x ≡ y). (0, ap (λ u. Some u) (sym e)))
    (λ (more : IsIn x ys). let found = place_of ys x more in (suc found.0, found.1))
    inside

at_place : (xs : List Name) (k : ℕ) (x : Name) → slice_get xs k ≡ Some x → IsIn x xs
at_place [] k x h = absurd (none-some x h)
at_place (y ∷ ys) zero x h = inl (sym (same_Some y x h))
at_place (y ∷ ys) (suc k) x h = inr (at_place ys k x h)

apart_at_places : (xs : List Name) → ((j k : ℕ) (x : Name) → slice_get xs j ≡ Some x → slice_get xs k ≡ Some x → j ≡ k) → AreApart xs
apart_at_places [] once = tt
apart_at_places (x ∷ xs) once = (
  λ inside. let found = place_of xs x inside in let same : 0 ≡ suc found.0 = once 0 (suc found.0) x refl found.1 in absurd (omega (arith, same)),
  apart_at_places xs (λ j k y h g. let same : suc j ≡ suc k = once (suc j) (suc k) y h g in omega (arith, same)),
)

in_front : (xs ys : List Name) (x : Name) → IsIn x xs → IsIn x (xs ++ ys)
in_front [] ys x inside = absurd inside
in_front (u ∷ xs) ys x inside = ⊎_elim (λ (e : x ≡ u). inl e) (λ (more : IsIn x xs). inr (in_front xs ys x more)) inside

behind : (xs ys : List Name) (x : Name) → IsIn x ys → IsIn x (xs ++ ys)
behind [] ys x inside = inside
behind (u ∷ xs) ys x inside = inr (behind xs ys x inside)

in_either : (xs ys : List Name) (x : Name) → IsIn x (xs ++ ys) → IsIn x xs ⊎ IsIn x ys
in_either [] ys x inside = inr inside
in_either (u ∷ xs) ys x inside = ⊎_elim
    (λ (e : x ≡ u). inl (inl e))
    (λ (more : IsIn x (xs ++ ys)). ⊎_elim (λ (a : IsIn x xs). inl (inr a)) (λ (b : IsIn x ys). inr b) (in_either xs ys x more))
    inside

apart_appended : (xs ys : List Name) → AreApart xs → AreApart ys → ((x : Name) → IsIn x xs → IsIn x ys → ⊥) → AreApart (xs ++ ys)
apart_appended [] ys mine yours none = yours
apart_appended (x ∷ xs) ys mine yours none = (
  λ inside. ⊎_elim (λ (a : IsIn x xs). mine.0 a) (λ (b : IsIn x ys). none x (inl refl) b) (in_either xs ys x inside),
  apart_appended xs ys mine.1 yours (λ y a b. none y (inr a) b),
)

-- ---- the names of all processors, one after another

module _ (lists : Map (List Name)) where
  names : List Name → List Name
  names [] = []
  names (q ∷ qs) = listed lists q ++ names qs

  name_listed : (qs : List Name) (x : Name) → IsIn x (names qs) → (q : Name) × IsIn q qs × IsIn x (listed lists q)
  unfolding names
  name_listed [] x inside = absurd inside
  name_listed (q ∷ qs) x inside = ⊎_elim
      (λ (a : IsIn x (listed lists q)). (q, inl refl, a))
      (λ (b : IsIn x (names qs)). let found = name_listed qs x b in (found.0, inr found.1, found.2))
      (in_either (listed lists q) (names qs) x inside)

  listed_name : (qs : List Name) (q x : Name) → IsIn q qs → IsIn x (listed lists q) → IsIn x (names qs)
  unfolding names
  listed_name [] q x inside there = absurd inside
  listed_name (r ∷ qs) q x inside there = ⊎_elim
      (λ (e : q ≡ r). in_front (listed lists r) (names qs) x (subst (λ u. IsIn x (listed lists u)) e there))
      (λ (more : IsIn q qs). behind (listed lists r) (names qs) x (listed_name qs q x more there))
      inside

  names_apart : (qs : List Name) → AreApart qs → ((q : Name) → AreApart (listed lists q))
      → ((q r x : Name) → IsIn x (listed lists q) → IsIn x (listed lists r) → q ≡ r) → AreApart (names qs)
  unfolding names
  names_apart [] apart each one = tt
  names_apart (q ∷ qs) apart each one =
      apart_appended (listed lists q) (names qs) (each q) (names_apart qs apart.1 each one)
      (λ x a b. let found = name_listed qs x b in apart.0 (subst (λ u. IsIn u qs) (sym (one q found.0 x a found.2)) found.1))

-- ---- how many of some names go on

abbrev goes_on : Option State → ℕ
goes_on None = 0
goes_on (Some a) = live (a ∷ [])

abbrev going_on : Map State → List Name → ℕ
going_on m [] = 0
going_on m (x ∷ xs) = goes_on (fin.get m x) + going_on m xs

going_appended : (m : Map State) (xs ys : List Name) → going_on m (xs ++ ys) ≡ going_on m xs + going_on m ys
going_appended m [] ys = omega arith
going_appended m (x ∷ xs) ys = let more = going_appended m xs ys in omega (arith, more)

-- what a map has at some names alone
abbrev put_kept : Option State → Name → Map State → Map State
put_kept None x m = m
put_kept (Some a) x m = fin.insert m x a

kept : Map State → List Name → Map State
kept m [] = fin.empty
kept m (x ∷ xs) = put_kept (fin.get m x) x (kept m xs)

module _ (m : Map State) where
  put_other : (o : Option State) (x : Name) (k : Map State) (q : Name) → q ≢ x → fin.get (put_kept o x k) q ≡ fin.get k q
  put_other None x k q ne = refl
  put_other (Some a) x k q ne = get_other k x a q ne

  put_there : (o : Option State) (x : Name) (k : Map State) → fin.get k x ≡ None → fin.get (put_kept o x k) x ≡ o
  put_there None x k none = none
  put_there (Some a) x k none = get_same k x a

  outside : (xs : List Name) (q : Name) → ¬ IsIn q xs → fin.get (kept m xs) q ≡ None
  unfolding kept
  outside [] q out = fin.get-empty name_cmp q
  outside (x ∷ xs) q out = put_other (fin.get m x) x (kept m xs) q (λ e. out (inl e)) ∙ outside xs q (λ a. out (inr a))

  inside : (xs : List Name) (q : Name) → AreApart xs → IsIn q xs → fin.get (kept m xs) q ≡ fin.get m q
  unfolding kept
  inside [] q apart a = absurd a
  inside (x ∷ xs) q apart a = ⊎_elim
      (λ (e : q ≡ x).
      subst (λ u. fin.get (kept m (x ∷ xs)) u ≡ fin.get m u) (sym e) (put_there (fin.get m x) x (kept m xs) (outside xs x apart.0)))
      (λ (more : IsIn q xs).
      let ne : q ≢ x = λ e. apart.0 (subst (λ u. IsIn u xs) e more) in
      put_other (fin.get m x) x (kept m xs) q ne ∙ inside xs q apart.1 more)
      a

  nothing_more : (xs : List Name) (q : Name) → fin.get m q ≡ None → fin.get (kept m xs) q ≡ None
  unfolding kept
  nothing_more [] q none = fin.get-empty name_cmp q
  nothing_more (x ∷ xs) q none = ⊎_elim
      (λ (e : q ≡ x).
      let here : fin.get m x ≡ None = sym (ap (fin.get m) e) ∙ none in
      ap (λ o. fin.get (put_kept o x (kept m xs)) q) here ∙ nothing_more xs q none)
      (λ (ne : q ≢ x). put_other (fin.get m x) x (kept m xs) q ne ∙ nothing_more xs q none)
      (cases_name q x)

  all_kept : (xs : List Name) → AreApart xs → ((q : Name) (a : State) → fin.get m q ≡ Some a → IsIn q xs) → kept m xs ≡ m
  all_kept xs apart covers = same_map (kept m xs) m (λ q. at q (fin.get m q) refl)
    where
      at : (q : Name) (o : Option State) → fin.get m q ≡ o → fin.get (kept m xs) q ≡ fin.get m q
      at q None is = nothing_more xs q is ∙ sym is
      at q (Some a) is = inside xs q apart (covers q a is)

  none_live : (es : List (Name × State)) → length es ≡ 0 → live (map (λ e. e.1) es) ≡ 0
  none_live [] e = refl
  none_live (x ∷ es) e = absurd (omega (arith, e))

  put_counted : (o : Option State) (x : Name) (k : Map State) → fin.get k x ≡ None
      → live (fin.values (put_kept o x k)) ≡ goes_on o + live (fin.values k)
  put_counted None x k none = omega arith
  put_counted (Some a) x k none = live_inserted k x a none

  kept_counted : (xs : List Name) → AreApart xs → live (fin.values (kept m xs)) ≡ going_on m xs
  unfolding kept
  kept_counted [] apart = none_live (fin.entries fin.empty) (sym (fin.len-entries fin.empty) ∙ fin.len-empty name_cmp State)
  kept_counted (x ∷ xs) apart =
      let one = put_counted (fin.get m x) x (kept m xs) (outside xs x apart.0) in
      let more = kept_counted xs apart.1 in
      one ∙ ap (λ i. goes_on (fin.get m x) + i) more

  pub counted : (xs : List Name) → AreApart xs → ((q : Name) (a : State) → fin.get m q ≡ Some a → IsIn q xs)
      → live (fin.values m) ≡ going_on m xs
  counted xs apart covers = ap (λ k. live (fin.values k)) (sym (all_kept xs apart covers)) ∙ kept_counted xs apart

-- ---- the machine's tables

module _ (n : Numbers) (p : Program) (code : Code) (s : Config) where
  state_goes : (x : Name) (a : Progress) (b : State) → SameState n p code x a b → going (a ∷ []) ≡ live (b ∷ [])
  state_goes x (Goes r) (Live l) same = refl
  state_goes x (Over v) (Ended u) same = refl
  state_goes x (Goes r) (Ended u) same = absurd same
  state_goes x (Over v) (Live l) same = absurd same

  one_goes : (a : Progress) (table : List Progress) → going (a ∷ table) ≡ going (a ∷ []) + going table
  one_goes (Goes r) table = omega arith
  one_goes (Over v) table = omega arith

  table_goes : (xs : List Name) (table : List Progress) → Pairwise (IsThreadAt n p code s) xs table → going table ≡ going_on s.threads xs
  table_goes [] [] all = refl
  table_goes [] (a ∷ table) all = absurd all
  table_goes (x ∷ xs) [] all = absurd all
  table_goes (x ∷ xs) (a ∷ table) all =
      let at = all.0 in
      let here : going (a ∷ []) ≡ goes_on (fin.get s.threads x) = state_goes x a at.0 at.2 ∙ ap goes_on (sym at.1) in
      let more = table_goes xs table all.1 in
      let first = one_goes a table in
      omega (arith, first, here, more)

  tables_go : (qs : List Name) (tables : List (List Progress)) → Pairwise (AreThreads n p code s) qs tables
      → all_going tables ≡ going_on s.threads (names n.threads qs)
  unfolding names
  tables_go [] [] all = refl
  tables_go [] (table ∷ tables) all = absurd all
  tables_go (q ∷ qs) [] all = absurd all
  tables_go (q ∷ qs) (table ∷ tables) all =
      let here = table_goes (listed n.threads q) table all.0 in
      let more = tables_go qs tables all.1 in
      let both = going_appended s.threads (listed n.threads q) (names n.threads qs) in
      omega (arith, here, more, both)

module _ (p : Program) (w : Machine) (s : Config) (n : Numbers) (st : Stands p w s n) where
  are : AreNumbered n.threads s.threads
  are = threads_are_numbered p st.ints s n st.run

  all_apart : AreApart (names n.threads n.processors)
  all_apart =
      names_apart n.threads n.processors (apart_at_places n.processors (λ j k q h g. one_number p st.ints s n st.run j k q h g))
      (λ q. apart_at_places (listed n.threads q) (λ j k x h g. (are.once q q j k x h g).1))
      (λ q r x a b.
      let mine = place_of (listed n.threads q) x a in
      let yours = place_of (listed n.threads r) x b in
      (are.once q r mine.0 yours.0 x mine.1 yours.1).0)

  all_there : (x : Name) (a : State) → fin.get s.threads x ≡ Some a → IsIn x (names n.threads n.processors)
  all_there x a there =
      let number = are.numbered x a there in
      let home = thread_is_housed p st.ints s n st.run number.0 number.1 x number.2 in
      listed_name n.threads n.processors number.0 x (at_place n.processors home.0 number.0 home.1)
      (at_place (listed n.threads number.0) number.1 x number.2)

  pub left_alike : all_going w.threads ≡ threads_left s
  left_alike =
      tables_go n p w.code s n.processors w.threads st.threads
      ∙ sym (counted s.threads (names n.threads n.processors) all_apart all_there)
