-- The threads of each processor, as a step changes them: what they are kept, changed and made.
use Rattle.std.proofs.Common.{◌≡◌, ◌≢◌, ℕ, zero, suc, ◌+◌, List, [], ◌∷◌, ◌++◌, length, slice_get, Some, refl, sym, ap, ◌∙◌, subst, arith}
use Rattle.std.proofs.lemmas.Option.{none-some, same_Some}
use Rattle.std.specs.Option.{option_map_or}
use Rattle.cc_ops.specs.Machine.{Address}
use Rattle.cc_ops.specs.declared.number.ThreadNo.{ThreadNo}
use Rattle.cc_ops.specs.Shelves.{changed}
use Rattle.cc_core.specs.Names.{Name, Map}
use Rattle.cc_core.specs.Config as core
use Rattle.cc_core.specs.Core.{Term}
use Rattle.cc_core.specs.Numbers.{Numbers, listed, listing, list_threads}
use Rattle.cc_core.specs.Steps.{new_threads}
use Rattle.cc_code.specs.Code.{Thread}
use Rattle.code_names.specs.Same.{Pairwise}
use Rattle.run_numbers.specs.RunNumbers.{IsListed}
use Rattle.run_numbers.proofs.Lists.{listed_same, listed_other}
use Rattle.run_numbers.proofs.Free.{threads_stay}
use Rattle.numbered_runs.specs.Machine.{Progress, put_thread, push_thread, made_in}
use Rattle.numbered_runs.specs.Stands.{IsThread}
use Rattle.numbered_runs.specs.Steps.{push_all, numbers_on}
use Rattle.numbered_runs.proofs.Lists.{get_one, get_last, pairwise_length, pairwise_right, pairwise_kept, pairwise_changed, pairwise_push}
use Rattle.numbered_runs.proofs.Naming.{thread_placed}
use Rattle.numbered_runs.proofs.Objects.{AreOnce}

module _ (S : Name → Progress → Type 0) where
  -- the threads of processor q, one by one
  abbrev pub TableOf : Map (List Name) → Name → List Progress → Type 0
  TableOf lists q table = Pairwise S (listed lists q) table

  abbrev pub Tables : List Name → Map (List Name) → List (List Progress) → Type 0
  Tables processors lists threads = Pairwise (TableOf lists) processors threads

-- ---- threads that are kept, and one that is changed

module _ (S T : Name → Progress → Type 0) (processors : List Name) (lists : Map (List Name)) where
  pub tables_kept : (threads : List (List Progress)) → ((q : Name) (k : ℕ) (x : Name) (a : Progress) → IsListed lists q k x → S x a → T x a)
      → Tables S processors lists threads → Tables T processors lists threads
  tables_kept threads keep =
      pairwise_kept (TableOf S lists) (TableOf T lists) processors threads
      (λ j q table _ _ h. pairwise_kept S T (listed lists q) table (λ k x a at _ s. keep q k x a at s) h)

  module _ (once : AreOnce processors lists) (t : ThreadNo) (x q : Name) (here : slice_get processors t.processor ≡ Some q)
      (at : IsListed lists q t.thread x) (b : Progress) (now : T x b) (others : (u : Name) (a : Progress) → u ≢ x → S u a → T u a) where
    its_table : (r : Name) (table : List Progress) → slice_get processors t.processor ≡ Some r → TableOf S lists r table
        → TableOf T lists r (changed table t.thread (λ y. b))
    its_table r table is h =
        let same : q ≡ r = get_one processors t.processor q r here is in
        pairwise_changed S T (listed lists r) table t.thread (λ y. b)
        (λ u a is_u _ s.
        let named : x ≡ u = get_one (listed lists r) t.thread x u (subst (λ v. IsListed lists v t.thread x) same at) is_u in
        subst (λ v. T v b) named now)
        (λ k u a ne is_u _ s. others u a (λ e. ne (once.one_name r q k t.thread x (subst (λ v. IsListed lists r k v) e is_u) at).1) s)
        h

    other_table : (j : ℕ) (r : Name) (table : List Progress) → j ≢ t.processor → slice_get processors j ≡ Some r → TableOf S lists r table
        → TableOf T lists r table
    other_table j r table ne is h =
        pairwise_kept S T (listed lists r) table
        (λ k u a is_u _ s. others u a (λ e.
        let same : r ≡ q = (once.one_name r q k t.thread x (subst (λ v. IsListed lists r k v) e is_u) at).0 in
        ne (once.one_processor j t.processor q (is ∙ ap Some same) here)) s)
        h

    pub thread_put : (threads : List (List Progress)) → Tables S processors lists threads → Tables T processors lists (put_thread threads t b)
    thread_put threads =
        pairwise_changed (TableOf S lists) (TableOf T lists) processors threads t.processor _
        (λ r table is _ h. its_table r table is h)
        (λ j r table ne is _ h. other_table j r table ne is h)

-- ---- threads that are made

module _ (S : Name → Progress → Type 0) where
  -- a processor more, on which nothing is
  pub one_table_more : (processors : List Name) (lists : Map (List Name)) (threads : List (List Progress)) (q : Name) → listed lists q ≡ []
      → Tables S processors lists threads → Tables S (processors ++ q ∷ []) lists (threads ++ [] ∷ [])
  one_table_more processors lists threads q none h =
      pairwise_push (TableOf S lists) processors threads q [] h (subst (λ us. Pairwise S us []) (sym none) tt)

  -- as many were made on a processor as have a name there
  pub many_made : (processors : List Name) (lists : Map (List Name)) (threads : List (List Progress)) (i : ℕ) (q : Name)
      → slice_get processors i ≡ Some q → Tables S processors lists threads → made_in threads i ≡ length (listed lists q)
  many_made processors lists threads i q here h =
      let at = pairwise_right (TableOf S lists) processors threads h i q here in
      ap (λ o. option_map_or (λ (ts : List Progress). length ts) o 0) at.1 ∙ sym (pairwise_length S (listed lists q) at.0 at.2)

  -- a thread that is made on processor q
  abbrev pub IsNew : (q : Name) → (Name × core.Thread) → Progress → Type 0
  IsNew q e a = (e.1.home ≡ q) × S e.0 a

  module _ (processors : List Name) (only : (j k : ℕ) (q : Name) → slice_get processors j ≡ Some q → slice_get processors k ≡ Some q → j ≡ k)
      (i : ℕ) (q : Name) (here : slice_get processors i ≡ Some q) where
    thread_pushed : (lists : Map (List Name)) (threads : List (List Progress)) (x : Name) (a : Progress) → S x a
        → Tables S processors lists threads → Tables S processors (listing lists q x) (push_thread threads i a)
    thread_pushed lists threads x a s =
        pairwise_changed (TableOf S lists) (TableOf S (listing lists q x)) processors threads i _
        (λ r table is _ h.
        let same : q ≡ r = get_one processors i q r here is in
        subst (λ v. TableOf S (listing lists q x) v (table ++ a ∷ [])) same
        (subst (λ us. Pairwise S us (table ++ a ∷ [])) (sym (listed_same lists q x))
        (pairwise_push S (listed lists q) table x a (subst (λ v. TableOf S lists v table) (sym same) h) s)))
        (λ j r table ne is _ h.
        let other : r ≢ q = λ e. ne (only j i q (is ∙ ap Some e) here) in
        subst (λ us. Pairwise S us table) (sym (listed_other lists q x r other)) h)

    pub threads_pushed : (es : List (Name × core.Thread)) (new : List Progress) (lists : Map (List Name)) (threads : List (List Progress))
        → Pairwise (IsNew q) es new → Tables S processors lists threads
        → Tables S processors (list_threads lists es) (push_all threads i new)
    threads_pushed [] [] lists threads new h = h
    threads_pushed [] (a ∷ more) lists threads new h = absurd new
    threads_pushed (e ∷ es) [] lists threads new h = absurd new
    threads_pushed (e ∷ es) (a ∷ more) lists threads new h =
        threads_pushed es more (listing lists e.1.home e.0) (push_thread threads i a) new.1
        (subst (λ r. Tables S processors (listing lists r e.0) (push_thread threads i a)) (sym new.0.0)
        (thread_pushed lists threads e.0 a new.0.1 h))

-- ---- the numbers of what a thread makes

module _ (n : Numbers) (i : ℕ) (q x : Name) (here : slice_get n.processors i ≡ Some q) (own : ℕ) where
  -- the threads that x makes on processor q, from its thread j on, have the numbers from k on
  pub kids_numbered : (terms : List Term) (cs : List (Thread Address)) → length cs ≡ length terms → (j k : ℕ) (lists : Map (List Name))
      → k ≡ length (listed lists q) → n.threads ≡ list_threads lists (new_threads x j q own terms)
      → (m : ℕ) (t : ThreadNo) → slice_get (numbers_on i k cs) m ≡ Some t → IsThread n t ((j + m) ∷ x)
  kids_numbered [] [] many j k lists long all m t at = absurd (none-some t at)
  kids_numbered [] (c ∷ cs) many j k lists long all m t at = absurd (omega (arith, many))
  kids_numbered (term ∷ terms) [] many j k lists long all m t at = absurd (omega (arith, many))
  kids_numbered (term ∷ terms) (c ∷ cs) many j k lists long all zero t at =
      let no : ThreadNo = record { processor = i; thread = k } in
      let newest : IsListed (listing lists q (j ∷ x)) q k (j ∷ x) =
      subst (λ u. IsListed (listing lists q (j ∷ x)) q u (j ∷ x)) (sym long)
      (ap (λ us. slice_get us (length (listed lists q))) (listed_same lists q (j ∷ x)) ∙ get_last (listed lists q) (j ∷ x)) in
      let stays : IsListed n.threads q k (j ∷ x) =
      subst (λ u. IsListed u q k (j ∷ x)) (sym all) (threads_stay (new_threads x (suc j) q own terms) (listing lists q (j ∷ x)) q k (j ∷ x) newest) in
      let first : j ≡ j + 0 = omega arith in
      subst (λ u. IsThread n u ((j + 0) ∷ x)) (same_Some no t at)
      (subst (λ u. IsThread n no (u ∷ x)) first (thread_placed n no q (j ∷ x) here stays))
  kids_numbered (term ∷ terms) (c ∷ cs) many j k lists long all (suc m) t at =
      let more : length (listed (listing lists q (j ∷ x)) q) ≡ suc (length (listed lists q)) =
      ap (λ us. length us) (listed_same lists q (j ∷ x)) ∙ length_pushed (listed lists q) (j ∷ x) in
      let next : suc j + m ≡ j + suc m = omega arith in
      subst (λ u. IsThread n t (u ∷ x)) next
      (kids_numbered terms cs (omega (arith, many)) (suc j) (suc k) (listing lists q (j ∷ x)) (ap suc long ∙ sym more) all m t at)
    where
      length_pushed : (us : List Name) (u : Name) → length (us ++ u ∷ []) ≡ suc (length us)
      length_pushed [] u = refl
      length_pushed (v ∷ us) u = ap suc (length_pushed us u)
