-- As many numbers are given on a processor as threads were made there.
use Rattle.std.proofs.Common.{◌≡◌, ◌≢◌, ⊎_elim, ℕ, ◌+◌, List, [], ◌∷◌, ◌++◌, length, sym, ap, ◌∙◌, subst}
use Rattle.std.specs.Prelude.{ℤ}
use Rattle.std.specs.FinMap as fin
use Rattle.std.proofs.lemmas.List.{length_push}
use Rattle.cc_core.specs.Names.{Name, name_cmp, Map, count, added, or_zero}
use Rattle.cc_core.specs.Core.{Program}
use Rattle.cc_core.specs.Config.{Config, Thread, count_threads}
use Rattle.cc_core.specs.Numbers.{Numbers, listed, listing, list_threads, first_numbers, numbers_step}
use Rattle.cc_core.specs.Steps.{change, start}
use Rattle.cc_core.proofs.Maps.{cases_name, count-added_same, count-added_other}
use Rattle.run_numbers.specs.RunNumbers.{IsNumbered, begins, goes_on}
use Rattle.run_numbers.proofs.Lists.{listed_same, listed_other, listed_empty}
use Rattle.run_numbers.proofs.Changes.{IsNumberedStep, Met, Joined, numbered_step}

abbrev Counted : Map (List Name) → Map ℕ → Type 0
Counted lists counts = (q : Name) → length (listed lists q) ≡ count counts q

one_counted : (lists : Map (List Name)) (counts : Map ℕ) (home x : Name) → Counted lists counts → Counted (listing lists home x) (added counts home 1)
one_counted lists counts home x are q = ⊎_elim
    (λ (e : q ≡ home).
    let long : length (listed (listing lists home x) home) ≡ length (listed lists home) + 1 =
    ap (λ (xs : List Name). length xs) (listed_same lists home x) ∙ length_push (listed lists home) x in
    let many : count (added counts home 1) home ≡ count counts home + 1 = count-added_same counts home 1 in
    subst (λ (r : Name). length (listed (listing lists home x) r) ≡ count (added counts home 1) r) (sym e)
    (long ∙ ap (λ (n : ℕ). n + 1) (are home) ∙ sym many))
    (λ (ne : q ≢ home).
    ap (λ (xs : List Name). length xs) (listed_other lists home x q ne) ∙ are q ∙ sym (count-added_other counts home q 1 ne))
    (cases_name q home)

threads_counted : (es : List (Name × Thread)) (lists : Map (List Name)) (counts : Map ℕ) → Counted lists counts
    → Counted (list_threads lists es) (count_threads counts es)
threads_counted [] lists counts are = are
threads_counted (e ∷ es) lists counts are =
    threads_counted es (listing lists e.1.home e.0) (added counts e.1.home 1) (one_counted lists counts e.1.home e.0 are)

step_counted : (p : Program) (t : Name) (s r : Config) (n after : Numbers) → IsNumberedStep p t s r n after → Counted n.threads s.threads_made
    → Counted after.threads r.threads_made
step_counted p t s r n after (Met m) are =
    let new = (change p t s m.l m.ask m.k m.found).new in
    subst (λ (a : Numbers). Counted a.threads r.threads_made) (sym m.numbers)
    (subst (λ (c : Config). Counted (list_threads n.threads new) c.threads_made) (sym m.is) (threads_counted new n.threads s.threads_made are))
step_counted p t s r n after (Joined m) are =
    subst (λ (a : Numbers). Counted a.threads r.threads_made) (sym m.numbers)
    (subst (λ (c : Config). Counted n.threads c.threads_made) (sym m.is) are)

none_counted : Counted fin.empty fin.empty
none_counted q = ap (λ (xs : List Name). length xs) (listed_empty q) ∙ sym (ap or_zero (fin.get-empty name_cmp q))

module _ (p : Program) (ns : List ℤ) where
  first_counted : Counted (first_numbers p ns).threads (start p ns).threads_made
  first_counted =
      subst (λ (us : List Name). Counted (fin.insert fin.empty [] (us ++ [] ∷ [])) (start p ns).threads_made) (listed_empty [])
      (one_counted fin.empty fin.empty [] [] none_counted)

  pub threads_are_counted : (s : Config) (n : Numbers) → IsNumbered p ns s n → (q : Name) → length (listed n.threads q) ≡ count s.threads_made q
  threads_are_counted s n begins = first_counted
  threads_are_counted r n' (goes_on t s n h e) =
      step_counted p t s r n (numbers_step p t s n) (numbered_step p t s r n e) (threads_are_counted s n h)
