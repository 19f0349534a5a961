-- The least broken rule is the first one.
use Rattle.std.proofs.Common.{◌≡◌, ℕ, ◌<◌, ◌⊎◌, inl, inr, ⊎_elim, ◌↔◌, Bool, true, false, ◌==◌, nat_lt, if◌then◌else◌, List, [], ◌∷◌, Contains}
use Rattle.std.proofs.Common.{Option, Some, None, Result, Ok, Err, refl, sym, ap, subst, ◌∙◌, arith}
use Rattle.std.proofs.lemmas.Bool.{true≢false}
use Rattle.std.proofs.lemmas.Bool.Decides.{nat_tests}
use Rattle.std.proofs.lemmas.List.Elements.{All-contains}
use Rattle.cc_names.specs.Broken.{line_of, number_of, is_before, least, IsLeast, Answers}
use Rattle.cc_names.specs.declared.broken.Broken.{Broken}
use Rattle.cc_names.specs.declared.broken.Broken.TheVariants.{Rule, Limit}
use Rattle.cc_names.specs.declared.broken.TypeFault.{TypeFault}
use Rattle.cc_names.specs.declared.broken.TypeFault.TheVariants as fault
use Rattle.cc_names.proofs.LeastLaws.{is_least}
use Rattle.law_answers.specs.First.{StandsBefore, IsFirst, NoneIsBroken, NamesFirst, SameRules}
use Rattle.law_answers.proofs.Numbers.{same_number}

abbrev by_both : (la na lb nb : ℕ) → Bool
by_both la na lb nb = if la == lb then nat_lt na nb else nat_lt la lb

tells : (la na lb nb : ℕ) → by_both la na lb nb ≡ false → ((la ≡ lb) × (na ≡ nb)) ⊎ ((lb < la) ⊎ ((lb ≡ la) × (nb < na)))
tells la na lb nb isnt = grind (arith, nat_tests)

asks : (la na lb nb : ℕ) → (la < lb) ⊎ ((la ≡ lb) × (na < nb)) → by_both la na lb nb ≡ true
asks la na lb nb is = grind (arith, nat_tests)

behind : (first other : Broken) → is_before other first ≡ false → (other ≡ first) ⊎ StandsBefore first other
unfolding is_before
behind first other isnt = ⊎_elim (λ same. inl (same_number other first same.0 same.1)) (λ before. inr before)
    (tells (line_of other) (number_of other) (line_of first) (number_of first) isnt)

before : (a b : Broken) → StandsBefore a b → is_before a b ≡ true
unfolding is_before
before a b is = asks (line_of a) (number_of a) (line_of b) (number_of b) is

no_element : (broken : List Broken) (x : Broken) → broken ≡ [] → Contains broken x → ⊥
no_element broken x none has =
    let h : Contains {X = Broken} [] x = subst (λ bs. Contains bs x) none has in omega (arith, h.1)

empty : (broken : List Broken) → NoneIsBroken broken → broken ≡ []
empty [] none = refl
empty (b ∷ more) none = absurd (none b (0, omega arith, refl))

least_first : (broken : List Broken) (first : Broken) → IsLeast broken (Some first) → IsFirst broken first
least_first broken first least_one =
    (least_one.0, λ other has. behind first other (All-contains (λ o. is_before o first ≡ false) broken other least_one.1 has))

pub is_first : (broken : List Broken) (first : Broken) → least broken ≡ Some first → IsFirst broken first
is_first broken first is = least_first broken first (subst (IsLeast broken) is (is_least broken))

-- there is one first rule, and it is the least
only : (broken : List Broken) (first : Broken) → IsFirst broken first → (o : Option Broken) → IsLeast broken o → o ≡ Some first
only broken first it None none = absurd (no_element broken first none it.0)
only broken first it (Some other) least_one = ⊎_elim (λ same. ap Some same)
    (λ sooner. absurd (true≢false (sym (before first other sooner) ∙ All-contains (λ o. is_before o other ≡ false) broken first least_one.1 it.0)))
    (it.1 other least_one.0)

pub is_named : (broken : List Broken) (first : Broken) → IsFirst broken first → least broken ≡ Some first
is_named broken first it = only broken first it (least broken) (is_least broken)

none_broken : (broken : List Broken) → broken ≡ [] → NoneIsBroken broken
none_broken broken none other has = no_element broken other none has

module _ {A : Type 0} (broken : List Broken) (wanted : A) where
  named : (answer : Result A TypeFault) → Answers broken wanted answer → NamesFirst broken wanted answer
  named (Ok made) h = (none_broken broken h.0, h.1)
  named (Err (fault.Rule rule line)) h = is_first broken (Rule rule line) h
  named (Err (fault.Limit which line)) h = is_first broken (Limit which line) h
  named (Err fault.Memory) h = tt

  answered : (answer : Result A TypeFault) → NamesFirst broken wanted answer → Answers broken wanted answer
  answered (Ok made) h = (empty broken h.0, h.1)
  answered (Err (fault.Rule rule line)) h = is_named broken (Rule rule line) h
  answered (Err (fault.Limit which line)) h = is_named broken (Limit which line) h
  answered (Err fault.Memory) h = tt

  pub names_first : (answer : Result A TypeFault) → Answers broken wanted answer ↔ NamesFirst broken wanted answer
  names_first answer = (named answer, answered answer)

-- ---- the order in which rules are found

same_first : (found others : List Broken) (first : Broken) → SameRules found others → IsFirst found first → IsFirst others first
same_first found others first same it = ((same first).0 it.0, λ other has. it.1 other ((same other).1 has))

same_by : (found others : List Broken) → SameRules found others → (o : Option Broken) → least found ≡ o → least others ≡ o
same_by found others same None is =
    let none : found ≡ [] = subst (IsLeast found) is (is_least found) in
    let nothing : NoneIsBroken others = λ other has. no_element found other none ((same other).1 has) in
    ap least (empty others nothing)
same_by found others same (Some first) is = is_named others first (same_first found others first same (is_first found first is))

pub same_least : (found others : List Broken) → SameRules found others → least found ≡ least others
same_least found others same = sym (same_by found others same (least found) refl)
