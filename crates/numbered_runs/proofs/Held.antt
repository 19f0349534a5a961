-- Which objects are held after a step, by names.
use Rattle.std.proofs.Common.{◌≡◌, ◌≢◌, ⊎_elim, ℕ, suc, Bool, true, false, ◌&&◌, ◌||◌, List, [], ◌∷◌, Some, None, refl, sym, ap, ◌∙◌}
use Rattle.std.proofs.lemmas.Bool.{false≢true, false_from_ne_true, or_cases, or_parts, or_left, or_right}
use Rattle.std.proofs.lemmas.Option.{same_Some}
use Rattle.std.specs.Prelude.{if◌then◌else◌}
use Rattle.std.specs.FinMap as fin
use Rattle.cc_ops.specs.Values.{Void, Ptr}
use Rattle.cc_core.specs.Names.{Name, Map, Value, puts}
use Rattle.cc_core.specs.Core.{Term, Program, Shapes, function_shape}
use Rattle.cc_core.specs.Asks.{Ask, Enters, Leaves}
use Rattle.cc_core.specs.Config.{Config, Thread, State, Live, Ended}
use Rattle.cc_core.specs.Effects.{effect, left_behind}
use Rattle.cc_core.specs.Needs.{is_inside, same_object, holds, any_holds}
use Rattle.cc_core.specs.Next.{Next, Ready, Asks, next}
use Rattle.cc_core.specs.Steps.{settled, settle, settle_all, new_threads}
use Rattle.cc_core.proofs.Maps.{cases_name, get_same, get_other, same_map}
use Rattle.run_numbers.proofs.Free.{AllFree}
use Rattle.one_holder.specs.Holders.{HasOneHolder, IsInsideOnce}
use Rattle.one_holder.proofs.Moves.{GoesOn}
use Rattle.one_holder.proofs.Law.{inside_before}
use Rattle.one_holder.proofs.Values.{holds_found, found_holds}
use Rattle.numbered_runs.proofs.Holding.{left, held_next, held_freed}
use Rattle.numbered_runs.proofs.Naming.{both_true}

-- ---- an object is held by one of the threads, or by another

abbrev over : State
over = Ended Void

module _ (h : Shapes) (o : Value) where
  abbrev held_in : Map State → Bool
  held_in m = any_holds h o (fin.values m)

  -- where the same threads go on
  same_held : (m k : Map State) → ((y : Name) (l : Thread) → fin.get m y ≡ Some (Live l) → fin.get k y ≡ Some (Live l))
      → ((y : Name) (l : Thread) → fin.get k y ≡ Some (Live l) → fin.get m y ≡ Some (Live l)) → held_in m ≡ held_in k
  same_held m k to back = both_true (held_in m) (held_in k)
      (λ e. let w = holds_found h o m e in found_holds h o k w.0 w.1 (to w.0 w.1 w.2) w.3)
      (λ e. let w = holds_found h o k e in found_holds h o m w.0 w.1 (back w.0 w.1 w.2) w.3)

  over_not_live : (l : Thread) → Some over ≡ Some (Live l) → ⊥
  over_not_live l e = cc

  -- as before where there was no thread of this name
  held_without : (m : Map State) (x : Name) → fin.get m x ≡ None → held_in (fin.insert m x over) ≡ held_in m
  held_without m x none = same_held (fin.insert m x over) m
      (λ y l there. ⊎_elim
      (λ (e : y ≡ x). absurd (over_not_live l (sym (get_same m x over) ∙ (ap (fin.get (fin.insert m x over)) (sym e) ∙ there))))
      (λ (ne : y ≢ x). sym (get_other m x over y ne) ∙ there)
      (cases_name y x))
      (λ y l there. ⊎_elim
      (λ (e : y ≡ x). let no : None ≡ Some (Live l) = sym none ∙ (ap (fin.get m) (sym e) ∙ there) in cc)
      (λ (ne : y ≢ x). get_other m x over y ne ∙ there)
      (cases_name y x))

  module _ (m : Map State) (x : Name) (a : State) where
    abbrev without : Map State
    without = fin.insert m x over

    abbrev with_it : Map State
    with_it = fin.insert m x a

    state_holds : (b : State) → a ≡ b → holds h o b ≡ true → held_in with_it ≡ true
    state_holds (Live l) e is = found_holds h o with_it x l (get_same m x a ∙ ap (λ c. Some c) e) is
    state_holds (Ended v) e is = absurd (false≢true is)

    found_apart : (y : Name) (l : Thread) → fin.get with_it y ≡ Some (Live l) → is_inside h o l.inside ≡ true → held_in without || holds h o a ≡ true
    found_apart y l there is = ⊎_elim
        (λ (e : y ≡ x).
        let same : a ≡ Live l = same_Some a (Live l) (sym (get_same m x a) ∙ (ap (fin.get with_it) (sym e) ∙ there)) in
        or_right (held_in without) (holds h o a) (ap (λ c. holds h o c) same ∙ is))
        (λ (ne : y ≢ x). or_left (held_in without) (holds h o a)
        (found_holds h o without y l (get_other m x over y ne ∙ (sym (get_other m x a y ne) ∙ there)) is))
        (cases_name y x)

    found_without : (y : Name) (l : Thread) → fin.get without y ≡ Some (Live l) → is_inside h o l.inside ≡ true → held_in with_it ≡ true
    found_without y l there is = ⊎_elim
        (λ (e : y ≡ x). absurd (over_not_live l (sym (get_same m x over) ∙ (ap (fin.get without) (sym e) ∙ there))))
        (λ (ne : y ≢ x). found_holds h o with_it y l (get_other m x a y ne ∙ (sym (get_other m x over y ne) ∙ there)) is)
        (cases_name y x)

    -- by the thread x, or by another
    pub held_with : held_in (fin.insert m x a) ≡ held_in (fin.insert m x over) || holds h o a
    held_with = both_true (held_in with_it) (held_in without || holds h o a)
        (λ e. let w = holds_found h o with_it e in found_apart w.0 w.1 w.2 w.3)
        (λ e. ⊎_elim
        (λ (others : held_in without ≡ true). let w = holds_found h o without others in found_without w.0 w.1 w.2 w.3)
        (λ (mine : holds h o a ≡ true). state_holds a refl mine)
        (or_cases (held_in without) (holds h o a) e))

  -- of a thread that goes on
  held_before : (m : Map State) (x : Name) (l : Thread) → fin.get m x ≡ Some (Live l)
      → held_in m ≡ held_in (fin.insert m x over) || is_inside h o l.inside
  held_before m x l there = ap (λ k. held_in k) (same_map m (fin.insert m x (Live l)) same) ∙ held_with m x (Live l)
    where
      same : (y : Name) → fin.get m y ≡ fin.get (fin.insert m x (Live l)) y
      same y = ⊎_elim
          (λ (e : y ≡ x). ap (fin.get m) e ∙ (there ∙ (sym (get_same m x (Live l)) ∙ ap (fin.get (fin.insert m x (Live l))) (sym e))))
          (λ (ne : y ≢ x). sym (get_other m x (Live l) y ne))
          (cases_name y x)

  -- ---- new threads are inside nothing

  nothing_held : (p : Program) (l : Thread) → l.inside ≡ [] → holds h o (settle p l) ≡ false
  nothing_held p l none = from (next p l.term)
    where
      from : (e : Next Value Term) → holds h o (settled e l) ≡ false
      from (Ready v) = refl
      from (Asks line q k) = ap (λ es. is_inside h o es) none

  or_none : (a : Bool) → a || false ≡ a
  or_none true = refl
  or_none false = refl

  pub new_hold_nothing : (p : Program) (x : Name) (k : ℕ) (q : Name) (own : ℕ) (terms : List Term) (m : Map State)
      → AllFree m (settle_all p (new_threads x k q own terms)) → held_in (puts (settle_all p (new_threads x k q own terms)) m) ≡ held_in m
  new_hold_nothing p x k q own [] m free = refl
  new_hold_nothing p x k q own (term ∷ terms) m free =
      let l : Thread = record { home = q; term = term; asked = None; threads = 0; objects = own; inside = [] } in
      new_hold_nothing p x (suc k) q own terms (fin.insert m (k ∷ x) (settle p l)) free.1
      ∙ (held_with m (k ∷ x) (settle p l)
      ∙ (ap (λ b. held_in (fin.insert m (k ∷ x) over) || b) (nothing_held p l refl)
      ∙ (or_none (held_in (fin.insert m (k ∷ x) over)) ∙ held_without m (k ∷ x) free.0)))

-- ---- what is noted after a step of thread x, which is l, is so

not_after : (a others mine : Bool) → (a ≡ true → mine ≡ false) → (a ≡ true → others ≡ false)
    → (if a then false else (others || (a || mine))) ≡ others || mine
not_after true others mine once apart = sym (ap (λ b. b || mine) (apart refl) ∙ once refl)
not_after false others mine once apart = refl

now_too : (a others mine : Bool) → (if a then true else (others || mine)) ≡ others || (a || mine)
now_too true true mine = refl
now_too true false mine = refl
now_too false others mine = refl

freed_too : (mine others : Bool) → (mine ≡ true → others ≡ false) → (if mine then false else (others || mine)) ≡ others || false
freed_too true others apart = sym (ap (λ b. b || false) (apart refl))
freed_too false others apart = refl

module _ (h : Shapes) (s : Config) (x : Name) (l : Thread) (live : fin.get s.threads x ≡ Some (Live l)) (one : HasOneHolder h s) (o : Name) where
  abbrev pub held_now : Bool
  held_now = any_holds h (Ptr o 0) (fin.values s.threads)

  -- another thread holds it
  abbrev pub others : Bool
  others = any_holds h (Ptr o 0) (fin.values (fin.insert s.threads x over))

  abbrev inside_one : List (ℕ × Value) → Bool
  inside_one es = is_inside h (Ptr o 0) es

  pub by_it : held_now ≡ others || inside_one l.inside
  by_it = held_before h (Ptr o 0) s.threads x l live

  pub alone : inside_one l.inside ≡ true → others ≡ false
  alone is = false_from_ne_true others (λ e.
      let w = holds_found h (Ptr o 0) (fin.insert s.threads x over) e in
      ⊎_elim
      (λ (same : w.0 ≡ x). over_not_live h (Ptr o 0) w.1
      (sym (get_same s.threads x over) ∙ (ap (fin.get (fin.insert s.threads x over)) (sym same) ∙ w.2)))
      (λ (ne : w.0 ≢ x). ne (sym (one (Ptr o 0) x w.0 l w.1 live (sym (get_other s.threads x over w.0 ne) ∙ w.2) is w.3)))
      (cases_name w.0 x))

  pub alone_after : (after : List (ℕ × Value)) → GoesOn h (fin.values s.threads) l.inside after → inside_one after ≡ true → others ≡ false
  alone_after after goes is = ⊎_elim
      (λ (was : inside_one l.inside ≡ true). alone was)
      (λ (free : held_now ≡ false). (or_parts others (inside_one l.inside) (sym by_it ∙ free)).0)
      (inside_before h (fin.values s.threads) l.inside after (Ptr o 0) goes is)

  module _ (once : IsInsideOnce h l.inside) (held : Name → Bool) (is_held : held o ≡ held_now) where
    left_is : (es : List (ℕ × Value)) → l.inside ≡ es → left h es held o ≡ others || inside_one (left_behind es)
    left_is [] e = is_held ∙ (by_it ∙ ap (λ ds. others || inside_one ds) e)
    left_is (d ∷ ds) e =
        let a : Bool = (function_shape h d.0).atomic && same_object (Ptr o 0) d.1 in
        ap (λ b. if a then false else b) (is_held ∙ (by_it ∙ ap (λ us. others || inside_one us) e))
        ∙ not_after a others (inside_one ds)
        (λ is. once (Ptr o 0) [] d ds e (or_left a false is))
        (λ is. alone (ap (λ us. inside_one us) e ∙ or_left a (inside_one ds) is))

    pub next_is : (a : Ask Name) (us : List Value)
        → held_next h l.inside a held o ≡ others || inside_one (effect h x l a us).inside
    next_is (Enters f u vs) us =
        let a : Bool = (function_shape h f).atomic && same_object (Ptr o 0) u in
        ap (λ b. if a then true else b) (is_held ∙ by_it) ∙ now_too a others (inside_one l.inside)
    next_is Leaves us = left_is l.inside refl
    next_is a us = is_held ∙ by_it

  -- the state of the thread after the step: it is inside these functions, or has ended
  pub freed_is : (p : Program) (after : Thread) (es : List (ℕ × Value)) → after.inside ≡ es → (inside_one es ≡ true → others ≡ false)
      → (held : Name → Bool) → held o ≡ others || inside_one es
      → held_freed h (settle p after) es held o ≡ others || holds h (Ptr o 0) (settle p after)
  freed_is p after es same apart held is = from (next p after.term)
    where
      from : (e : Next Value Term) → held_freed h (settled e after) es held o ≡ others || holds h (Ptr o 0) (settled e after)
      from (Ready v) = ap (λ b. if inside_one es then false else b) is ∙ freed_too (inside_one es) others apart
      from (Asks line q k) = is ∙ ap (λ ds. others || inside_one ds) (sym same)
