-- In every configuration of a run an object has one holder, which is inside one atomic function of it.
use Rattle.std.proofs.Common.{◌≡◌, ◌⊎◌, inl, inr, ⊎_elim, ℕ, Bool, true, false, ◌&&◌, ◌||◌, List, [], ◌∷◌, ◌++◌, length, Some, None, refl, sym, ap, ◌∙◌, subst}
use Rattle.std.proofs.lemmas.Bool.{cases_Bool}
use Rattle.std.specs.Prelude.{ℤ}
use Rattle.std.specs.FinMap as fin
use Rattle.cc_ops.specs.Values.{Void, Ptr}
use Rattle.cc_core.specs.Names.{Name, name_cmp, Map, Value}
use Rattle.cc_core.specs.Core.{Program, Shapes, function, function_shape, shapes}
use Rattle.cc_core.specs.Next.{entered}
use Rattle.cc_core.specs.Config.{Config, Thread, State, Live, Ended}
use Rattle.cc_core.specs.Effects.{addresses, parameters, left_behind}
use Rattle.cc_core.specs.Laws.{IsReached}
use Rattle.cc_core.specs.Needs.{same_object, is_inside, holds, any_holds}
use Rattle.cc_core.specs.Steps.{start, ints, Run}
use Rattle.cc_core.proofs.NameLaws.{told_same}
use Rattle.cc_core.proofs.StepLaws.{step_case}
use Rattle.one_holder.specs.Holders.{HasOneHolder, IsInsideOnce}
use Rattle.one_holder.proofs.Values.{or_true, found_holds}
use Rattle.one_holder.proofs.Moves.{GoesOn, Same, Entered, Left, IsMove, moves, IsThere, Itself, New, Older, there}

-- ---- tests

both_are : (a b : Bool) → a && b ≡ true → (a ≡ true) × (b ≡ true)
both_are true b is = (refl, is)
both_are false b is = let f : false ≡ true = is in cc

or_false : (a : Bool) → a || false ≡ true → a ≡ true
or_false true is = refl
or_false false is = is

second_not : (a b : Bool) → a ≡ true → a && b ≡ false → b ≡ false
second_not true b first is = is
second_not false b first is = cc

not_both : (a : Bool) → a ≡ false → a ≡ true → ⊥
not_both a is also = let f : false ≡ true = sym is ∙ also in cc

-- ---- which part of an object a pointer leads to does not matter

pointers : (o u : Value) → same_object o u ≡ true → (x : Name) × (j : ℕ) × (k : ℕ) × (o ≡ Ptr x j) × (u ≡ Ptr x k)
pointers (Ptr x j) (Ptr y k) is = (x, j, k, refl, ap (λ (z : Name). Ptr z k) (sym (told_same x y is)))
pointers o u is = let f : false ≡ true = is in cc

module _ (h : Shapes) (x : Name) (j k : ℕ) where
  inside_anywhere : (es : List (ℕ × Value)) → is_inside h (Ptr x j) es ≡ is_inside h (Ptr x k) es
  inside_anywhere [] = refl
  inside_anywhere (e ∷ es) =
      ap (λ (b : Bool). ((function_shape h e.0).atomic && same_object (Ptr x j) e.1) || b) (inside_anywhere es)

  holds_anywhere : (a : State) → holds h (Ptr x j) a ≡ holds h (Ptr x k) a
  holds_anywhere (Live l) = inside_anywhere l.inside
  holds_anywhere (Ended v) = refl

  held_anywhere : (threads : List State) → any_holds h (Ptr x j) threads ≡ any_holds h (Ptr x k) threads
  held_anywhere [] = refl
  held_anywhere (a ∷ threads) =
      ap (λ (b : Bool). b || any_holds h (Ptr x j) threads) (holds_anywhere a)
      ∙ ap (λ (b : Bool). holds h (Ptr x k) a || b) (held_anywhere threads)

-- ---- a thread that goes on

module _ (h : Shapes) (threads : List State) where
  -- an object of which a function is entered is free
  entered_free : (f : ℕ) (u o : Value) → (function_shape h f).atomic && any_holds h u threads ≡ false → is_inside h o ((f, u) ∷ []) ≡ true
      → any_holds h o threads ≡ false
  entered_free f u o free is =
      let parts = both_are (function_shape h f).atomic (same_object o u) (or_false ((function_shape h f).atomic && same_object o u) is) in
      let same = pointers o u parts.1 in
      ap (λ (v : Value). any_holds h v threads) same.3
      ∙ held_anywhere h same.0 same.1 same.2 threads
      ∙ ap (λ (v : Value). any_holds h v threads) (sym same.4)
      ∙ second_not (function_shape h f).atomic (any_holds h u threads) parts.0 free

  left_inside : (o : Value) (es : List (ℕ × Value)) → is_inside h o (left_behind es) ≡ true → is_inside h o es ≡ true
  left_inside o [] is = is
  left_inside o (e ∷ es) is =
      let first : Bool = (function_shape h e.0).atomic && same_object o e.1 in
      ap (λ (b : Bool). first || b) is ∙ or_true first

  -- a thread that is inside an atomic function of an object was it before, or the object was free
  pub inside_before : (before after : List (ℕ × Value)) (o : Value) → GoesOn h threads before after → is_inside h o after ≡ true
      → (is_inside h o before ≡ true) ⊎ (any_holds h o threads ≡ false)
  inside_before before after o (Same e) is = inl (sym (ap (λ (es : List (ℕ × Value)). is_inside h o es) e) ∙ is)
  inside_before before after o (Left e) is = inl (left_inside o before (sym (ap (λ (es : List (ℕ × Value)). is_inside h o es) e) ∙ is))
  inside_before before after o (Entered f u e free) is = ⊎_elim
      (λ (was : is_inside h o before ≡ true). inl was)
      (λ (was : is_inside h o before ≡ false).
      let first : Bool = (function_shape h f).atomic && same_object o u in
      let now : is_inside h o ((f, u) ∷ before) ≡ true = sym (ap (λ (es : List (ℕ × Value)). is_inside h o es) e) ∙ is in
      inr (entered_free f u o free (sym (ap (λ (b : Bool). first || b) was) ∙ now)))
      (cases_Bool (is_inside h o before))

  left_once : (es : List (ℕ × Value)) → IsInsideOnce h es → IsInsideOnce h (left_behind es)
  left_once [] once = once
  left_once (d ∷ es) once = λ o before e after is. once o (d ∷ before) e after (ap (λ (xs : List (ℕ × Value)). d ∷ xs) is)

  module _ (f : ℕ) (u : Value) (es : List (ℕ × Value)) (free : (function_shape h f).atomic && any_holds h u threads ≡ false)
      (held : (o : Value) → is_inside h o es ≡ true → any_holds h o threads ≡ true) (once : IsInsideOnce h es) where
    entered_once : IsInsideOnce h ((f, u) ∷ es)
    entered_once o [] e after is inside =
        let first : (f, u) ≡ e = cc in
        let rest : es ≡ after = cc in
        let none = entered_free f u o free (ap (λ (d : ℕ × Value). is_inside h o (d ∷ [])) first ∙ inside) in
        ⊎_elim
        (λ (b : is_inside h o es ≡ true). absurd (not_both (any_holds h o threads) none (held o b)))
        (λ (b : is_inside h o es ≡ false). ap (λ (xs : List (ℕ × Value)). is_inside h o xs) (sym rest) ∙ b)
        (cases_Bool (is_inside h o es))
    entered_once o (d ∷ before) e after is inside =
        let rest : es ≡ before ++ e ∷ after = cc in
        once o before e after rest inside

  once_after : (before after : List (ℕ × Value)) → ((o : Value) → is_inside h o before ≡ true → any_holds h o threads ≡ true)
      → GoesOn h threads before after → IsInsideOnce h before → IsInsideOnce h after
  once_after before after held (Same e) once = subst (λ (es : List (ℕ × Value)). IsInsideOnce h es) (sym e) once
  once_after before after held (Left e) once = subst (λ (es : List (ℕ × Value)). IsInsideOnce h es) (sym e) (left_once before once)
  once_after before after held (Entered f u e free) once =
      subst (λ (es : List (ℕ × Value)). IsInsideOnce h es) (sym e) (entered_once f u before free held once)

-- ---- a step

record IsHeldOnce (h : Shapes) (s : Config) : Type 0 where
  one : HasOneHolder h s
  once : (x : Name) (l : Thread) → fin.get s.threads x ≡ Some (Live l) → IsInsideOnce h l.inside

not_empty : (before : List (ℕ × Value)) (e : ℕ × Value) (after : List (ℕ × Value)) → [] ≡ before ++ e ∷ after → ⊥
not_empty [] e after is = cc
not_empty (d ∷ before) e after is = cc

nothing_once : (h : Shapes) → IsInsideOnce h []
nothing_once h = λ o before e after is inside. absurd (not_empty before e after is)

module _ (p : Program) (t : Name) (s r : Config) (m : IsMove p t s r) (held : IsHeldOnce (shapes p) s) where
  abbrev After : Name → Thread → Type 0
  After x l = IsThere t m.after m.new s.threads x l

  there_after : (x : Name) (l : Thread) → fin.get r.threads x ≡ Some (Live l) → After x l
  there_after x l live = there p t m.after m.new s.threads x l (sym (ap (λ (threads : Map State). fin.get threads x) m.threads_are) ∙ live)

  new_holds_nothing : (o : Value) (l : Thread) → l.inside ≡ [] → is_inside (shapes p) o l.inside ≡ true → ⊥
  new_holds_nothing o l nothing is = not_both (is_inside (shapes p) o l.inside) (ap (λ (es : List (ℕ × Value)). is_inside (shapes p) o es) nothing) is

  -- an object that the thread holds after its step no other held
  moved_alone : (o : Value) (y : Name) (l k : Thread) → l ≡ m.after → fin.get s.threads y ≡ Some (Live k) → is_inside (shapes p) o l.inside ≡ true
      → is_inside (shapes p) o k.inside ≡ true → t ≡ y
  moved_alone o y l k same live is also =
      let now : is_inside (shapes p) o m.after.inside ≡ true = ap (λ (a : Thread). is_inside (shapes p) o a.inside) (sym same) ∙ is in
      ⊎_elim
      (λ (was : is_inside (shapes p) o m.l.inside ≡ true). held.one o t y m.l k m.live live was also)
      (λ (free : any_holds (shapes p) o (fin.values s.threads) ≡ false).
      absurd (not_both (any_holds (shapes p) o (fin.values s.threads)) free (found_holds (shapes p) o s.threads y k live also)))
      (inside_before (shapes p) (fin.values s.threads) m.l.inside m.after.inside o m.inside now)

  one_of : (o : Value) (x y : Name) (l k : Thread) → After x l → After y k → is_inside (shapes p) o l.inside ≡ true
      → is_inside (shapes p) o k.inside ≡ true → x ≡ y
  one_of o x y l k (New e) b is also = absurd (new_holds_nothing o l (m.nothing x l e) is)
  one_of o x y l k a (New e) is also = absurd (new_holds_nothing o k (m.nothing y k e) also)
  one_of o x y l k (Itself e same) (Itself d also_same) is also = e ∙ sym d
  one_of o x y l k (Itself e same) (Older live) is also = e ∙ moved_alone o y l k same live is also
  one_of o x y l k (Older live) (Itself d same) is also = sym (d ∙ moved_alone o x k l same live also is)
  one_of o x y l k (Older live) (Older also_live) is also = held.one o x y l k live also_live is also

  once_of : (x : Name) (l : Thread) → After x l → IsInsideOnce (shapes p) l.inside
  once_of x l (New e) = subst (λ (es : List (ℕ × Value)). IsInsideOnce (shapes p) es) (sym (m.nothing x l e)) (nothing_once (shapes p))
  once_of x l (Itself e same) =
      subst (λ (a : Thread). IsInsideOnce (shapes p) a.inside) (sym same)
      (once_after (shapes p) (fin.values s.threads) m.l.inside m.after.inside (λ o is. found_holds (shapes p) o s.threads t m.l m.live is) m.inside
      (held.once t m.l m.live))
  once_of x l (Older live) = held.once x l live

  held_after : IsHeldOnce (shapes p) r
  held_after = record {
    one = λ o x y l k live also_live is also. one_of o x y l k (there_after x l live) (there_after y k also_live) is also;
    once = λ x l live. once_of x l (there_after x l live);
  }

-- ---- runs

module _ (p : Program) (ns : List ℤ) where
  abbrev main : Thread
  main =
      let made = parameters [] 0 [] (function p p.main).shape.params (ints ns) in
      record {
        home = [];
        term = entered p p.main Void (addresses made);
        asked = None;
        threads = 0;
        objects = length made;
        inside = (p.main, Void) ∷ [];
      }

  main_alone : (x : Name) (l : Thread) → fin.get (start p ns).threads x ≡ Some (Live l) → (x ≡ []) × (l ≡ main)
  main_alone x l live = from (there p [] main [] fin.empty x l live)
    where
      from : IsThere [] main [] fin.empty x l → (x ≡ []) × (l ≡ main)
      from (Itself e same) = (e, same)
      from (New e) = absurd e
      from (Older old) = let f : None ≡ Some (Live l) = sym (fin.get-empty name_cmp x) ∙ old in cc

  main_once : IsInsideOnce (shapes p) ((p.main, Void) ∷ [])
  main_once o [] e after is inside = let rest : [] ≡ after = cc in ap (λ (es : List (ℕ × Value)). is_inside (shapes p) o es) (sym rest)
  main_once o (d ∷ before) e after is inside = let rest : [] ≡ before ++ e ∷ after = cc in absurd (not_empty before e after rest)

  first_held : IsHeldOnce (shapes p) (start p ns)
  first_held = record {
    one = λ o x y l k live also_live is also. (main_alone x l live).0 ∙ sym (main_alone y k also_live).0;
    once = λ x l live. subst (λ (a : Thread). IsInsideOnce (shapes p) a.inside) (sym (main_alone x l live).1) main_once;
  }

  held_run : (ts : List Name) (s r : Config) → IsHeldOnce (shapes p) s → Run p ts s r → IsHeldOnce (shapes p) r
  held_run [] s r held run = subst (λ (c : Config). IsHeldOnce (shapes p) c) run held
  held_run (t ∷ ts) s r held run = held_run ts run.0 r (held_after p t s run.0 (moves p t s run.0 (step_case p t s run.0 run.1)) held) run.2

  pub one_holder : (s : Config) → IsReached p ns s → HasOneHolder (shapes p) s
  one_holder s at = (held_run at.0 (start p ns) s first_held at.1).one

  pub once : (s : Config) → IsReached p ns s → (x : Name) (l : Thread) → fin.get s.threads x ≡ Some (Live l) → IsInsideOnce (shapes p) l.inside
  once s at = (held_run at.0 (start p ns) s first_held at.1).once
