-- The parts of terms: what is good of a whole where it is of its parts.
use Rattle.std.proofs.Common.{◌≡◌, ◌≢◌, ℕ, ◌+◌, ◌≤◌, Bool, true, false, List, [], ◌∷◌, length, Some, refl, sym, subst, ◌∙◌}
use Rattle.std.proofs.Common.{⊎_elim, inl, inr, arith}
use Rattle.std.specs.Prelude.{slice_get, get_or, map}
use Rattle.cc_ops.specs.Values.{Void, Int, Null, Ptr, first, after_first, moved, resized, no_void, as_kinds}
use Rattle.cc_core.specs.Names.{Name, Value}
use Rattle.cc_core.specs.Core.{Env, How, Alone, On, Remote, Term, Index, At}
use Rattle.cc_core.specs.Core.{Binary, Val, Terms, MoreTerms}
use Rattle.cc_core.specs.Core.{Program, shapes, function, function_shape}
use Rattle.cc_core.specs.Next.{variable}
use Rattle.cc_core.specs.Types.{ValueType, NoValue, AnAddress, Target, Cells, ObjectOf, FunctionTypes, Types, function_types}
use Rattle.cc_one_answer.specs.Sorts.{Sort, Valued, variable_sort, IsElement, Instance}
use Rattle.cc_one_answer.specs.Sorts.{World, Grows, IsNameIn, IsMineIn, Fits, AllFit, HasSort}
use Rattle.cc_one_answer.specs.Determinate.{IsTaken, DetTerm}
use Rattle.cc_one_answer.specs.Owned.{IsOwnAt, PendTerm, PendTerms, IsEntryOf, IsEntry}
use Rattle.cc_one_answer.specs.Owned.{FineEnv, IsThis, FineTerm, FineTerms}
use Rattle.cc_ops.specs.Classes.{all_kinds}
use Rattle.cc_ops.specs.declared.shape.FunShape.{FunShape}
use Rattle.cc_core.specs.Asks.{Indexes, Shifts, Computes, Builds, Enters}
use Rattle.cc_core.specs.Asks.{Spawns, Calls, Casts, NewProcessor}
use Rattle.cc_core.specs.Next.{Ready, Asks, on_ready, just}
use Rattle.cc_core.specs.Effects.{numbers}
use Rattle.cc_one_answer.proofs.More.{sort_more, this_more}
use Rattle.cc_one_answer.proofs.More.{stmts_of}
use Rattle.cc_one_answer.proofs.Fine.{Gift, parameter_types, AreMade}
use Rattle.cc_one_answer.proofs.Fine.{IsGoodAsk, IsGood, good_within, nowhere, plain, gift_of, last_ask}
use Rattle.cc_ops.specs.declared.operator.Op.{Op}
use Rattle.cc_core.specs.Next.{gives, call_ask, spawn_ask, object_ask, entered, called}
use Rattle.cc_core.specs.Next.{next_term, next_terms}
use Rattle.cc_one_answer.specs.Determinate.{AreParameters, IsDeterminate}
use Rattle.cc_one_answer.proofs.Values.{fits_sort, sort_fits, number_has}
use Rattle.cc_one_answer.proofs.Values.{shifted_has, element_has, no_voids_fit, kinds_fit, resized_case}
use Rattle.cc_one_answer.proofs.Values.{first_made, parameters_are, parameters_own, shape_is}

module _ (p : Program) (y : Types) (det : IsDeterminate p y) (w : World) (t : Name) (lent : List Name) (hi m0 : ℕ) where
  abbrev pub main : ℕ
  main = p.main

  abbrev pub H : Sort → Value → Type 0
  H r v = HasSort w y t lent v r

  abbrev pub T : FunctionTypes → ℕ → Sort → World → ℕ → Term → Type 0
  T here lo r v h e = FineTerm y p.main t lent v here lo h e r

  abbrev pub Ts : FunctionTypes → ℕ → List ValueType → World → ℕ → Terms → Type 0
  Ts here lo us v h es = FineTerms y p.main t lent v here lo h es us

  abbrev pub D : FunctionTypes → Term → Sort → Type 0
  D = DetTerm y p.main

  -- of a thread in a function: its variables may be read
  pub record Here (here : FunctionTypes) (lo : ℕ) (this : Value) (env : Env) : Type 0 where
    pub low : lo ≤ hi
    pub reads : (k : ℕ) (a : Target) → slice_get here.vars k ≡ Some a → HasSort w y t lent (variable env k Null) (variable_sort a)
    pub is_this : IsThis y p.main t lent w here this

  pub read_of : (lo : ℕ) (o : Name) (x : ℕ) (a : Target) → IsEntryOf y p.main t lent w lo hi o x (Some a)
      → HasSort w y t lent (Ptr o x) (variable_sort a)
  read_of lo o x (Cells false u) h = (h.0, ⊎_elim (λ (m : IsMineIn t lo hi o). inl (m.0, m.1)) (λ (l : IsNameIn o lent). inr l) h.1)
  read_of lo o x (Cells true u) h = h
  read_of lo o x (ObjectOf c) h = h

  pub read_value : (lo : ℕ) (z : Value) (a : Target) → IsEntry y p.main t lent w lo hi z (Some a) → HasSort w y t lent z (variable_sort a)
  read_value lo Void a h = tt
  read_value lo (Int n) a h = tt
  read_value lo Null a h = tt
  read_value lo (Ptr o x) a h = read_of lo o x a h

  pub reads_of : (here : FunctionTypes) (lo : ℕ) (env : Env) → FineEnv y p.main t lent w here lo hi env
      → (k : ℕ) (a : Target) → slice_get here.vars k ≡ Some a → HasSort w y t lent (variable env k Null) (variable_sort a)
  reads_of here lo env fine k a e =
      read_value lo (variable env k Null) a (subst (IsEntry y p.main t lent w lo hi (variable env k Null)) e (fine k))

  -- the values of a call
  pub taken_alone : (f : ℕ) (vs : List Value) (us : List ValueType) → IsTaken y Alone f us → AllFit w vs us
      → AllFit w vs (function_types y f).params
  taken_alone f vs us e h = subst (AllFit w vs) e h

  pub taken_on : (f c : ℕ) (vs : List Value) (us : List ValueType) → us ≡ AnAddress (ObjectOf c) ∷ (function_types y f).params → AllFit w vs us
      → Fits w (first vs) (AnAddress (ObjectOf c)) × AllFit w (after_first vs) (function_types y f).params
  taken_on f c vs us e h = from vs (subst (AllFit w vs) e h)
    where
      from : (vs : List Value) → AllFit w vs (AnAddress (ObjectOf c) ∷ (function_types y f).params)
          → Fits w (first vs) (AnAddress (ObjectOf c)) × AllFit w (after_first vs) (function_types y f).params
      from [] g = absurd g
      from (v ∷ vs) g = g

  pub this_on : (f c : ℕ) (v : Value) → (function_types y f).this ≡ Some c → Fits w v (AnAddress (ObjectOf c))
      → IsThis y p.main t lent w (function_types y f) v
  this_on f c v e h = λ d g. subst (λ k. Fits w v (AnAddress (ObjectOf k))) (same c d (sym e ∙ g)) h
    where
      same : (c d : ℕ) → Some c ≡ Some d → c ≡ d
      same c d q = cc

  pub from_zero : (j : ℕ) → 0 + j ≡ j
  from_zero j = omega arith

  -- a function that is entered
  pub entered_fine : (here : FunctionTypes) (lo : ℕ) → lo ≤ hi → (v : World) → Grows w v → (f : ℕ) → f ≢ p.main → (this : Value)
      → IsThis y p.main t lent w (function_types y f) this → (xs : List Value)
      → AreMade v t hi (parameter_types (function_shape (shapes p) f).params (function_types y f).params) xs
      → length xs ≡ length (parameter_types (function_shape (shapes p) f).params (function_types y f).params)
      → T here lo (Valued (function_types y f).result) v (hi + length (function_shape (shapes p) f).params) (entered p f this xs)
  entered_fine here lo low v grows f ne this it xs made len =
      let params = (function_shape (shapes p) f).params in
      let us = (function_types y f).params in
      let vars = (function p f).shape.vars in
      let top = hi + length params in
      let ok : AreParameters (function_types y f).vars 0 params us =
      subst (λ (s : FunShape). AreParameters (function_types y f).vars 0 s.params us) (sym (shape_is p f)) (det.parameters f) in
      let own : (j : ℕ) → IsOwnAt t lo (variable (resized vars xs) j Null) = λ j. ⊎_elim
      (λ (e : variable (resized vars xs) j Null ≡ variable xs j Null). subst (IsOwnAt t lo) (sym e)
      (parameters_own y p.main t lent v lo top hi low (parameter_types params us) xs made len j))
      (λ (e : variable (resized vars xs) j Null ≡ Null). subst (IsOwnAt t lo) (sym e) tt)
      (resized_case vars xs j) in (
        false,
        (λ e. let g : false ≡ true = e in cc),
        refl,
        this_more w v grows y p.main t lent (function_types y f) this it,
        (λ j. ⊎_elim
            (λ (e : variable (resized vars xs) j Null ≡ variable xs j Null).
            subst (λ z. IsEntry y p.main t lent v lo top z (slice_get (function_types y f).vars j)) (sym e)
            (subst (λ i. IsEntry y p.main t lent v lo top (variable xs j Null) (slice_get (function_types y f).vars i)) (from_zero j)
            (parameters_are y p.main t lent v lo top (function_types y f).vars 0 hi low params us xs (omega arith) ok made len j)))
            (λ (e : variable (resized vars xs) j Null ≡ Null).
            subst (λ z. IsEntry y p.main t lent v lo top z (slice_get (function_types y f).vars j)) (sym e) tt)
            (resized_case vars xs j)),
        stmts_of y p.main t lent v (function_types y f) lo top false (numbers 0 (length (function p f).shape.params)) (resized vars xs)
            (function p f).body (λ k i. own k) (det.functions f ne),
      )

  -- an element of an array, once its address is known
  pub right_index : (here : FunctionTypes) (lo n size : ℕ) (a' : Value) (i : Term) (q z r : Sort) (this : Value) (env : Env)
      → IsElement y size q r → H q a' → (Old : ℕ → Type 0) → ((b : ℕ) → Old b → PendTerm i b)
      → IsGood p y w t lent hi m0 lo (PendTerm i) (H z) (T here lo z) PendTerm (next_term p n this env i)
      → IsGood p y w t lent hi m0 lo Old (H r) (T here lo r) PendTerm
      (on_ready (next_term p n this env i) (Index (Val a') size) (λ u. gives n (Indexes a' size u)))
  right_index here lo n size a' i q z r this env el has Old sub good =
      good_within p y w t lent hi m0 lo lo (PendTerm i) Old nowhere (H z) (H r) (T here lo z) (T here lo r) PendTerm PendTerm
      (Index (Val a') size) (next_term p n this env i) (λ u. gives n (Indexes a' size u))
      (plain p y w t lent hi m0 lo (PendTerm i) Old (T here lo z) (T here lo r) PendTerm PendTerm (Index (Val a') size)
      (λ v h x g le fx. (q, z, el, inr ((a', refl, sort_more w v g y p.main t lent a' q has), fx))) sub (λ x b h. inr h))
      good
      (λ u hu none. last_ask p y w t lent hi m0 lo Old (T here lo r) PendTerm (Indexes a' size u) (λ x. Val (first x.values))
      (gift_of [] NoValue) refl refl none tt
      (λ v x g ans. let j = ans.values in
      subst (λ k. HasSort v y t lent k r) (sym j.2)
      (sort_more w v g y p.main t lent (moved a' j.0) r (element_has w y t lent size q r a' j.0 el j.1 has))))

  pub right_at : (here : FunctionTypes) (lo n : ℕ) (a' : Value) (i : Term) (sync : Bool) (u : ValueType) (z r : Sort) (this : Value) (env : Env)
      → r ≡ Valued (AnAddress (Cells sync u)) → H r a' → (Old : ℕ → Type 0) → ((b : ℕ) → Old b → PendTerm i b)
      → IsGood p y w t lent hi m0 lo (PendTerm i) (H z) (T here lo z) PendTerm (next_term p n this env i)
      → IsGood p y w t lent hi m0 lo Old (H r) (T here lo r) PendTerm
      (on_ready (next_term p n this env i) (At (Val a')) (λ k. gives n (Shifts a' k)))
  right_at here lo n a' i sync u z r this env e has Old sub good =
      good_within p y w t lent hi m0 lo lo (PendTerm i) Old nowhere (H z) (H r) (T here lo z) (T here lo r) PendTerm PendTerm
      (At (Val a')) (next_term p n this env i) (λ k. gives n (Shifts a' k))
      (plain p y w t lent hi m0 lo (PendTerm i) Old (T here lo z) (T here lo r) PendTerm PendTerm (At (Val a'))
      (λ v h x g le fx. (sync, u, z, e, inr ((a', refl, sort_more w v g y p.main t lent a' r has), fx))) sub (λ x b h. inr h))
      good
      (λ k hk none. last_ask p y w t lent hi m0 lo Old (T here lo r) PendTerm (Shifts a' k) (λ x. Val (first x.values))
      (gift_of [] NoValue) refl refl none tt
      (λ v x g ans. subst (λ s. HasSort v y t lent (first x.values) s) (sym e)
      (shifted_has v y t lent a' (first x.values) sync u ans.values
      (sort_more w v g y p.main t lent a' (Valued (AnAddress (Cells sync u))) (subst (λ s. H s a') e has)))))

  pub right_binary : (here : FunctionTypes) (lo n : ℕ) (op : Op) (a' : Value) (i : Term) (q z r : Sort) (this : Value) (env : Env) → H q a'
      → (Old : ℕ → Type 0) → ((b : ℕ) → Old b → PendTerm i b)
      → IsGood p y w t lent hi m0 lo (PendTerm i) (H z) (T here lo z) PendTerm (next_term p n this env i)
      → IsGood p y w t lent hi m0 lo Old (H r) (T here lo r) PendTerm
      (on_ready (next_term p n this env i) (Binary op (Val a')) (λ k. gives n (Computes op (a' ∷ k ∷ []))))
  right_binary here lo n op a' i q z r this env has Old sub good =
      good_within p y w t lent hi m0 lo lo (PendTerm i) Old nowhere (H z) (H r) (T here lo z) (T here lo r) PendTerm PendTerm
      (Binary op (Val a')) (next_term p n this env i) (λ k. gives n (Computes op (a' ∷ k ∷ [])))
      (plain p y w t lent hi m0 lo (PendTerm i) Old (T here lo z) (T here lo r) PendTerm PendTerm (Binary op (Val a'))
      (λ v h x g le fx. (q, z, inr ((a', refl, sort_more w v g y p.main t lent a' q has), fx))) sub (λ x b h. inr h))
      good
      (λ k hk none. last_ask p y w t lent hi m0 lo Old (T here lo r) PendTerm (Computes op (a' ∷ k ∷ [])) (λ x. Val (first x.values))
      (gift_of [] NoValue) refl refl none tt (λ v x g ans. number_has v y t lent (first x.values) r ans.values))

  pub right_terms : (here : FunctionTypes) (lo n : ℕ) (a' : Value) (es : Terms) (u : ValueType) (more us : List ValueType) (this : Value)
      (env : Env) → us ≡ u ∷ more → H (Valued u) a' → (Old : ℕ → Type 0) → ((b : ℕ) → Old b → PendTerms es b)
      → IsGood p y w t lent hi m0 lo (PendTerms es) (λ vs. AllFit w vs more) (Ts here lo more) PendTerms (next_terms p n this env es)
      → IsGood p y w t lent hi m0 lo Old (λ vs. AllFit w vs us) (Ts here lo us) PendTerms
      (on_ready (next_terms p n this env es) (MoreTerms (Val a')) (λ vs. Ready (a' ∷ vs)))
  right_terms here lo n a' es u more us this env e has Old sub good =
      good_within p y w t lent hi m0 lo lo (PendTerms es) Old nowhere (λ vs. AllFit w vs more) (λ vs. AllFit w vs us) (Ts here lo more)
      (Ts here lo us) PendTerms PendTerms (MoreTerms (Val a')) (next_terms p n this env es) (λ vs. Ready (a' ∷ vs))
      (plain p y w t lent hi m0 lo (PendTerms es) Old (Ts here lo more) (Ts here lo us) PendTerms PendTerms (MoreTerms (Val a'))
      (λ v h x g le fx. (u, more, e, inr ((a', refl, sort_more w v g y p.main t lent a' (Valued u) has), fx))) sub (λ x b h. inr h))
      good
      (λ vs hv none. (subst (λ z. AllFit w (a' ∷ vs) z) (sym e) (sort_fits w y t lent a' u has, hv), none))

  pub good_object : (here : FunctionTypes) (lo n : ℕ) (remote : Bool) (c : ℕ) (vs : List Value) (r : Sort) (Old : ℕ → Type 0)
      → r ≡ Valued (AnAddress (ObjectOf c)) → AllFit w vs (get_or y.makers c []) → ((b : ℕ) → Old b → ⊥)
      → IsGood p y w t lent hi m0 lo Old (H r) (T here lo r) PendTerm (gives n (object_ask remote c vs))
  good_object here lo n false c vs r Old e fit none =
      last_ask p y w t lent hi m0 lo Old (T here lo r) PendTerm (Builds c vs) (λ x. Val (first x.values))
      (gift_of (Instance c ∷ []) NoValue) refl refl none (refl, fit)
      (λ v x g ans. let m = first_made v t hi (Instance c) [] x.values ans.values in
      subst (λ s. HasSort v y t lent (first x.values) s) (sym e)
      (subst (λ z. HasSort v y t lent z (Valued (AnAddress (ObjectOf c)))) (sym m.0) (m.1, refl)))
  good_object here lo n true c vs r Old e fit none =
      last_ask p y w t lent hi m0 lo Old (T here lo r) PendTerm (NewProcessor c (map no_void vs)) (λ x. Val (first x.values))
      (gift_of (Instance c ∷ []) NoValue) refl refl none (refl, no_voids_fit w y t lent vs (get_or y.makers c []) fit)
      (λ v x g ans. let m = first_made v t hi (Instance c) [] x.values ans.values in
      subst (λ s. HasSort v y t lent (first x.values) s) (sym e)
      (subst (λ z. HasSort v y t lent z (Valued (AnAddress (ObjectOf c)))) (sym m.0) (m.1, refl)))

  -- a thread that begins with a call
  abbrev pub start_gift : ℕ → ValueType → Gift
  start_gift f reads =
      record { makes = []; reads = reads; kin = record { mark = 0; lent = []; result = (function_types y f).result } }

  abbrev pub kinds_ok : (f : ℕ) → AreParameters (function_types y f).vars 0 (function p f).shape.params (function_types y f).params
  kinds_ok f = det.parameters f

  pub good_call : (here : FunctionTypes) (lo : ℕ) → lo ≤ hi → (n : ℕ) (how : How) (f : ℕ) (vs : List Value) (us : List ValueType) (r : Sort)
      (Old : ℕ → Type 0) → IsTaken y how f us → f ≢ p.main → r ≡ Valued (function_types y f).result → AllFit w vs us
      → ((b : ℕ) → Old b → ⊥)
      → IsGood p y w t lent hi m0 lo Old (H r) (T here lo r) PendTerm
      (Asks n (call_ask (function p f).shape how f vs) (λ x. just (called p how f vs x.values)))
  good_call here lo low n Alone f vs us r Old tk ne e fit none =
      last_ask p y w t lent hi m0 lo Old (T here lo r) PendTerm (Enters f Void vs) (λ x. entered p f Void x.values)
      (gift_of (parameter_types (function_shape (shapes p) f).params (function_types y f).params) NoValue) refl refl none
      (refl, taken_alone f vs us tk fit)
      (λ v x g ans. subst (λ s. T here lo s v (hi + length (function_shape (shapes p) f).params) (entered p f Void x.values)) (sym e)
      (entered_fine here lo low v g f ne Void (λ c q. tt) x.values ans.values.0 ans.values.1))
  good_call here lo low n On f vs us r Old tk ne e fit none =
      let both = taken_on f tk.0 vs us tk.2 fit in
      last_ask p y w t lent hi m0 lo Old (T here lo r) PendTerm (Enters f (first vs) (after_first vs)) (λ x. entered p f (first vs) x.values)
      (gift_of (parameter_types (function_shape (shapes p) f).params (function_types y f).params) NoValue) refl refl none
      (refl, both.1)
      (λ v x g ans. subst (λ s. T here lo s v (hi + length (function_shape (shapes p) f).params) (entered p f (first vs) x.values)) (sym e)
      (entered_fine here lo low v g f ne (first vs) (this_on f tk.0 (first vs) tk.1 both.0) x.values ans.values.0 ans.values.1))
  good_call here lo low n Remote f vs us r Old tk ne e fit none =
      let both = taken_on f tk.0 vs us tk.2 fit in
      last_ask p y w t lent hi m0 lo Old (T here lo r) PendTerm
      (Calls f (first vs) (as_kinds (all_kinds (function p f).shape.params) (after_first vs))) (λ x. Val (first x.values))
      (start_gift f (function_types y f).result) refl refl none (
        (
          ne,
          this_on f tk.0 (first vs) tk.1 both.0,
          kinds_fit w y t lent (function_types y f).vars 0 (function p f).shape.params (function_types y f).params (after_first vs) (kinds_ok f) both.1,
          refl,
          refl,
        ),
        refl,
        (tk.0, both.0),
      )
      (λ v x g ans. subst (λ s. HasSort v y t lent (first x.values) s) (sym e)
      (fits_sort v y t lent (first x.values) (function_types y f).result ans.values))

  pub good_spawn : {A : Type 0} (lo n : ℕ) (how : How) (f : ℕ) (vs : List Value) (us : List ValueType) (Old : ℕ → Type 0)
      (F : World → ℕ → A → Type 0) (P : A → ℕ → Type 0) (a : A) → IsTaken y how f us → f ≢ p.main → AllFit w vs us
      → ((b : ℕ) → Old b → ⊥) → ((v : World) → Grows w v → F v (hi + 0) a)
      → IsGoodAsk p y w t lent hi m0 lo Old F P (spawn_ask (function p f).shape how f vs) (λ x. just a)
  good_spawn lo n Alone f vs us Old F P a tk ne fit none fine =
      last_ask p y w t lent hi m0 lo Old F P (Spawns f Void vs) (λ x. a) (start_gift f NoValue) refl refl none
      (ne, (λ c q. tt), taken_alone f vs us tk fit, refl, refl) (λ v x g ans. fine v g)
  good_spawn lo n On f vs us Old F P a tk ne fit none fine =
      let both = taken_on f tk.0 vs us tk.2 fit in
      last_ask p y w t lent hi m0 lo Old F P (Spawns f (first vs) (after_first vs)) (λ x. a) (start_gift f NoValue) refl refl none
      (ne, this_on f tk.0 (first vs) tk.1 both.0, both.1, refl, refl) (λ v x g ans. fine v g)
  good_spawn lo n Remote f vs us Old F P a tk ne fit none fine =
      let both = taken_on f tk.0 vs us tk.2 fit in
      last_ask p y w t lent hi m0 lo Old F P (Casts f (first vs) (as_kinds (all_kinds (function p f).shape.params) (after_first vs))) (λ x. a)
      (start_gift f NoValue) refl refl none (
        (
          ne,
          this_on f tk.0 (first vs) tk.1 both.0,
          kinds_fit w y t lent (function_types y f).vars 0 (function p f).shape.params (function_types y f).params (after_first vs) (kinds_ok f) both.1,
          refl,
          refl,
        ),
        (tk.0, both.0),
      ) (λ v x g ans. fine v g)
