-- What a typed term does next: it has a value of its type; or its ask is typed, and after each answer of the ask's types what is left is typed.
use Rattle.std.proofs.Common.{◌≡◌, ℕ, Bool, true, false, List, [], ◌∷◌, ◌++◌, Some, None, refl, sym, ap, subst}
use Rattle.std.proofs.Common.{inl}
use Rattle.std.specs.Prelude.{slice_get, set, map, ◌||◌, if◌then◌else◌}
use Rattle.cc_ops.specs.Values.{Void, Null, is_zero, first, after_first, moved, no_void, sent}
use Rattle.cc_ops.specs.Operators.{truth}
use Rattle.cc_ops.specs.declared.operator.Op.TheVariants.{Bool as Bool'}
use Rattle.cc_core.specs.Names.{Name, Value}
use Rattle.cc_core.specs.Core.{Env, How, Alone, On, Remote, Program, function, Term, Push, This, Variable, Member, Index, At, Load}
use Rattle.cc_core.specs.Core.{Unary, Binary, And, Or, New, NewObject, Call, Val, Body, Branch, Starts, Terms, NoTerms, MoreTerms}
use Rattle.cc_core.specs.Core.{MoreCells, Copied, Stmt, Empty, AtLine, Make, Set, Build, Assign, Drop, Print, If, IfElse, While, For}
use Rattle.cc_core.specs.Core.{Break, Continue, Par, ParFor, Spawn, Return, Block, Turn, Forks, Each, Wait, Left, Stmts, NoStmts}
use Rattle.cc_core.specs.Core.{MoreStmts}
use Rattle.cc_core.specs.Asks.{Ask, Answer, Reads, Writes, Copies, Indexes, Shifts, Computes, Tests, Makes, MakesWith, Builds, Enters}
use Rattle.cc_core.specs.Asks.{Leaves, ForksAll, ForksOne, Joins, Spawns, Prints, Calls, Casts, NewProcessor}
use Rattle.cc_core.specs.Next.{Next, Ready, Asks, just, on_ready, Ending, Falls, Returns, Breaks, Continues, variable, gives, does, makes}
use Rattle.cc_core.specs.Next.{call_ask, spawn_ask, object_ask, entered, called, returns_default, body_ends, branch_ends, branches}
use Rattle.cc_core.specs.Next.{and_then, turn_ends, for_turn, next_term, next_terms, next_stmt, next_stmts, next}
use Rattle.core_types.specs.Types.{ValueType, NoValue, AnInt, Pointer, Target, Cells, ObjectOf, Types, function_types, class_types}
use Rattle.core_types.specs.Types.{is_sync, Allowed, printed_types, addressed}
use Rattle.core_types.specs.Values.{World, Grows, Fits, AllFit, IsObject, EnvFits}
use Rattle.core_types.specs.Typing.{Scope, scope_of, branch, branch_of, nowhere, is_atomic, IsCall, call_waits, PassAll, HasType, HaveTypes, IsTyped, AreTyped}
use Rattle.core_types.specs.Asks.{IsAsk}
use Rattle.core_types.specs.Programs.{HasTypes}
use Rattle.core_types.proofs.Basics.{constant_fits, local_is_global, serves, member_fits, env_set, env_entered, sent_fits, sent_all, kinds_same, first_fits, one_fits, both_fit, resized_fits}
use Rattle.core_types.proofs.Basics.{allowed_left, allowed_within, same_some}
use Rattle.core_types.proofs.More.{fits_more, all_more, object_more, env_more, type_more, types_more, stmt_more, stmts_more}

module _ (p : Program) (y : Types) (ok : HasTypes p y) (w : World) (q : Name) where
  abbrev pub AreBranches : World → List Term → Type 0
  AreBranches v [] = Unit {0}
  AreBranches v (e ∷ es) = HasType p y v q nowhere e NoValue × AreBranches v es

  abbrev pub NextIs : {V A : Type 0} → (waits : Bool) → (V → Type 0) → (World → A → Type 0) → Next V A → Type 0
  NextIs waits PV PA (Ready v) = PV v
  NextIs waits PV PA (Asks line ask k) = (us : List ValueType) × IsAsk p y w q waits ask us
      × ((v : World) → Grows w v → (x : Answer Name) → AllFit y v q x.values us → PA v (k x).left × AreBranches v (k x).branches)

  within : {V A W B : Type 0} (waits : Bool) (PV : V → Type 0) (PA : World → A → Type 0) (QV : W → Type 0) (QA : World → B → Type 0)
      (n : Next V A) (G : A → B) (go : V → Next W B) → NextIs waits PV PA n
      → ((v : World) → Grows w v → (a : A) → PA v a → QA v (G a)) → ((v : V) → PV v → NextIs waits QV QA (go v))
      → NextIs waits QV QA (on_ready n G go)
  within waits PV PA QV QA (Ready v) G go h back on = on v h
  within waits PV PA QV QA (Asks line ask k) G go h back on =
      (h.0, h.1, λ v g x f. let r = h.2 v g x f in (back v g (k x).left r.0, r.1))

  -- a typed ask further out

  ask_within : (inner outer : Bool) → Allowed outer inner → (ask : Ask Name) (us : List ValueType) → IsAsk p y w q inner ask us
      → IsAsk p y w q outer ask us
  ask_within i o h (Reads remote x) us f = (f.0, f.1, f.2, f.3, f.4, f.5, allowed_within i o _ h f.6, f.7)
  ask_within i o h (Writes remote x v) us f = (f.0, f.1, f.2, f.3, f.4, f.5, f.6, allowed_within i o _ h f.7, f.8)
  ask_within i o h (Copies x n) us f = f
  ask_within i o h (Indexes x n j) us f = f
  ask_within i o h (Shifts x j) us f = f
  ask_within i o h (Computes op vs) us f = f
  ask_within i o h Tests us f = f
  ask_within i o h (Makes kind n) us f = f
  ask_within i o h (MakesWith kind v) us f = f
  ask_within i o h (Builds c vs) us f = f
  ask_within i o h (Enters k x vs) us f = (f.0, f.1, allowed_within i o _ h f.2, f.3)
  ask_within i o h Leaves us f = f
  ask_within i o h (ForksAll n) us f = (allowed_within i o true h f.0, f.1)
  ask_within i o h (ForksOne x) us f = (f.0, allowed_within i o true h f.1, f.2)
  ask_within i o h (Joins made) us f = (allowed_within i o true h f.0, f.1)
  ask_within i o h (Spawns k x vs) us f = (f.0, f.1, allowed_within i o true h f.2, f.3)
  ask_within i o h (Prints parts vs) us f = f
  ask_within i o h (Calls k x vs) us f = (f.0, allowed_within i o true h f.1, f.2)
  ask_within i o h (Casts k x vs) us f = (f.0, allowed_within i o true h f.1, f.2)
  ask_within i o h (NewProcessor c vs) us f = (f.0, f.1, allowed_within i o true h f.2, f.3)

  further_out : {V A : Type 0} (inner outer : Bool) (PV : V → Type 0) (PA : World → A → Type 0) (n : Next V A) → Allowed outer inner
      → NextIs inner PV PA n → NextIs outer PV PA n
  further_out inner outer PV PA (Ready v) h f = f
  further_out inner outer PV PA (Asks line ask k) h f = (f.0, ask_within inner outer h ask f.0 f.1, f.2)

  -- terms

  pub record Here (here : Scope) (this : Value) (env : Env) : Type 0 where
    pub object : IsObject y w q here.this this
    pub vars : EnvFits y w q here.vars env

  abbrev pub TermFits : Scope → ValueType → World → Term → Type 0
  TermFits here u v e = HasType p y v q here e u

  abbrev pub TermsFit : Scope → List ValueType → World → Terms → Type 0
  TermsFit here us v es = HaveTypes p y v q here es us

  abbrev pub ValuesFit : List ValueType → List Value → Type 0
  ValuesFit us vs = AllFit y w q vs us

  abbrev pub ValueFits : ValueType → Value → Type 0
  ValueFits u x = Fits y w q x u

  -- an ask whose first value is the term's value
  given : (here : Scope) (n : ℕ) (ask : Ask Name) (u : ValueType) (us : List ValueType) → us ≡ u ∷ []
      → IsAsk p y w q here.waits ask us → NextIs here.waits (ValueFits u) (TermFits here u) (gives n ask)
  given here n ask u us e f = (us, f, λ v g x h. (one_fits y v q x.values us u e h, tt))

  chosen : {A : Type 0} (P : A → Type 0) (b : Bool) (x z : A) → P x → P z → P (if b then x else z)
  chosen P true x z f g = f
  chosen P false x z f g = g

  pub entered_typed : (f : ℕ) (v : World) (here : Scope) (this : Value) (xs : List Value) → Allowed here.waits (function_types y f).waits
      → IsObject y v q (function_types y f).this this
      → AllFit y v q xs (addressed (function p f).shape.params (function_types y f).vars)
      → HasType p y v q here (entered p f this xs) (function_types y f).result
  entered_typed f v here this xs a o h = (
    o,
    env_entered y v q (function p f).shape.vars (function p f).shape.params (function_types y f).params (function_types y f).vars xs (ok.parameters f) h,
    ok.bodies f v q,
    a,
    refl,
  )

  call_next : (here : Scope) (n : ℕ) (how : How) (f : ℕ) (us : List ValueType) (u : ValueType) (vs : List Value)
      → IsCall (function_types y f) how us → ValuesFit us vs
      → Allowed here.waits (call_waits how (function_types y f).waits (is_atomic p f)) → u ≡ (function_types y f).result
      → NextIs here.waits (ValueFits u) (TermFits here u) (Asks n (call_ask (function p f).shape how f vs) (λ x. just (called p how f vs x.values)))
  call_next here n Alone f us u vs c h a e = (
    _,
    (subst (λ z. IsObject y w q z Void) (sym c.0) refl, subst (AllFit y w q vs) c.1 h, a, refl),
    λ v g x t. (
      subst (HasType p y v q here (entered p f Void x.values)) (sym e)
          (entered_typed f v here Void x.values (allowed_left here.waits (function_types y f).waits (is_atomic p f) a)
          (subst (λ z. IsObject y v q z Void) (sym c.0) refl) t),
      tt,
    ),
  )
  call_next here n On f us u vs c h a e =
      let r = first_fits y w q vs _ _ (subst (AllFit y w q vs) c.2 h) in
      let o : IsObject y w q (function_types y f).this (first vs) = subst (λ z. IsObject y w q z (first vs)) (sym c.1) r.0 in (
        _,
        (o, r.1, a, refl),
        λ v g x t. (
          subst (HasType p y v q here (entered p f (first vs) x.values)) (sym e)
              (entered_typed f v here (first vs) x.values (allowed_left here.waits (function_types y f).waits (is_atomic p f) a)
              (object_more y w v g q _ (first vs) o) t),
          tt,
        ),
      )
  call_next here n Remote f us u vs c h a e =
      let r = first_fits y w q vs _ _ (subst (AllFit y w q vs) c.2 h) in
      let same = kinds_same y w q (function p f).shape.params (function_types y f).params (function_types y f).vars (after_first vs) (ok.parameters f) r.1 in (
        _,
        ((c.0, c.1, r.0, subst (λ z. AllFit y w q z (function_types y f).params) (sym same) r.1, c.3, c.4), a, refl),
        λ v g x t. (subst (Fits y v q (first x.values)) (sym e) (one_fits y v q x.values _ _ refl t), tt),
      )

  object_next : (here : Scope) (n : ℕ) (remote : Bool) (c : ℕ) (u : ValueType) (vs : List Value) → ValuesFit (class_types y c).params vs
      → PassAll remote (class_types y c).params → Allowed here.waits remote → u ≡ Pointer remote (ObjectOf c)
      → NextIs here.waits (ValueFits u) (TermFits here u) (gives n (object_ask remote c vs))
  object_next here n false c u vs h ps a e = given here n (Builds c vs) u _ (ap (λ z. z ∷ []) (sym e)) (h, refl)
  object_next here n true c u vs h ps a e =
      given here n (NewProcessor c (map no_void vs)) u _ (ap (λ z. z ∷ []) (sym e))
      (sent_all y w q vs (class_types y c).params ps h, ps, a, refl)

  spawn_next : (here : Scope) (how : How) (f : ℕ) (us : List ValueType) (vs : List Value)
      → IsCall (function_types y f) how us → ValuesFit us vs → here.waits ≡ true
      → IsAsk p y w q here.waits (spawn_ask (function p f).shape how f vs) []
  spawn_next here Alone f us vs c h a = (subst (λ z. IsObject y w q z Void) (sym c.0) refl, subst (AllFit y w q vs) c.1 h, a, refl)
  spawn_next here On f us vs c h a =
      let r = first_fits y w q vs _ _ (subst (AllFit y w q vs) c.2 h) in
      (subst (λ z. IsObject y w q z (first vs)) (sym c.1) r.0, r.1, a, refl)
  spawn_next here Remote f us vs c h a =
      let r = first_fits y w q vs _ _ (subst (AllFit y w q vs) c.2 h) in
      let same = kinds_same y w q (function p f).shape.params (function_types y f).params (function_types y f).vars (after_first vs) (ok.parameters f) r.1 in
      ((c.0, c.1, r.0, subst (λ z. AllFit y w q z (function_types y f).params) (sym same) r.1, c.3, c.4), a, refl)

  -- statements

  -- the function that a statement stands in, or in a branch of which
  pub record InFunction (here : Scope) (this : Value) : Type 0 where
    pub f : ℕ
    pub is : branch here ≡ branch_of (function_types y f)

  abbrev pub EndFits : Scope → Ending → Type 0
  EndFits here (Falls env) = EnvFits y w q here.vars env
  EndFits here (Returns v) = (u : ValueType) × (here.returns ≡ Some u) × Fits y w q v u
  EndFits here (Breaks env) = EnvFits y w q here.vars env
  EndFits here (Continues env) = EnvFits y w q here.vars env

  abbrev pub StmtFits : Scope → World → (Env × Stmt) → Type 0
  StmtFits here v l = EnvFits y v q here.vars l.0 × IsTyped p y v q here l.1

  abbrev pub StmtsFit : Scope → World → (Env × Stmts) → Type 0
  StmtsFit here v l = EnvFits y v q here.vars l.0 × AreTyped p y v q here l.1

  done : (here : Scope) (n : ℕ) (env : Env) (ask : Ask Name) (us : List ValueType) → EnvFits y w q here.vars env
      → IsAsk p y w q here.waits ask us → NextIs here.waits (EndFits here) (StmtFits here) (does n env ask)
  done here n env ask us h f = (us, f, λ v g x t. ((env_more y w v g q here.vars env h, tt), tt))

  made : (here : Scope) (n : ℕ) (env : Env) (k : ℕ) (a : Target) (ask : Ask Name) (us : List ValueType) → EnvFits y w q here.vars env
      → slice_get here.vars k ≡ Some a → us ≡ Pointer false a ∷ [] → IsAsk p y w q here.waits ask us
      → NextIs here.waits (EndFits here) (StmtFits here) (makes n env k ask)
  made here n env k a ask us h e i f = (
    us,
    f,
    λ v g x t. ((env_set y v q here.vars env k a (first x.values) (env_more y w v g q here.vars env h) e (one_fits y v q x.values us _ i t), tt), tt),
  )

  tested : (here : Scope) (n : ℕ) (env : Env) (b : Bool) (s t : Stmt) → EnvFits y w q here.vars env → IsTyped p y w q here s → IsTyped p y w q here t
      → NextIs here.waits (EndFits here) (StmtFits here) (Asks n Tests (λ x. just (env, if b then s else t)))
  tested here n env b s t h f i = (
    [],
    refl,
    λ v g x r. (
      (env_more y w v g q here.vars env h, stmt_more y w v g q p here (if b then s else t) (chosen (IsTyped p y w q here) b s t f i)),
      tt,
    ),
  )

  -- what a branch begins with
  abbrev Begins : World → Value → Env → Stmt → Scope → Type 0
  Begins v this env s z = IsObject y v q z.this this × EnvFits y v q z.vars env × IsTyped p y v q z s

  forked : (here : Scope) (this : Value) (i : InFunction here this) (v : World) (env : Env) (s : Stmt) → IsObject y v q here.this this
      → EnvFits y v q here.vars env → IsTyped p y v q (branch here) s → HasType p y v q nowhere (Branch this env s) NoValue
  forked here this i v env s o h f =
      let b : Begins v this env s (branch_of (function_types y i.f)) = subst (Begins v this env s) i.is (o, h, f) in
      (i.f, b.0, b.1, b.2, refl, refl)

  all_forked : (here : Scope) (this : Value) (i : InFunction here this) (v : World) (env : Env) (ss : Stmts) → IsObject y v q here.this this
      → EnvFits y v q here.vars env → AreTyped p y v q (branch here) ss → AreBranches v (branches this env ss)
  all_forked here this i v env NoStmts o h f = tt
  all_forked here this i v env (MoreStmts s ss) o h f = (forked here this i v env s o h f.0, all_forked here this i v env ss o h f.1)

  ends_body : (f : ℕ) (here : Scope) (end : Ending) → EndFits (scope_of (function_types y f)) end
      → NextIs here.waits (ValueFits (function_types y f).result) (TermFits here (function_types y f).result) (body_ends p f end)
  ends_body f here end h = from end h
    where
      default : NextIs here.waits (ValueFits (function_types y f).result) (TermFits here (function_types y f).result) (returns_default p f)
      default = ([], refl, λ v g x t. (constant_fits y v q (function p f).default (function_types y f).result (ok.ends f), tt))

      from : (end : Ending) → EndFits (scope_of (function_types y f)) end
          → NextIs here.waits (ValueFits (function_types y f).result) (TermFits here (function_types y f).result) (body_ends p f end)
      from (Falls env) h = default
      from (Returns v) h = subst (Fits y w q v) (sym (same_some _ _ h.1)) h.2
      from (Breaks env) h = default
      from (Continues env) h = default

  ends_branch : (f : ℕ) (here : Scope) (end : Ending) → EndFits (branch_of (function_types y f)) end
      → NextIs here.waits (ValueFits NoValue) (TermFits here NoValue) (branch_ends end)
  ends_branch f here (Falls env) h = refl
  ends_branch f here (Returns v) h = let e : None ≡ Some h.0 = h.1 in cc
  ends_branch f here (Breaks env) h = refl
  ends_branch f here (Continues env) h = refl

  follows : (here : Scope) (end : Ending) (go : Env → Next Ending (Env × Stmts)) → EndFits here end
      → ((env : Env) → EnvFits y w q here.vars env → NextIs here.waits (EndFits here) (StmtsFit here) (go env))
      → NextIs here.waits (EndFits here) (StmtsFit here) (and_then end go)
  follows here (Falls env) go h f = f env h
  follows here (Returns v) go h f = h
  follows here (Breaks env) go h f = h
  follows here (Continues env) go h f = h

  turns : (here : Scope) (end : Ending) (go : Env → Next Ending (Env × Stmt)) → EndFits here end
      → ((env : Env) → EnvFits y w q here.vars env → NextIs here.waits (EndFits here) (StmtFits here) (go env))
      → NextIs here.waits (EndFits here) (StmtFits here) (turn_ends end go)
  turns here (Falls env) go h f = f env h
  turns here (Returns v) go h f = h
  turns here (Breaks env) go h f = h
  turns here (Continues env) go h f = f env h

  pub moved_here : (here : Scope) (this : Value) (env env' : Env) → Here here this env → EnvFits y w q here.vars env' → Here here this env'
  moved_here here this env env' c h = record { object = c.object; vars = h }

  pub anywhere : (waits b : Bool) → waits ≡ true → Allowed waits b
  anywhere waits true h = h
  anywhere waits false h = tt

  mutual
    pub next_typed : (here : Scope) (n : ℕ) (this : Value) (env : Env) → Here here this env → (e : Term) (u : ValueType) → TermFits here u w e
        → NextIs here.waits (ValueFits u) (TermFits here u) (next_term p n this env e)
    next_typed here n this env c (Push k) u f = constant_fits y w q k u f
    next_typed here n this env c This u f =
        subst (Fits y w q this) (sym f.3) (local_is_global y w q this f.1 (ObjectOf f.0) (subst (λ z. IsObject y w q z this) f.2 c.object))
    next_typed here n this env c (Variable k) u f = subst (Fits y w q (variable env k Null)) (sym f.2) (c.vars k f.0 f.1)
    next_typed here n this env c (Member e o) u f =
        within here.waits (ValueFits (Pointer f.0 (ObjectOf f.1))) (TermFits here (Pointer f.0 (ObjectOf f.1))) (ValueFits u) (TermFits here u)
        (next_term p n this env e) (λ z. Member z o) _ (next_typed here n this env c e _ f.2)
        (λ v g z h. (f.0, f.1, h, f.3, f.4))
        (λ x h. subst (Fits y w q (moved x o)) (sym f.4) (member_fits y w q x f.0 f.1 o f.3 h))
    next_typed here n this env c (Index e size i) u f =
        within here.waits (ValueFits (Pointer f.0 f.1)) (TermFits here (Pointer f.0 f.1)) (ValueFits u) (TermFits here u)
        (next_term p n this env e) (λ z. Index z size i) _ (next_typed here n this env c e _ f.3)
        (λ v g z h. (f.0, f.1, f.2, h, type_more y w v g q p here i AnInt f.4, f.5, f.6))
        (λ x h. within here.waits (ValueFits AnInt) (TermFits here AnInt) (ValueFits u) (TermFits here u)
        (next_term p n this env i) (Index (Val x) size) _ (next_typed here n this env c i _ f.4)
        (λ v g z h'. (f.0, f.1, f.2, fits_more y w v g q x _ h, h', f.5, f.6))
        (λ x' h'. given here n (Indexes x size x') u _ (ap (λ z. z ∷ []) (sym f.6)) (f.0, f.1, f.2, h, h', f.5, refl)))
    next_typed here n this env c (At e i) u f =
        within here.waits (ValueFits (Pointer f.0 (Cells f.1 f.2))) (TermFits here (Pointer f.0 (Cells f.1 f.2))) (ValueFits u) (TermFits here u)
        (next_term p n this env e) (λ z. At z i) _ (next_typed here n this env c e _ f.3)
        (λ v g z h. (f.0, f.1, f.2, h, type_more y w v g q p here i AnInt f.4, f.5))
        (λ x h. within here.waits (ValueFits AnInt) (TermFits here AnInt) (ValueFits u) (TermFits here u)
        (next_term p n this env i) (At (Val x)) _ (next_typed here n this env c i _ f.4)
        (λ v g z h'. (f.0, f.1, f.2, fits_more y w v g q x _ h, h', f.5))
        (λ x' h'. given here n (Shifts x x') u _ (ap (λ z. z ∷ []) (sym f.5)) (f.0, f.1, f.2, h, h', refl)))
    next_typed here n this env c (Load remote e) u f =
        within here.waits (ValueFits (Pointer remote f.0)) (TermFits here (Pointer remote f.0)) (ValueFits u) (TermFits here u)
        (next_term p n this env e) (Load remote) _ (next_typed here n this env c e _ f.2)
        (λ v g z h. (f.0, f.1, h, f.3, f.4, f.5))
        (λ x h. given here n (Reads remote x) u _ refl (f.0, f.1, u, h, f.3, f.4, f.5, refl))
    next_typed here n this env c (Unary op e) u f =
        within here.waits (ValueFits AnInt) (TermFits here AnInt) (ValueFits u) (TermFits here u)
        (next_term p n this env e) (Unary op) _ (next_typed here n this env c e _ f.0)
        (λ v g z h. (h, f.1, f.2))
        (λ x h. given here n (Computes op (x ∷ [])) u _ (ap (λ z. z ∷ []) (sym f.2)) (AnInt ∷ [], (h, refl), f.1, refl))
    next_typed here n this env c (Binary op a b) u f =
        within here.waits (ValueFits f.0) (TermFits here f.0) (ValueFits u) (TermFits here u)
        (next_term p n this env a) (λ z. Binary op z b) _ (next_typed here n this env c a _ f.2)
        (λ v g z h. (f.0, f.1, h, type_more y w v g q p here b f.1 f.3, f.4, f.5))
        (λ x h. within here.waits (ValueFits f.1) (TermFits here f.1) (ValueFits u) (TermFits here u)
        (next_term p n this env b) (Binary op (Val x)) _ (next_typed here n this env c b _ f.3)
        (λ v g z h'. (f.0, f.1, fits_more y w v g q x f.0 h, h', f.4, f.5))
        (λ x' h'. given here n (Computes op (x ∷ x' ∷ [])) u _ (ap (λ z. z ∷ []) (sym f.5)) (f.0 ∷ f.1 ∷ [], (h, (h', refl)), f.4, refl)))
    next_typed here n this env c (And a b) u f =
        within here.waits (ValueFits AnInt) (TermFits here AnInt) (ValueFits u) (TermFits here u)
        (next_term p n this env a) (λ z. And z b) _ (next_typed here n this env c a _ f.0)
        (λ v g z h. (h, type_more y w v g q p here b AnInt f.1, f.2))
        (λ x h. (
          [],
          refl,
          λ v g z t. (
            chosen (TermFits here u v) (is_zero x) (Val (truth false)) (Unary Bool' b) f.2 (type_more y w v g q p here b AnInt f.1, refl, f.2),
            tt,
          ),
        ))
    next_typed here n this env c (Or a b) u f =
        within here.waits (ValueFits AnInt) (TermFits here AnInt) (ValueFits u) (TermFits here u)
        (next_term p n this env a) (λ z. Or z b) _ (next_typed here n this env c a _ f.0)
        (λ v g z h. (h, type_more y w v g q p here b AnInt f.1, f.2))
        (λ x h. (
          [],
          refl,
          λ v g z t. (
            chosen (TermFits here u v) (is_zero x) (Unary Bool' b) (Val (truth true)) (type_more y w v g q p here b AnInt f.1, refl, f.2) f.2,
            tt,
          ),
        ))
    next_typed here n this env c (New kind size) u f =
        given here n (Makes kind size) u _ (ap (λ z. z ∷ []) (sym f.2)) (f.0, f.1, refl)
    next_typed here n this env c (NewObject remote k es) u f =
        within here.waits (ValuesFit (class_types y k).params) (TermsFit here (class_types y k).params) (ValueFits u) (TermFits here u)
        (next_terms p n this env es) (NewObject remote k) _ (terms_typed here n this env c es _ f.0)
        (λ v g z h. (h, f.1, f.2, f.3))
        (λ vs h. object_next here n remote k u vs h f.1 f.2 f.3)
    next_typed here n this env c (Call how k es) u f =
        within here.waits (ValuesFit f.0) (TermsFit here f.0) (ValueFits u) (TermFits here u)
        (next_terms p n this env es) (Call how k) _ (terms_typed here n this env c es _ f.2)
        (λ v g z h. (f.0, f.1, h, f.3, f.4))
        (λ vs h. call_next here n how k f.0 u vs f.1 h f.3 f.4)
    next_typed here n this env c (Val x) u f = f
    next_typed here n this env c (Body k this' env' ss) u f =
        let g' = function_types y k in
        let inner = scope_of g' in
        within here.waits (EndFits inner) (StmtsFit inner) (ValueFits u) (TermFits here u)
        (next_stmts p (function p k).shape.line this' env' ss) (λ l. Body k this' l.0 l.1) (body_ends p k)
        (further_out g'.waits here.waits (EndFits inner) (StmtsFit inner) _ f.3
        (stmts_typed inner (function p k).shape.line this' env' (record { object = f.0; vars = f.1 }) (record { f = k; is = refl }) ss f.2))
        (λ v g z h. (object_more y w v g q _ this' f.0, h.0, h.1, f.3, f.4))
        (λ end h. subst (λ z. NextIs here.waits (ValueFits z) (TermFits here z) (body_ends p k end)) (sym f.4) (ends_body k here end h))
    next_typed here n this env c (Branch this' env' s) u f =
        let g' = function_types y f.0 in
        let inner = branch_of g' in
        within here.waits (EndFits inner) (StmtFits inner) (ValueFits u) (TermFits here u)
        (next_stmt p 0 this' env' s) (λ l. Branch this' l.0 l.1) branch_ends
        (further_out g'.waits here.waits (EndFits inner) (StmtFits inner) _ (anywhere here.waits g'.waits f.4)
        (stmt_typed inner 0 this' env' (record { object = f.1; vars = f.2 }) (record { f = f.0; is = refl }) s f.3))
        (λ v g z h. (f.0, object_more y w v g q _ this' f.1, h.0, h.1, f.4, f.5))
        (λ end h. subst (λ z. NextIs here.waits (ValueFits z) (TermFits here z) (branch_ends end)) (sym f.5) (ends_branch f.0 here end h))
    next_typed here n this env c (Starts k this' vs) u f =
        let g' = function_types y k in (
          _,
          (f.0, f.1, anywhere here.waits (g'.waits || is_atomic p k) f.2, refl),
          λ v g x t. (
            subst (HasType p y v q here (entered p k this' x.values)) (sym f.3)
                (entered_typed k v here this' x.values (anywhere here.waits g'.waits f.2) (object_more y w v g q _ this' f.0) t),
            tt,
          ),
        )

    pub terms_typed : (here : Scope) (n : ℕ) (this : Value) (env : Env) → Here here this env → (es : Terms) (us : List ValueType)
        → TermsFit here us w es → NextIs here.waits (ValuesFit us) (TermsFit here us) (next_terms p n this env es)
    terms_typed here n this env c NoTerms us f = subst (AllFit y w q []) (sym f) refl
    terms_typed here n this env c (MoreTerms e es) us f =
        within here.waits (ValueFits f.2.0) (TermFits here f.2.0) (ValuesFit us) (TermsFit here us)
        (next_term p n this env e) (λ z. MoreTerms z es) _ (next_typed here n this env c e _ f.2.1)
        (λ v g z h. (f.0, f.1, (f.2.0, h, f.2.2), types_more y w v g q p here es f.1 f.3, f.4))
        (λ x h. within here.waits (ValuesFit f.1) (TermsFit here f.1) (ValuesFit us) (TermsFit here us)
        (next_terms p n this env es) (MoreTerms (Val x)) _ (terms_typed here n this env c es _ f.3)
        (λ v g z h'. (f.0, f.1, (f.2.0, fits_more y w v g q x f.2.0 h, f.2.2), h', f.4))
        (λ vs h'. subst (AllFit y w q (x ∷ vs)) (sym f.4) (serves y w q x f.2.0 f.0 h f.2.2, h')))
    terms_typed here n this env c (MoreCells e size es) us f =
        within here.waits (ValueFits (Pointer false (ObjectOf f.0))) (TermFits here (Pointer false (ObjectOf f.0))) (ValuesFit us) (TermsFit here us)
        (next_term p n this env e) (λ z. MoreCells z size es) _ (next_typed here n this env c e _ f.3)
        (λ v g z h. (f.0, f.1, f.2, h, f.4, f.5, types_more y w v g q p here es f.2 f.6, f.7))
        (λ x h. (
          f.1,
          (f.0, h, f.4, f.5),
          λ v g z t. ((f.1, f.2, resized_fits y v q size f.1 z.values f.5 t, types_more y w v g q p here es f.2 f.6, f.7), tt),
        ))
    terms_typed here n this env c (Copied vs es) us f =
        within here.waits (ValuesFit f.1) (TermsFit here f.1) (ValuesFit us) (TermsFit here us)
        (next_terms p n this env es) (Copied vs) _ (terms_typed here n this env c es _ f.3)
        (λ v g z h. (f.0, f.1, all_more y w v g q vs f.0 f.2, h, f.4))
        (λ ws h. subst (AllFit y w q (vs ++ ws)) (sym f.4) (both_fit y w q vs ws f.0 f.1 f.2 h))

    pub stmt_typed : (here : Scope) (n : ℕ) (this : Value) (env : Env) → Here here this env → InFunction here this → (s : Stmt)
        → IsTyped p y w q here s → NextIs here.waits (EndFits here) (StmtFits here) (next_stmt p n this env s)
    stmt_typed here n this env c i Empty f = c.vars
    stmt_typed here n this env c i (AtLine line s) f =
        within here.waits (EndFits here) (StmtFits here) (EndFits here) (StmtFits here) (next_stmt p line this env s) (λ l. (l.0, AtLine line l.1)) Ready
        (stmt_typed here line this env c i s f) (λ v g z h. h) (λ end h. h)
    stmt_typed here n this env c i (Make k kind size) f =
        made here n env k (Cells (is_sync kind) f.0) (Makes kind size) _ c.vars f.2 refl (f.0, f.1, refl)
    stmt_typed here n this env c i (Set k kind e) f =
        within here.waits (ValueFits f.3.0) (TermFits here f.3.0) (EndFits here) (StmtFits here) (next_term p n this env e) (λ z. (env, Set k kind z)) _
        (next_typed here n this env c e _ f.3.1)
        (λ v g z h. (env_more y w v g q here.vars env c.vars, (f.0, f.1, f.2, (f.3.0, h, f.3.2))))
        (λ x h. made here n env k (Cells (is_sync kind) f.0) (MakesWith kind x) _ c.vars f.2 refl
        (f.0, f.1, serves y w q x f.3.0 f.0 h f.3.2, refl))
    stmt_typed here n this env c i (Build k d es) f =
        within here.waits (ValuesFit (class_types y d).params) (TermsFit here (class_types y d).params) (EndFits here) (StmtFits here)
        (next_terms p n this env es) (λ z. (env, Build k d z)) _ (terms_typed here n this env c es _ f.1)
        (λ v g z h. (env_more y w v g q here.vars env c.vars, (f.0, h)))
        (λ vs h. made here n env k (ObjectOf d) (Builds d vs) _ c.vars f.0 refl (h, refl))
    stmt_typed here n this env c i (Assign remote e e') f =
        within here.waits (ValueFits (Pointer remote f.0)) (TermFits here (Pointer remote f.0)) (EndFits here) (StmtFits here)
        (next_term p n this env e) (λ z. (env, Assign remote z e')) _ (next_typed here n this env c e _ f.3)
        (λ v g z h. (
          env_more y w v g q here.vars env c.vars,
          (f.0, f.1, f.2, h, (f.4.0, type_more y w v g q p here e' f.4.0 f.4.1, f.4.2), f.5, f.6, f.7),
        ))
        (λ x h. within here.waits (ValueFits f.4.0) (TermFits here f.4.0) (EndFits here) (StmtFits here)
        (next_term p n this env e') (λ z. (env, Assign remote (Val x) z)) _ (next_typed here n this env c e' _ f.4.1)
        (λ v g z h'. (
          env_more y w v g q here.vars env c.vars,
          (f.0, f.1, f.2, fits_more y w v g q x _ h, (f.4.0, h', f.4.2), f.5, f.6, f.7),
        ))
        (λ x' h'. done here n env (Writes remote x (sent remote x')) [] c.vars
        (f.0, f.1, f.2, h, f.5, sent_fits y w q remote x' f.2 f.6 (serves y w q x' f.4.0 f.2 h' f.4.2), f.6, f.7, refl)))
    stmt_typed here n this env c i (Drop e) f =
        within here.waits (ValueFits f.0) (TermFits here f.0) (EndFits here) (StmtFits here) (next_term p n this env e) (λ z. (env, Drop z)) _
        (next_typed here n this env c e _ f.1)
        (λ v g z h. (env_more y w v g q here.vars env c.vars, (f.0, h)))
        (λ x h. c.vars)
    stmt_typed here n this env c i (Print parts es) f =
        within here.waits (ValuesFit (printed_types parts)) (TermsFit here (printed_types parts)) (EndFits here) (StmtFits here)
        (next_terms p n this env es) (λ z. (env, Print parts z)) _ (terms_typed here n this env c es _ f)
        (λ v g z h. (env_more y w v g q here.vars env c.vars, h))
        (λ vs h. done here n env (Prints parts vs) [] c.vars (h, refl))
    stmt_typed here n this env c i (If e s) f =
        within here.waits (ValueFits AnInt) (TermFits here AnInt) (EndFits here) (StmtFits here) (next_term p n this env e) (λ z. (env, If z s)) _
        (next_typed here n this env c e _ f.0)
        (λ v g z h. (env_more y w v g q here.vars env c.vars, (h, stmt_more y w v g q p here s f.1)))
        (λ x h. tested here n env (is_zero x) Empty s c.vars tt f.1)
    stmt_typed here n this env c i (IfElse e s t) f =
        within here.waits (ValueFits AnInt) (TermFits here AnInt) (EndFits here) (StmtFits here) (next_term p n this env e) (λ z. (env, IfElse z s t)) _
        (next_typed here n this env c e _ f.0)
        (λ v g z h. (env_more y w v g q here.vars env c.vars, (h, stmt_more y w v g q p here s f.1, stmt_more y w v g q p here t f.2)))
        (λ x h. tested here n env (is_zero x) t s c.vars f.2 f.1)
    stmt_typed here n this env c i (While e s) f =
        within here.waits (ValueFits AnInt) (TermFits here AnInt) (EndFits here) (StmtFits here) (next_term p n this env e) (λ z. (env, If z (Turn s (While e s)))) _
        (next_typed here n this env c e _ f.0)
        (λ v g z h. (
          env_more y w v g q here.vars env c.vars,
          (h, stmt_more y w v g q p here (Turn s (While e s)) (f.1, f)),
        ))
        (λ x h. tested here n env (is_zero x) Empty (Turn s (While e s)) c.vars tt (f.1, f))
    stmt_typed here n this env c i (For e step s) f =
        within here.waits (ValueFits AnInt) (TermFits here AnInt) (EndFits here) (StmtFits here) (next_term p n this env e) (λ z. (env, If z (for_turn e step s))) _
        (next_typed here n this env c e _ f.0)
        (λ v g z h. (
          env_more y w v g q here.vars env c.vars,
          (h, stmt_more y w v g q p here (for_turn e step s) (f.2, (f.1, (f, tt)))),
        ))
        (λ x h. tested here n env (is_zero x) Empty (for_turn e step s) c.vars tt (f.2, (f.1, (f, tt))))
    stmt_typed here n this env c i Break f = c.vars
    stmt_typed here n this env c i Continue f = c.vars
    stmt_typed here n this env c i (Par ss) f = (
      [],
      (f.0, refl),
      λ v g x t. (
        (env_more y w v g q here.vars env c.vars, f.0),
        all_forked here this i v env ss (object_more y w v g q here.this this c.object) (env_more y w v g q here.vars env c.vars)
            (stmts_more y w v g q p (branch here) ss f.1),
      ),
    )
    stmt_typed here n this env c i (ParFor k start test line value s) f =
        within here.waits (ValueFits AnInt) (TermFits here AnInt) (EndFits here) (StmtFits here) (next_term p n this env start) (λ z. (env, ParFor k z test line value s)) _
        (next_typed here n this env c start _ f.2)
        (λ v g z h. (
          env_more y w v g q here.vars env c.vars,
          (f.0, f.1, h, type_more y w v g q p here test AnInt f.3, type_more y w v g q p here value AnInt f.4, stmt_more y w v g q p (branch here) s f.5),
        ))
        (λ x h. (
          Pointer false (Cells false AnInt) ∷ [],
          (AnInt, refl, h, refl),
          λ v g z t. (
            (
              env_set y v q here.vars env k (Cells false AnInt) (first z.values) (env_more y w v g q here.vars env c.vars) f.1
                  (one_fits y v q z.values _ _ refl t),
              (
                f.0,
                f.1,
                type_more y w v g q p here test AnInt f.3,
                type_more y w v g q p here test AnInt f.3,
                type_more y w v g q p here value AnInt f.4,
                stmt_more y w v g q p (branch here) s f.5,
              ),
            ),
            tt,
          ),
        ))
    stmt_typed here n this env c i (Spawn how k es) f =
        within here.waits (ValuesFit f.0) (TermsFit here f.0) (EndFits here) (StmtFits here)
        (next_terms p n this env es) (λ z. (env, Spawn how k z)) _ (terms_typed here n this env c es _ f.2)
        (λ v g z h. (env_more y w v g q here.vars env c.vars, (f.0, f.1, h, f.3)))
        (λ vs h. done here n env (spawn_ask (function p k).shape how k vs) [] c.vars (spawn_next here how k f.0 vs f.1 h f.3))
    stmt_typed here n this env c i (Return e) f =
        within here.waits (ValueFits f.2.0) (TermFits here f.2.0) (EndFits here) (StmtFits here) (next_term p n this env e) (λ z. (env, Return z)) _
        (next_typed here n this env c e _ f.2.1)
        (λ v g z h. (env_more y w v g q here.vars env c.vars, (f.0, f.1, (f.2.0, h, f.2.2))))
        (λ x h. (
          [],
          refl,
          λ v g z t. (
            (env_more y w v g q here.vars env c.vars, (f.0, f.1, fits_more y w v g q x f.0 (serves y w q x f.2.0 f.0 h f.2.2))),
            tt,
          ),
        ))
    stmt_typed here n this env c i (Block ss) f =
        within here.waits (EndFits here) (StmtsFit here) (EndFits here) (StmtFits here) (next_stmts p n this env ss) (λ l. (l.0, Block l.1)) Ready
        (stmts_typed here n this env c i ss f) (λ v g z h. h) (λ end h. h)
    stmt_typed here n this env c i (Turn s t) f =
        within here.waits (EndFits here) (StmtFits here) (EndFits here) (StmtFits here) (next_stmt p n this env s) (λ l. (l.0, Turn l.1 t)) _
        (stmt_typed here n this env c i s f.0) (λ v g z h. (h.0, (h.1, stmt_more y w v g q p here t f.1)))
        (λ end h. turns here end (λ env'. next_stmt p n this env' t) h
        (λ env' h'. stmt_typed here n this env' (moved_here here this env env' c h') i t f.1))
    stmt_typed here n this env c i (Forks k test line value s made now) f =
        within here.waits (ValueFits AnInt) (TermFits here AnInt) (EndFits here) (StmtFits here) (next_term p n this env now)
        (λ z. (env, Forks k test line value s made z)) _ (next_typed here n this env c now _ f.2)
        (λ v g z h. (
          env_more y w v g q here.vars env c.vars,
          (f.0, f.1, h, type_more y w v g q p here test AnInt f.3, type_more y w v g q p here value AnInt f.4, stmt_more y w v g q p (branch here) s f.5),
        ))
        (λ x h. tested here n env (is_zero x) (Wait made) (Each k test line value s made) c.vars f.0 (f.0, f.1, f.3, f.4, f.5))
    stmt_typed here n this env c i (Each k test line value s made) f = (
      Pointer false (Cells false AnInt) ∷ AnInt ∷ [],
      (c.vars k (Cells false AnInt) f.1, f.0, refl),
      λ v g x t.
          let env' = env_more y w v g q here.vars env c.vars in
          let test' = type_more y w v g q p here test AnInt f.2 in
          let value' = type_more y w v g q p here value AnInt f.3 in
          let body' = stmt_more y w v g q p (branch here) s f.4 in
          let copy = first_fits y v q x.values (Pointer false (Cells false AnInt)) (AnInt ∷ []) t in (
            (
              env',
              (
                (Cells false AnInt, false, AnInt, (Cells false AnInt, f.1, refl), (AnInt, value', inl refl), (refl, refl), tt, tt),
                (f.0, f.1, test', test', value', body'),
              ),
            ),
            (
              forked here this i v (set env k (first x.values)) s (object_more y w v g q here.this this c.object)
                  (env_set y v q here.vars env k (Cells false AnInt) (first x.values) env' f.1 copy.0) body',
              tt,
            ),
          ),
    )
    stmt_typed here n this env c i (Wait made) f = done here n env (Joins made) [] c.vars (f, refl)
    stmt_typed here n this env c i (Left x) f = f

    pub stmts_typed : (here : Scope) (n : ℕ) (this : Value) (env : Env) → Here here this env → InFunction here this → (ss : Stmts)
        → AreTyped p y w q here ss → NextIs here.waits (EndFits here) (StmtsFit here) (next_stmts p n this env ss)
    stmts_typed here n this env c i NoStmts f = c.vars
    stmts_typed here n this env c i (MoreStmts s ss) f =
        within here.waits (EndFits here) (StmtFits here) (EndFits here) (StmtsFit here) (next_stmt p n this env s) (λ l. (l.0, MoreStmts l.1 ss)) _
        (stmt_typed here n this env c i s f.0) (λ v g z h. (h.0, (h.1, stmts_more y w v g q p here ss f.1)))
        (λ end h. follows here end (λ env'. next_stmts p n this env' ss) h
        (λ env' h'. stmts_typed here n this env' (moved_here here this env env' c h') i ss f.1))

  -- around a thread nothing stands
  pub at_top : Here nowhere Void []
  at_top = record { object = refl; vars = λ k a h. from k a h }
    where
      from : (k : ℕ) (a : Target) → slice_get nowhere.vars k ≡ Some a → Fits y w q (variable [] k Null) (Pointer false a)
      from k a h = let e : None ≡ Some a = h in cc

  -- of a thread on processor q
  pub thread_typed : (e : Term) (u : ValueType) → HasType p y w q nowhere e u
      → NextIs true (λ x. Fits y w q x u) (λ v e'. HasType p y v q nowhere e' u) (next p e)
  thread_typed e u f = next_typed nowhere 0 Void [] at_top e u f
