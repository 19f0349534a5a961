-- What a typed thread does with its values is strict.
use Rattle.std.proofs.Common.{◌≡◌, ℕ, Bool, true, List, [], ◌∷◌, Some, refl, subst, false}
use Rattle.std.specs.FinMap as fin
use Rattle.cc_ops.specs.Values.{Void}
use Rattle.cc_core.specs.Names.{Name, Value}
use Rattle.cc_core.specs.Core.{Env, How, Alone, On, Remote, Program, function, Term, Push, This, Variable, Member, Index, At as AtPointer, Load}
use Rattle.cc_core.specs.Core.{Unary, Binary, And, Or, New, NewObject, Call, Val, Body, Branch, Starts, Terms, NoTerms, MoreTerms}
use Rattle.cc_core.specs.Core.{MoreCells, Copied, Stmt, Empty, AtLine, Make, Set, Build, Assign, Drop, Print, If, IfElse, While, For}
use Rattle.cc_core.specs.Core.{Break, Continue, Par, ParFor, Spawn, Return, Block, Turn, Forks, Each, Wait, Left, Stmts, NoStmts}
use Rattle.cc_core.specs.Core.{MoreStmts}
use Rattle.cc_core.specs.Next.{Next, Ready, Asks, Ending, Falls, Returns, Breaks, Continues, next_term, next_terms, next_stmt}
use Rattle.cc_core.specs.Config.{Config, Thread, Live}
use Rattle.core_types.specs.Types.{ValueType, AnInt, Pointer, Target, ObjectOf, Types, function_types, Passes}
use Rattle.core_types.specs.Values.{World, Fits, AllFit, EnvFits}
use Rattle.core_types.specs.Typing.{IsCall, PassAll, Scope, scope_of, branch_of, nowhere, HasType, HaveTypes, IsTyped, AreTyped}
use Rattle.core_types.specs.Programs.{HasTypes, WellTyped}
use Rattle.core_types.specs.Runs.{IsReachedFrom}
use Rattle.core_types.specs.Strict.{MayGo, OnObject, IsHanded, At, Behind, BehindTurn, IsStrict, AreStrict, IsStrictStmt, AreStrictStmts}
use Rattle.core_types.proofs.Next.{NextIs, Here, InFunction, EndFits, StmtFits, TermFits, TermsFit, ValuesFit, ValueFits, terms_typed, moved_here, at_top, next_typed, stmt_typed}
use Rattle.core_types.proofs.AskKinds.{int_is, address_is, kinds_are, value_is, values_are}
use Rattle.core_types.proofs.Basics.{serves}
use Rattle.core_types.proofs.Start.{reached_has_types}

module _ (p : Program) (y : Types) (ok : HasTypes p y) (w : World) (q : Name) where
  at : {V A : Type 0} (waits : Bool) (PV : V → Type 0) (PA : World → A → Type 0) (asks : Type 0) (has : V → Type 0) (n : Next V A)
      → NextIs p y ok w q waits PV PA n → asks → ((v : V) → PV v → has v) → At n asks has
  at waits PV PA asks has (Ready v) h a f = f v h
  at waits PV PA asks has (Asks line ask k) h a f = a

  behind : (here : Scope) (rest : Env → Type 0) (end : Ending) → EndFits p y ok w q here end
      → ((env : Env) → EnvFits y w q here.vars env → rest env) → Behind end rest
  behind here rest (Falls env) h f = f env h
  behind here rest (Returns v) h f = tt
  behind here rest (Breaks env) h f = tt
  behind here rest (Continues env) h f = tt

  behind_turn : (here : Scope) (rest : Env → Type 0) (end : Ending) → EndFits p y ok w q here end
      → ((env : Env) → EnvFits y w q here.vars env → rest env) → BehindTurn end rest
  behind_turn here rest (Falls env) h f = f env h
  behind_turn here rest (Returns v) h f = tt
  behind_turn here rest (Breaks env) h f = tt
  behind_turn here rest (Continues env) h f = f env h

  -- a term, then what follows it
  first : (here : Scope) (n : ℕ) (this : Value) (env : Env) → Here p y ok w q here this env → (e : Term) (u : ValueType)
      → HasType p y w q here e u → (asks : Type 0) (has : Value → Type 0) → asks → ((v : Value) → Fits y w q v u → has v)
      → At (next_term p n this env e) asks has
  first here n this env c e u f asks has a g =
      at here.waits (ValueFits p y ok w q u) (TermFits p y ok w q here u) asks has (next_term p n this env e) (next_typed p y ok w q here n this env c e u f) a g

  firsts : (here : Scope) (n : ℕ) (this : Value) (env : Env) → Here p y ok w q here this env → (es : Terms) (us : List ValueType)
      → HaveTypes p y w q here es us → (asks : Type 0) (has : List Value → Type 0) → asks → ((vs : List Value) → AllFit y w q vs us → has vs)
      → At (next_terms p n this env es) asks has
  firsts here n this env c es us f asks has a g =
      at here.waits (ValuesFit p y ok w q us) (TermsFit p y ok w q here us) asks has (next_terms p n this env es) (terms_typed p y ok w q here n this env c es us f) a g

  one_goes : (remote : Bool) (u : ValueType) (v : Value) → Passes remote u → Fits y w q v u → MayGo remote (v ∷ [])
  one_goes false u v c f = tt
  one_goes true u v c f = (value_is p y ok w q v u c f, tt)

  may_go : (remote : Bool) (us : List ValueType) (vs : List Value) → PassAll remote us → AllFit y w q vs us → MayGo remote vs
  may_go false us vs c f = tt
  may_go true us vs c f = values_are p y ok w q vs us c f

  on_object : (k : ℕ) (remote : Bool) (a : Target) (vs : List Value) → AllFit y w q vs (Pointer remote a ∷ (function_types y k).params) → OnObject p k vs
  on_object k remote a [] f = absurd f
  on_object k remote a (v ∷ vs) f = (v, vs, refl, address_is p y ok w q v remote a f.0, kinds_are p y ok w q _ _ _ vs (ok.parameters k) f.1)

  handed : (how : How) (k : ℕ) (us : List ValueType) (vs : List Value) → IsCall (function_types y k) how us → AllFit y w q vs us
      → IsHanded p how k vs
  handed Alone k us vs c f = kinds_are p y ok w q _ _ _ vs (ok.parameters k) (subst (AllFit y w q vs) c.1 f)
  handed On k us vs c f = on_object k false (ObjectOf c.0) vs (subst (AllFit y w q vs) c.2 f)
  handed Remote k us vs c f = on_object k true (ObjectOf c.0) vs (subst (AllFit y w q vs) c.2 f)

  mutual
    term_strict : (here : Scope) (n : ℕ) (this : Value) (env : Env) → Here p y ok w q here this env → (e : Term) (u : ValueType)
        → HasType p y w q here e u → IsStrict p n this env e
    term_strict here n this env c (Push k) u f = tt
    term_strict here n this env c This u f = tt
    term_strict here n this env c (Variable k) u f = tt
    term_strict here n this env c (Member e o) u f =
        first here n this env c e _ f.2 _ _ (term_strict here n this env c e _ f.2) (λ v h. address_is p y ok w q v _ _ h)
    term_strict here n this env c (Index e size i) u f =
        first here n this env c e _ f.3 _ _ (term_strict here n this env c e _ f.3) (λ v h. term_strict here n this env c i _ f.4)
    term_strict here n this env c (AtPointer e i) u f =
        first here n this env c e _ f.3 _ _ (term_strict here n this env c e _ f.3) (λ v h. term_strict here n this env c i _ f.4)
    term_strict here n this env c (Load remote e) u f = term_strict here n this env c e _ f.2
    term_strict here n this env c (Unary op e) u f = term_strict here n this env c e _ f.0
    term_strict here n this env c (Binary op a b) u f =
        first here n this env c a _ f.2 _ _ (term_strict here n this env c a _ f.2) (λ v h. term_strict here n this env c b _ f.3)
    term_strict here n this env c (And a b) u f =
        first here n this env c a AnInt f.0 _ _ (term_strict here n this env c a _ f.0) (λ v h. int_is p y ok w q v h)
    term_strict here n this env c (Or a b) u f =
        first here n this env c a AnInt f.0 _ _ (term_strict here n this env c a _ f.0) (λ v h. int_is p y ok w q v h)
    term_strict here n this env c (New kind size) u f = tt
    term_strict here n this env c (NewObject remote k es) u f =
        firsts here n this env c es _ f.0 _ _ (terms_strict here n this env c es _ f.0) (λ vs h. may_go remote _ vs f.1 h)
    term_strict here n this env c (Call how k es) u f =
        firsts here n this env c es _ f.2 _ _ (terms_strict here n this env c es _ f.2) (λ vs h. handed how k f.0 vs f.1 h)
    term_strict here n this env c (Val x) u f = tt
    term_strict here n this env c (Body k this' env' ss) u f =
        stmts_strict (scope_of (function_types y k)) (function p k).shape.line this' env' (record { object = f.0; vars = f.1 })
        (record { f = k; is = refl }) ss f.2
    term_strict here n this env c (Branch this' env' s) u f =
        stmt_strict (branch_of (function_types y f.0)) 0 this' env' (record { object = f.1; vars = f.2 }) (record { f = f.0; is = refl }) s f.3
    term_strict here n this env c (Starts k this' vs) u f = tt

    terms_strict : (here : Scope) (n : ℕ) (this : Value) (env : Env) → Here p y ok w q here this env → (es : Terms) (us : List ValueType)
        → HaveTypes p y w q here es us → AreStrict p n this env es
    terms_strict here n this env c NoTerms us f = tt
    terms_strict here n this env c (MoreTerms e es) us f =
        first here n this env c e _ f.2.1 _ _ (term_strict here n this env c e _ f.2.1) (λ v h. terms_strict here n this env c es _ f.3)
    terms_strict here n this env c (MoreCells e size es) us f = term_strict here n this env c e _ f.3
    terms_strict here n this env c (Copied vs es) us f = terms_strict here n this env c es _ f.3

    stmt_strict : (here : Scope) (n : ℕ) (this : Value) (env : Env) → Here p y ok w q here this env → InFunction p y ok w q here this → (s : Stmt)
        → IsTyped p y w q here s → IsStrictStmt p n this env s
    stmt_strict here n this env c i Empty f = tt
    stmt_strict here n this env c i (AtLine line s) f = stmt_strict here line this env c i s f
    stmt_strict here n this env c i (Make k kind size) f = tt
    stmt_strict here n this env c i (Set k kind e) f = term_strict here n this env c e _ f.3.1
    stmt_strict here n this env c i (Build k d es) f = terms_strict here n this env c es _ f.1
    stmt_strict here n this env c i (Assign remote e e') f =
        first here n this env c e _ f.3 _ _ (term_strict here n this env c e _ f.3) (λ v h.
        first here n this env c e' _ f.4.1 _ _ (term_strict here n this env c e' _ f.4.1)
        (λ x g. one_goes remote f.2 x f.6 (serves y w q x f.4.0 f.2 g f.4.2)))
    stmt_strict here n this env c i (Drop e) f = term_strict here n this env c e _ f.1
    stmt_strict here n this env c i (Print parts es) f = terms_strict here n this env c es _ f
    stmt_strict here n this env c i (If e s) f =
        first here n this env c e AnInt f.0 _ _ (term_strict here n this env c e _ f.0) (λ v h. int_is p y ok w q v h)
    stmt_strict here n this env c i (IfElse e s t) f =
        first here n this env c e AnInt f.0 _ _ (term_strict here n this env c e _ f.0) (λ v h. int_is p y ok w q v h)
    stmt_strict here n this env c i (While e s) f =
        first here n this env c e AnInt f.0 _ _ (term_strict here n this env c e _ f.0) (λ v h. int_is p y ok w q v h)
    stmt_strict here n this env c i (For e step s) f =
        first here n this env c e AnInt f.0 _ _ (term_strict here n this env c e _ f.0) (λ v h. int_is p y ok w q v h)
    stmt_strict here n this env c i Break f = tt
    stmt_strict here n this env c i Continue f = tt
    stmt_strict here n this env c i (Par ss) f = tt
    stmt_strict here n this env c i (ParFor k start test line value s) f = term_strict here n this env c start _ f.2
    stmt_strict here n this env c i (Spawn how k es) f =
        firsts here n this env c es _ f.2 _ _ (terms_strict here n this env c es _ f.2) (λ vs h. handed how k f.0 vs f.1 h)
    stmt_strict here n this env c i (Return e) f = term_strict here n this env c e _ f.2.1
    stmt_strict here n this env c i (Block ss) f = stmts_strict here n this env c i ss f
    stmt_strict here n this env c i (Turn s t) f =
        at here.waits (EndFits p y ok w q here) (StmtFits p y ok w q here) _ _ (next_stmt p n this env s) (stmt_typed p y ok w q here n this env c i s f.0)
        (stmt_strict here n this env c i s f.0)
        (λ end h. behind_turn here _ end h (λ env' h'. stmt_strict here n this env' (moved_here p y ok w q here this env env' c h') i t f.1))
    stmt_strict here n this env c i (Forks k test line value s made now) f =
        first here n this env c now AnInt f.2 _ _ (term_strict here n this env c now _ f.2) (λ v h. int_is p y ok w q v h)
    stmt_strict here n this env c i (Each k test line value s made) f = tt
    stmt_strict here n this env c i (Wait made) f = tt
    stmt_strict here n this env c i (Left x) f = tt

    stmts_strict : (here : Scope) (n : ℕ) (this : Value) (env : Env) → Here p y ok w q here this env → InFunction p y ok w q here this → (ss : Stmts)
        → AreTyped p y w q here ss → AreStrictStmts p n this env ss
    stmts_strict here n this env c i NoStmts f = tt
    stmts_strict here n this env c i (MoreStmts s ss) f =
        at here.waits (EndFits p y ok w q here) (StmtFits p y ok w q here) _ _ (next_stmt p n this env s) (stmt_typed p y ok w q here n this env c i s f.0)
        (stmt_strict here n this env c i s f.0)
        (λ end h. behind here _ end h (λ env' h'. stmts_strict here n this env' (moved_here p y ok w q here this env env' c h') i ss f.1))

  thread_strict : (e : Term) (u : ValueType) → HasType p y w q nowhere e u → IsStrict p 0 Void [] e
  thread_strict e u f = term_strict nowhere 0 Void [] (at_top p y ok w q) e u f

pub strict : (p : Program) → WellTyped p → (ns : List _) (s : Config) → IsReachedFrom p ns s → (t : Name) (l : Thread)
    → fin.get s.threads t ≡ Some (Live l) → IsStrict p 0 Void [] l.term
strict p ok ns s h t l live =
    let c = reached_has_types p ok.0 ok.1 ns s h in
    let z = c.1.threads t l live in
    thread_strict p ok.0 ok.1 c.0 z.0.home l.term z.0.result z.3
