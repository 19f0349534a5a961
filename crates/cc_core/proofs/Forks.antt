-- A thread that asks for a fork gives as many branches as it asks for, and with every other ask none.
use Rattle.std.proofs.Common.{◌≡◌, ℕ, suc, List, [], length, Bool, true, false, refl, ap}
use Rattle.cc_ops.specs.Values as values
use Rattle.cc_ops.specs.declared.shape.FunShape.{FunShape}
use Rattle.cc_core.specs.Names.{Name, Value}
use Rattle.cc_core.specs.Core.{Env, How, Alone, On, Remote, Program, function, Term, Push, This, Variable, Member, Index, At, Load}
use Rattle.cc_core.specs.Core.{Unary, Binary, And, Or, New, NewObject, Call, Val, Body, Branch, Starts, Terms, NoTerms, MoreTerms}
use Rattle.cc_core.specs.Core.{MoreCells, Copied, Stmt, Empty, AtLine, Make, Set, Build, Assign, Drop, Print, If, IfElse, While, For}
use Rattle.cc_core.specs.Core.{Break, Continue, Par, ParFor, Spawn, Return, Block, Turn, Forks, Each, Wait, Left, Stmts, NoStmts}
use Rattle.cc_core.specs.Core.{MoreStmts}
use Rattle.cc_core.specs.Asks.{Answer}
use Rattle.cc_core.specs.Next.{Next, Ready, Asks, on_ready, Ending, Falls, Returns, Breaks, Continues, call_ask, spawn_ask, object_ask}
use Rattle.cc_core.specs.Next.{body_ends, branch_ends, branches, how_many, and_then, turn_ends, next_term, next_terms, next_stmt}
use Rattle.cc_core.specs.Next.{next_stmts, next}
use Rattle.cc_core.specs.Effects.{branch_count}

-- what is next forks what it asks for
abbrev pub ForksAsAsked : {V A : Type 0} → Next V A → Type 0
ForksAsAsked (Ready v) = Unit {0}
ForksAsAsked (Asks line ask k) = (x : Answer Name) → length (k x).branches ≡ branch_count ask

part : {V A W B : Type 0} (n : Next V A) (F : A → B) (go : V → Next W B) → ForksAsAsked n → ((v : V) → ForksAsAsked (go v))
    → ForksAsAsked (on_ready n F go)
part (Ready v) F go h g = g v
part (Asks line ask k) F go h g = h

calls : (shape : FunShape) (how : How) (f : ℕ) (vs : List Value) → 0 ≡ branch_count (call_ask shape how f vs)
calls shape Alone f vs = refl
calls shape On f vs = refl
calls shape Remote f vs = refl

spawns : (shape : FunShape) (how : How) (f : ℕ) (vs : List Value) → 0 ≡ branch_count (spawn_ask shape how f vs)
spawns shape Alone f vs = refl
spawns shape On f vs = refl
spawns shape Remote f vs = refl

objects : (remote : Bool) (c : ℕ) (vs : List Value) → 0 ≡ branch_count (object_ask remote c vs)
objects false c vs = refl
objects true c vs = refl

length-branches : (this : Value) (env : Env) (ss : Stmts) → length (branches this env ss) ≡ how_many ss
length-branches this env NoStmts = refl
length-branches this env (MoreStmts s ss) = ap suc (length-branches this env ss)

at_body : (p : Program) (f : ℕ) (end : Ending) → ForksAsAsked (body_ends p f end)
at_body p f (Falls env) = λ x. refl
at_body p f (Returns v) = tt
at_body p f (Breaks env) = λ x. refl
at_body p f (Continues env) = λ x. refl

at_branch : (end : Ending) → ForksAsAsked (branch_ends end)
at_branch (Falls env) = tt
at_branch (Returns v) = tt
at_branch (Breaks env) = tt
at_branch (Continues env) = tt

behind : (end : Ending) (go : Env → Next Ending (Env × Stmts)) → ((env : Env) → ForksAsAsked (go env)) → ForksAsAsked (and_then end go)
behind (Falls env) go h = h env
behind (Returns v) go h = tt
behind (Breaks env) go h = tt
behind (Continues env) go h = tt

behind_turn : (end : Ending) (go : Env → Next Ending (Env × Stmt)) → ((env : Env) → ForksAsAsked (go env))
    → ForksAsAsked (turn_ends end go)
behind_turn (Falls env) go h = h env
behind_turn (Returns v) go h = tt
behind_turn (Breaks env) go h = tt
behind_turn (Continues env) go h = h env

mutual
  term_forks : (p : Program) (n : ℕ) (this : Value) (env : Env) (e : Term) → ForksAsAsked (next_term p n this env e)
  term_forks p n this env (Push c) = tt
  term_forks p n this env This = tt
  term_forks p n this env (Variable k) = tt
  term_forks p n this env (Member e o) = part (next_term p n this env e) _ _ (term_forks p n this env e) (λ v. tt)
  term_forks p n this env (Index a size i) =
      part (next_term p n this env a) _ _ (term_forks p n this env a) (λ v.
      part (next_term p n this env i) _ _ (term_forks p n this env i) (λ w x. refl))
  term_forks p n this env (At a i) =
      part (next_term p n this env a) _ _ (term_forks p n this env a) (λ v.
      part (next_term p n this env i) _ _ (term_forks p n this env i) (λ w x. refl))
  term_forks p n this env (Load remote e) = part (next_term p n this env e) _ _ (term_forks p n this env e) (λ v x. refl)
  term_forks p n this env (Unary op e) = part (next_term p n this env e) _ _ (term_forks p n this env e) (λ v x. refl)
  term_forks p n this env (Binary op a b) =
      part (next_term p n this env a) _ _ (term_forks p n this env a) (λ v.
      part (next_term p n this env b) _ _ (term_forks p n this env b) (λ w x. refl))
  term_forks p n this env (And a b) = part (next_term p n this env a) _ _ (term_forks p n this env a) (λ v x. refl)
  term_forks p n this env (Or a b) = part (next_term p n this env a) _ _ (term_forks p n this env a) (λ v x. refl)
  term_forks p n this env (New kind size) = λ x. refl
  term_forks p n this env (NewObject remote c es) =
      part (next_terms p n this env es) _ _ (terms_forks p n this env es) (λ vs x. objects remote c vs)
  term_forks p n this env (Call how f es) =
      part (next_terms p n this env es) _ _ (terms_forks p n this env es) (λ vs x. calls (function p f).shape how f vs)
  term_forks p n this env (Val v) = tt
  term_forks p n this env (Body f this' env' ss) =
      part (next_stmts p (function p f).shape.line this' env' ss) _ _ (stmts_forks p (function p f).shape.line this' env' ss)
      (at_body p f)
  term_forks p n this env (Branch this' env' s) =
      part (next_stmt p 0 this' env' s) _ _ (stmt_forks p 0 this' env' s) at_branch
  term_forks p n this env (Starts f this' vs) = λ x. refl

  terms_forks : (p : Program) (n : ℕ) (this : Value) (env : Env) (es : Terms) → ForksAsAsked (next_terms p n this env es)
  terms_forks p n this env NoTerms = tt
  terms_forks p n this env (MoreTerms e es) =
      part (next_term p n this env e) _ _ (term_forks p n this env e) (λ v.
      part (next_terms p n this env es) _ _ (terms_forks p n this env es) (λ vs. tt))
  terms_forks p n this env (MoreCells e size es) = part (next_term p n this env e) _ _ (term_forks p n this env e) (λ v x. refl)
  terms_forks p n this env (Copied vs es) = part (next_terms p n this env es) _ _ (terms_forks p n this env es) (λ ws. tt)

  stmt_forks : (p : Program) (n : ℕ) (this : Value) (env : Env) (s : Stmt) → ForksAsAsked (next_stmt p n this env s)
  stmt_forks p n this env Empty = tt
  stmt_forks p n this env (AtLine line s) = part (next_stmt p line this env s) _ _ (stmt_forks p line this env s) (λ end. tt)
  stmt_forks p n this env (Make k kind size) = λ x. refl
  stmt_forks p n this env (Set k kind e) = part (next_term p n this env e) _ _ (term_forks p n this env e) (λ v x. refl)
  stmt_forks p n this env (Build k c es) = part (next_terms p n this env es) _ _ (terms_forks p n this env es) (λ vs x. refl)
  stmt_forks p n this env (Assign remote a e) =
      part (next_term p n this env a) _ _ (term_forks p n this env a) (λ v.
      part (next_term p n this env e) _ _ (term_forks p n this env e) (λ w x. refl))
  stmt_forks p n this env (Drop e) = part (next_term p n this env e) _ _ (term_forks p n this env e) (λ v. tt)
  stmt_forks p n this env (Print parts es) = part (next_terms p n this env es) _ _ (terms_forks p n this env es) (λ vs x. refl)
  stmt_forks p n this env (If c s) = part (next_term p n this env c) _ _ (term_forks p n this env c) (λ v x. refl)
  stmt_forks p n this env (IfElse c s t) = part (next_term p n this env c) _ _ (term_forks p n this env c) (λ v x. refl)
  stmt_forks p n this env (While c s) = part (next_term p n this env c) _ _ (term_forks p n this env c) (λ v x. refl)
  stmt_forks p n this env (For c step s) = part (next_term p n this env c) _ _ (term_forks p n this env c) (λ v x. refl)
  stmt_forks p n this env Break = tt
  stmt_forks p n this env Continue = tt
  stmt_forks p n this env (Par ss) = λ x. length-branches this env ss
  stmt_forks p n this env (ParFor k start test line value s) =
      part (next_term p n this env start) _ _ (term_forks p n this env start) (λ v x. refl)
  stmt_forks p n this env (Spawn how f es) =
      part (next_terms p n this env es) _ _ (terms_forks p n this env es) (λ vs x. spawns (function p f).shape how f vs)
  stmt_forks p n this env (Return e) = part (next_term p n this env e) _ _ (term_forks p n this env e) (λ v x. refl)
  stmt_forks p n this env (Block ss) = part (next_stmts p n this env ss) _ _ (stmts_forks p n this env ss) (λ end. tt)
  stmt_forks p n this env (Turn s w) =
      part (next_stmt p n this env s) _ _ (stmt_forks p n this env s) (λ end. behind_turn end _ (λ env'. stmt_forks p n this env' w))
  stmt_forks p n this env (Forks k test line value s made now) =
      part (next_term p n this env now) _ _ (term_forks p n this env now) (λ v x. refl)
  stmt_forks p n this env (Each k test line value s made) = λ x. refl
  stmt_forks p n this env (Wait made) = λ x. refl
  stmt_forks p n this env (Left v) = tt

  stmts_forks : (p : Program) (n : ℕ) (this : Value) (env : Env) (ss : Stmts) → ForksAsAsked (next_stmts p n this env ss)
  stmts_forks p n this env NoStmts = tt
  stmts_forks p n this env (MoreStmts s ss) =
      part (next_stmt p n this env s) _ _ (stmt_forks p n this env s) (λ end. behind end _ (λ env'. stmts_forks p n this env' ss))

pub forks_as_asked : (p : Program) (t : Term) → ForksAsAsked (next p t)
forks_as_asked p t = term_forks p 0 values.Void [] t
