-- What a thread does next: it has a value, or it asks. What is no step (literals, addresses, blocks, a value that is dropped) is passed
-- through. Evaluation is from left to right; in an assignment the place comes first, in a call the object.
use Rattle.std.specs.Prelude.{ℕ, suc, List, [], ◌∷◌, ◌++◌, if◌then◌else◌, Bool, true, false, get_or, set, map}
use Rattle.cc_ops.specs.Values as values
use Rattle.cc_ops.specs.Values.{Void, Int, Null, Constant, constant, is_zero, first, after_first, resized, moved, as_kinds, no_void}
use Rattle.cc_ops.specs.Values.{sent}
use Rattle.cc_ops.specs.Classes.{all_kinds}
use Rattle.cc_ops.specs.Operators.{truth}
use Rattle.cc_ops.specs.declared.kind.Kind.TheVariants.{Int as IntK}
use Rattle.cc_ops.specs.declared.operator.Op.TheVariants.{Bool as Bool'}
use Rattle.cc_ops.specs.declared.shape.FunShape.{FunShape}
use Rattle.cc_core.specs.Names.{Name, Value}
use Rattle.cc_core.specs.Core.{Env, How, Alone, On, Remote, Program, function, Term, Push, This, Variable, Member, Index, At, Load}
use Rattle.cc_core.specs.Core.{Unary, Binary, And, Or, New, NewObject, Call, Val, Body, Branch, Starts, Terms, NoTerms, MoreTerms}
use Rattle.cc_core.specs.Core.{MoreCells, Copied, Stmt, Empty, AtLine, Make, Set, Build, Assign, Drop, Print, If, IfElse, While, For}
use Rattle.cc_core.specs.Core.{Break, Continue, Par, ParFor, Spawn, Return, Block, Turn, Forks, Each, Wait, Left, Stmts, NoStmts}
use Rattle.cc_core.specs.Core.{MoreStmts}
use Rattle.cc_core.specs.Asks.{Ask, Answer, Reads, Writes, Copies, Indexes, Shifts, Computes, Tests, Makes, MakesWith, Builds, Enters}
use Rattle.cc_core.specs.Asks.{Leaves, ForksAll, ForksOne, Joins, Spawns, Prints, Calls, Casts, NewProcessor}

-- what is left after an answer, and the branches that the thread forks
pub record After (A : Type 0) : Type 0 where
  pub left : A
  pub branches : List Term

-- V: the value that it has. A: what is left of it after an answer. line: that of the innermost statement
pub data Next (V A : Type 0) : Type 0 where
  Ready : V → Next V A
  Asks : (line : ℕ) → Ask Name → (Answer Name → After A) → Next V A

abbrev pub just : {A : Type 0} → A → After A
just a = record { left = a; branches = [] }

abbrev pub put_back : {A B : Type 0} → (A → B) → After A → After B
put_back F x = record { left = F x.left; branches = x.branches }

-- a part of a whole: the whole goes on with the part's value; F puts what is left of the part back into the whole
abbrev pub on_ready : {V A W B : Type 0} → Next V A → (A → B) → (V → Next W B) → Next W B
on_ready (Ready v) F go = go v
on_ready (Asks line q k) F go = Asks line q (λ x. put_back F (k x))

-- how a statement ends: it goes on behind it, with these variables; by a return; by a break; by a continue
pub data Ending : Type 0 where
  Falls : Env → Ending
  Returns : Value → Ending
  Breaks : Env → Ending
  Continues : Env → Ending

abbrev pub variable : {N : Type 0} → List N → ℕ → N → N
variable env k null = get_or env k null

-- an ask whose first value is the term's value
abbrev pub gives : ℕ → Ask Name → Next Value Term
gives line q = Asks line q (λ x. just (Val (first x.values)))

-- an ask after which the statement is done
abbrev pub does : ℕ → Env → Ask Name → Next Ending (Env × Stmt)
does line env q = Asks line q (λ x. just (env, Empty))

-- an ask after which variable k is at the address that was made
abbrev pub makes : ℕ → Env → ℕ → Ask Name → Next Ending (Env × Stmt)
makes line env k q = Asks line q (λ x. just (set env k (first x.values), Empty))

abbrev pub call_ask : {N : Type 0} → FunShape → How → ℕ → List (values.Value N) → Ask N
call_ask shape Alone f vs = Enters f Void vs
call_ask shape On f vs = Enters f (first vs) (after_first vs)
call_ask shape Remote f vs = Calls f (first vs) (as_kinds (all_kinds shape.params) (after_first vs))

abbrev pub spawn_ask : {N : Type 0} → FunShape → How → ℕ → List (values.Value N) → Ask N
spawn_ask shape Alone f vs = Spawns f Void vs
spawn_ask shape On f vs = Spawns f (first vs) (after_first vs)
spawn_ask shape Remote f vs = Casts f (first vs) (as_kinds (all_kinds shape.params) (after_first vs))

abbrev pub object_ask : {N : Type 0} → (remote : Bool) → ℕ → List (values.Value N) → Ask N
object_ask false c vs = Builds c vs
object_ask true c vs = NewProcessor c (map no_void vs)

-- a function that was entered, with the addresses of its parameters
abbrev pub entered : Program → ℕ → Value → List Value → Term
entered p f this xs = Body f this (resized (function p f).shape.vars xs) (function p f).body

-- a call after its answer: the function entered, or the value of the thread that was made for it
abbrev pub called : Program → How → ℕ → List Value → List Value → Term
called p Alone f vs xs = entered p f Void xs
called p On f vs xs = entered p f (first vs) xs
called p Remote f vs xs = Val (first xs)

-- a function's end is a return of its default, at the function's line
abbrev pub returns_default : Program → ℕ → Next Value Term
returns_default p f = Asks (function p f).shape.line Leaves (λ x. just (Val (constant (function p f).default)))

abbrev pub body_ends : Program → ℕ → Ending → Next Value Term
body_ends p f (Falls env) = returns_default p f
body_ends p f (Returns v) = Ready v
body_ends p f (Breaks env) = returns_default p f
body_ends p f (Continues env) = returns_default p f

abbrev pub branch_ends : Ending → Next Value Term
branch_ends (Falls env) = Ready Void
branch_ends (Returns v) = Ready v
branch_ends (Breaks env) = Ready Void
branch_ends (Continues env) = Ready Void

-- the branches of a par, each with the variables that there are at the fork
abbrev pub branches : Value → Env → Stmts → List Term
branches this env NoStmts = []
branches this env (MoreStmts s ss) = Branch this env s ∷ branches this env ss

abbrev pub how_many : Stmts → ℕ
how_many NoStmts = 0
how_many (MoreStmts s ss) = suc (how_many ss)

-- behind a statement of a list
abbrev pub and_then : Ending → (Env → Next Ending (Env × Stmts)) → Next Ending (Env × Stmts)
and_then (Falls env) go = go env
and_then (Returns v) go = Ready (Returns v)
and_then (Breaks env) go = Ready (Breaks env)
and_then (Continues env) go = Ready (Continues env)

-- behind a turn of a loop
abbrev pub turn_ends : Ending → (Env → Next Ending (Env × Stmt)) → Next Ending (Env × Stmt)
turn_ends (Falls env) go = go env
turn_ends (Returns v) go = Ready (Returns v)
turn_ends (Breaks env) go = Ready (Falls env)
turn_ends (Continues env) go = go env

-- a turn of a `for`; its step and the loop follow it, also after a continue
abbrev pub for_turn : Term → Stmt → Stmt → Stmt
for_turn c step s = Turn s (Block (MoreStmts step (MoreStmts (For c step s) NoStmts)))

-- the last part of a parfor's header: variable k is assigned, at that line
abbrev pub header_step : ℕ → ℕ → Term → Stmt
header_step k line e = AtLine line (Assign false (Variable k) e)

abbrev mutual
  -- of a part of a statement at line n, in a function of object `this`, with the variables env
  pub next_term : Program → (n : ℕ) → (this : Value) → Env → Term → Next Value Term
  next_term p n this env (Push c) = Ready (constant c)
  next_term p n this env This = Ready this
  next_term p n this env (Variable k) = Ready (variable env k Null)
  next_term p n this env (Member e o) = on_ready (next_term p n this env e) (λ e'. Member e' o) (λ v. Ready (moved v o))
  next_term p n this env (Index a size i) =
      on_ready (next_term p n this env a) (λ a'. Index a' size i) (λ v.
      on_ready (next_term p n this env i) (Index (Val v) size) (λ w. gives n (Indexes v size w)))
  next_term p n this env (At a i) =
      on_ready (next_term p n this env a) (λ a'. At a' i) (λ v.
      on_ready (next_term p n this env i) (At (Val v)) (λ w. gives n (Shifts v w)))
  next_term p n this env (Load remote e) = on_ready (next_term p n this env e) (Load remote) (λ v. gives n (Reads remote v))
  next_term p n this env (Unary op e) = on_ready (next_term p n this env e) (Unary op) (λ v. gives n (Computes op (v ∷ [])))
  next_term p n this env (Binary op a b) =
      on_ready (next_term p n this env a) (λ a'. Binary op a' b) (λ v.
      on_ready (next_term p n this env b) (Binary op (Val v)) (λ w. gives n (Computes op (v ∷ w ∷ []))))
  next_term p n this env (And a b) =
      on_ready (next_term p n this env a) (λ a'. And a' b) (λ v.
      Asks n Tests (λ x. just (if is_zero v then Val (truth false) else Unary Bool' b)))
  next_term p n this env (Or a b) =
      on_ready (next_term p n this env a) (λ a'. Or a' b) (λ v.
      Asks n Tests (λ x. just (if is_zero v then Unary Bool' b else Val (truth true))))
  next_term p n this env (New kind size) = gives n (Makes kind size)
  next_term p n this env (NewObject remote c es) =
      on_ready (next_terms p n this env es) (NewObject remote c) (λ vs. gives n (object_ask remote c vs))
  next_term p n this env (Call how f es) =
      on_ready (next_terms p n this env es) (Call how f) (λ vs.
      Asks n (call_ask (function p f).shape how f vs) (λ x. just (called p how f vs x.values)))
  next_term p n this env (Val v) = Ready v
  next_term p n this env (Body f this' env' ss) =
      on_ready (next_stmts p (function p f).shape.line this' env' ss) (λ l. Body f this' l.0 l.1) (body_ends p f)
  next_term p n this env (Branch this' env' s) =
      on_ready (next_stmt p 0 this' env' s) (λ l. Branch this' l.0 l.1) branch_ends
  next_term p n this env (Starts f this' vs) =
      Asks (function p f).shape.line (Enters f this' vs) (λ x. just (entered p f this' x.values))

  pub next_terms : Program → (n : ℕ) → (this : Value) → Env → Terms → Next (List Value) Terms
  next_terms p n this env NoTerms = Ready []
  next_terms p n this env (MoreTerms e es) =
      on_ready (next_term p n this env e) (λ e'. MoreTerms e' es) (λ v.
      on_ready (next_terms p n this env es) (MoreTerms (Val v)) (λ vs. Ready (v ∷ vs)))
  next_terms p n this env (MoreCells e size es) =
      on_ready (next_term p n this env e) (λ e'. MoreCells e' size es) (λ v.
      Asks n (Copies v size) (λ x. just (Copied (resized size x.values) es)))
  next_terms p n this env (Copied vs es) = on_ready (next_terms p n this env es) (Copied vs) (λ ws. Ready (vs ++ ws))

  pub next_stmt : Program → (n : ℕ) → (this : Value) → Env → Stmt → Next Ending (Env × Stmt)
  next_stmt p n this env Empty = Ready (Falls env)
  next_stmt p n this env (AtLine line s) = on_ready (next_stmt p line this env s) (λ l. (l.0, AtLine line l.1)) Ready
  next_stmt p n this env (Make k kind size) = makes n env k (Makes kind size)
  next_stmt p n this env (Set k kind e) =
      on_ready (next_term p n this env e) (λ e'. (env, Set k kind e')) (λ v. makes n env k (MakesWith kind v))
  next_stmt p n this env (Build k c es) =
      on_ready (next_terms p n this env es) (λ es'. (env, Build k c es')) (λ vs. makes n env k (Builds c vs))
  next_stmt p n this env (Assign remote a e) =
      on_ready (next_term p n this env a) (λ a'. (env, Assign remote a' e)) (λ v.
      on_ready (next_term p n this env e) (λ e'. (env, Assign remote (Val v) e')) (λ w.
      does n env (Writes remote v (sent remote w))))
  next_stmt p n this env (Drop e) = on_ready (next_term p n this env e) (λ e'. (env, Drop e')) (λ v. Ready (Falls env))
  next_stmt p n this env (Print parts es) =
      on_ready (next_terms p n this env es) (λ es'. (env, Print parts es')) (λ vs. does n env (Prints parts vs))
  next_stmt p n this env (If c s) =
      on_ready (next_term p n this env c) (λ c'. (env, If c' s)) (λ v.
      Asks n Tests (λ x. just (env, if is_zero v then Empty else s)))
  next_stmt p n this env (IfElse c s t) =
      on_ready (next_term p n this env c) (λ c'. (env, IfElse c' s t)) (λ v.
      Asks n Tests (λ x. just (env, if is_zero v then t else s)))
  next_stmt p n this env (While c s) =
      on_ready (next_term p n this env c) (λ c'. (env, If c' (Turn s (While c s)))) (λ v.
      Asks n Tests (λ x. just (env, if is_zero v then Empty else Turn s (While c s))))
  next_stmt p n this env (For c step s) =
      on_ready (next_term p n this env c) (λ c'. (env, If c' (for_turn c step s))) (λ v.
      Asks n Tests (λ x. just (env, if is_zero v then Empty else for_turn c step s)))
  next_stmt p n this env Break = Ready (Breaks env)
  next_stmt p n this env Continue = Ready (Continues env)
  next_stmt p n this env (Par ss) =
      Asks n (ForksAll (how_many ss)) (λ x. record { left = (env, Wait x.made); branches = branches this env ss })
  next_stmt p n this env (ParFor k start test line value s) =
      on_ready (next_term p n this env start) (λ e'. (env, ParFor k e' test line value s)) (λ v.
      Asks n (MakesWith IntK v) (λ x. just (set env k (first x.values), Forks k test line value s [] test)))
  next_stmt p n this env (Spawn how f es) =
      on_ready (next_terms p n this env es) (λ es'. (env, Spawn how f es')) (λ vs. does n env (spawn_ask (function p f).shape how f vs))
  next_stmt p n this env (Return e) =
      on_ready (next_term p n this env e) (λ e'. (env, Return e')) (λ v. Asks n Leaves (λ x. just (env, Left v)))
  next_stmt p n this env (Block ss) = on_ready (next_stmts p n this env ss) (λ l. (l.0, Block l.1)) Ready
  next_stmt p n this env (Turn s w) =
      on_ready (next_stmt p n this env s) (λ l. (l.0, Turn l.1 w)) (λ end. turn_ends end (λ env'. next_stmt p n this env' w))
  next_stmt p n this env (Forks k test line value s made now) =
      on_ready (next_term p n this env now) (λ c'. (env, Forks k test line value s made c')) (λ v.
      Asks n Tests (λ x. just (env, if is_zero v then Wait made else Each k test line value s made)))
  next_stmt p n this env (Each k test line value s made) =
      Asks n (ForksOne (variable env k Null)) (λ x. record {
        left = (env, Turn (header_step k line value) (Forks k test line value s (x.made ++ made) test));
        branches = Branch this (set env k (first x.values)) s ∷ [];
      })
  next_stmt p n this env (Wait made) = does n env (Joins made)
  next_stmt p n this env (Left v) = Ready (Returns v)

  pub next_stmts : Program → (n : ℕ) → (this : Value) → Env → Stmts → Next Ending (Env × Stmts)
  next_stmts p n this env NoStmts = Ready (Falls env)
  next_stmts p n this env (MoreStmts s ss) =
      on_ready (next_stmt p n this env s) (λ l. (l.0, MoreStmts l.1 ss)) (λ end. and_then end (λ env'. next_stmts p n this env' ss))

-- of a thread
abbrev pub next : Program → Term → Next Value Term
next p t = next_term p 0 Void [] t
