-- Statements: their core, and the rules that are broken in them.
use Rattle.std.specs.Prelude.{ℕ, zero, suc, ℤ, pos, Bool, true, false, List, [], ◌∷◌, ◌++◌, length, Option, Some, None, bytes_eq}
use Rattle.cc_core.specs.declared.expression.Constant.TheVariants as constant
use Rattle.cc_core.specs.declared.expression.Expression.{Expression}
use Rattle.cc_core.specs.declared.expression.Expression.TheVariants as e
use Rattle.cc_core.specs.declared.statement.Statement.{Statement}
use Rattle.cc_core.specs.declared.statement.Statement.TheVariants as s
use Rattle.cc_names.specs.Table.{Name}
use Rattle.cc_names.specs.declared.rule.StaticRule.TheVariants as r
use Rattle.cc_tree.specs.declared.expressions.Expr.{Expr, out-Expr}
use Rattle.cc_tree.specs.declared.expressions.ExprKind.{ExprKind, out-ExprKind}
use Rattle.cc_tree.specs.declared.expressions.ExprKind.TheOpen.{ExprKind-F}
use Rattle.cc_tree.specs.declared.expressions.Suffix.{Suffix}
use Rattle.cc_tree.specs.declared.expressions.Link.{Link}
use Rattle.cc_tree.specs.declared.statements.AssignOp.{AssignOp}
use Rattle.cc_tree.specs.declared.statements.Stmt.{Stmt, out-Stmt}
use Rattle.cc_tree.specs.declared.statements.StmtKind.{StmtKind, out-StmtKind}
use Rattle.cc_tree.specs.declared.statements.StmtKind.TheOpen.{StmtKind-F}
use Rattle.cc_scopes.specs.declared.types.Declared.{Declared}
use Rattle.cc_scopes.specs.declared.types.Ty.TheVariants as ty
use Rattle.cc_scopes.specs.Elab.{Elab, ◌>>=◌, ◌>>◌, pure, block, leave}
use Rattle.cc_scopes.specs.Scope.{Context, declare, bring}
use Rattle.cc_scopes.specs.Typed.{note_rule}
use Rattle.cc_declared.specs.Written.{cell}
use Rattle.cc_elaboration.specs.declared.assignments.Assignment.{Assignment}
use Rattle.cc_elaboration.specs.declared.header.Header.{Header}
use Rattle.cc_elaboration.specs.Assignments.{assignment, assign}
use Rattle.cc_elaboration.specs.Declarations.{declaration}
use Rattle.cc_elaboration.specs.Simple.{no_value, int_value, call, spawn, print, give, jump}

abbrev pub Layer : Type 0
Layer = StmtKind-F StmtKind Stmt

-- a scope that begins at this place
abbrev pub inside : Context → ℕ → Context
inside cx start = record cx { start = start }

-- a parallel part that begins at this place; the loops around it are none of its own
abbrev pub branch : Context → ℕ → Context
branch cx part = record cx { part = part; in_branch = true; in_loop = false }

-- the statement of a loop; and what a loop does between two turns, which no loop around it is left from
abbrev pub repeating : Context → Context
repeating cx = record cx { in_loop = true }

abbrev pub between : Context → Context
between cx = record cx { in_loop = false }

abbrev pub at_line : Context → ℕ → Context
at_line cx line = record cx { line = line }

-- ---- the header of a parfor

abbrev pub plain_int : Declared
plain_int = cell ty.Int false

abbrev pub assigned_value : Option Assignment → Expression
assigned_value None = no_value
assigned_value (Some a) = a.value

abbrev pub names_by : ExprKind-F ExprKind Suffix Expr Link → Name → Bool
names_by (ExprKind-F.Name text) name = bytes_eq text name
names_by _ name = false

-- whether an expression is this name alone
unfoldable pub names : Expr → Name → Bool
names e name = names_by (out-ExprKind (out-Expr e).kind) name

-- what an assignment gives its place
unfoldable pub step_value : Context → (target : Expr) → AssignOp → (value : Expr) → Elab Expression
step_value cx target op e = assignment cx target op e >>= (λ a. pure (assigned_value a))

-- a condition that is left out is the literal 1
abbrev pub condition : Context → Option Expr → Elab Expression
condition cx None = pure (e.Push (constant.Int (pos 1)))
condition cx (Some e) = int_value cx e

module _ (stmt : Context → Stmt → Elab Statement) where
  abbrev pub statements_from : Context → List Statement → List Stmt → Elab (List Statement)
  statements_from cx done [] = pure done
  statements_from cx done (b ∷ bs) = stmt cx b >>= (λ x. statements_from cx (done ++ x ∷ []) bs)

  unfoldable pub statements : Context → List Stmt → Elab (List Statement)
  statements cx ss = statements_from cx [] ss

  -- a block has a scope of its own
  unfoldable pub block_of : Context → List Stmt → Elab Statement
  block_of cx ss = λ t. (statements (inside cx (length t.locals)) ss >>= (λ xs. leave (length t.locals) >> pure (s.Block xs))) t

  -- one that is the statement of a loop with a header shares the header's scope
  unfoldable pub open_block : Context → (line : ℕ) → List Stmt → Elab Statement
  open_block cx line ss = statements (at_line cx line) ss >>= (λ xs. pure (s.AtLine line (s.Block xs)))

  abbrev pub body_by : Layer → Context → Stmt → Elab Statement
  body_by (StmtKind-F.Block ss) cx b = open_block cx (out-Stmt b).line ss
  body_by _ cx b = stmt cx b

  unfoldable pub body : Context → Stmt → Elab Statement
  body cx b = body_by (out-StmtKind (out-Stmt b).kind) cx b

  -- ---- choices and loops

  unfoldable pub if_only : Context → Expr → Stmt → Elab Statement
  if_only cx c first = int_value cx c >>= (λ t. stmt cx first >>= (λ x. pure (s.If t x)))

  unfoldable pub both : Context → (first second : Stmt) → Elab (Statement × Statement)
  both cx first second = stmt cx first >>= (λ x. stmt cx second >>= (λ y. pure (x, y)))

  unfoldable pub if_else : Context → Expr → (first other : Stmt) → Elab Statement
  if_else cx c first other = int_value cx c >>= (λ t. both cx first other >>= (λ p. pure (s.IfElse t p.0 p.1)))

  abbrev pub choice : Context → Expr → Stmt → Option Stmt → Elab Statement
  choice cx c first None = if_only cx c first
  choice cx c first (Some other) = if_else cx c first other

  unfoldable pub repeated : Context → Expr → Stmt → Elab Statement
  repeated cx c b = int_value cx c >>= (λ t. stmt (repeating cx) b >>= (λ x. pure (s.While t x)))

  abbrev pub step : Context → Option Stmt → Elab Statement
  step cx None = pure s.Empty
  step cx (Some b) = stmt cx b

  unfoldable pub turn : Context → Option Stmt → Stmt → Elab (Statement × Statement)
  turn cx after b = step (between cx) after >>= (λ x. body (repeating cx) b >>= (λ y. pure (x, y)))

  -- the loop behind its start
  unfoldable pub counted : Context → Option Expr → Option Stmt → Stmt → Elab Statement
  counted cx c after b = condition cx c >>= (λ t. turn cx after b >>= (λ p. pure (s.For t p.0 p.1)))

  unfoldable pub headed : Context → List Stmt → Option Expr → Option Stmt → Stmt → Elab Statement
  headed cx first c after b = statements cx first >>= (λ xs. counted cx c after b >>= (λ x. pure (s.Block (xs ++ x ∷ []))))

  unfoldable pub loop_of : Context → List Stmt → Option Expr → Option Stmt → Stmt → Elab Statement
  loop_of cx first c after b =
      λ t. (headed (inside cx (length t.locals)) first c after b >>= (λ x. leave (length t.locals) >> pure x)) t

  -- ---- par: each statement is a parallel part

  abbrev pub part : Context → Stmt → Elab Statement
  part cx b = λ t. stmt (branch cx (length t.locals)) b t

  abbrev pub parts_from : Context → List Statement → List Stmt → Elab (List Statement)
  parts_from cx done [] = pure done
  parts_from cx done (b ∷ bs) = part cx b >>= (λ x. parts_from cx (done ++ x ∷ []) bs)

  unfoldable pub parts : Context → List Stmt → Elab (List Statement)
  parts cx bs = parts_from cx [] bs

  unfoldable pub par : Context → List Stmt → Elab Statement
  par cx bs = block cx.line >> (parts cx bs >>= (λ xs. pure (s.Par xs)))

  -- ---- parfor: each iteration is one, with a variable of its own

  -- the last part of the header, which does not assign the header's variable, is read for its own rules
  unfoldable pub no_step : Context → Stmt → Elab Expression
  no_step cx after = stmt cx after >> (note_rule cx r.ParforHeader >> pure no_value)

  abbrev pub step_if : Bool → Context → Stmt → (target : Expr) → AssignOp → (value : Expr) → Elab Expression
  step_if true cx after target op e = step_value (at_line cx (out-Stmt after).line) target op e
  step_if false cx after target op e = no_step cx after

  abbrev pub header_step_by : Layer → Context → Name → Stmt → Elab Expression
  header_step_by (StmtKind-F.Assign target op e) cx name after = step_if (names target name) cx after target op e
  header_step_by _ cx name after = no_step cx after

  unfoldable pub header_step : Context → Name → Stmt → Elab Expression
  header_step cx name after = header_step_by (out-StmtKind (out-Stmt after).kind) cx name after

  unfoldable pub header_rest : Context → Name → (k : ℕ) → (start : Expression) → Expr → Stmt → Elab Header
  header_rest cx name k start c after = int_value cx c >>= (λ t. header_step cx name after
      >>= (λ v. pure (record { variable = k; start = start; test = t; line = (out-Stmt after).line; value = v })))

  unfoldable pub header : Context → Name → (start test : Expr) → Stmt → Elab Header
  header cx name start c after =
      int_value cx start >>= (λ a. declare cx name plain_int >>= (λ k. header_rest cx name k a c after))

  -- the branch's copy of the variable belongs to the branch
  unfoldable pub copied : Context → Name → (k : ℕ) → Stmt → Elab Statement
  copied cx name k b = bring cx name k plain_int >> body cx b

  abbrev pub each : Context → Name → (k : ℕ) → Stmt → Elab Statement
  each cx name k b = λ t. copied (branch cx (length t.locals)) name k b t

  unfoldable pub iterated : Context → Name → (start test : Expr) → Stmt → Stmt → Elab Statement
  iterated cx name start c after b = header cx name start c after
      >>= (λ h. each cx name h.variable b >>= (λ x. pure (s.ParFor h.variable h.start h.test h.line h.value x)))

  unfoldable pub parfor : Context → Name → (start test : Expr) → Stmt → Stmt → Elab Statement
  parfor cx name start c after b = λ t.
      (block cx.line >> (iterated (inside cx (length t.locals)) name start c after b >>= (λ x. leave (length t.locals) >> pure x))) t

  -- ---- each statement

  abbrev pub kind : Layer → Context → Elab Statement
  kind (StmtKind-F.Block ss) cx = block_of cx ss
  kind StmtKind-F.Empty cx = pure s.Empty
  kind (StmtKind-F.Declare d) cx = declaration cx d
  kind (StmtKind-F.Assign target op e) cx = assign cx target op e
  kind (StmtKind-F.Call e) cx = call cx e
  kind (StmtKind-F.Print xs) cx = print cx xs
  kind (StmtKind-F.If c first other) cx = choice cx c first other
  kind (StmtKind-F.While c b) cx = repeated cx c b
  kind (StmtKind-F.For first c after b) cx = loop_of cx first c after b
  kind StmtKind-F.Break cx = jump cx s.Break
  kind StmtKind-F.Continue cx = jump cx s.Continue
  kind (StmtKind-F.Par bs) cx = par cx bs
  kind (StmtKind-F.ParFor name start c after b) cx = parfor cx name start c after b
  kind (StmtKind-F.Spawn e) cx = spawn cx e
  kind (StmtKind-F.Return e) cx = give cx e

  unfoldable pub kind_of : Context → StmtKind → Elab Statement
  kind_of cx k = kind (out-StmtKind k) cx

  -- one level of a statement, from what its parts are
  unfoldable pub node : Context → Stmt → Elab Statement
  node cx b = kind_of (at_line cx (out-Stmt b).line) (out-Stmt b).kind >>= (λ x. pure (s.AtLine (out-Stmt b).line x))

abbrev pub too_deep : Context → Elab Statement
too_deep cx = note_rule cx r.BadType >> pure s.Empty

-- to a depth. What lies deeper counts as broken; the parser gives no tree that deep
unfoldable pub statement_to : ℕ → Context → Stmt → Elab Statement
statement_to zero cx b = too_deep cx
statement_to (suc depth) cx b = node (statement_to depth) cx b

abbrev pub statement : Context → Stmt → Elab Statement
statement = statement_to 1000

-- the statements of a function's body, in one scope with its parameters
abbrev pub function_body : Context → List Stmt → Elab (List Statement)
function_body = statements statement
