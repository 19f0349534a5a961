-- Statements.
use Rattle.std.proofs.Common.{ℕ, zero, suc, ◌<◌, pos, Bool, true, false, List, [], ◌∷◌, ◌++◌, length, Option, Some, None}
use Rattle.cc_core.specs.declared.expression.Constant.TheVariants as constant
use Rattle.cc_core.specs.declared.expression.Expression.{Expression}
use Rattle.cc_core.specs.declared.expression.Expression.TheVariants as e
use Rattle.cc_core.specs.declared.statement.Statement.{Statement}
use Rattle.cc_core.specs.declared.statement.Statement.TheVariants as s
use Rattle.cc_core.specs.Core.{Shapes}
use Rattle.cc_names.specs.Table.{Name}
use Rattle.cc_tree.specs.declared.expressions.Expr.{Expr}
use Rattle.cc_tree.specs.declared.statements.AssignOp.{AssignOp}
use Rattle.cc_tree.specs.declared.statements.Stmt.{Stmt, out-Stmt}
use Rattle.cc_tree.specs.declared.statements.StmtKind.{StmtKind, out-StmtKind}
use Rattle.cc_tree.specs.declared.statements.StmtKind.TheOpen.{StmtKind-F}
use Rattle.cc_scopes.specs.declared.state.State.{State}
use Rattle.cc_scopes.specs.Elab.{Elab, ◌>>=◌, ◌>>◌, pure, block, leave}
use Rattle.cc_scopes.specs.Scope.{Context}
use Rattle.cc_elaboration.specs.declared.assignments.Assignment.{Assignment}
use Rattle.cc_elaboration.specs.Statements.{Layer, inside, branch, repeating, between, at_line, plain_int, assigned_value, names, step_value, condition}
use Rattle.cc_elaboration.specs.Statements.{statements_from, statements, block_of, open_block, body_by, body, if_only, both, if_else, choice, repeated, step, turn, counted, headed, loop_of}
use Rattle.cc_elaboration.specs.Statements.{part, parts_from, parts, par, no_step, step_if, header_step_by, header_step, header_rest, header, copied, each, iterated, parfor}
use Rattle.cc_elaboration.specs.Statements.{kind, kind_of, node, statement_to, statement, function_body}
use Rattle.cc_source.proofs.Runs.{IfThere, given, always, bind, next, done, looking}
use Rattle.cc_source.proofs.FitLaws.{none_fit, one_more_statement, push_fits, empty_fits, at_line_fits, if_fits, if_else_fits, while_fits, for_fits, break_fits, continue_fits, par_fits, parfor_fits, block_fits}
use Rattle.cc_source.proofs.Fits.{ExpressionFits, StatementFits, StatementsFit}
use Rattle.cc_source.proofs.Sound.{Reads}
use Rattle.cc_source.proofs.StateLaws.{block_runs, leave_runs, declare_runs, bring_runs}
use Rattle.cc_source.proofs.ScopeLaws.{note_rule_runs}
use Rattle.cc_source.proofs.AssignmentLaws.{AssignmentFits, assignment_runs, assign_runs, declaration_runs}
use Rattle.cc_source.proofs.SimpleLaws.{no_value_fits, int_value_runs, call_statement_runs, spawn_runs, print_runs, give_runs, jump_runs}

-- ---- the header of a parfor

module _ (h : Shapes) (last : State) where
  assigned_value_fits : (a : Option Assignment) → IfThere (AssignmentFits h last) a → ExpressionFits h last (assigned_value a)
  assigned_value_fits None p = no_value_fits h last
  assigned_value_fits (Some a) p = p.1

  abbrev HeaderFits : ℕ → (start test value : Expression) → Type 0
  HeaderFits k start test value = (k < length last.made) × ExpressionFits h last start × ExpressionFits h last test × ExpressionFits h last value

  abbrev BothFit : (first second : Bool) → Statement × Statement → Type 0
  BothFit l m p = StatementFits h last l p.0 × StatementFits h last m p.1

  step_value_runs : (cx : Context) (target : Expr) (op : AssignOp) (e : Expr)
      → Reads h last cx (Unit {0}) (step_value cx target op e) (ExpressionFits h last)
  unfolding step_value
  step_value_runs cx target op e = bind (assignment_runs h last cx target op e) (λ a. done (assigned_value a) (λ x. assigned_value_fits a x.1))

  condition_runs : (cx : Context) (o : Option Expr) → Reads h last cx (Unit {0}) (condition cx o) (ExpressionFits h last)
  condition_runs cx None = done (e.Push (constant.Int (pos 1))) (λ x. push_fits h last (constant.Int (pos 1)))
  condition_runs cx (Some e) = int_value_runs h last cx e

  -- ---- one level, where the statements in it fit

  module _ (stmt : Context → Stmt → Elab Statement)
      (reads : (cx : Context) (b : Stmt) → Reads h last cx (Unit {0}) (stmt cx b) (StatementFits h last cx.in_loop)) where
    statements_from_runs : (cx : Context) (ss : List Statement) (bs : List Stmt)
        → Reads h last cx (StatementsFit h last cx.in_loop ss) (statements_from stmt cx ss bs) (StatementsFit h last cx.in_loop)
    statements_from_runs cx ss [] = done ss (λ x. x)
    statements_from_runs cx ss (b ∷ bs) = bind (always (reads cx b)) (λ x.
        given (λ p. one_more_statement h last cx.in_loop ss x p.0 p.1) (statements_from_runs cx (ss ++ x ∷ []) bs))

    pub statements_runs : (cx : Context) (bs : List Stmt)
        → Reads h last cx (Unit {0}) (statements stmt cx bs) (StatementsFit h last cx.in_loop)
    unfolding statements
    statements_runs cx bs = given (λ x. none_fit h last cx.in_loop) (statements_from_runs cx [] bs)

    block_of_runs : (cx : Context) (bs : List Stmt)
        → Reads h last cx (Unit {0}) (block_of stmt cx bs) (StatementFits h last cx.in_loop)
    unfolding block_of
    block_of_runs cx bs = looking
        (λ t. statements stmt (inside cx (length t.locals)) bs >>= (λ xs. leave (length t.locals) >> pure (s.Block xs)))
        (λ t. bind (always (statements_runs (inside cx (length t.locals)) bs)) (λ xs.
        next (leave_runs h last cx (length t.locals)) (done (s.Block xs) (λ x. block_fits h last cx.in_loop xs x.1))))

    open_block_runs : (cx : Context) (line : ℕ) (bs : List Stmt)
        → Reads h last cx (Unit {0}) (open_block stmt cx line bs) (StatementFits h last cx.in_loop)
    unfolding open_block
    open_block_runs cx line bs = bind (statements_runs (at_line cx line) bs) (λ xs.
        done (s.AtLine line (s.Block xs)) (λ x. at_line_fits h last cx.in_loop line (s.Block xs) (block_fits h last cx.in_loop xs x.1)))

    body_by_runs : (cx : Context) (l : Layer) (b : Stmt)
        → Reads h last cx (Unit {0}) (body_by stmt l cx b) (StatementFits h last cx.in_loop)
    body_by_runs cx (StmtKind-F.Block ss) b = open_block_runs cx (out-Stmt b).line ss
    body_by_runs cx StmtKind-F.Empty b = reads cx b
    body_by_runs cx (StmtKind-F.Declare d) b = reads cx b
    body_by_runs cx (StmtKind-F.Assign target op e) b = reads cx b
    body_by_runs cx (StmtKind-F.Call e) b = reads cx b
    body_by_runs cx (StmtKind-F.Print xs) b = reads cx b
    body_by_runs cx (StmtKind-F.If c first other) b = reads cx b
    body_by_runs cx (StmtKind-F.While c x) b = reads cx b
    body_by_runs cx (StmtKind-F.For first c after x) b = reads cx b
    body_by_runs cx StmtKind-F.Break b = reads cx b
    body_by_runs cx StmtKind-F.Continue b = reads cx b
    body_by_runs cx (StmtKind-F.Par bs) b = reads cx b
    body_by_runs cx (StmtKind-F.ParFor name start c after x) b = reads cx b
    body_by_runs cx (StmtKind-F.Spawn e) b = reads cx b
    body_by_runs cx (StmtKind-F.Return e) b = reads cx b

    body_runs : (cx : Context) (b : Stmt) → Reads h last cx (Unit {0}) (body stmt cx b) (StatementFits h last cx.in_loop)
    unfolding body
    body_runs cx b = body_by_runs cx (out-StmtKind (out-Stmt b).kind) b

    -- ---- choices and loops

    if_only_runs : (cx : Context) (c : Expr) (b : Stmt)
        → Reads h last cx (Unit {0}) (if_only stmt cx c b) (StatementFits h last cx.in_loop)
    unfolding if_only
    if_only_runs cx c b = bind (int_value_runs h last cx c) (λ t. bind (always (reads cx b)) (λ x.
        done (s.If t x) (λ p. if_fits h last cx.in_loop t x p.0.1 p.1)))

    both_runs : (cx : Context) (a b : Stmt) → Reads h last cx (Unit {0}) (both stmt cx a b) (BothFit cx.in_loop cx.in_loop)
    unfolding both
    both_runs cx a b = bind (reads cx a) (λ x. bind (always (reads cx b)) (λ y. done (x, y) (λ p. (p.0.1, p.1))))

    if_else_runs : (cx : Context) (c : Expr) (a b : Stmt)
        → Reads h last cx (Unit {0}) (if_else stmt cx c a b) (StatementFits h last cx.in_loop)
    unfolding if_else
    if_else_runs cx c a b = bind (int_value_runs h last cx c) (λ t. bind (always (both_runs cx a b)) (λ q.
        done (s.IfElse t q.0 q.1) (λ p. if_else_fits h last cx.in_loop t q.0 q.1 p.0.1 p.1.0 p.1.1)))

    choice_runs : (cx : Context) (c : Expr) (a : Stmt) (o : Option Stmt)
        → Reads h last cx (Unit {0}) (choice stmt cx c a o) (StatementFits h last cx.in_loop)
    choice_runs cx c a None = if_only_runs cx c a
    choice_runs cx c a (Some b) = if_else_runs cx c a b

    repeated_runs : (cx : Context) (c : Expr) (b : Stmt)
        → Reads h last cx (Unit {0}) (repeated stmt cx c b) (StatementFits h last cx.in_loop)
    unfolding repeated
    repeated_runs cx c b = bind (int_value_runs h last cx c) (λ t. bind (always (reads (repeating cx) b)) (λ x.
        done (s.While t x) (λ p. while_fits h last cx.in_loop t x p.0.1 p.1)))

    step_runs : (cx : Context) (o : Option Stmt) → Reads h last cx (Unit {0}) (step stmt cx o) (StatementFits h last cx.in_loop)
    step_runs cx None = done s.Empty (λ x. empty_fits h last cx.in_loop)
    step_runs cx (Some b) = reads cx b

    turn_runs : (cx : Context) (o : Option Stmt) (b : Stmt) → Reads h last cx (Unit {0}) (turn stmt cx o b) (BothFit false true)
    unfolding turn
    turn_runs cx o b = bind (step_runs (between cx) o) (λ x. bind (always (body_runs (repeating cx) b)) (λ y.
        done (x, y) (λ p. (p.0.1, p.1))))

    counted_runs : (cx : Context) (c : Option Expr) (o : Option Stmt) (b : Stmt)
        → Reads h last cx (Unit {0}) (counted stmt cx c o b) (StatementFits h last cx.in_loop)
    unfolding counted
    counted_runs cx c o b = bind (condition_runs cx c) (λ t. bind (always (turn_runs cx o b)) (λ q.
        done (s.For t q.0 q.1) (λ p. for_fits h last cx.in_loop t q.0 q.1 p.0.1 p.1.0 p.1.1)))

    headed_runs : (cx : Context) (first : List Stmt) (c : Option Expr) (o : Option Stmt) (b : Stmt)
        → Reads h last cx (Unit {0}) (headed stmt cx first c o b) (StatementFits h last cx.in_loop)
    unfolding headed
    headed_runs cx first c o b = bind (statements_runs cx first) (λ xs. bind (always (counted_runs cx c o b)) (λ x.
        done (s.Block (xs ++ x ∷ [])) (λ p. block_fits h last cx.in_loop (xs ++ x ∷ []) (one_more_statement h last cx.in_loop xs x p.0.1 p.1))))

    loop_of_runs : (cx : Context) (first : List Stmt) (c : Option Expr) (o : Option Stmt) (b : Stmt)
        → Reads h last cx (Unit {0}) (loop_of stmt cx first c o b) (StatementFits h last cx.in_loop)
    unfolding loop_of
    loop_of_runs cx first c o b = looking
        (λ t. headed stmt (inside cx (length t.locals)) first c o b >>= (λ x. leave (length t.locals) >> pure x))
        (λ t. bind (always (headed_runs (inside cx (length t.locals)) first c o b)) (λ x.
        next (leave_runs h last cx (length t.locals)) (done x (λ p. p.1))))

    -- ---- parallel parts

    part_runs : (cx : Context) (b : Stmt) → Reads h last cx (Unit {0}) (part stmt cx b) (StatementFits h last false)
    part_runs cx b = looking (λ t. stmt (branch cx (length t.locals)) b) (λ t. always (reads (branch cx (length t.locals)) b))

    parts_from_runs : (cx : Context) (ss : List Statement) (bs : List Stmt)
        → Reads h last cx (StatementsFit h last false ss) (parts_from stmt cx ss bs) (StatementsFit h last false)
    parts_from_runs cx ss [] = done ss (λ x. x)
    parts_from_runs cx ss (b ∷ bs) = bind (always (part_runs cx b)) (λ x.
        given (λ p. one_more_statement h last false ss x p.0 p.1) (parts_from_runs cx (ss ++ x ∷ []) bs))

    parts_runs : (cx : Context) (bs : List Stmt) → Reads h last cx (Unit {0}) (parts stmt cx bs) (StatementsFit h last false)
    unfolding parts
    parts_runs cx bs = given (λ x. none_fit h last false) (parts_from_runs cx [] bs)

    par_runs : (cx : Context) (bs : List Stmt) → Reads h last cx (Unit {0}) (par stmt cx bs) (StatementFits h last cx.in_loop)
    unfolding par
    par_runs cx bs = next (block_runs h last cx cx.line) (bind (parts_runs cx bs) (λ xs. done (s.Par xs) (λ x. par_fits h last cx.in_loop xs x.1)))

    no_step_runs : (cx : Context) (b : Stmt) → Reads h last cx (Unit {0}) (no_step stmt cx b) (ExpressionFits h last)
    unfolding no_step
    no_step_runs cx b = next (reads cx b) (next (note_rule_runs h last cx _) (done _ (λ x. no_value_fits h last)))

    step_if_runs : (cx : Context) (i : Bool) (b : Stmt) (target : Expr) (op : AssignOp) (e : Expr)
        → Reads h last cx (Unit {0}) (step_if stmt i cx b target op e) (ExpressionFits h last)
    step_if_runs cx true b target op e = step_value_runs (at_line cx (out-Stmt b).line) target op e
    step_if_runs cx false b target op e = no_step_runs cx b

    header_step_by_runs : (cx : Context) (l : Layer) (name : Name) (b : Stmt)
        → Reads h last cx (Unit {0}) (header_step_by stmt l cx name b) (ExpressionFits h last)
    header_step_by_runs cx (StmtKind-F.Assign target op e) name b = step_if_runs cx (names target name) b target op e
    header_step_by_runs cx (StmtKind-F.Block ss) name b = no_step_runs cx b
    header_step_by_runs cx StmtKind-F.Empty name b = no_step_runs cx b
    header_step_by_runs cx (StmtKind-F.Declare d) name b = no_step_runs cx b
    header_step_by_runs cx (StmtKind-F.Call e) name b = no_step_runs cx b
    header_step_by_runs cx (StmtKind-F.Print xs) name b = no_step_runs cx b
    header_step_by_runs cx (StmtKind-F.If c first other) name b = no_step_runs cx b
    header_step_by_runs cx (StmtKind-F.While c x) name b = no_step_runs cx b
    header_step_by_runs cx (StmtKind-F.For first c after x) name b = no_step_runs cx b
    header_step_by_runs cx StmtKind-F.Break name b = no_step_runs cx b
    header_step_by_runs cx StmtKind-F.Continue name b = no_step_runs cx b
    header_step_by_runs cx (StmtKind-F.Par bs) name b = no_step_runs cx b
    header_step_by_runs cx (StmtKind-F.ParFor text start c after x) name b = no_step_runs cx b
    header_step_by_runs cx (StmtKind-F.Spawn e) name b = no_step_runs cx b
    header_step_by_runs cx (StmtKind-F.Return e) name b = no_step_runs cx b

    header_step_runs : (cx : Context) (name : Name) (b : Stmt)
        → Reads h last cx (Unit {0}) (header_step stmt cx name b) (ExpressionFits h last)
    unfolding header_step
    header_step_runs cx name b = header_step_by_runs cx (out-StmtKind (out-Stmt b).kind) name b

    header_rest_runs : (cx : Context) (name : Name) (k : ℕ) (start : Expression) (c : Expr) (b : Stmt)
        → Reads h last cx ((k < length last.made) × ExpressionFits h last start) (header_rest stmt cx name k start c b) (λ x. HeaderFits x.variable x.start x.test x.value)
    unfolding header_rest
    header_rest_runs cx name k start c b = bind (always (int_value_runs h last cx c)) (λ t. bind (always (header_step_runs cx name b)) (λ v.
        done (record { variable = k; start = start; test = t; line = (out-Stmt b).line; value = v }) (λ p. (p.0.0.0, p.0.0.1, p.0.1, p.1))))

    header_runs : (cx : Context) (name : Name) (start c : Expr) (b : Stmt)
        → Reads h last cx (Unit {0}) (header stmt cx name start c b) (λ x. HeaderFits x.variable x.start x.test x.value)
    unfolding header
    header_runs cx name start c b = bind (int_value_runs h last cx start) (λ a. bind (declare_runs h last cx name plain_int (λ x. tt)) (λ k.
        given (λ x. (x.1, x.0.1)) (header_rest_runs cx name k a c b)))

    copied_runs : (cx : Context) (name : Name) (k : ℕ) (b : Stmt)
        → Reads h last cx (k < length last.made) (copied stmt cx name k b) (StatementFits h last cx.in_loop)
    unfolding copied
    copied_runs cx name k b = next (bring_runs h last cx name k plain_int (λ x. x) (λ x. tt)) (always (body_runs cx b))

    each_runs : (cx : Context) (name : Name) (k : ℕ) (b : Stmt)
        → Reads h last cx (k < length last.made) (each stmt cx name k b) (StatementFits h last false)
    each_runs cx name k b = looking (λ t. copied stmt (branch cx (length t.locals)) name k b) (λ t.
        given (λ x. x.0) (copied_runs (branch cx (length t.locals)) name k b))

    iterated_runs : (cx : Context) (name : Name) (start c : Expr) (after b : Stmt)
        → Reads h last cx (Unit {0}) (iterated stmt cx name start c after b) (StatementFits h last cx.in_loop)
    unfolding iterated
    iterated_runs cx name start c after b = bind (header_runs cx name start c after) (λ x.
        bind (given (λ p. p.1.0) (each_runs cx name x.variable b)) (λ y.
        done (s.ParFor x.variable x.start x.test x.line x.value y) (λ p.
        parfor_fits h last cx.in_loop x.variable x.start x.test x.line x.value y p.0.1.0 p.0.1.1 p.0.1.2 p.0.1.3 p.1)))

    parfor_runs : (cx : Context) (name : Name) (start c : Expr) (after b : Stmt)
        → Reads h last cx (Unit {0}) (parfor stmt cx name start c after b) (StatementFits h last cx.in_loop)
    unfolding parfor
    parfor_runs cx name start c after b = looking
        (λ t. block cx.line >> (iterated stmt (inside cx (length t.locals)) name start c after b >>= (λ x. leave (length t.locals) >> pure x)))
        (λ t. next (block_runs h last cx cx.line) (bind (always (iterated_runs (inside cx (length t.locals)) name start c after b)) (λ x.
        next (leave_runs h last cx (length t.locals)) (done x (λ p. p.1)))))

    -- ---- each statement

    kind_runs : (cx : Context) (l : Layer) → Reads h last cx (Unit {0}) (kind stmt l cx) (StatementFits h last cx.in_loop)
    kind_runs cx (StmtKind-F.Block ss) = block_of_runs cx ss
    kind_runs cx StmtKind-F.Empty = done s.Empty (λ x. empty_fits h last cx.in_loop)
    kind_runs cx (StmtKind-F.Declare d) = declaration_runs h last cx d
    kind_runs cx (StmtKind-F.Assign target op e) = assign_runs h last cx target op e
    kind_runs cx (StmtKind-F.Call e) = call_statement_runs h last cx e
    kind_runs cx (StmtKind-F.Print xs) = print_runs h last cx xs
    kind_runs cx (StmtKind-F.If c first other) = choice_runs cx c first other
    kind_runs cx (StmtKind-F.While c b) = repeated_runs cx c b
    kind_runs cx (StmtKind-F.For first c after b) = loop_of_runs cx first c after b
    kind_runs cx StmtKind-F.Break = jump_runs h last cx s.Break (break_fits h last cx.in_loop)
    kind_runs cx StmtKind-F.Continue = jump_runs h last cx s.Continue (continue_fits h last cx.in_loop)
    kind_runs cx (StmtKind-F.Par bs) = par_runs cx bs
    kind_runs cx (StmtKind-F.ParFor name start c after b) = parfor_runs cx name start c after b
    kind_runs cx (StmtKind-F.Spawn e) = spawn_runs h last cx e
    kind_runs cx (StmtKind-F.Return e) = give_runs h last cx e

    kind_of_runs : (cx : Context) (k : StmtKind) → Reads h last cx (Unit {0}) (kind_of stmt cx k) (StatementFits h last cx.in_loop)
    unfolding kind_of
    kind_of_runs cx k = kind_runs cx (out-StmtKind k)

    node_runs : (cx : Context) (b : Stmt) → Reads h last cx (Unit {0}) (node stmt cx b) (StatementFits h last cx.in_loop)
    unfolding node
    node_runs cx b = bind (kind_of_runs (at_line cx (out-Stmt b).line) (out-Stmt b).kind) (λ x.
        done (s.AtLine (out-Stmt b).line x) (λ p. at_line_fits h last cx.in_loop (out-Stmt b).line x p.1))

  -- ---- each depth

  statement_to_runs : (depth : ℕ) (cx : Context) (b : Stmt)
      → Reads h last cx (Unit {0}) (statement_to depth cx b) (StatementFits h last cx.in_loop)
  unfolding statement_to
  statement_to_runs zero cx b = next (note_rule_runs h last cx _) (done s.Empty (λ x. empty_fits h last cx.in_loop))
  statement_to_runs (suc depth) cx b = node_runs (statement_to depth) (statement_to_runs depth) cx b

  pub statement_runs : (cx : Context) (b : Stmt) → Reads h last cx (Unit {0}) (statement cx b) (StatementFits h last cx.in_loop)
  statement_runs cx b = statement_to_runs 1000 cx b

  pub function_body_runs : (cx : Context) (bs : List Stmt)
      → Reads h last cx (Unit {0}) (function_body cx bs) (StatementsFit h last cx.in_loop)
  function_body_runs cx bs = statements_runs statement statement_runs cx bs
