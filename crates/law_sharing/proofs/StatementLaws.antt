-- Statements: what they break by where they stand is what the tree says.
use Rattle.std.proofs.Common.{◌≡◌, ℕ, zero, suc, Bool, true, false, not, ◌&&◌, List, [], ◌∷◌, ◌++◌, length, Option, Some, None, refl, sym, subst}
use Rattle.cc_core.specs.declared.expression.Constant.TheVariants as constant
use Rattle.std.specs.Prelude.{pos}
use Rattle.cc_core.specs.declared.expression.Expression.{Expression}
use Rattle.cc_core.specs.declared.expression.Expression.TheVariants as e
use Rattle.cc_core.specs.declared.statement.Statement.{Statement}
use Rattle.cc_core.specs.declared.statement.Statement.TheVariants as s
use Rattle.cc_elaboration.specs.Simple.{no_value, print}
use Rattle.cc_elaboration.specs.Statements.{inside, branch, repeating, between, at_line, plain_int, assigned_value, names, step_value, condition}
use Rattle.cc_elaboration.specs.Statements.{statements_from, statements, block_of, open_block}
use Rattle.cc_elaboration.specs.Statements as elaborated
use Rattle.cc_elaboration.specs.Statements.{if_only, both, if_else, repeated, step, turn, counted, headed, loop_of, part, parts_from, parts, par}
use Rattle.cc_elaboration.specs.Statements.{no_step, step_if}
use Rattle.cc_elaboration.specs.Statements.{header_step_by, header_step, header_rest, header, copied, iterated, parfor, kind_of, node, too_deep}
use Rattle.cc_elaboration.specs.Statements.{function_body}
use Rattle.cc_names.specs.Table.{Name}
use Rattle.cc_scopes.specs.declared.sharing.Share.{Share}
use Rattle.cc_scopes.specs.Elab.{Elab, ◌>>=◌, ◌>>◌, pure, block, leave}
use Rattle.cc_scopes.specs.Scope.{Context}
use Rattle.cc_tree.specs.declared.expressions.Expr.{Expr}
use Rattle.cc_tree.specs.declared.statements.AssignOp.{AssignOp}
use Rattle.cc_tree.specs.declared.statements.Stmt.{Stmt, out-Stmt}
use Rattle.cc_tree.specs.declared.statements.StmtKind.{StmtKind, out-StmtKind}
use Rattle.cc_tree.specs.declared.statements.StmtKind.TheOpen.{StmtKind-F}
use Rattle.law_sharing.specs.Placed.{Layer, layer, print_share, each, body_by, body, choice, optional, unless_assigned, kind}
use Rattle.law_sharing.specs.Placed as placed
use Rattle.law_sharing.proofs.Leaves.{next, done}
use Rattle.law_sharing.proofs.Adds.{Adds, leaves_adds, bind_a, skip, skip_n, last, last_n, done_a, looking_a, block_a, leave_a, bring_a, declare_a}
use Rattle.law_sharing.proofs.ScopeLaws.{note_rule_leaves}
use Rattle.law_sharing.proofs.SimpleLaws.{assignment_a, assign_a, declaration_a, int_value_leaves, call_statement_leaves, spawn_leaves, print_a}
use Rattle.law_sharing.proofs.SimpleLaws.{give_leaves, jump_leaves}

-- an assignment
abbrev IsAssignment : Stmt → Type 0
IsAssignment b = (target : Expr) × (op : AssignOp) × (e : Expr) × (layer b ≡ StmtKind-F.Assign target op e)

step_value_a : (cx : Context) (target : Expr) (op : AssignOp) (e : Expr) → Adds [] (step_value cx target op e)
unfolding step_value
step_value_a cx target op e = skip (assignment_a cx target op e) (λ a. done_a (assigned_value a))

condition_a : (cx : Context) (o : Option Expr) → Adds [] (condition cx o)
condition_a cx None = done_a (e.Push (constant.Int (pos 1)))
condition_a cx (Some e) = leaves_adds (int_value_leaves cx e)

-- ---- one level, where the statements in it add what the tree says

module _ (main : Bool) (stmt : Context → Stmt → Elab Statement) (said : (branch : Bool) → Stmt → List Share)
    (reads : (cx : Context) → cx.in_main ≡ main → (b : Stmt) → Adds (said cx.in_branch b) (stmt cx b))
    (plain : (cx : Context) (b : Stmt) → IsAssignment b → Adds [] (stmt cx b)) where
  statements_from_a : (cx : Context) → cx.in_main ≡ main → (ss : List Statement) (bs : List Stmt)
      → Adds (each main said cx.in_branch bs) (statements_from stmt cx ss bs)
  statements_from_a cx is ss [] = done_a ss
  statements_from_a cx is ss (b ∷ bs) = bind_a (reads cx is b) (λ x. statements_from_a cx is (ss ++ x ∷ []) bs)

  pub statements_a : (cx : Context) → cx.in_main ≡ main → (bs : List Stmt) → Adds (each main said cx.in_branch bs) (statements stmt cx bs)
  unfolding statements
  statements_a cx is bs = statements_from_a cx is [] bs

  block_of_a : (cx : Context) → cx.in_main ≡ main → (bs : List Stmt) → Adds (each main said cx.in_branch bs) (block_of stmt cx bs)
  unfolding block_of
  block_of_a cx is bs = looking_a
      (λ t. statements stmt (inside cx (length t.locals)) bs >>= (λ xs. leave (length t.locals) >> pure (s.Block xs)))
      (λ t. last (statements_a (inside cx (length t.locals)) is bs) (λ xs. skip_n (leave_a (length t.locals)) (done_a (s.Block xs))))

  open_block_a : (cx : Context) → cx.in_main ≡ main → (line : ℕ) (bs : List Stmt) → Adds (each main said cx.in_branch bs) (open_block stmt cx line bs)
  unfolding open_block
  open_block_a cx is line bs = last (statements_a (at_line cx line) is bs) (λ xs. done_a (s.AtLine line (s.Block xs)))

  body_by_a : (cx : Context) → cx.in_main ≡ main → (l : Layer) (b : Stmt) → Adds (body_by main said l cx.in_branch b) (elaborated.body_by stmt l cx b)
  body_by_a cx is (StmtKind-F.Block ss) b = open_block_a cx is (out-Stmt b).line ss
  body_by_a cx is StmtKind-F.Empty b = reads cx is b
  body_by_a cx is (StmtKind-F.Declare d) b = reads cx is b
  body_by_a cx is (StmtKind-F.Assign target op e) b = reads cx is b
  body_by_a cx is (StmtKind-F.Call e) b = reads cx is b
  body_by_a cx is (StmtKind-F.Print xs) b = reads cx is b
  body_by_a cx is (StmtKind-F.If c first other) b = reads cx is b
  body_by_a cx is (StmtKind-F.While c x) b = reads cx is b
  body_by_a cx is (StmtKind-F.For first c after x) b = reads cx is b
  body_by_a cx is StmtKind-F.Break b = reads cx is b
  body_by_a cx is StmtKind-F.Continue b = reads cx is b
  body_by_a cx is (StmtKind-F.Par bs) b = reads cx is b
  body_by_a cx is (StmtKind-F.ParFor text start c after x) b = reads cx is b
  body_by_a cx is (StmtKind-F.Spawn e) b = reads cx is b
  body_by_a cx is (StmtKind-F.Return e) b = reads cx is b

  body_a : (cx : Context) → cx.in_main ≡ main → (b : Stmt) → Adds (body main said cx.in_branch b) (elaborated.body stmt cx b)
  unfolding elaborated.body
  body_a cx is b = body_by_a cx is (layer b) b

  -- ---- choices and loops

  if_only_a : (cx : Context) → cx.in_main ≡ main → (c : Expr) (b : Stmt) → Adds (said cx.in_branch b) (if_only stmt cx c b)
  unfolding if_only
  if_only_a cx is c b = skip (leaves_adds (int_value_leaves cx c)) (λ t. last (reads cx is b) (λ x. done_a (s.If t x)))

  both_a : (cx : Context) → cx.in_main ≡ main → (a b : Stmt) → Adds (said cx.in_branch a ++ said cx.in_branch b) (both stmt cx a b)
  unfolding both
  both_a cx is a b = bind_a (reads cx is a) (λ x. last (reads cx is b) (λ y. done_a (x, y)))

  if_else_a : (cx : Context) → cx.in_main ≡ main → (c : Expr) (a b : Stmt) → Adds (said cx.in_branch a ++ said cx.in_branch b) (if_else stmt cx c a b)
  unfolding if_else
  if_else_a cx is c a b = skip (leaves_adds (int_value_leaves cx c)) (λ t. last (both_a cx is a b) (λ q. done_a (s.IfElse t q.0 q.1)))

  choice_a : (cx : Context) → cx.in_main ≡ main → (c : Expr) (a : Stmt) (o : Option Stmt)
      → Adds (choice main said cx.in_branch a o) (elaborated.choice stmt cx c a o)
  choice_a cx is c a None = if_only_a cx is c a
  choice_a cx is c a (Some b) = if_else_a cx is c a b

  repeated_a : (cx : Context) → cx.in_main ≡ main → (c : Expr) (b : Stmt) → Adds (said cx.in_branch b) (repeated stmt cx c b)
  unfolding repeated
  repeated_a cx is c b = skip (leaves_adds (int_value_leaves cx c)) (λ t. last (reads (repeating cx) is b) (λ x. done_a (s.While t x)))

  step_a : (cx : Context) → cx.in_main ≡ main → (o : Option Stmt) → Adds (optional main said cx.in_branch o) (step stmt cx o)
  step_a cx is None = done_a s.Empty
  step_a cx is (Some b) = reads cx is b

  turn_a : (cx : Context) → cx.in_main ≡ main → (o : Option Stmt) (b : Stmt)
      → Adds (optional main said cx.in_branch o ++ body main said cx.in_branch b) (turn stmt cx o b)
  unfolding turn
  turn_a cx is o b = bind_a (step_a (between cx) is o) (λ x. last (body_a (repeating cx) is b) (λ y. done_a (x, y)))

  counted_a : (cx : Context) → cx.in_main ≡ main → (c : Option Expr) (o : Option Stmt) (b : Stmt)
      → Adds (optional main said cx.in_branch o ++ body main said cx.in_branch b) (counted stmt cx c o b)
  unfolding counted
  counted_a cx is c o b = skip (condition_a cx c) (λ t. last (turn_a cx is o b) (λ q. done_a (s.For t q.0 q.1)))

  headed_a : (cx : Context) → cx.in_main ≡ main → (first : List Stmt) (c : Option Expr) (o : Option Stmt) (b : Stmt)
      → Adds (each main said cx.in_branch first ++ (optional main said cx.in_branch o ++ body main said cx.in_branch b)) (headed stmt cx first c o b)
  unfolding headed
  headed_a cx is first c o b = bind_a (statements_a cx is first) (λ xs. last (counted_a cx is c o b) (λ x. done_a (s.Block (xs ++ x ∷ []))))

  loop_of_a : (cx : Context) → cx.in_main ≡ main → (first : List Stmt) (c : Option Expr) (o : Option Stmt) (b : Stmt)
      → Adds (each main said cx.in_branch first ++ (optional main said cx.in_branch o ++ body main said cx.in_branch b)) (loop_of stmt cx first c o b)
  unfolding loop_of
  loop_of_a cx is first c o b = looking_a
      (λ t. headed stmt (inside cx (length t.locals)) first c o b >>= (λ x. leave (length t.locals) >> pure x))
      (λ t. last (headed_a (inside cx (length t.locals)) is first c o b) (λ x. skip_n (leave_a (length t.locals)) (done_a x)))

  -- ---- parallel parts

  part_a : (cx : Context) → cx.in_main ≡ main → (b : Stmt) → Adds (said true b) (part stmt cx b)
  part_a cx is b = looking_a (λ t. stmt (branch cx (length t.locals)) b) (λ t. reads (branch cx (length t.locals)) is b)

  parts_from_a : (cx : Context) → cx.in_main ≡ main → (ss : List Statement) (bs : List Stmt)
      → Adds (each main said true bs) (parts_from stmt cx ss bs)
  parts_from_a cx is ss [] = done_a ss
  parts_from_a cx is ss (b ∷ bs) = bind_a (part_a cx is b) (λ x. parts_from_a cx is (ss ++ x ∷ []) bs)

  parts_a : (cx : Context) → cx.in_main ≡ main → (bs : List Stmt) → Adds (each main said true bs) (parts stmt cx bs)
  unfolding parts
  parts_a cx is bs = parts_from_a cx is [] bs

  par_a : (cx : Context) → cx.in_main ≡ main → (bs : List Stmt) → Adds (each main said true bs) (par stmt cx bs)
  unfolding par
  par_a cx is bs = skip_n (block_a cx.line) (last (parts_a cx is bs) (λ xs. done_a (s.Par xs)))

  no_step_a : (cx : Context) → cx.in_main ≡ main → (b : Stmt) → Adds (said cx.in_branch b) (no_step stmt cx b)
  unfolding no_step
  no_step_a cx is b = last_n (reads cx is b) (leaves_adds (next (note_rule_leaves cx _) (done no_value)))

  no_plain_step_a : (cx : Context) (b : Stmt) → IsAssignment b → Adds [] (no_step stmt cx b)
  unfolding no_step
  no_plain_step_a cx b assigns = skip_n (plain cx b assigns) (leaves_adds (next (note_rule_leaves cx _) (done no_value)))

  step_if_a : (cx : Context) (i : Bool) (b : Stmt) (target : Expr) (op : AssignOp) (e : Expr) → IsAssignment b
      → Adds [] (step_if stmt i cx b target op e)
  step_if_a cx true b target op e assigns = step_value_a (at_line cx (out-Stmt b).line) target op e
  step_if_a cx false b target op e assigns = no_plain_step_a cx b assigns

  header_step_by_a : (cx : Context) → cx.in_main ≡ main → (l : Layer) (name : Name) (b : Stmt) → layer b ≡ l
      → Adds (unless_assigned main said l cx.in_branch b) (header_step_by stmt l cx name b)
  header_step_by_a cx is (StmtKind-F.Assign target op e) name b has = step_if_a cx (names target name) b target op e (target, op, e, has)
  header_step_by_a cx is (StmtKind-F.Block ss) name b has = no_step_a cx is b
  header_step_by_a cx is StmtKind-F.Empty name b has = no_step_a cx is b
  header_step_by_a cx is (StmtKind-F.Declare d) name b has = no_step_a cx is b
  header_step_by_a cx is (StmtKind-F.Call e) name b has = no_step_a cx is b
  header_step_by_a cx is (StmtKind-F.Print xs) name b has = no_step_a cx is b
  header_step_by_a cx is (StmtKind-F.If c first other) name b has = no_step_a cx is b
  header_step_by_a cx is (StmtKind-F.While c x) name b has = no_step_a cx is b
  header_step_by_a cx is (StmtKind-F.For first c after x) name b has = no_step_a cx is b
  header_step_by_a cx is StmtKind-F.Break name b has = no_step_a cx is b
  header_step_by_a cx is StmtKind-F.Continue name b has = no_step_a cx is b
  header_step_by_a cx is (StmtKind-F.Par bs) name b has = no_step_a cx is b
  header_step_by_a cx is (StmtKind-F.ParFor text start c after x) name b has = no_step_a cx is b
  header_step_by_a cx is (StmtKind-F.Spawn e) name b has = no_step_a cx is b
  header_step_by_a cx is (StmtKind-F.Return e) name b has = no_step_a cx is b

  header_step_a : (cx : Context) → cx.in_main ≡ main → (name : Name) (b : Stmt)
      → Adds (unless_assigned main said (layer b) cx.in_branch b) (header_step stmt cx name b)
  unfolding header_step
  header_step_a cx is name b = header_step_by_a cx is (layer b) name b refl

  header_rest_a : (cx : Context) → cx.in_main ≡ main → (name : Name) (k : ℕ) (start : Expression) (c : Expr) (b : Stmt)
      → Adds (unless_assigned main said (layer b) cx.in_branch b) (header_rest stmt cx name k start c b)
  unfolding header_rest
  header_rest_a cx is name k start c b = skip (leaves_adds (int_value_leaves cx c)) (λ t. last (header_step_a cx is name b) (λ v.
      done_a (record { variable = k; start = start; test = t; line = (out-Stmt b).line; value = v })))

  header_a : (cx : Context) → cx.in_main ≡ main → (name : Name) (start c : Expr) (b : Stmt)
      → Adds (unless_assigned main said (layer b) cx.in_branch b) (header stmt cx name start c b)
  unfolding header
  header_a cx is name start c b = skip (leaves_adds (int_value_leaves cx start)) (λ a. skip (declare_a cx name plain_int) (λ k.
      header_rest_a cx is name k a c b))

  copied_a : (cx : Context) → cx.in_main ≡ main → (name : Name) (k : ℕ) (b : Stmt) → Adds (body main said cx.in_branch b) (copied stmt cx name k b)
  unfolding copied
  copied_a cx is name k b = skip_n (bring_a cx name k plain_int) (body_a cx is b)

  each_a : (cx : Context) → cx.in_main ≡ main → (name : Name) (k : ℕ) (b : Stmt) → Adds (body main said true b) (elaborated.each stmt cx name k b)
  each_a cx is name k b =
      looking_a (λ t. copied stmt (branch cx (length t.locals)) name k b) (λ t. copied_a (branch cx (length t.locals)) is name k b)

  iterated_a : (cx : Context) → cx.in_main ≡ main → (name : Name) (start c : Expr) (after b : Stmt)
      → Adds (unless_assigned main said (layer after) cx.in_branch after ++ body main said true b) (iterated stmt cx name start c after b)
  unfolding iterated
  iterated_a cx is name start c after b = bind_a (header_a cx is name start c after) (λ x. last (each_a cx is name x.variable b) (λ y.
      done_a (s.ParFor x.variable x.start x.test x.line x.value y)))

  parfor_a : (cx : Context) → cx.in_main ≡ main → (name : Name) (start c : Expr) (after b : Stmt)
      → Adds (unless_assigned main said (layer after) cx.in_branch after ++ body main said true b) (parfor stmt cx name start c after b)
  unfolding parfor
  parfor_a cx is name start c after b = looking_a
      (λ t. block cx.line >> (iterated stmt (inside cx (length t.locals)) name start c after b >>= (λ x. leave (length t.locals) >> pure x)))
      (λ t. skip_n (block_a cx.line) (last (iterated_a (inside cx (length t.locals)) is name start c after b) (λ x.
      skip_n (leave_a (length t.locals)) (done_a x))))

  -- ---- each statement

  printed_a : (cx : Context) → cx.in_main ≡ main → (xs : List _) → Adds (print_share (main && not cx.in_branch) cx.line) (print cx xs)
  printed_a cx is xs = subst (λ m. Adds (print_share (m && not cx.in_branch) cx.line) (print cx xs)) is (print_a cx xs)

  kind_a : (cx : Context) → cx.in_main ≡ main → (l : Layer) → Adds (kind main said l cx.line cx.in_branch) (elaborated.kind stmt l cx)
  kind_a cx is (StmtKind-F.Block ss) = block_of_a cx is ss
  kind_a cx is StmtKind-F.Empty = done_a s.Empty
  kind_a cx is (StmtKind-F.Declare d) = declaration_a cx d
  kind_a cx is (StmtKind-F.Assign target op e) = assign_a cx target op e
  kind_a cx is (StmtKind-F.Call e) = leaves_adds (call_statement_leaves cx e)
  kind_a cx is (StmtKind-F.Print xs) = printed_a cx is xs
  kind_a cx is (StmtKind-F.If c first other) = choice_a cx is c first other
  kind_a cx is (StmtKind-F.While c b) = repeated_a cx is c b
  kind_a cx is (StmtKind-F.For first c after b) = loop_of_a cx is first c after b
  kind_a cx is StmtKind-F.Break = leaves_adds (jump_leaves cx s.Break)
  kind_a cx is StmtKind-F.Continue = leaves_adds (jump_leaves cx s.Continue)
  kind_a cx is (StmtKind-F.Par bs) = par_a cx is bs
  kind_a cx is (StmtKind-F.ParFor name start c after b) = parfor_a cx is name start c after b
  kind_a cx is (StmtKind-F.Spawn e) = leaves_adds (spawn_leaves cx e)
  kind_a cx is (StmtKind-F.Return e) = leaves_adds (give_leaves cx e)

  kind_of_a : (cx : Context) → cx.in_main ≡ main → (k : StmtKind) → Adds (kind main said (out-StmtKind k) cx.line cx.in_branch) (kind_of stmt cx k)
  unfolding kind_of
  kind_of_a cx is k = kind_a cx is (out-StmtKind k)

  node_a : (cx : Context) → cx.in_main ≡ main → (b : Stmt) → Adds (kind main said (layer b) (out-Stmt b).line cx.in_branch) (node stmt cx b)
  unfolding node
  node_a cx is b = last (kind_of_a (at_line cx (out-Stmt b).line) is (out-Stmt b).kind) (λ x. done_a (s.AtLine (out-Stmt b).line x))

-- ---- each depth

plain_node : (stmt : Context → Stmt → Elab Statement) (cx : Context) (b : Stmt) → IsAssignment b → Adds [] (node stmt cx b)
unfolding node kind_of
plain_node stmt cx b (target, op, e, is) = last
    (subst (λ l. Adds [] (elaborated.kind stmt l (at_line cx (out-Stmt b).line))) (sym is) (assign_a (at_line cx (out-Stmt b).line) target op e))
    (λ x. done_a (s.AtLine (out-Stmt b).line x))

too_deep_a : (cx : Context) → Adds [] (too_deep cx)
too_deep_a cx = leaves_adds (next (note_rule_leaves cx _) (done s.Empty))

plain_to : (depth : ℕ) (cx : Context) (b : Stmt) → IsAssignment b → Adds [] (elaborated.statement_to depth cx b)
unfolding elaborated.statement_to
plain_to zero cx b assigns = too_deep_a cx
plain_to (suc depth) cx b assigns = plain_node (elaborated.statement_to depth) cx b assigns

statement_to_a : (main : Bool) (depth : ℕ) (cx : Context) → cx.in_main ≡ main → (b : Stmt)
    → Adds (placed.statement_to depth main cx.in_branch b) (elaborated.statement_to depth cx b)
unfolding elaborated.statement_to placed.statement_to
statement_to_a main zero cx is b = too_deep_a cx
statement_to_a main (suc depth) cx is b =
    node_a main (elaborated.statement_to depth) (placed.statement_to depth main) (statement_to_a main depth) (plain_to depth) cx is b

pub plain_a : (cx : Context) (b : Stmt) → IsAssignment b → Adds [] (elaborated.statement cx b)
plain_a cx b assigns = plain_to 1000 cx b assigns

pub statement_a : (main : Bool) (cx : Context) → cx.in_main ≡ main → (b : Stmt)
    → Adds (placed.statement main cx.in_branch b) (elaborated.statement cx b)
statement_a main cx is b = statement_to_a main 1000 cx is b

pub function_body_a : (main : Bool) (cx : Context) → cx.in_main ≡ main → (bs : List Stmt)
    → Adds (each main (placed.statement main) cx.in_branch bs) (function_body cx bs)
function_body_a main cx is bs = statements_a main elaborated.statement (placed.statement main) (statement_a main) plain_a cx is bs
