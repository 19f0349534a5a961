-- Each statement changes the scope as its marks say.
use Rattle.std.proofs.Common.{◌≡◌, ℕ, zero, suc, Bool, true, false, List, [], ◌∷◌, ◌++◌, length, Option, Some, None, refl, ap, ◌∙◌, subst}
use Rattle.cc_core.specs.declared.expression.Expression.{Expression}
use Rattle.cc_core.specs.declared.statement.Statement.{Statement}
use Rattle.cc_core.specs.declared.statement.Statement.TheVariants as s
use Rattle.cc_names.specs.Table.{Name}
use Rattle.cc_names.specs.declared.rule.StaticRule.TheVariants as r
use Rattle.cc_tree.specs.declared.expressions.Expr.{Expr}
use Rattle.cc_tree.specs.declared.statements.AssignOp.{AssignOp}
use Rattle.cc_tree.specs.declared.statements.Decl.{Decl}
use Rattle.cc_tree.specs.declared.statements.PrintItem.{PrintItem}
use Rattle.cc_tree.specs.declared.statements.PrintItem.TheVariants as item
use Rattle.cc_tree.specs.declared.statements.Start.{Start}
use Rattle.cc_tree.specs.declared.statements.Start.TheVariants as start
use Rattle.cc_tree.specs.declared.statements.Stmt.{Stmt, out-Stmt}
use Rattle.cc_tree.specs.declared.statements.StmtKind.TheOpen.{StmtKind-F}
use Rattle.cc_scopes.specs.declared.state.State.{State}
use Rattle.cc_scopes.specs.Elab.{Elab, ◌>>◌, block}
use Rattle.cc_scopes.specs.Scope.{Context, declare}
use Rattle.cc_declared.specs.declared.role.Role.TheVariants as role
use Rattle.cc_elaboration.specs.Declarations.{made, declaration}
use Rattle.cc_elaboration.specs.Statements as spec
use Rattle.cc_elaboration.specs.Simple.{no_value, int_value}
use Rattle.cc_elaboration.specs.Statements.{inside, branch, repeating, between, at_line, plain_int, names, assigned_value, step_value, condition}
use Rattle.cc_elaboration.specs.Statements.{statements_from, statements, block_of, open_block, body_by, body}
use Rattle.cc_elaboration.specs.Statements.{if_only, both, if_else, choice, repeated, step, turn, counted, headed, loop_of, part, parts_from, parts, par, no_step, step_if}
use Rattle.cc_elaboration.specs.Statements.{header_step_by, header_step, header_rest, header, copied, each, iterated, parfor, kind_of, node, statement_to, function_body}
use Rattle.law_scopes.specs.Uses.{names_to}
use Rattle.law_scopes.specs.Text.{Text, Declares, Copies, declarations, in_expr, in_some, in_all, in_start, declared, in_items, Layer, layer, Matches}
use Rattle.law_scopes.specs.Text.{in_each, in_maybe, in_body_by, in_body, in_step_if, in_step_by, in_step, in_counter, in_kind, marks_to}
use Rattle.law_scopes.proofs.LeavesLaws.{Leaves, bind_l, next_l, done_l, block_l, note_l, slot_l, assignment_l, assign_l, started_l}
use Rattle.law_scopes.proofs.LeavesLaws.{int_value_l, call_l, spawn_l, print_l, give_l, jump_l}
use Rattle.law_scopes.proofs.TextLaws.{Walks, more_extends, bind_w, next_w, done_w, gives_w, looking_w, leaves_w, copies_w, declare_w, declare_number, scoped_w}
use Rattle.law_scopes.proofs.TextLaws.{IsQuiet, quiet_w, quiet_both, quiet_uses, quiet_none}

-- ---- marks that only use names

quiet_expr : (e : Expr) → IsQuiet (in_expr e)
quiet_expr e = quiet_uses (names_to 1000 e)

quiet_some : (o : Option Expr) → IsQuiet (in_some o)
quiet_some None = quiet_none
quiet_some (Some e) = quiet_expr e

quiet_all : (es : List Expr) → IsQuiet (in_all es)
quiet_all [] = quiet_none
quiet_all (e ∷ es) = quiet_both (quiet_expr e) (quiet_all es)

quiet_start : (x : Start) → IsQuiet (in_start x)
quiet_start start.Nothing = quiet_none
quiet_start (start.Value e) = quiet_expr e
quiet_start (start.Args es) = quiet_all es

quiet_items : (xs : List PrintItem) → IsQuiet (in_items xs)
quiet_items [] = quiet_none
quiet_items (item.Value e ∷ xs) = quiet_both (quiet_expr e) (quiet_items xs)
quiet_items (item.Str bytes ∷ xs) = quiet_items xs
quiet_items (item.Endl ∷ xs) = quiet_items xs

step_value_l : (cx : Context) (target : Expr) (op : AssignOp) (e : Expr) → Leaves (step_value cx target op e)
unfolding step_value
step_value_l cx target op e = bind_l (assignment_l cx target op e) (λ a. done_l (assigned_value a))

-- ---- statements that hold no statement

module _ (cx : Context) where
  int_value_w : (e : Expr) → Walks (int_value cx e) (in_expr e)
  int_value_w e = quiet_w (quiet_expr e) (int_value_l cx e)

  condition_w : (o : Option Expr) → Walks (condition cx o) (in_some o)
  condition_w None = done_w _
  condition_w (Some e) = int_value_w e

  pub declaration_w : (d : Decl) → Walks (declaration cx d) (declared d)
  unfolding declaration
  declaration_w d = bind_w (quiet_w (quiet_some d.length) (slot_l cx role.Variable d)) (λ t.
      bind_w (quiet_w (quiet_start d.start) (started_l cx t.shape t d.start)) (λ b. gives_w (declare_w cx d.name t) (λ k. made k t b)))

module _ (stmt : Context → Stmt → Elab Statement) (marks : Stmt → Text → Text) (walks : (cx : Context) (b : Stmt) → Walks (stmt cx b) (marks b)) where
  statements_from_w : (cx : Context) (made : List Statement) (bs : List Stmt) → Walks (statements_from stmt cx made bs) (in_each marks bs)
  statements_from_w cx made [] = done_w made
  statements_from_w cx made (b ∷ bs) = bind_w (walks cx b) (λ x. statements_from_w cx (made ++ x ∷ []) bs)

  pub statements_w : (cx : Context) (bs : List Stmt) → Walks (statements stmt cx bs) (in_each marks bs)
  unfolding statements
  statements_w cx bs = statements_from_w cx [] bs

  block_of_w : (cx : Context) (bs : List Stmt) → Walks (block_of stmt cx bs) (in_kind marks (StmtKind-F.Block bs))
  unfolding block_of
  block_of_w cx bs = scoped_w (λ n. statements stmt (inside cx n) bs) s.Block (λ n. statements_w (inside cx n) bs)

  open_block_w : (cx : Context) (line : ℕ) (bs : List Stmt) → Walks (open_block stmt cx line bs) (in_each marks bs)
  unfolding open_block
  open_block_w cx line bs = gives_w (statements_w (at_line cx line) bs) (λ xs. s.AtLine line (s.Block xs))

  body_by_w : (l : Layer) (cx : Context) (b : Stmt) → Walks (body_by stmt l cx b) (in_body_by marks l b)
  body_by_w (StmtKind-F.Block ss) cx b = open_block_w cx (out-Stmt b).line ss
  body_by_w StmtKind-F.Empty cx b = walks cx b
  body_by_w (StmtKind-F.Declare d) cx b = walks cx b
  body_by_w (StmtKind-F.Assign target op e) cx b = walks cx b
  body_by_w (StmtKind-F.Call e) cx b = walks cx b
  body_by_w (StmtKind-F.Print xs) cx b = walks cx b
  body_by_w (StmtKind-F.If c first other) cx b = walks cx b
  body_by_w (StmtKind-F.While c x) cx b = walks cx b
  body_by_w (StmtKind-F.For first c after x) cx b = walks cx b
  body_by_w StmtKind-F.Break cx b = walks cx b
  body_by_w StmtKind-F.Continue cx b = walks cx b
  body_by_w (StmtKind-F.Par bs) cx b = walks cx b
  body_by_w (StmtKind-F.ParFor name start c after x) cx b = walks cx b
  body_by_w (StmtKind-F.Spawn e) cx b = walks cx b
  body_by_w (StmtKind-F.Return e) cx b = walks cx b

  body_w : (cx : Context) (b : Stmt) → Walks (body stmt cx b) (in_body marks b)
  unfolding body
  body_w cx b = body_by_w (layer b) cx b

  -- ---- choices and loops

  if_only_w : (cx : Context) (c : Expr) (first : Stmt) → Walks (if_only stmt cx c first) (λ t. marks first (in_expr c t))
  unfolding if_only
  if_only_w cx c first = bind_w (int_value_w cx c) (λ t. gives_w (walks cx first) (λ x. s.If t x))

  both_w : (cx : Context) (first other : Stmt) → Walks (both stmt cx first other) (λ t. marks other (marks first t))
  unfolding both
  both_w cx first other = bind_w (walks cx first) (λ x. gives_w {B = Statement × Statement} (walks cx other) (λ y. (x, y)))

  if_else_w : (cx : Context) (c : Expr) (first other : Stmt) → Walks (if_else stmt cx c first other) (λ t. marks other (marks first (in_expr c t)))
  unfolding if_else
  if_else_w cx c first other = bind_w (int_value_w cx c) (λ t. gives_w (both_w cx first other) (λ p. s.IfElse t p.0 p.1))

  choice_w : (cx : Context) (c : Expr) (first : Stmt) (other : Option Stmt)
      → Walks (choice stmt cx c first other) (in_kind marks (StmtKind-F.If c first other))
  choice_w cx c first None = if_only_w cx c first
  choice_w cx c first (Some other) = if_else_w cx c first other

  repeated_w : (cx : Context) (c : Expr) (b : Stmt) → Walks (repeated stmt cx c b) (in_kind marks (StmtKind-F.While c b))
  unfolding repeated
  repeated_w cx c b = bind_w (int_value_w cx c) (λ t. gives_w (walks (repeating cx) b) (λ x. s.While t x))

  step_w : (cx : Context) (o : Option Stmt) → Walks (step stmt cx o) (in_maybe marks o)
  step_w cx None = done_w _
  step_w cx (Some b) = walks cx b

  turn_w : (cx : Context) (after : Option Stmt) (b : Stmt) → Walks (turn stmt cx after b) (λ t. in_body marks b (in_maybe marks after t))
  unfolding turn
  turn_w cx after b = bind_w (step_w (between cx) after) (λ x. gives_w {B = Statement × Statement} (body_w (repeating cx) b) (λ y. (x, y)))

  counted_w : (cx : Context) (c : Option Expr) (after : Option Stmt) (b : Stmt)
      → Walks (counted stmt cx c after b) (λ t. in_body marks b (in_maybe marks after (in_some c t)))
  unfolding counted
  counted_w cx c after b = bind_w (condition_w cx c) (λ t. gives_w (turn_w cx after b) (λ p. s.For t p.0 p.1))

  headed_w : (cx : Context) (first : List Stmt) (c : Option Expr) (after : Option Stmt) (b : Stmt)
      → Walks (headed stmt cx first c after b) (λ t. in_body marks b (in_maybe marks after (in_some c (in_each marks first t))))
  unfolding headed
  headed_w cx first c after b = bind_w (statements_w cx first) (λ xs. gives_w (counted_w cx c after b) (λ x. s.Block (xs ++ x ∷ [])))

  loop_of_w : (cx : Context) (first : List Stmt) (c : Option Expr) (after : Option Stmt) (b : Stmt)
      → Walks (loop_of stmt cx first c after b) (in_kind marks (StmtKind-F.For first c after b))
  unfolding loop_of
  loop_of_w cx first c after b =
      scoped_w (λ n. headed stmt (inside cx n) first c after b) (λ x. x) (λ n. headed_w (inside cx n) first c after b)

  -- ---- par

  part_w : (cx : Context) (b : Stmt) → Walks (part stmt cx b) (marks b)
  part_w cx b = looking_w (λ t. stmt (branch cx (length t.locals)) b) (λ t. walks (branch cx (length t.locals)) b)

  parts_from_w : (cx : Context) (made : List Statement) (bs : List Stmt) → Walks (parts_from stmt cx made bs) (in_each marks bs)
  parts_from_w cx made [] = done_w made
  parts_from_w cx made (b ∷ bs) = bind_w (part_w cx b) (λ x. parts_from_w cx (made ++ x ∷ []) bs)

  par_w : (cx : Context) (bs : List Stmt) → Walks (par stmt cx bs) (in_each marks bs)
  unfolding par parts
  par_w cx bs = next_w (leaves_w (block_l cx.line)) (gives_w (parts_from_w cx [] bs) (λ xs. s.Par xs))

  -- ---- parfor

  no_step_w : (cx : Context) (b : Stmt) → Walks (no_step stmt cx b) (marks b)
  unfolding no_step
  no_step_w cx b = bind_w (walks cx b) (λ x. leaves_w (next_l (note_l cx r.ParforHeader) (done_l no_value)))

  step_if_w : (i : Bool) (cx : Context) (b : Stmt) (target : Expr) (op : AssignOp) (e : Expr)
      → Walks (step_if stmt i cx b target op e) (in_step_if marks i target e b)
  step_if_w true cx b target op e =
      quiet_w (quiet_both (quiet_expr target) (quiet_expr e)) (step_value_l (at_line cx (out-Stmt b).line) target op e)
  step_if_w false cx b target op e = no_step_w cx b

  header_step_by_w : (l : Layer) (cx : Context) (name : Name) (b : Stmt) → Walks (header_step_by stmt l cx name b) (in_step_by marks l name b)
  header_step_by_w (StmtKind-F.Assign target op e) cx name b = step_if_w (names target name) cx b target op e
  header_step_by_w (StmtKind-F.Block ss) cx name b = no_step_w cx b
  header_step_by_w StmtKind-F.Empty cx name b = no_step_w cx b
  header_step_by_w (StmtKind-F.Declare d) cx name b = no_step_w cx b
  header_step_by_w (StmtKind-F.Call e) cx name b = no_step_w cx b
  header_step_by_w (StmtKind-F.Print xs) cx name b = no_step_w cx b
  header_step_by_w (StmtKind-F.If c first other) cx name b = no_step_w cx b
  header_step_by_w (StmtKind-F.While c x) cx name b = no_step_w cx b
  header_step_by_w (StmtKind-F.For first c after x) cx name b = no_step_w cx b
  header_step_by_w StmtKind-F.Break cx name b = no_step_w cx b
  header_step_by_w StmtKind-F.Continue cx name b = no_step_w cx b
  header_step_by_w (StmtKind-F.Par bs) cx name b = no_step_w cx b
  header_step_by_w (StmtKind-F.ParFor text start c after x) cx name b = no_step_w cx b
  header_step_by_w (StmtKind-F.Spawn e) cx name b = no_step_w cx b
  header_step_by_w (StmtKind-F.Return e) cx name b = no_step_w cx b

  header_rest_w : (cx : Context) (name : Name) (k : ℕ) (x : Expression) (c : Expr) (after : Stmt)
      → Walks (header_rest stmt cx name k x c after) (λ t. in_step marks name after (in_expr c t))
  unfolding header_rest header_step
  header_rest_w cx name k x c after = bind_w (int_value_w cx c) (λ t. bind_w (header_step_by_w (layer after) cx name after) (λ v.
      done_w (record { variable = k; start = x; test = t; line = (out-Stmt after).line; value = v })))

  rest_number : (cx : Context) (name : Name) (k : ℕ) (x : Expression) (c : Expr) (after : Stmt) (t : State)
      → (header_rest stmt cx name k x c after t).0.variable ≡ k
  unfolding header_rest
  rest_number cx name k x c after t = refl

  module _ (cx : Context) (name : Name) (first c : Expr) (after : Stmt) where
    abbrev Head : Text → Text
    Head t = in_step marks name after (in_expr c (Declares name ∷ in_expr first t))

    header_w : Walks (header stmt cx name first c after) Head
    unfolding header
    header_w = bind_w (int_value_w cx first) (λ x. bind_w (declare_w cx name plain_int) (λ k. header_rest_w cx name k x c after))

    header_number : (t : State) → (header stmt cx name first c after t).0.variable ≡ length t.made
    unfolding header
    header_number t =
        let u = int_value cx first t in
        let d = declare cx name plain_int u.1 in
        rest_number cx name d.0 u.0 c after d.1 ∙ (declare_number cx name plain_int u.1 ∙ ap length ((int_value_l cx first).leaves t).1)

    module _ (b : Stmt) where
      copied_w : (other : Context) (k : ℕ) → Walks (copied stmt other name k b) (λ t. in_body marks b (Copies name k ∷ t))
      unfolding copied
      copied_w other k = next_w (copies_w other name k plain_int) (body_w other b)

      each_w : (k : ℕ) → Walks (each stmt cx name k b) (λ t. in_body marks b (Copies name k ∷ t))
      each_w k = looking_w (λ t. copied stmt (branch cx (length t.locals)) name k b) (λ t. copied_w (branch cx (length t.locals)) k)

      same_number : (t : State) (text : Text) → Matches t text → (header stmt cx name first c after t).0.variable ≡ declarations text
      same_number t text m = header_number t ∙ m.made

      iterated_w : Walks (iterated stmt cx name first c after b) (in_counter marks name first c after b)
      unfolding iterated
      iterated_w = record {
        walk = λ t text m.
            let h = header stmt cx name first c after t in
            subst (λ k. Matches (each stmt cx name h.0.variable b h.1).1 (in_body marks b (Copies name k ∷ Head text))) (same_number t text m)
            ((each_w h.0.variable).walk h.1 (Head text) (header_w.walk t text m));
        more = λ t.
            let h = header stmt cx name first c after t in
            more_extends t.locals h.1.locals (each stmt cx name h.0.variable b h.1).1.locals (header_w.more t) ((each_w h.0.variable).more h.1);
        skips = λ text closed x. (each_w (declarations text)).skips (Head text) closed x ∙ header_w.skips text closed x;
      }

  parfor_w : (cx : Context) (name : Name) (first c : Expr) (after b : Stmt)
      → Walks (parfor stmt cx name first c after b) (in_kind marks (StmtKind-F.ParFor name first c after b))
  unfolding parfor
  parfor_w cx name first c after b =
      scoped_w (λ n. block cx.line >> iterated stmt (inside cx n) name first c after b) (λ x. x)
      (λ n. next_w (leaves_w (block_l cx.line)) (iterated_w (inside cx n) name first c after b))

  -- ---- each statement

  kind_w : (l : Layer) (cx : Context) → Walks (spec.kind stmt l cx) (in_kind marks l)
  kind_w (StmtKind-F.Block ss) cx = block_of_w cx ss
  kind_w StmtKind-F.Empty cx = done_w _
  kind_w (StmtKind-F.Declare d) cx = declaration_w cx d
  kind_w (StmtKind-F.Assign target op e) cx = quiet_w (quiet_both (quiet_expr target) (quiet_expr e)) (assign_l cx target op e)
  kind_w (StmtKind-F.Call e) cx = quiet_w (quiet_expr e) (call_l cx e)
  kind_w (StmtKind-F.Print xs) cx = quiet_w (quiet_items xs) (print_l cx xs)
  kind_w (StmtKind-F.If c first other) cx = choice_w cx c first other
  kind_w (StmtKind-F.While c b) cx = repeated_w cx c b
  kind_w (StmtKind-F.For first c after b) cx = loop_of_w cx first c after b
  kind_w StmtKind-F.Break cx = leaves_w (jump_l cx s.Break)
  kind_w StmtKind-F.Continue cx = leaves_w (jump_l cx s.Continue)
  kind_w (StmtKind-F.Par bs) cx = par_w cx bs
  kind_w (StmtKind-F.ParFor name first c after b) cx = parfor_w cx name first c after b
  kind_w (StmtKind-F.Spawn e) cx = quiet_w (quiet_expr e) (spawn_l cx e)
  kind_w (StmtKind-F.Return e) cx = quiet_w (quiet_some e) (give_l cx e)

  node_w : (cx : Context) (b : Stmt) → Walks (node stmt cx b) (in_kind marks (layer b))
  unfolding node kind_of
  node_w cx b = gives_w (kind_w (layer b) (at_line cx (out-Stmt b).line)) (λ x. s.AtLine (out-Stmt b).line x)

statement_to_w : (depth : ℕ) (cx : Context) (b : Stmt) → Walks (statement_to depth cx b) (marks_to depth b)
unfolding statement_to marks_to
statement_to_w zero cx b = leaves_w (next_l (note_l cx _) (done_l _))
statement_to_w (suc depth) cx b = node_w (statement_to depth) (marks_to depth) (statement_to_w depth) cx b

pub statement_matches : (depth : ℕ) (cx : Context) (b : Stmt) (t : State) (text : Text) → Matches t text
    → Matches (statement_to depth cx b t).1 (marks_to depth b text)
statement_matches depth cx b t text m = (statement_to_w depth cx b).walk t text m

pub body_matches : (cx : Context) (bs : List Stmt) (t : State) (text : Text) → Matches t text
    → Matches (function_body cx bs t).1 (in_each (marks_to 1000) bs text)
body_matches cx bs t text m = (statements_w (statement_to 1000) (marks_to 1000) (statement_to_w 1000) cx bs).walk t text m
