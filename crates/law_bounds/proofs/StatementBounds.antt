-- What is read of a statement is what is read of its parts.
use Rattle.std.proofs.Common.{◌≡◌, ℕ, zero, suc, ◌≤◌, Bool, true, false, List, [], ◌∷◌, ◌++◌, length, Option, Some, None, refl, ap, arith}
use Rattle.cc_core.specs.declared.expression.Expression.{Expression}
use Rattle.cc_core.specs.declared.statement.Statement.{Statement}
use Rattle.cc_core.specs.declared.statement.Statement.TheVariants as s
use Rattle.cc_names.specs.Table.{Name}
use Rattle.cc_scopes.specs.declared.state.State.{State}
use Rattle.cc_scopes.specs.Elab.{Elab, ◌>>=◌, ◌>>◌, pure, block, leave}
use Rattle.cc_scopes.specs.Scope.{Context, declare, bring}
use Rattle.cc_scopes.specs.Typed.{note_rule}
use Rattle.cc_names.specs.declared.rule.StaticRule.TheVariants as r
use Rattle.cc_tree.specs.declared.expressions.Expr.{Expr}
use Rattle.cc_tree.specs.declared.statements.AssignOp.{AssignOp}
use Rattle.cc_tree.specs.declared.statements.Stmt.{Stmt, out-Stmt}
use Rattle.cc_tree.specs.declared.statements.StmtKind.TheOpen.{StmtKind-F}
use Rattle.cc_elaboration.specs.Simple.{no_value, int_value}
use Rattle.cc_elaboration.specs.Statements as spec
use Rattle.cc_elaboration.specs.Statements.{inside, branch, repeating, between, at_line, plain_int, names, condition}
use Rattle.cc_elaboration.specs.Statements.{statements_from, statements, block_of, open_block, body_by, body}
use Rattle.cc_elaboration.specs.Statements.{if_only, both, if_else, choice, repeated, step, turn, counted, headed, loop_of, part, parts_from, parts, par, no_step, step_if}
use Rattle.cc_elaboration.specs.Statements.{header_step_by, header_step, header_rest, header, copied, each, iterated, parfor, kind_of, node, statement_to}
use Rattle.law_depth.specs.Depth.{EachOf, IfSome, StatementLayer, statement_layer, StatementParts, StatementNestsTo}
use Rattle.law_depth.proofs.StatementNests.{each_follows, parts_follow, deeper_statement}
use Rattle.law_bounds.proofs.BoundLaws.{same_bind}

module _ (f g : Context → Stmt → Elab Statement) where
  abbrev pub Same : Stmt → Type 0
  Same b = (cx : Context) (t : State) → f cx b t ≡ g cx b t

  abbrev pub InBlock : StatementLayer → Type 0
  InBlock (StmtKind-F.Block ss) = EachOf Same ss
  InBlock _ = Unit {0}

  -- the block of a loop is read without its braces
  abbrev pub Both : Stmt → Type 0
  Both b = Same b × InBlock (statement_layer b)

  each_first : (bs : List Stmt) → EachOf Both bs → EachOf Same bs
  each_first [] p = tt
  each_first (b ∷ bs) p = (p.0.0, each_first bs p.1)

  statements_from_same : (cx : Context) (made : List Statement) (bs : List Stmt) → EachOf Same bs → (t : State)
      → statements_from f cx made bs t ≡ statements_from g cx made bs t
  statements_from_same cx made [] p t = refl
  statements_from_same cx made (b ∷ bs) p t = same_bind (f cx b) (g cx b) (λ x. statements_from f cx (made ++ x ∷ []) bs)
      (λ x. statements_from g cx (made ++ x ∷ []) bs) t (p.0 cx t) (λ x u. statements_from_same cx (made ++ x ∷ []) bs p.1 u)

  statements_same : (cx : Context) (bs : List Stmt) → EachOf Same bs → (t : State) → statements f cx bs t ≡ statements g cx bs t
  unfolding statements
  statements_same cx bs p t = statements_from_same cx [] bs p t

  block_of_same : (cx : Context) (bs : List Stmt) → EachOf Same bs → (t : State) → block_of f cx bs t ≡ block_of g cx bs t
  unfolding block_of
  block_of_same cx bs p t = ap (λ x. (leave (length t.locals) >> pure (s.Block x.0)) x.1) (statements_same (inside cx (length t.locals)) bs p t)

  open_block_same : (cx : Context) (line : ℕ) (bs : List Stmt) → EachOf Same bs → (t : State) → open_block f cx line bs t ≡ open_block g cx line bs t
  unfolding open_block
  open_block_same cx line bs p t = ap (λ x. pure (s.AtLine line (s.Block x.0)) x.1) (statements_same (at_line cx line) bs p t)

  body_by_same : (w : StatementLayer) (cx : Context) (b : Stmt) → Same b → InBlock w → (t : State) → body_by f w cx b t ≡ body_by g w cx b t
  body_by_same (StmtKind-F.Block ss) cx b p q t = open_block_same cx (out-Stmt b).line ss q t
  body_by_same StmtKind-F.Empty cx b p q t = p cx t
  body_by_same (StmtKind-F.Declare d) cx b p q t = p cx t
  body_by_same (StmtKind-F.Assign target op e) cx b p q t = p cx t
  body_by_same (StmtKind-F.Call e) cx b p q t = p cx t
  body_by_same (StmtKind-F.Print xs) cx b p q t = p cx t
  body_by_same (StmtKind-F.If c first other) cx b p q t = p cx t
  body_by_same (StmtKind-F.While c x) cx b p q t = p cx t
  body_by_same (StmtKind-F.For first c after x) cx b p q t = p cx t
  body_by_same StmtKind-F.Break cx b p q t = p cx t
  body_by_same StmtKind-F.Continue cx b p q t = p cx t
  body_by_same (StmtKind-F.Par bs) cx b p q t = p cx t
  body_by_same (StmtKind-F.ParFor name start c after x) cx b p q t = p cx t
  body_by_same (StmtKind-F.Spawn e) cx b p q t = p cx t
  body_by_same (StmtKind-F.Return e) cx b p q t = p cx t

  body_same : (cx : Context) (b : Stmt) → Both b → (t : State) → body f cx b t ≡ body g cx b t
  unfolding body
  body_same cx b p t = body_by_same (statement_layer b) cx b p.0 p.1 t

  -- ---- choices and loops

  both_same : (cx : Context) (first other : Stmt) → Same first → Same other → (t : State) → both f cx first other t ≡ both g cx first other t
  unfolding both
  both_same cx first other p q t = same_bind (f cx first) (g cx first) (λ x. f cx other >>= (λ y. pure (x, y))) (λ x. g cx other >>= (λ y. pure (x, y))) t
      (p cx t) (λ x u. ap (λ y. pure (x, y.0) y.1) (q cx u))

  choice_same : (cx : Context) (c : Expr) (first : Stmt) (other : Option Stmt) → Same first → IfSome Both other → (t : State)
      → choice f cx c first other t ≡ choice g cx c first other t
  unfolding if_only if_else
  choice_same cx c first None p q t = let u = int_value cx c t in ap (λ x. pure (s.If u.0 x.0) x.1) (p cx u.1)
  choice_same cx c first (Some other) p q t =
      let u = int_value cx c t in ap (λ x. pure (s.IfElse u.0 x.0.0 x.0.1) x.1) (both_same cx first other p q.0 u.1)

  repeated_same : (cx : Context) (c : Expr) (b : Stmt) → Same b → (t : State) → repeated f cx c b t ≡ repeated g cx c b t
  unfolding repeated
  repeated_same cx c b p t = let u = int_value cx c t in ap (λ x. pure (s.While u.0 x.0) x.1) (p (repeating cx) u.1)

  step_same : (cx : Context) (o : Option Stmt) → IfSome Both o → (t : State) → step f cx o t ≡ step g cx o t
  step_same cx None p t = refl
  step_same cx (Some b) p t = p.0 cx t

  turn_same : (cx : Context) (o : Option Stmt) (b : Stmt) → IfSome Both o → Both b → (t : State) → turn f cx o b t ≡ turn g cx o b t
  unfolding turn
  turn_same cx o b p q t = same_bind (step f (between cx) o) (step g (between cx) o) (λ x. body f (repeating cx) b >>= (λ y. pure (x, y)))
      (λ x. body g (repeating cx) b >>= (λ y. pure (x, y))) t
      (step_same (between cx) o p t) (λ x u. ap (λ y. pure (x, y.0) y.1) (body_same (repeating cx) b q u))

  counted_same : (cx : Context) (c : Option Expr) (o : Option Stmt) (b : Stmt) → IfSome Both o → Both b → (t : State)
      → counted f cx c o b t ≡ counted g cx c o b t
  unfolding counted
  counted_same cx c o b p q t = let u = condition cx c t in ap (λ x. pure (s.For u.0 x.0.0 x.0.1) x.1) (turn_same cx o b p q u.1)

  headed_same : (cx : Context) (bs : List Stmt) (c : Option Expr) (o : Option Stmt) (b : Stmt) → EachOf Same bs → IfSome Both o → Both b → (t : State)
      → headed f cx bs c o b t ≡ headed g cx bs c o b t
  unfolding headed
  headed_same cx bs c o b p q z t = same_bind (statements f cx bs) (statements g cx bs)
      (λ xs. counted f cx c o b >>= (λ x. pure (s.Block (xs ++ x ∷ [])))) (λ xs. counted g cx c o b >>= (λ x. pure (s.Block (xs ++ x ∷ [])))) t
      (statements_same cx bs p t) (λ xs u. ap (λ x. pure (s.Block (xs ++ x.0 ∷ [])) x.1) (counted_same cx c o b q z u))

  loop_of_same : (cx : Context) (bs : List Stmt) (c : Option Expr) (o : Option Stmt) (b : Stmt) → EachOf Same bs → IfSome Both o → Both b → (t : State)
      → loop_of f cx bs c o b t ≡ loop_of g cx bs c o b t
  unfolding loop_of
  loop_of_same cx bs c o b p q z t =
      ap (λ x. (leave (length t.locals) >> pure x.0) x.1) (headed_same (inside cx (length t.locals)) bs c o b p q z t)

  -- ---- par and parfor

  parts_from_same : (cx : Context) (made : List Statement) (bs : List Stmt) → EachOf Same bs → (t : State)
      → parts_from f cx made bs t ≡ parts_from g cx made bs t
  parts_from_same cx made [] p t = refl
  parts_from_same cx made (b ∷ bs) p t = same_bind (part f cx b) (part g cx b) (λ x. parts_from f cx (made ++ x ∷ []) bs)
      (λ x. parts_from g cx (made ++ x ∷ []) bs) t (p.0 (branch cx (length t.locals)) t) (λ x u. parts_from_same cx (made ++ x ∷ []) bs p.1 u)

  par_same : (cx : Context) (bs : List Stmt) → EachOf Same bs → (t : State) → par f cx bs t ≡ par g cx bs t
  unfolding par parts
  par_same cx bs p t = let u = block cx.line t in ap (λ x. pure (s.Par x.0) x.1) (parts_from_same cx [] bs p u.1)

  no_step_same : (cx : Context) (b : Stmt) → Same b → (t : State) → no_step f cx b t ≡ no_step g cx b t
  unfolding no_step
  no_step_same cx b p t = ap (λ x. (note_rule cx r.ParforHeader >> pure no_value) x.1) (p cx t)

  step_if_same : (i : Bool) (cx : Context) (b : Stmt) (target : Expr) (op : AssignOp) (e : Expr) → Same b → (t : State)
      → step_if f i cx b target op e t ≡ step_if g i cx b target op e t
  step_if_same true cx b target op e p t = refl
  step_if_same false cx b target op e p t = no_step_same cx b p t

  header_step_by_same : (w : StatementLayer) (cx : Context) (name : Name) (b : Stmt) → Same b → (t : State)
      → header_step_by f w cx name b t ≡ header_step_by g w cx name b t
  header_step_by_same (StmtKind-F.Assign target op e) cx name b p t = step_if_same (names target name) cx b target op e p t
  header_step_by_same (StmtKind-F.Block ss) cx name b p t = no_step_same cx b p t
  header_step_by_same StmtKind-F.Empty cx name b p t = no_step_same cx b p t
  header_step_by_same (StmtKind-F.Declare d) cx name b p t = no_step_same cx b p t
  header_step_by_same (StmtKind-F.Call e) cx name b p t = no_step_same cx b p t
  header_step_by_same (StmtKind-F.Print xs) cx name b p t = no_step_same cx b p t
  header_step_by_same (StmtKind-F.If c first other) cx name b p t = no_step_same cx b p t
  header_step_by_same (StmtKind-F.While c x) cx name b p t = no_step_same cx b p t
  header_step_by_same (StmtKind-F.For first c after x) cx name b p t = no_step_same cx b p t
  header_step_by_same StmtKind-F.Break cx name b p t = no_step_same cx b p t
  header_step_by_same StmtKind-F.Continue cx name b p t = no_step_same cx b p t
  header_step_by_same (StmtKind-F.Par bs) cx name b p t = no_step_same cx b p t
  header_step_by_same (StmtKind-F.ParFor text start c after x) cx name b p t = no_step_same cx b p t
  header_step_by_same (StmtKind-F.Spawn e) cx name b p t = no_step_same cx b p t
  header_step_by_same (StmtKind-F.Return e) cx name b p t = no_step_same cx b p t

  header_rest_same : (cx : Context) (name : Name) (k : ℕ) (a : Expression) (c : Expr) (b : Stmt) → Same b → (t : State)
      → header_rest f cx name k a c b t ≡ header_rest g cx name k a c b t
  unfolding header_rest header_step
  header_rest_same cx name k a c b p t =
      let u = int_value cx c t in
      ap (λ v. pure (record { variable = k; start = a; test = u.0; line = (out-Stmt b).line; value = v.0 }) v.1)
      (header_step_by_same (statement_layer b) cx name b p u.1)

  header_same : (cx : Context) (name : Name) (a c : Expr) (b : Stmt) → Same b → (t : State) → header f cx name a c b t ≡ header g cx name a c b t
  unfolding header
  header_same cx name a c b p t =
      let u = int_value cx a t in let v = declare cx name plain_int u.1 in header_rest_same cx name v.0 u.0 c b p v.1

  each_same : (cx : Context) (name : Name) (k : ℕ) (b : Stmt) → Both b → (t : State) → each f cx name k b t ≡ each g cx name k b t
  unfolding copied
  each_same cx name k b p t =
      let cy = branch cx (length t.locals) in let u = bring cy name k plain_int t in body_same cy b p u.1

  iterated_same : (cx : Context) (name : Name) (a c : Expr) (after b : Stmt) → Same after → Both b → (t : State)
      → iterated f cx name a c after b t ≡ iterated g cx name a c after b t
  unfolding iterated
  iterated_same cx name a c after b p q t = same_bind (header f cx name a c after) (header g cx name a c after)
      (λ h. each f cx name h.variable b >>= (λ x. pure (s.ParFor h.variable h.start h.test h.line h.value x)))
      (λ h. each g cx name h.variable b >>= (λ x. pure (s.ParFor h.variable h.start h.test h.line h.value x))) t
      (header_same cx name a c after p t)
      (λ h u. ap (λ x. pure (s.ParFor h.variable h.start h.test h.line h.value x.0) x.1) (each_same cx name h.variable b q u))

  parfor_same : (cx : Context) (name : Name) (a c : Expr) (after b : Stmt) → Same after → Both b → (t : State)
      → parfor f cx name a c after b t ≡ parfor g cx name a c after b t
  unfolding parfor
  parfor_same cx name a c after b p q t =
      ap (λ x. (leave (length t.locals) >> pure x.0) x.1)
      (iterated_same (inside cx (length t.locals)) name a c after b p q (block cx.line t).1)

  -- ---- one level

  kind_same : (w : StatementLayer) (cx : Context) → StatementParts Both w → (t : State) → spec.kind f w cx t ≡ spec.kind g w cx t
  kind_same (StmtKind-F.Block ss) cx p t = block_of_same cx ss (each_first ss p) t
  kind_same StmtKind-F.Empty cx p t = refl
  kind_same (StmtKind-F.Declare d) cx p t = refl
  kind_same (StmtKind-F.Assign target op e) cx p t = refl
  kind_same (StmtKind-F.Call e) cx p t = refl
  kind_same (StmtKind-F.Print xs) cx p t = refl
  kind_same (StmtKind-F.If c first other) cx p t = choice_same cx c first other p.1.0 p.2 t
  kind_same (StmtKind-F.While c b) cx p t = repeated_same cx c b p.1.0 t
  kind_same (StmtKind-F.For first c after b) cx p t = loop_of_same cx first c after b (each_first first p.0) p.2 p.3 t
  kind_same StmtKind-F.Break cx p t = refl
  kind_same StmtKind-F.Continue cx p t = refl
  kind_same (StmtKind-F.Par bs) cx p t = par_same cx bs (each_first bs p) t
  kind_same (StmtKind-F.ParFor name a c after b) cx p t = parfor_same cx name a c after b p.2.0 p.3 t
  kind_same (StmtKind-F.Spawn e) cx p t = refl
  kind_same (StmtKind-F.Return e) cx p t = refl

  pub node_same : (cx : Context) (b : Stmt) → StatementParts Both (statement_layer b) → (t : State) → node f cx b t ≡ node g cx b t
  unfolding node kind_of
  node_same cx b p t =
      ap (λ x. pure (s.AtLine (out-Stmt b).line x.0) x.1) (kind_same (statement_layer b) (at_line cx (out-Stmt b).line) p t)

-- ---- and so each bound

Agree : (d m : ℕ) → Stmt → Type 0
Agree d m b = Same (statement_to m) (statement_to d) b

inside_block : (e d m : ℕ) → e ≤ d → ((x : Stmt) → StatementNestsTo d x → Agree d m x) → (w : StatementLayer)
    → StatementParts (StatementNestsTo e) w → InBlock (statement_to m) (statement_to d) w
unfolding Agree
inside_block e d m le f (StmtKind-F.Block ss) p =
    each_follows (StatementNestsTo e) (Same (statement_to m) (statement_to d)) (λ x q. f x (deeper_statement e d le x q)) ss p
inside_block e d m le f StmtKind-F.Empty p = tt
inside_block e d m le f (StmtKind-F.Declare x) p = tt
inside_block e d m le f (StmtKind-F.Assign target op x) p = tt
inside_block e d m le f (StmtKind-F.Call x) p = tt
inside_block e d m le f (StmtKind-F.Print xs) p = tt
inside_block e d m le f (StmtKind-F.If c first other) p = tt
inside_block e d m le f (StmtKind-F.While c b) p = tt
inside_block e d m le f (StmtKind-F.For first c after b) p = tt
inside_block e d m le f StmtKind-F.Break p = tt
inside_block e d m le f StmtKind-F.Continue p = tt
inside_block e d m le f (StmtKind-F.Par bs) p = tt
inside_block e d m le f (StmtKind-F.ParFor name a c after b) p = tt
inside_block e d m le f (StmtKind-F.Spawn x) p = tt
inside_block e d m le f (StmtKind-F.Return x) p = tt

in_block : (d m : ℕ) → ((x : Stmt) → StatementNestsTo d x → Agree d m x) → (b : Stmt) → StatementNestsTo d b
    → InBlock (statement_to m) (statement_to d) (statement_layer b)
unfolding StatementNestsTo
in_block zero m f b p = absurd p
in_block (suc d) m f b p = inside_block d (suc d) m (omega arith) f (statement_layer b) p

statement_same : (d m : ℕ) → d ≤ m → (b : Stmt) → StatementNestsTo d b → Agree d m b
unfolding Agree statement_to StatementNestsTo
statement_same zero m le b p = absurd p
statement_same (suc d) zero le b p = let l : suc d ≤ 0 = le in absurd (omega (arith, l))
statement_same (suc d) (suc m) le b p = λ cx t.
    let f : (x : Stmt) → StatementNestsTo d x → Agree d m x = statement_same d m (let l : suc d ≤ suc m = le in omega (arith, l)) in
    node_same (statement_to m) (statement_to d) cx b
    (parts_follow (StatementNestsTo d) (Both (statement_to m) (statement_to d)) (λ x q. (f x q, in_block d m f x q)) (statement_layer b) p) t

pub statements_the_same : (d m : ℕ) (cx : Context) (b : Stmt) (t : State) → d ≤ m → StatementNestsTo d b → statement_to m cx b t ≡ statement_to d cx b t
unfolding Agree
statements_the_same d m cx b t le p = statement_same d m le b p cx t
