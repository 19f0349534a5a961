-- Statements.
use Rattle.cc_core.specs.Core as core
use Rattle.cc_core.specs.Names as core_names
use Rattle.core_types.specs.Values.{World}
use Rattle.core_types.specs.Typing.{Scope, branch as forked, AreTyped}
use Rattle.core_types.specs.Types.{AnInt, Types}
use Rattle.std.proofs.Common.{◌≡◌, ℕ, zero, suc, pos, Bool, true, false, ◌∙◌, sym, subst, List, [], ◌∷◌, ◌++◌, length, Option, Some, None, refl}
use Rattle.std.proofs.lemmas.Bool.{true≢false}
use Rattle.std.specs.Prelude.{slice_get}
use Rattle.cc_core.specs.declared.expression.Expression.{Expression}
use Rattle.cc_core.specs.declared.statement.Statement.{Statement}
use Rattle.cc_core.specs.declared.statement.Statement.TheVariants as s
use Rattle.cc_names.specs.Table.{Name}
use Rattle.cc_names.specs.declared.rule.StaticRule.{StaticRule}
use Rattle.cc_names.specs.declared.rule.StaticRule.TheVariants as r
use Rattle.cc_tree.specs.declared.expressions.Expr.{Expr}
use Rattle.cc_tree.specs.declared.statements.AssignOp.{AssignOp}
use Rattle.cc_tree.specs.declared.statements.Decl.{Decl}
use Rattle.cc_tree.specs.declared.statements.Stmt.{Stmt, out-Stmt}
use Rattle.cc_tree.specs.declared.statements.StmtKind.{out-StmtKind}
use Rattle.cc_tree.specs.declared.statements.StmtKind.TheOpen.{StmtKind-F}
use Rattle.cc_core.specs.View.{stmts_of}
use Rattle.cc_scopes.specs.declared.state.Local.{Local}
use Rattle.cc_scopes.specs.declared.state.State.{State}
use Rattle.cc_scopes.specs.declared.types.Declared.{Declared}
use Rattle.cc_scopes.specs.Elab.{Elab, ◌>>=◌, ◌>>◌, pure, block, leave}
use Rattle.cc_scopes.specs.Scope.{Context}
use Rattle.cc_scopes.specs.Typed.{note_rule}
use Rattle.cc_elaboration.specs.declared.assignments.Assignment.{Assignment}
use Rattle.cc_elaboration.specs.Declarations.{made, declaration}
use Rattle.cc_elaboration.specs.Simple.{no_value, int_value, jump}
use Rattle.cc_elaboration.specs.Statements.{Layer, inside, branch, repeating, between, at_line, plain_int, assigned_value, names, step_value, condition}
use Rattle.cc_elaboration.specs.Statements.{statements_from, statements, block_of, open_block, body_by, body, if_only, both, if_else, choice, repeated, step, turn, counted, headed, loop_of}
use Rattle.cc_elaboration.specs.Statements.{part, parts_from, parts, par, no_step, step_if, header_step_by, header_step, header_rest, header, copied, each, iterated, parfor}
use Rattle.cc_elaboration.specs.Statements.{kind, kind_of, node, statement_to, statement, function_body}
use Rattle.source_types.specs.Reading.{IsThere}
use Rattle.source_types.proofs.Forms.{int_literal}
use Rattle.source_types.proofs.StmtForms.{StmtFits, StmtsFit, one_more, empty_fits, at_line_fits, if_fits, if_else_fits, while_fits, for_fits, break_fits, continue_fits, par_fits, parfor_fits, block_fits}
use Rattle.source_types.specs.TypesOf.{value_type, target_of, IsResultType}
use Rattle.source_types.specs.Reading.{Grown, Stands, LocalsFit, Ends, IsInside}
use Rattle.source_types.proofs.Fits.{Reads, Values}
use Rattle.source_types.proofs.StateLaws.{not_empty}
use Rattle.source_types.proofs.AgainLaws.{read_again}
use Rattle.source_types.proofs.AssignmentLaws.{assign_runs}
use Rattle.source_types.proofs.SimpleLaws.{int_value_runs, call_statement_runs, spawn_runs, print_runs, give_runs, jump_runs}
use Rattle.source_types.proofs.DeclaredLaws.{variable_runs}
use Rattle.source_types.proofs.DeclarationLaws.{Makes, started_runs, bring_g, declare_g}
use Rattle.source_types.proofs.HeaderLaws.{own_assignment_runs}
use Rattle.source_types.proofs.Goes.{Goes, given_g, gives_g, bind_g, next_g, done_g, looking_g, frame_g, reads_g, block_g, leave_g, at_g, exact_g, Extends, extends_same, extends_more}

module _ (program : core.Program) (y : Types) (world : World) (home : core_names.Name) (F : Type 0) (grown : Grown) where
  -- a context of the function, or of a branch in it
  pub record Inside (here : Scope) (cx : Context) : Type 0 where
    pub stands : F → Stands program y here grown cx
    pub vars : F → (k : ℕ) (d : Declared) → slice_get grown.made k ≡ Some d → slice_get here.vars k ≡ Some (target_of d)
    pub returns : F → (cx.in_branch ≡ false → here.returns ≡ Some (value_type cx.result)) × IsResultType cx.result

  -- the variables in scope, those of ls first
  abbrev pub Has : List Local → List Local → Type 0
  Has ls l = Extends ls l × LocalsFit grown.made l × F

  abbrev pub Leaves : Scope → List Local → Statement → List Local → Type 0
  Leaves here ls x l = Has ls l × StmtFits program y world home here x

  never_g : {A : Type 0} {P : List Local → Type 0} {Q : A → List Local → Type 0} (cx : Context) (rule : StaticRule) (a : A)
      → Goes grown P (note_rule cx rule >> pure a) Q
  never_g cx rule a = record { go = λ s e. absurd (not_empty s.broken _ e.0) }

  expr_g : {A : Type 0} {p : Elab A} {Q : A → Type 0} (ls : List Local)
      → ((l : List Local) → Reads F grown grown.made l (Unit {0}) p Q) → Goes grown (Has ls) p (λ a l. Has ls l × Q a)
  expr_g ls r = reads_g {F = F} r (λ l x. (tt, x.1, x.2))

  branch_inside : (here : Scope) (cx : Context) (p : ℕ) → Inside here cx → Inside (forked here) (branch cx p)
  branch_inside here cx p i = record {
    stands = λ f. let x = i.stands f in record { matches = x.matches; this = x.this; constants = x.constants; functions = x.functions; waits = x.waits; calm = x.calm };
    vars = i.vars;
    returns = λ f. ((λ is. absurd (true≢false is)), (i.returns f).1);
  }

  line_inside : (here : Scope) (cx : Context) (line : ℕ) → Inside here cx → Inside here (at_line cx line)
  line_inside here cx line i = record {
    stands = λ f. let x = i.stands f in record { matches = x.matches; this = x.this; constants = x.constants; functions = x.functions; waits = x.waits; calm = x.calm };
    vars = i.vars;
    returns = i.returns;
  }

  scope_inside : (here : Scope) (cx : Context) (start : ℕ) → Inside here cx → Inside here (inside cx start)
  scope_inside here cx start i = record {
    stands = λ f. let x = i.stands f in record { matches = x.matches; this = x.this; constants = x.constants; functions = x.functions; waits = x.waits; calm = x.calm };
    vars = i.vars;
    returns = i.returns;
  }

  loop_inside : (here : Scope) (cx : Context) (repeats : Bool) → Inside here cx → Inside here (record cx { in_loop = repeats })
  loop_inside here cx repeats i = record {
    stands = λ f. let x = i.stands f in record { matches = x.matches; this = x.this; constants = x.constants; functions = x.functions; waits = x.waits; calm = x.calm };
    vars = i.vars;
    returns = i.returns;
  }

  value_g : (here : Scope) (cx : Context) (ls : List Local) → Inside here cx → (c : Expr)
      → Goes grown (Has ls) (int_value cx c) (λ x l. Has ls l × Values program y world home here x AnInt)
  value_g here cx ls i c = expr_g ls (λ l. int_value_runs program y world home here F grown grown.made l cx i.stands i.vars c)

  condition_g : (here : Scope) (cx : Context) (ls : List Local) → Inside here cx → (o : Option Expr)
      → Goes grown (Has ls) (condition cx o) (λ x l. Has ls l × Values program y world home here x AnInt)
  condition_g here cx ls i None = done_g _ (λ l p. (p, int_literal program y world home here (pos 1)))
  condition_g here cx ls i (Some c) = value_g here cx ls i c

  jump_g : (here : Scope) (cx : Context) (ls : List Local) → Inside here cx → (x : Statement) → StmtFits program y world home here x
      → Goes grown (Has ls) (jump cx x) (Leaves here ls)
  jump_g here cx ls i x f = expr_g ls (λ l.
      jump_runs program y world home here F grown grown.made l cx i.stands i.vars (λ f. (i.stands f).waits) i.returns x f)

  declaration_g : (here : Scope) (cx : Context) (ls : List Local) → Inside here cx → (d : Decl) → Goes grown (Has ls) (declaration cx d) (Leaves here ls)
  unfolding declaration
  declaration_g here cx ls i d = bind_g (expr_g ls (λ l. variable_runs F grown grown.made l cx program y world home here i.stands i.vars d)) (λ t.
      bind_g (reads_g {F = F} (λ l. started_runs program y world home here F grown grown.made l cx i.stands i.vars t d.start)
      (λ l x. ((x.1.0, x.0.2), x.0.1, x.0.2))) (λ b. at_g (λ l0.
      bind_g (given_g (λ l x. ((x.1, subst (λ z. LocalsFit grown.made z) x.1 x.0.0.0.1, x.0.0.1.0), (subst (λ z. Extends ls z) x.1 x.0.0.0.0, x.0.0.0.2, x.0.1)))
      (frame_g {X = Extends ls l0 × F × Makes program y world home here t (λ j. made j t b)} (declare_g grown l0 cx d.name t))) (λ k.
      done_g (made k t b) (λ l x. ((extends_more ls l0 l x.1.0 (_, x.0.2), x.0.1, x.1.1), x.1.2 k (i.vars x.1.1 k t x.0.0)))))))

  -- ---- one level, where the statements in it are read so

  module _ (stmt : Context → Stmt → Elab Statement)
      (subs : (here : Scope) (cx : Context) (ls : List Local) → Inside here cx → (b : Stmt) → Goes grown (Has ls) (stmt cx b) (Leaves here ls)) where
    abbrev SoFar : Scope → List Local → List Statement → List Local → Type 0
    SoFar here ls xs l = Has ls l × StmtsFit program y world home here xs

    statements_from_g : (here : Scope) (cx : Context) (ls : List Local) → Inside here cx → (xs : List Statement) (bs : List Stmt)
        → Goes grown (SoFar here ls xs) (statements_from stmt cx xs bs) (SoFar here ls)
    statements_from_g here cx ls i xs [] = done_g xs (λ l p. p)
    statements_from_g here cx ls i xs (b ∷ bs) = bind_g (frame_g {X = StmtsFit program y world home here xs} (subs here cx ls i b)) (λ x.
        given_g (λ l q. (q.0.0, one_more program y world home here xs x q.1 q.0.1)) (statements_from_g here cx ls i (xs ++ x ∷ []) bs))

    pub statements_g : (here : Scope) (cx : Context) (ls : List Local) → Inside here cx → (bs : List Stmt)
        → Goes grown (Has ls) (statements stmt cx bs) (SoFar here ls)
    unfolding statements
    statements_g here cx ls i bs = given_g (λ l p. (p, tt)) (statements_from_g here cx ls i [] bs)

    block_of_g : (here : Scope) (cx : Context) (ls : List Local) → Inside here cx → (bs : List Stmt) → Goes grown (Has ls) (block_of stmt cx bs) (Leaves here ls)
    unfolding block_of
    block_of_g here cx ls i bs = looking_g
        (λ t. statements stmt (inside cx (length t.locals)) bs >>= (λ xs. leave (length t.locals) >> pure (s.Block xs)))
        (λ t. bind_g
        (given_g (λ l p. ((extends_same t.locals l p.1, p.0.1, p.0.2), subst (λ z. Has ls z) p.1 p.0))
        (frame_g {X = Has ls t.locals} (statements_g here (inside cx (length t.locals)) t.locals (scope_inside here cx (length t.locals) i) bs)))
        (λ xs. next_g (leave_g t.locals (length t.locals) (λ l p. (refl, p.0.0.0)))
        (done_g (s.Block xs) (λ l p. let z = p.1.1 in (subst (λ k. Has ls k) (sym p.0) z.1, block_fits program y world home here xs z.0.1)))))

    open_block_g : (here : Scope) (cx : Context) (ls : List Local) → Inside here cx → (line : ℕ) (bs : List Stmt)
        → Goes grown (Has ls) (open_block stmt cx line bs) (Leaves here ls)
    unfolding open_block
    open_block_g here cx ls i line bs = bind_g (statements_g here (at_line cx line) ls (line_inside here cx line i) bs) (λ xs.
        done_g (s.AtLine line (s.Block xs)) (λ l p. (p.0, at_line_fits program y world home here line (s.Block xs) (block_fits program y world home here xs p.1))))

    body_by_g : (here : Scope) (cx : Context) (ls : List Local) → Inside here cx → (w : Layer) (b : Stmt) → Goes grown (Has ls) (body_by stmt w cx b) (Leaves here ls)
    body_by_g here cx ls i (StmtKind-F.Block ss) b = open_block_g here cx ls i (out-Stmt b).line ss
    body_by_g here cx ls i StmtKind-F.Empty b = subs here cx ls i b
    body_by_g here cx ls i (StmtKind-F.Declare d) b = subs here cx ls i b
    body_by_g here cx ls i (StmtKind-F.Assign target op e) b = subs here cx ls i b
    body_by_g here cx ls i (StmtKind-F.Call e) b = subs here cx ls i b
    body_by_g here cx ls i (StmtKind-F.Print xs) b = subs here cx ls i b
    body_by_g here cx ls i (StmtKind-F.If c first other) b = subs here cx ls i b
    body_by_g here cx ls i (StmtKind-F.While c x) b = subs here cx ls i b
    body_by_g here cx ls i (StmtKind-F.For first c after x) b = subs here cx ls i b
    body_by_g here cx ls i StmtKind-F.Break b = subs here cx ls i b
    body_by_g here cx ls i StmtKind-F.Continue b = subs here cx ls i b
    body_by_g here cx ls i (StmtKind-F.Par bs) b = subs here cx ls i b
    body_by_g here cx ls i (StmtKind-F.ParFor name start c after x) b = subs here cx ls i b
    body_by_g here cx ls i (StmtKind-F.Spawn e) b = subs here cx ls i b
    body_by_g here cx ls i (StmtKind-F.Return e) b = subs here cx ls i b

    body_g : (here : Scope) (cx : Context) (ls : List Local) → Inside here cx → (b : Stmt) → Goes grown (Has ls) (body stmt cx b) (Leaves here ls)
    unfolding body
    body_g here cx ls i b = body_by_g here cx ls i (out-StmtKind (out-Stmt b).kind) b

    -- ---- choices and loops

    if_only_g : (here : Scope) (cx : Context) (ls : List Local) → Inside here cx → (c : Expr) (b : Stmt) → Goes grown (Has ls) (if_only stmt cx c b) (Leaves here ls)
    unfolding if_only
    if_only_g here cx ls i c b = bind_g (value_g here cx ls i c) (λ t. bind_g (frame_g (subs here cx ls i b)) (λ x.
        done_g (s.If t x) (λ l q. (q.0.0, if_fits program y world home here t x q.1 q.0.1))))

    abbrev BothFit : Scope → List Local → Statement × Statement → List Local → Type 0
    BothFit here ls p l = Has ls l × (StmtFits program y world home here p.0 × StmtFits program y world home here p.1)

    both_g : (here : Scope) (cx : Context) (ls : List Local) → Inside here cx → (a b : Stmt) → Goes grown (Has ls) (both stmt cx a b) (BothFit here ls)
    unfolding both
    both_g here cx ls i a b = bind_g (subs here cx ls i a) (λ x. bind_g (frame_g (subs here cx ls i b)) (λ z. done_g (x, z) (λ l q. (q.0.0, (q.1, q.0.1)))))

    if_else_g : (here : Scope) (cx : Context) (ls : List Local) → Inside here cx → (c : Expr) (a b : Stmt) → Goes grown (Has ls) (if_else stmt cx c a b) (Leaves here ls)
    unfolding if_else
    if_else_g here cx ls i c a b = bind_g (value_g here cx ls i c) (λ t. bind_g (frame_g (both_g here cx ls i a b)) (λ p.
        done_g (s.IfElse t p.0 p.1) (λ l q. (q.0.0, if_else_fits program y world home here t p.0 p.1 q.1 q.0.1.0 q.0.1.1))))

    choice_g : (here : Scope) (cx : Context) (ls : List Local) → Inside here cx → (c : Expr) (a : Stmt) (o : Option Stmt)
        → Goes grown (Has ls) (choice stmt cx c a o) (Leaves here ls)
    choice_g here cx ls i c a None = if_only_g here cx ls i c a
    choice_g here cx ls i c a (Some b) = if_else_g here cx ls i c a b

    repeated_g : (here : Scope) (cx : Context) (ls : List Local) → Inside here cx → (c : Expr) (b : Stmt) → Goes grown (Has ls) (repeated stmt cx c b) (Leaves here ls)
    unfolding repeated
    repeated_g here cx ls i c b = bind_g (value_g here cx ls i c) (λ t. bind_g (frame_g (subs here (repeating cx) ls (loop_inside here cx true i) b)) (λ x.
        done_g (s.While t x) (λ l q. (q.0.0, while_fits program y world home here t x q.1 q.0.1))))

    step_g : (here : Scope) (cx : Context) (ls : List Local) → Inside here cx → (o : Option Stmt) → Goes grown (Has ls) (step stmt cx o) (Leaves here ls)
    step_g here cx ls i None = done_g s.Empty (λ l q. (q, empty_fits program y world home here))
    step_g here cx ls i (Some b) = subs here cx ls i b

    turn_g : (here : Scope) (cx : Context) (ls : List Local) → Inside here cx → (o : Option Stmt) (b : Stmt) → Goes grown (Has ls) (turn stmt cx o b) (BothFit here ls)
    unfolding turn
    turn_g here cx ls i o b = bind_g (step_g here (between cx) ls (loop_inside here cx false i) o) (λ x.
        bind_g (frame_g (body_g here (repeating cx) ls (loop_inside here cx true i) b)) (λ z. done_g (x, z) (λ l q. (q.0.0, (q.1, q.0.1)))))

    counted_g : (here : Scope) (cx : Context) (ls : List Local) → Inside here cx → (c : Option Expr) (o : Option Stmt) (b : Stmt)
        → Goes grown (Has ls) (counted stmt cx c o b) (Leaves here ls)
    unfolding counted
    counted_g here cx ls i c o b = bind_g (condition_g here cx ls i c) (λ t. bind_g (frame_g (turn_g here cx ls i o b)) (λ p.
        done_g (s.For t p.0 p.1) (λ l q. (q.0.0, for_fits program y world home here t p.0 p.1 q.1 q.0.1.0 q.0.1.1))))

    headed_g : (here : Scope) (cx : Context) (ls : List Local) → Inside here cx → (first : List Stmt) (c : Option Expr) (o : Option Stmt) (b : Stmt)
        → Goes grown (Has ls) (headed stmt cx first c o b) (Leaves here ls)
    unfolding headed
    headed_g here cx ls i first c o b = bind_g (statements_g here cx ls i first) (λ xs. bind_g (frame_g (counted_g here cx ls i c o b)) (λ x.
        done_g (s.Block (xs ++ x ∷ [])) (λ l q. (q.0.0, block_fits program y world home here (xs ++ x ∷ []) (one_more program y world home here xs x q.1 q.0.1)))))

    loop_of_g : (here : Scope) (cx : Context) (ls : List Local) → Inside here cx → (first : List Stmt) (c : Option Expr) (o : Option Stmt) (b : Stmt)
        → Goes grown (Has ls) (loop_of stmt cx first c o b) (Leaves here ls)
    unfolding loop_of
    loop_of_g here cx ls i first c o b = looking_g
        (λ t. headed stmt (inside cx (length t.locals)) first c o b >>= (λ x. leave (length t.locals) >> pure x))
        (λ t. bind_g
        (given_g (λ l p. ((extends_same t.locals l p.1, p.0.1, p.0.2), subst (λ z. Has ls z) p.1 p.0))
        (frame_g {X = Has ls t.locals} (headed_g here (inside cx (length t.locals)) t.locals (scope_inside here cx (length t.locals) i) first c o b)))
        (λ x. next_g (leave_g t.locals (length t.locals) (λ l p. (refl, p.0.0.0)))
        (done_g x (λ l p. let z = p.1.1 in (subst (λ k. Has ls k) (sym p.0) z.1, z.0.1)))))

    -- ---- parallel parts

    part_g : (here : Scope) (cx : Context) (ls : List Local) → Inside here cx → (b : Stmt) → Goes grown (Has ls) (part stmt cx b) (Leaves (forked here) ls)
    part_g here cx ls i b = looking_g (λ t. stmt (branch cx (length t.locals)) b) (λ t.
        given_g (λ l p. p.0) (subs (forked here) (branch cx (length t.locals)) ls (branch_inside here cx (length t.locals) i) b))

    parts_from_g : (here : Scope) (cx : Context) (ls : List Local) → Inside here cx → (xs : List Statement) (bs : List Stmt)
        → Goes grown (SoFar (forked here) ls xs) (parts_from stmt cx xs bs) (SoFar (forked here) ls)
    parts_from_g here cx ls i xs [] = done_g xs (λ l p. p)
    parts_from_g here cx ls i xs (b ∷ bs) = bind_g (frame_g {X = StmtsFit program y world home (forked here) xs} (part_g here cx ls i b)) (λ x.
        given_g (λ l q. (q.0.0, one_more program y world home (forked here) xs x q.1 q.0.1)) (parts_from_g here cx ls i (xs ++ x ∷ []) bs))

    parts_g : (here : Scope) (cx : Context) (ls : List Local) → Inside here cx → (bs : List Stmt) → Goes grown (Has ls) (parts stmt cx bs) (SoFar (forked here) ls)
    unfolding parts
    parts_g here cx ls i bs = given_g (λ l p. (p, tt)) (parts_from_g here cx ls i [] bs)

    waits_here : (here : Scope) (cx : Context) → Inside here cx → F → grown.waits ≡ true → here.waits ≡ true
    waits_here here cx i f w = sym (i.stands f).waits ∙ w

    par_g : (here : Scope) (cx : Context) (ls : List Local) → Inside here cx → (bs : List Stmt) → Goes grown (Has ls) (par stmt cx bs) (Leaves here ls)
    unfolding par
    par_g here cx ls i bs = next_g (block_g cx.line) (bind_g (frame_g (parts_g here cx ls i bs)) (λ xs.
        done_g (s.Par xs) (λ l q. (q.0.0, par_fits program y world home here xs (waits_here here cx i q.0.0.2 q.1) q.0.1))))

    -- ---- the header of a parfor

    abbrev Newest : Context → Name → ℕ → List Local → List Local
    Newest cx name k ls = ls ++ record { name = name; number = k; declared = plain_int; part = cx.part } ∷ []

    -- in this scope
    abbrev Here : List Local → List Local → Type 0
    Here ls l = (l ≡ ls) × LocalsFit grown.made l × F

    here_g : {A : Type 0} {p : Elab A} {Q : A → Type 0} (ls : List Local)
        → ((l : List Local) → Reads F grown grown.made l (Unit {0}) p Q) → Goes grown (Here ls) p (λ a l. Here ls l × Q a)
    here_g ls r = reads_g {F = F} r (λ l x. (tt, x.1, x.2))

    no_step_g : {P : List Local → Type 0} {Q : Expression → List Local → Type 0} (here : Scope) (cx : Context) (ls : List Local) → Inside here cx → (b : Stmt)
        → ((l : List Local) → P l → Has ls l) → Goes grown P (no_step stmt cx b) Q
    unfolding no_step
    no_step_g here cx ls i b f = bind_g (given_g f (subs here cx ls i b)) (λ x. never_g cx r.ParforHeader no_value)

    here_has : (ls l : List Local) → Here ls l → Has ls l
    here_has ls l p = (extends_same ls l p.0, p.1, p.2)

    assigned_there : (here : Scope) (a : Option Assignment) → IsThere (λ (x : Assignment). Values program y world home here x.value AnInt) a → Values program y world home here (assigned_value a) AnInt
    assigned_there here None p = absurd p
    assigned_there here (Some a) p = p

    abbrev StepLeft : Scope → List Local → Expression → List Local → Type 0
    StepLeft here ls x l = Here ls l × Values program y world home here x AnInt

    step_if_g : (here : Scope) (cx : Context) (ls : List Local) (name : Name) (k : ℕ) → Inside here cx → (n : Bool) (b : Stmt)
        (target : Expr) (op : AssignOp) (e : Expr) → names target name ≡ n
        → Goes grown (Here (Newest cx name k ls)) (step_if stmt n cx b target op e) (StepLeft here (Newest cx name k ls))
    unfolding step_value
    step_if_g here cx ls name k i true b target op e is = let j = line_inside here cx (out-Stmt b).line i in bind_g
        (exact_g {F = F} (Newest cx name k ls)
        (own_assignment_runs program y world home here F grown grown.made ls (at_line cx (out-Stmt b).line) j.stands j.vars (λ f. (j.stands f).waits)
        (read_again (at_line cx (out-Stmt b).line)) name k cx.part target op e is)
        (λ l q. (q.0, tt, subst (λ z. LocalsFit grown.made z) q.0 q.1, q.2)))
        (λ a. done_g (assigned_value a) (λ l q. (q.0, assigned_there here a q.1)))
    step_if_g here cx ls name k i false b target op e is = no_step_g here cx (Newest cx name k ls) i b (here_has (Newest cx name k ls))

    header_step_by_g : (here : Scope) (cx : Context) (ls : List Local) (name : Name) (k : ℕ) → Inside here cx → (w : Layer) (b : Stmt)
        → Goes grown (Here (Newest cx name k ls)) (header_step_by stmt w cx name b) (StepLeft here (Newest cx name k ls))
    header_step_by_g here cx ls name k i (StmtKind-F.Assign target op e) b = step_if_g here cx ls name k i (names target name) b target op e refl
    header_step_by_g here cx ls name k i (StmtKind-F.Block ss) b = no_step_g here cx (Newest cx name k ls) i b (here_has (Newest cx name k ls))
    header_step_by_g here cx ls name k i StmtKind-F.Empty b = no_step_g here cx (Newest cx name k ls) i b (here_has (Newest cx name k ls))
    header_step_by_g here cx ls name k i (StmtKind-F.Declare d) b = no_step_g here cx (Newest cx name k ls) i b (here_has (Newest cx name k ls))
    header_step_by_g here cx ls name k i (StmtKind-F.Call e) b = no_step_g here cx (Newest cx name k ls) i b (here_has (Newest cx name k ls))
    header_step_by_g here cx ls name k i (StmtKind-F.Print xs) b = no_step_g here cx (Newest cx name k ls) i b (here_has (Newest cx name k ls))
    header_step_by_g here cx ls name k i (StmtKind-F.If c first other) b = no_step_g here cx (Newest cx name k ls) i b (here_has (Newest cx name k ls))
    header_step_by_g here cx ls name k i (StmtKind-F.While c x) b = no_step_g here cx (Newest cx name k ls) i b (here_has (Newest cx name k ls))
    header_step_by_g here cx ls name k i (StmtKind-F.For first c after x) b = no_step_g here cx (Newest cx name k ls) i b (here_has (Newest cx name k ls))
    header_step_by_g here cx ls name k i StmtKind-F.Break b = no_step_g here cx (Newest cx name k ls) i b (here_has (Newest cx name k ls))
    header_step_by_g here cx ls name k i StmtKind-F.Continue b = no_step_g here cx (Newest cx name k ls) i b (here_has (Newest cx name k ls))
    header_step_by_g here cx ls name k i (StmtKind-F.Par bs) b = no_step_g here cx (Newest cx name k ls) i b (here_has (Newest cx name k ls))
    header_step_by_g here cx ls name k i (StmtKind-F.ParFor text start c after x) b = no_step_g here cx (Newest cx name k ls) i b (here_has (Newest cx name k ls))
    header_step_by_g here cx ls name k i (StmtKind-F.Spawn e) b = no_step_g here cx (Newest cx name k ls) i b (here_has (Newest cx name k ls))
    header_step_by_g here cx ls name k i (StmtKind-F.Return e) b = no_step_g here cx (Newest cx name k ls) i b (here_has (Newest cx name k ls))

    header_step_g : (here : Scope) (cx : Context) (ls : List Local) (name : Name) (k : ℕ) → Inside here cx → (b : Stmt)
        → Goes grown (Here (Newest cx name k ls)) (header_step stmt cx name b) (StepLeft here (Newest cx name k ls))
    unfolding header_step
    header_step_g here cx ls name k i b = header_step_by_g here cx ls name k i (out-StmtKind (out-Stmt b).kind) b

    abbrev HeaderFits : Scope → ℕ → (start test value : Expression) → Type 0
    HeaderFits here k start test value = (slice_get grown.made k ≡ Some plain_int) × Values program y world home here start AnInt × Values program y world home here test AnInt × Values program y world home here value AnInt

    header_rest_g : (here : Scope) (cx : Context) (ls : List Local) (name : Name) (k : ℕ) → Inside here cx → (start : Expression) (c : Expr) (b : Stmt)
        → Goes grown (λ l. Here (Newest cx name k ls) l × ((slice_get grown.made k ≡ Some plain_int) × Values program y world home here start AnInt)) (header_rest stmt cx name k start c b)
        (λ h l. Has ls l × HeaderFits here h.variable h.start h.test h.value)
    unfolding header_rest
    header_rest_g here cx ls name k i start c b = bind_g
        (frame_g (here_g (Newest cx name k ls) (λ l. int_value_runs program y world home here F grown grown.made l cx i.stands i.vars c))) (λ t.
        bind_g (given_g (λ l q. (q.0.0, (q.0.1, q.1)))
        (frame_g {X = Values program y world home here t AnInt × ((slice_get grown.made k ≡ Some plain_int) × Values program y world home here start AnInt)} (header_step_g here cx ls name k i b))) (λ v.
        done_g (record { variable = k; start = start; test = t; line = (out-Stmt b).line; value = v }) (λ l q.
        (((_, q.0.0.0), q.0.0.1, q.0.0.2), (q.1.1.0, q.1.1.1, q.1.0, q.0.1)))))

    header_g : (here : Scope) (cx : Context) (ls : List Local) → Inside here cx → (name : Name) (start c : Expr) (b : Stmt)
        → Goes grown (Has ls) (header stmt cx name start c b) (λ h l. Has ls l × HeaderFits here h.variable h.start h.test h.value)
    unfolding header
    header_g here cx ls i name start c b = bind_g (value_g here cx ls i start) (λ a. at_g (λ l0. bind_g
        (given_g (λ l q. ((q.1, subst (λ z. LocalsFit grown.made z) q.1 q.0.0.1, tt), (subst (λ z. Extends ls z) q.1 q.0.0.0, q.0.0.2, q.0.1)))
        (frame_g {X = Extends ls l0 × F × Values program y world home here a AnInt} (declare_g grown l0 cx name plain_int)))
        (λ k. gives_g (λ h l q. ((extends_more ls l0 l q.1 q.0.0.0, q.0.0.1, q.0.0.2), q.0.1))
        (given_g (λ l q. (((q.0.2, q.0.1, q.1.1), (q.0.0, q.1.2)), q.1.0)) (frame_g {X = Extends ls l0} (header_rest_g here cx l0 name k i a c b))))))

    each_g : (here : Scope) (cx : Context) (ls : List Local) → Inside here cx → (name : Name) (k : ℕ) (b : Stmt)
        → Goes grown (λ l. Has ls l × (slice_get grown.made k ≡ Some plain_int)) (each stmt cx name k b) (Leaves (forked here) ls)
    unfolding copied
    each_g here cx ls i name k b = looking_g (λ t. copied stmt (branch cx (length t.locals)) name k b) (λ t. at_g (λ l0. next_g
        (given_g (λ l q. ((q.1, subst (λ z. LocalsFit grown.made z) q.1 q.0.0.0.1, (q.0.0.1, tt)), (subst (λ z. Extends ls z) q.1 q.0.0.0.0, q.0.0.0.2)))
        (frame_g {X = Extends ls l0 × F} (bring_g grown l0 (branch cx (length t.locals)) name k plain_int)))
        (given_g (λ l q. (extends_more ls l0 l q.1.0 (_, q.0.0), q.0.1, q.1.1)) (body_g (forked here) (branch cx (length t.locals)) ls (branch_inside here cx (length t.locals) i) b))))

    iterated_g : (here : Scope) (cx : Context) (ls : List Local) → Inside here cx → (name : Name) (start c : Expr) (after b : Stmt)
        → Goes grown (λ l. Has ls l × (here.waits ≡ true)) (iterated stmt cx name start c after b) (Leaves here ls)
    unfolding iterated
    iterated_g here cx ls i name start c after b = bind_g (frame_g (header_g here cx ls i name start c after)) (λ h. bind_g
        (given_g (λ l q. ((q.0.0, q.0.1.0), (q.0.1, q.1))) (frame_g {X = HeaderFits here h.variable h.start h.test h.value × (here.waits ≡ true)} (each_g here cx ls i name h.variable b)))
        (λ x. done_g (s.ParFor h.variable h.start h.test h.line h.value x) (λ l q. let z = q.1.0 in (
          q.0.0,
          parfor_fits program y world home here h.variable h.start h.test h.line h.value x q.1.1 (i.vars q.0.0.2 h.variable plain_int z.0) z.1 z.2 z.3 q.0.1,
        ))))

    parfor_g : (here : Scope) (cx : Context) (ls : List Local) → Inside here cx → (name : Name) (start c : Expr) (after b : Stmt)
        → Goes grown (Has ls) (parfor stmt cx name start c after b) (Leaves here ls)
    unfolding parfor
    parfor_g here cx ls i name start c after b = looking_g
        (λ t. block cx.line >> (iterated stmt (inside cx (length t.locals)) name start c after b >>= (λ x. leave (length t.locals) >> pure x)))
        (λ t. next_g (block_g cx.line) (bind_g
        (given_g (λ l p. (((extends_same t.locals l p.0.1, p.0.0.1, p.0.0.2), waits_here here cx i p.0.0.2 p.1), subst (λ z. Has ls z) p.0.1 p.0.0))
        (frame_g {X = Has ls t.locals} (iterated_g here (inside cx (length t.locals)) t.locals (scope_inside here cx (length t.locals) i) name start c after b)))
        (λ x. next_g (leave_g t.locals (length t.locals) (λ l p. (refl, p.0.0.0)))
        (done_g x (λ l p. let z = p.1.1 in (subst (λ k. Has ls k) (sym p.0) z.1, z.0.1))))))

    -- ---- each statement

    kind_g : (here : Scope) (cx : Context) (ls : List Local) → Inside here cx → (w : Layer) → Goes grown (Has ls) (kind stmt w cx) (Leaves here ls)
    kind_g here cx ls i (StmtKind-F.Block ss) = block_of_g here cx ls i ss
    kind_g here cx ls i StmtKind-F.Empty = done_g s.Empty (λ l q. (q, empty_fits program y world home here))
    kind_g here cx ls i (StmtKind-F.Declare d) = declaration_g here cx ls i d
    kind_g here cx ls i (StmtKind-F.Assign target op e) =
        expr_g ls (λ l. assign_runs program y world home here F grown grown.made l cx i.stands i.vars (λ f. (i.stands f).waits) (read_again cx) target op e)
    kind_g here cx ls i (StmtKind-F.Call e) =
        expr_g ls (λ l. call_statement_runs program y world home here F grown grown.made l cx i.stands i.vars (λ f. (i.stands f).waits) i.returns e)
    kind_g here cx ls i (StmtKind-F.Print xs) =
        expr_g ls (λ l. print_runs program y world home here F grown grown.made l cx i.stands i.vars (λ f. (i.stands f).waits) i.returns xs)
    kind_g here cx ls i (StmtKind-F.If c first other) = choice_g here cx ls i c first other
    kind_g here cx ls i (StmtKind-F.While c b) = repeated_g here cx ls i c b
    kind_g here cx ls i (StmtKind-F.For first c after b) = loop_of_g here cx ls i first c after b
    kind_g here cx ls i StmtKind-F.Break = jump_g here cx ls i s.Break (break_fits program y world home here)
    kind_g here cx ls i StmtKind-F.Continue = jump_g here cx ls i s.Continue (continue_fits program y world home here)
    kind_g here cx ls i (StmtKind-F.Par bs) = par_g here cx ls i bs
    kind_g here cx ls i (StmtKind-F.ParFor name start c after b) = parfor_g here cx ls i name start c after b
    kind_g here cx ls i (StmtKind-F.Spawn e) =
        expr_g ls (λ l. spawn_runs program y world home here F grown grown.made l cx i.stands i.vars (λ f. (i.stands f).waits) i.returns e)
    kind_g here cx ls i (StmtKind-F.Return e) =
        expr_g ls (λ l. give_runs program y world home here F grown grown.made l cx i.stands i.vars (λ f. (i.stands f).waits) i.returns e)

    node_g : (here : Scope) (cx : Context) (ls : List Local) → Inside here cx → (b : Stmt) → Goes grown (Has ls) (node stmt cx b) (Leaves here ls)
    unfolding node kind_of
    node_g here cx ls i b = bind_g (kind_g here (at_line cx (out-Stmt b).line) ls (line_inside here cx (out-Stmt b).line i) (out-StmtKind (out-Stmt b).kind))
        (λ x. done_g (s.AtLine (out-Stmt b).line x) (λ l q. (q.0, at_line_fits program y world home here (out-Stmt b).line x q.1)))

  -- ---- each depth

  statement_to_g : (depth : ℕ) (here : Scope) (cx : Context) (ls : List Local) → Inside here cx → (b : Stmt)
      → Goes grown (Has ls) (statement_to depth cx b) (Leaves here ls)
  unfolding statement_to
  statement_to_g zero here cx ls i b = never_g cx _ s.Empty
  statement_to_g (suc depth) here cx ls i b = node_g (statement_to depth) (statement_to_g depth) here cx ls i b

  pub statement_g : (here : Scope) (cx : Context) (ls : List Local) → Inside here cx → (b : Stmt) → Goes grown (Has ls) (statement cx b) (Leaves here ls)
  statement_g here cx ls i b = statement_to_g 1000 here cx ls i b

  pub function_body_g : (here : Scope) (cx : Context) (ls : List Local) → Inside here cx → (bs : List Stmt)
      → Goes grown (Has ls) (function_body cx bs) (λ xs l. StmtsFit program y world home here xs)
  function_body_g here cx ls i bs = gives_g (λ xs l p. p.1) (statements_g statement statement_g here cx ls i bs)

-- the statements of a function, wherever its terms are looked at
pub body_is_typed : (program : core.Program) (y : Types) (here : Scope) (grown : Grown) (cx : Context) → IsInside program y here grown cx → (bs : List Stmt) (s : State)
    → Ends grown (function_body cx bs s).1 → LocalsFit grown.made s.locals → (w : World) (q : core_names.Name)
    → AreTyped program y w q here (stmts_of (function_body cx bs s).0)
body_is_typed program y here grown cx i bs s e fits w q =
    ((function_body_g program y w q (Unit {0}) grown here cx s.locals
    (record { stands = λ u. i.stands; vars = λ u. i.vars; returns = λ u. (i.returns, i.result) }) bs).go s e).1 (extends_same s.locals s.locals refl, fits, tt)
