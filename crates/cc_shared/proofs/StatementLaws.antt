-- Statements.
use Rattle.std.proofs.Common.{◌≡◌, ℕ, zero, suc, ◌+◌, ◌≤◌, pos, Bool, true, false, ◌∙◌, sym, ap, subst, List, [], ◌∷◌, ◌++◌, length, Option, Some, None, refl, arith, inl, length-append}
use Rattle.std.specs.Prelude.{slice_get, ◌&&◌}
use Rattle.cc_core.specs.declared.expression.Constant.TheVariants as constant
use Rattle.cc_core.specs.declared.expression.Expression.{Expression}
use Rattle.cc_core.specs.declared.statement.Statement.{Statement}
use Rattle.cc_core.specs.declared.statement.Statement.TheVariants as s
use Rattle.cc_core.specs.Core.{Stmt as CoreStmt}
use Rattle.cc_core.specs.Types.{AnInt, FunctionTypes, Types, declares}
use Rattle.cc_core.specs.View.{stmt_of}
use Rattle.cc_core.proofs.ViewLaws.{empty_is, at_line_is, assign_is, drop_is, print_is, if_is, if_else_is, while_is, break_is, continue_is, par_is, parfor_is, spawn_is, return_is, block_is}
use Rattle.cc_names.specs.Table.{Name}
use Rattle.cc_names.specs.declared.rule.StaticRule.{StaticRule}
use Rattle.cc_names.specs.declared.rule.StaticRule.TheVariants as r
use Rattle.cc_tree.specs.declared.expressions.Expr.{Expr}
use Rattle.cc_tree.specs.declared.statements.AssignOp.{AssignOp}
use Rattle.cc_core.specs.declared.expression.Expression.{out-Expression}
use Rattle.cc_core.specs.declared.expression.Expression.TheOpen.{Expression-F}
use Rattle.cc_tree.specs.declared.statements.Decl.{Decl}
use Rattle.cc_tree.specs.declared.statements.PrintItem.{PrintItem}
use Rattle.cc_scopes.specs.declared.typed.Typed.{Typed}
use Rattle.cc_scopes.specs.declared.typed.Typed.TheVariants as typed
use Rattle.cc_typing.specs.Expr.{expr}
use Rattle.cc_tree.specs.declared.statements.Stmt.{Stmt, out-Stmt}
use Rattle.cc_tree.specs.declared.statements.StmtKind.TheOpen.{StmtKind-F}
use Rattle.cc_scopes.specs.declared.state.Local.{Local}
use Rattle.cc_scopes.specs.declared.state.State.{State}
use Rattle.cc_scopes.specs.declared.types.Declared.{Declared}
use Rattle.cc_scopes.specs.Elab.{Elab, ◌>>=◌, ◌>>◌, pure, block, leave}
use Rattle.cc_scopes.specs.Scope.{Context}
use Rattle.cc_scopes.specs.Typed.{note_rule}
use Rattle.cc_elaboration.specs.declared.assignments.Assignment.{Assignment}
use Rattle.cc_elaboration.specs.Assignments.{assignment, stored, assign}
use Rattle.cc_elaboration.specs.Declarations.{made, declaration}
use Rattle.cc_elaboration.specs.Simple.{prints_alone, dropped, spawned_by, spawned, no_value}
use Rattle.cc_elaboration.specs.Simple.{int_value, call as call_statement, print as print_statement, spawn as spawn_statement, is_void, return_value, return_from_void, return_some, returned, give, jump}
use Rattle.cc_elaboration.specs.Statements.{inside, branch, repeating, between, at_line, plain_int, assigned_value, names, step_value, condition}
use Rattle.cc_elaboration.specs.Statements.{statements_from, statements, block_of, open_block, body_by, body, if_only, both, if_else, choice, repeated, step, turn, counted, headed, loop_of}
use Rattle.cc_elaboration.specs.Statements.{part, parts_from, parts, par, no_step, step_if, header_step_by, header_step, header_rest, header, copied, each, iterated, parfor}
use Rattle.cc_elaboration.specs.Statements.{kind, kind_of, node, statement_to, statement, function_body}
use Rattle.cc_shared.proofs.Runs.{IsThere}
use Rattle.cc_shared.proofs.Forms.{StmtFits, StmtsFit, BranchesFit, declares_all, declares_more, one_more, one_branch, push_values, empty_fits, at_line_fits, if_fits, if_else_fits, while_fits, for_fits, break_fits, continue_fits, par_fits, parfor_fits, block_fits}
use Rattle.cc_shared.proofs.TypesOf.{target_of}
use Rattle.cc_shared.proofs.Det.{Stands, LocalsFit, Reads, Values}
use Rattle.cc_shared.proofs.StateLaws.{not_empty}
use Rattle.cc_shared.proofs.AssignmentLaws.{assign_runs}
use Rattle.cc_shared.proofs.SimpleLaws.{int_value_runs, call_statement_runs, spawn_runs, print_runs, give_runs, jump_runs}
use Rattle.cc_shared.proofs.DeclaredLaws.{variable_runs}
use Rattle.cc_shared.proofs.DeclarationLaws.{Makes, started_runs, bring_g, declare_g}
use Rattle.cc_shared.proofs.HeaderLaws.{own_assignment_runs}
use Rattle.cc_shared.proofs.Goes.{Goes, given_g, gives_g, bind_g, next_g, done_g, looking_g, frame_g, reads_g, block_g, leave_g, at_g, exact_g, Extends, extends_same, extends_more, Good, rebase}
use Rattle.cc_shared.proofs.Proper.{Layer, layer, DeclaresNone, IsPlain, EachOf, IfSome, Sub, ProperParts, AlwaysProper, always_parts, always_opened}

module _ (y : Types) (main : ℕ) (here : FunctionTypes) (F : Type 0) (ds : List Declared) where
  -- a context of the function
  pub record Inside (prints : Bool) (cx : Context) : Type 0 where
    pub stands : F → Stands y main here cx
    pub alone : prints_alone cx ≡ true → prints ≡ true
    pub outside : cx.in_constructor ≡ false

  abbrev pub Holds : Context → List ℕ → List Local → Type 0
  Holds cx own l = Good ds cx.part own l × F × (cx.part ≤ length l)

  abbrev pub Begins : Context → List ℕ → List Local → List Local → Type 0
  Begins cx own ls l = (l ≡ ls) × Holds cx own ls

  -- a statement that declares nothing leaves the variables in scope
  abbrev pub Stays : Bool → Context → List ℕ → List Local → Statement → List Local → Type 0
  Stays prints cx own ls x l = Begins cx own ls l × StmtFits y main here prints own x × (declares (stmt_of x) own ≡ own)

  -- and any statement adds to them what it declares
  abbrev pub Adds : Bool → Context → List ℕ → List Local → Statement → List Local → Type 0
  Adds prints cx own ls x l = StmtFits y main here prints own x × Holds cx (declares (stmt_of x) own) l × Extends ls l

  adds : (prints : Bool) (cx : Context) (own : List ℕ) (ls : List Local) (x : Statement) (l : List Local) → Stays prints cx own ls x l → Adds prints cx own ls x l
  adds prints cx own ls x l p = (p.1, subst (λ o. Holds cx o l) (sym p.2) (subst (λ z. Holds cx own z) (sym (p.0).0) (p.0).1), extends_same ls l (p.0).0)

  quiet : (own : List ℕ) (x : Statement) (t : CoreStmt) → stmt_of x ≡ t → declares t own ≡ own → declares (stmt_of x) own ≡ own
  quiet own x t is d = ap (λ z. declares z own) is ∙ d

  expr_g : {A : Type 0} {p : Elab A} {Q : A → Type 0} (cx : Context) (own : List ℕ) (ls : List Local)
      → ((l : List Local) → Reads F ds ds cx.part own l (Unit {0}) p Q) → Goes ds (Begins cx own ls) p (λ a l. Begins cx own ls l × Q a)
  expr_g cx own ls r = reads_g {F = F} cx.part own r (λ l x. (tt, subst (λ z. LocalsFit ds cx.part own z) (sym x.0) (x.1).0.0, (x.1).1))

  never_g : {A : Type 0} {P : List Local → Type 0} {Q : A → List Local → Type 0} (cx : Context) (rule : StaticRule) (a : A)
      → Goes ds P (note_rule cx rule >> pure a) Q
  never_g cx rule a = record { go = λ s e. absurd (not_empty s.broken _ e.0) }

  in_branch_alone : (a : Bool) → (a && false) ≡ true → false ≡ true
  in_branch_alone true is = is
  in_branch_alone false is = is

  branch_inside : (prints : Bool) (cx : Context) (p : ℕ) → Inside prints cx → Inside false (branch cx p)
  branch_inside prints cx p i = record {
    stands = λ f. let x = i.stands f in record { matches = x.matches; this = x.this; result = x.result; gives = x.gives; constants = x.constants };
    alone = λ is. in_branch_alone cx.in_main is;
    outside = i.outside;
  }

  line_inside : (prints : Bool) (cx : Context) (line : ℕ) → Inside prints cx → Inside prints (at_line cx line)
  line_inside prints cx line i = record {
    stands = λ f. let x = i.stands f in record { matches = x.matches; this = x.this; result = x.result; gives = x.gives; constants = x.constants };
    alone = i.alone;
    outside = i.outside;
  }

  scope_inside : (prints : Bool) (cx : Context) (start : ℕ) → Inside prints cx → Inside prints (inside cx start)
  scope_inside prints cx start i = record {
    stands = λ f. let x = i.stands f in record { matches = x.matches; this = x.this; result = x.result; gives = x.gives; constants = x.constants };
    alone = i.alone;
    outside = i.outside;
  }

  loop_inside : (prints : Bool) (cx : Context) (repeats : Bool) → Inside prints cx → Inside prints (record cx { in_loop = repeats })
  loop_inside prints cx repeats i = record {
    stands = λ f. let x = i.stands f in record { matches = x.matches; this = x.this; result = x.result; gives = x.gives; constants = x.constants };
    alone = i.alone;
    outside = i.outside;
  }

  module _ (vars : F → (k : ℕ) (d : Declared) → slice_get ds k ≡ Some d → slice_get here.vars k ≡ Some (target_of d)) where
    value_g : (prints : Bool) (cx : Context) (own : List ℕ) (ls : List Local) → Inside prints cx → (c : Expr)
        → Goes ds (Begins cx own ls) (int_value cx c) (λ x l. Begins cx own ls l × Values y main here x AnInt)
    value_g prints cx own ls i c = expr_g cx own ls (λ l. int_value_runs y main here F ds ds cx.part own l cx i.stands vars c)

    simple_g : (prints : Bool) (cx : Context) (own : List ℕ) (ls : List Local) {p : Elab Statement}
        → ((l : List Local) → Reads F ds ds cx.part own l (Unit {0}) p (λ x. StmtFits y main here prints own x × (declares (stmt_of x) own ≡ own)))
        → Goes ds (Begins cx own ls) p (Stays prints cx own ls)
    simple_g prints cx own ls r = gives_g (λ x l q. (q.0, q.1.0, q.1.1)) (expr_g cx own ls r)

    condition_g : (prints : Bool) (cx : Context) (own : List ℕ) (ls : List Local) → Inside prints cx → (o : Option Expr)
        → Goes ds (Begins cx own ls) (condition cx o) (λ x l. Begins cx own ls l × Values y main here x AnInt)
    condition_g prints cx own ls i None = done_g _ (λ l p. (p, push_values y main here (constant.Int (pos 1)) AnInt))
    condition_g prints cx own ls i (Some c) = value_g prints cx own ls i c

    -- a statement that reads expressions alone
    stays_g : (prints : Bool) (cx : Context) (own : List ℕ) (ls : List Local) {p : Elab Statement}
        → ((l : List Local) → Reads F ds ds cx.part own l (Unit {0}) p (StmtFits y main here prints own)) → ((t : State) → declares (stmt_of (p t).0) own ≡ own)
        → Goes ds (Begins cx own ls) p (Stays prints cx own ls)
    stays_g prints cx own ls r q = record { go = λ t e. let g = (expr_g cx own ls r).go t e in (g.0, λ x. let z = g.1 x in (z.0, z.1, q t)) }

    stored_quiet : (a : Option Assignment) (own : List ℕ) → declares (stmt_of (stored a)) own ≡ own
    stored_quiet None own = quiet own s.Empty _ empty_is refl
    stored_quiet (Some a) own = quiet own _ _ (assign_is a.place.remote a.place.address a.value) refl

    assign_quiet : (cx : Context) (target : Expr) (op : AssignOp) (e : Expr) (own : List ℕ) (t : State) → declares (stmt_of (assign cx target op e t).0) own ≡ own
    unfolding assign
    assign_quiet cx target op e own t = stored_quiet (assignment cx target op e t).0 own

    dropped_quiet : (x : Typed) (own : List ℕ) → declares (stmt_of (dropped x)) own ≡ own
    dropped_quiet (typed.Value v) own = quiet own _ _ (drop_is v.term) refl
    dropped_quiet typed.Broken own = quiet own s.Empty _ empty_is refl
    dropped_quiet typed.Spoiled own = quiet own s.Empty _ empty_is refl
    dropped_quiet (typed.This class remote) own = quiet own s.Empty _ empty_is refl
    dropped_quiet (typed.Constant term value) own = quiet own s.Empty _ empty_is refl
    dropped_quiet (typed.Place q) own = quiet own s.Empty _ empty_is refl
    dropped_quiet (typed.Array q k) own = quiet own s.Empty _ empty_is refl
    dropped_quiet (typed.Object o) own = quiet own s.Empty _ empty_is refl

    call_quiet : (cx : Context) (e : Expr) (own : List ℕ) (t : State) → declares (stmt_of (call_statement cx e t).0) own ≡ own
    unfolding call_statement
    call_quiet cx e own t = dropped_quiet (expr cx e t).0 own

    print_quiet : (cx : Context) (xs : List PrintItem) (own : List ℕ) (t : State) → declares (stmt_of (print_statement cx xs t).0) own ≡ own
    unfolding print_statement
    print_quiet cx xs own t = quiet own _ _ (print_is _ _) refl

    spawned_by_quiet : (x : Expression-F Expression) (own : List ℕ) → declares (stmt_of (spawned_by x)) own ≡ own
    spawned_by_quiet (Expression-F.Call h f es) own = quiet own _ _ (spawn_is h f es) refl
    spawned_by_quiet (Expression-F.Push c) own = quiet own s.Empty _ empty_is refl
    spawned_by_quiet Expression-F.This own = quiet own s.Empty _ empty_is refl
    spawned_by_quiet (Expression-F.Variable k) own = quiet own s.Empty _ empty_is refl
    spawned_by_quiet (Expression-F.Member a o) own = quiet own s.Empty _ empty_is refl
    spawned_by_quiet (Expression-F.Index a k b) own = quiet own s.Empty _ empty_is refl
    spawned_by_quiet (Expression-F.At a b) own = quiet own s.Empty _ empty_is refl
    spawned_by_quiet (Expression-F.Load remote a) own = quiet own s.Empty _ empty_is refl
    spawned_by_quiet (Expression-F.Unary op a) own = quiet own s.Empty _ empty_is refl
    spawned_by_quiet (Expression-F.Binary op a b) own = quiet own s.Empty _ empty_is refl
    spawned_by_quiet (Expression-F.And a b) own = quiet own s.Empty _ empty_is refl
    spawned_by_quiet (Expression-F.Or a b) own = quiet own s.Empty _ empty_is refl
    spawned_by_quiet (Expression-F.New kind k) own = quiet own s.Empty _ empty_is refl
    spawned_by_quiet (Expression-F.NewObject remote c es) own = quiet own s.Empty _ empty_is refl

    spawned_quiet : (x : Typed) (own : List ℕ) → declares (stmt_of (spawned x)) own ≡ own
    spawned_quiet (typed.Value v) own = spawned_by_quiet (out-Expression v.term) own
    spawned_quiet typed.Broken own = quiet own s.Empty _ empty_is refl
    spawned_quiet typed.Spoiled own = quiet own s.Empty _ empty_is refl
    spawned_quiet (typed.This class remote) own = quiet own s.Empty _ empty_is refl
    spawned_quiet (typed.Constant term value) own = quiet own s.Empty _ empty_is refl
    spawned_quiet (typed.Place q) own = quiet own s.Empty _ empty_is refl
    spawned_quiet (typed.Array q k) own = quiet own s.Empty _ empty_is refl
    spawned_quiet (typed.Object o) own = quiet own s.Empty _ empty_is refl

    spawn_quiet : (cx : Context) (e : Expr) (own : List ℕ) (t : State) → declares (stmt_of (spawn_statement cx e t).0) own ≡ own
    unfolding spawn_statement
    spawn_quiet cx e own t = spawned_quiet (expr cx e (block cx.line t).1).0 own

    some_quiet : (b : Bool) (cx : Context) (e : Expr) (own : List ℕ) (t : State) → declares (stmt_of (return_some b cx e t).0) own ≡ own
    unfolding return_value return_from_void
    some_quiet true cx e own t = quiet own s.Empty _ empty_is refl
    some_quiet false cx e own t = quiet own _ _ (return_is _) refl

    returned_quiet : (cx : Context) (o : Option Expr) (own : List ℕ) (t : State) → declares (stmt_of (returned cx o t).0) own ≡ own
    returned_quiet cx None own t = quiet own _ _ (return_is _) refl
    returned_quiet cx (Some e) own t = some_quiet (is_void cx.result) cx e own t

    give_quiet : (cx : Context) (o : Option Expr) (own : List ℕ) (t : State) → declares (stmt_of (give cx o t).0) own ≡ own
    unfolding give
    give_quiet cx o own t = returned_quiet cx o own _

    jump_g : (prints : Bool) (cx : Context) (own : List ℕ) (ls : List Local) → Inside prints cx → (x : Statement) → StmtFits y main here prints own x
        → declares (stmt_of x) own ≡ own → Goes ds (Begins cx own ls) (jump cx x) (Stays prints cx own ls)
    unfolding jump
    jump_g prints cx own ls i x f same =
        stays_g prints cx own ls (λ l. jump_runs y main here F ds ds cx.part own l cx i.stands vars prints x f) (λ t. same)

    longer : {n : ℕ} (ls : List Local) (l : Local) → n ≤ length ls → n ≤ length (ls ++ l ∷ [])
    longer ls l le = let a : length (ls ++ l ∷ []) ≡ length ls + 1 = length-append ls (l ∷ []) in omega (arith, a, le)

    -- a declaration
    declaration_g : (prints : Bool) (cx : Context) (own : List ℕ) (ls : List Local) → Inside prints cx → (d : Decl)
        → Goes ds (Begins cx own ls) (declaration cx d) (Adds prints cx own ls)
    unfolding declaration
    declaration_g prints cx own ls i d = bind_g (expr_g cx own ls (λ l. variable_runs F ds ds cx.part own l cx y main here i.stands vars d)) (λ t.
        bind_g (reads_g {F = F} cx.part own (λ l. started_runs y main here F ds ds cx.part own l cx i.stands vars prints t d.start)
        (λ l x. (((x.1).0, ((x.0).1).1), subst (λ z. LocalsFit ds cx.part own z) (sym (x.0).0) ((x.0).1).0.0, ((x.0).1).1))) (λ b.
        bind_g (given_g (λ l x. ((((x.0).0).0, (((x.0).0).1).0, ((x.0).1).0, (((x.0).0).1).2), (x.1, ((x.0).0).1)))
        (frame_g {X = Makes y main here prints own t (λ j. made j t b) × Holds cx own ls} (declare_g ds cx.part own ls cx d.name t refl))) (λ k.
        done_g (made k t b) (λ l x. let w = (x.1).0 k (vars ((x.1).1).1 k t (x.0).0) in (
          w.0,
          (
            subst (λ o. Good ds cx.part o l) (sym w.1) (x.0).1,
            ((x.1).1).1,
            subst (λ z. cx.part ≤ length z) (sym (x.0).2) (longer ls _ ((x.1).1).2),
          ),
          (_, (x.0).2),
        )))))

    -- ---- one level, where the statements in it are read so

    module _ (P : Stmt → Type 0) (stmt : Context → Stmt → Elab Statement)
        (subs : (prints : Bool) (cx : Context) (own : List ℕ) (ls : List Local) → Inside prints cx → (b : Stmt) → Sub P b
        → Goes ds (Begins cx own ls) (stmt cx b) (Stays prints cx own ls))
        (entries : (prints : Bool) (cx : Context) (own : List ℕ) (ls : List Local) → Inside prints cx → (b : Stmt) → P b
        → Goes ds (Begins cx own ls) (stmt cx b) (Adds prints cx own ls)) where
      -- the statements so far
      abbrev SoFar : Bool → Context → List ℕ → List Local → List Statement → List Local → Type 0
      SoFar prints cx own ls xs l = StmtsFit y main here prints own xs × Holds cx (declares_all y main here xs own) l × Extends ls l

      one_added : (prints : Bool) (cx : Context) (own : List ℕ) (ls l0 : List Local) (xs : List Statement) (x : Statement) (l : List Local)
          → Adds prints cx (declares_all y main here xs own) l0 x l → StmtsFit y main here prints own xs → Extends ls l0
          → SoFar prints cx own ls (xs ++ x ∷ []) l
      one_added prints cx own ls l0 xs x l p f g = (
        one_more y main here prints own xs x f p.0,
        subst (λ o. Holds cx o l) (sym (declares_more y main here xs x own)) p.1,
        extends_more ls l0 l g p.2,
      )

      statements_from_g : (prints : Bool) (cx : Context) (own : List ℕ) (ls : List Local) → Inside prints cx → (xs : List Statement) (bs : List Stmt)
          → EachOf P bs → Goes ds (SoFar prints cx own ls xs) (statements_from stmt cx xs bs) (SoFar prints cx own ls)
      statements_from_g prints cx own ls i xs [] ps = done_g xs (λ l p. p)
      statements_from_g prints cx own ls i xs (b ∷ bs) ps = at_g (λ l0. bind_g
          (given_g (λ l p. ((p.1, subst (λ z. Holds cx (declares_all y main here xs own) z) p.1 (p.0).1), ((p.0).0, subst (λ z. Extends ls z) p.1 (p.0).2)))
          (frame_g {X = StmtsFit y main here prints own xs × Extends ls l0} (entries prints cx (declares_all y main here xs own) l0 i b ps.0)))
          (λ x. given_g (λ l q. one_added prints cx own ls l0 xs x l q.0 (q.1).0 (q.1).1)
          (statements_from_g prints cx own ls i (xs ++ x ∷ []) bs ps.1)))

      pub statements_g : (prints : Bool) (cx : Context) (own : List ℕ) (ls : List Local) → Inside prints cx → (bs : List Stmt) → EachOf P bs
          → Goes ds (Begins cx own ls) (statements stmt cx bs) (SoFar prints cx own ls)
      unfolding statements
      statements_g prints cx own ls i bs ps =
          given_g (λ l p. (tt, subst (λ z. Holds cx own z) (sym p.0) p.1, extends_same ls l p.0)) (statements_from_g prints cx own ls i [] bs ps)

      block_of_g : (prints : Bool) (cx : Context) (own : List ℕ) (ls : List Local) → Inside prints cx → (bs : List Stmt) → EachOf P bs
          → Goes ds (Begins cx own ls) (block_of stmt cx bs) (Stays prints cx own ls)
      unfolding block_of
      block_of_g prints cx own ls i bs ps = looking_g
          (λ t. statements stmt (inside cx (length t.locals)) bs >>= (λ xs. leave (length t.locals) >> pure (s.Block xs)))
          (λ t. bind_g
          (given_g (λ l p. (p.0, ((p.0).1, sym p.1 ∙ (p.0).0)))
          (frame_g {X = Holds cx own ls × (t.locals ≡ ls)} (statements_g prints (inside cx (length t.locals)) own ls (scope_inside prints cx (length t.locals) i) bs ps)))
          (λ xs. next_g (leave_g ls (length t.locals) (λ l p. (ap (λ z. length z) (p.1).1, (p.0).2)))
          (done_g (s.Block xs) (λ l p. let z = (p.1).1 in
          ((p.0, (z.1).0), block_fits y main here prints own xs (z.0).0, quiet own (s.Block xs) _ (block_is xs) refl)))))

      -- the statement of a loop, which may open the header's scope
      abbrev Opens : Bool → Context → List ℕ → List Local → Statement → List Local → Type 0
      Opens prints cx own ls x l = StmtFits y main here prints own x × Extends ls l

      open_block_g : (prints : Bool) (cx : Context) (own : List ℕ) (ls : List Local) → Inside prints cx → (line : ℕ) (bs : List Stmt) → EachOf P bs
          → Goes ds (Begins cx own ls) (open_block stmt cx line bs) (Opens prints cx own ls)
      unfolding open_block
      open_block_g prints cx own ls i line bs ps = bind_g (statements_g prints (at_line cx line) own ls (line_inside prints cx line i) bs ps) (λ xs.
          done_g (s.AtLine line (s.Block xs)) (λ l p.
          (at_line_fits y main here prints own line (s.Block xs) (block_fits y main here prints own xs p.0), p.2)))

      sub_body_g : (prints : Bool) (cx : Context) (own : List ℕ) (ls : List Local) → Inside prints cx → (b : Stmt) → Sub P b
          → Goes ds (Begins cx own ls) (stmt cx b) (Opens prints cx own ls)
      sub_body_g prints cx own ls i b p = gives_g (λ x l q. (q.1, extends_same ls l (q.0).0)) (subs prints cx own ls i b p)

      body_by_g : (prints : Bool) (cx : Context) (own : List ℕ) (ls : List Local) → Inside prints cx → (w : Layer) (b : Stmt) → Sub P b
          → ((bs : List Stmt) → w ≡ StmtKind-F.Block bs → EachOf P bs)
          → Goes ds (Begins cx own ls) (body_by stmt w cx b) (Opens prints cx own ls)
      body_by_g prints cx own ls i (StmtKind-F.Block ss) b p f = open_block_g prints cx own ls i (out-Stmt b).line ss (f ss refl)
      body_by_g prints cx own ls i StmtKind-F.Empty b p f = sub_body_g prints cx own ls i b p
      body_by_g prints cx own ls i (StmtKind-F.Declare d) b p f = sub_body_g prints cx own ls i b p
      body_by_g prints cx own ls i (StmtKind-F.Assign target op e) b p f = sub_body_g prints cx own ls i b p
      body_by_g prints cx own ls i (StmtKind-F.Call e) b p f = sub_body_g prints cx own ls i b p
      body_by_g prints cx own ls i (StmtKind-F.Print xs) b p f = sub_body_g prints cx own ls i b p
      body_by_g prints cx own ls i (StmtKind-F.If c first other) b p f = sub_body_g prints cx own ls i b p
      body_by_g prints cx own ls i (StmtKind-F.While c x) b p f = sub_body_g prints cx own ls i b p
      body_by_g prints cx own ls i (StmtKind-F.For first c after x) b p f = sub_body_g prints cx own ls i b p
      body_by_g prints cx own ls i StmtKind-F.Break b p f = sub_body_g prints cx own ls i b p
      body_by_g prints cx own ls i StmtKind-F.Continue b p f = sub_body_g prints cx own ls i b p
      body_by_g prints cx own ls i (StmtKind-F.Par bs) b p f = sub_body_g prints cx own ls i b p
      body_by_g prints cx own ls i (StmtKind-F.ParFor name start c after x) b p f = sub_body_g prints cx own ls i b p
      body_by_g prints cx own ls i (StmtKind-F.Spawn e) b p f = sub_body_g prints cx own ls i b p
      body_by_g prints cx own ls i (StmtKind-F.Return e) b p f = sub_body_g prints cx own ls i b p

      module _ (opened : (b : Stmt) → P b → (bs : List Stmt) → layer b ≡ StmtKind-F.Block bs → EachOf P bs) where
        body_g : (prints : Bool) (cx : Context) (own : List ℕ) (ls : List Local) → Inside prints cx → (b : Stmt) → Sub P b
            → Goes ds (Begins cx own ls) (body stmt cx b) (Opens prints cx own ls)
        unfolding body
        body_g prints cx own ls i b p = body_by_g prints cx own ls i (layer b) b p (opened b p.1)

        -- ---- choices and loops

        if_only_g : (prints : Bool) (cx : Context) (own : List ℕ) (ls : List Local) → Inside prints cx → (c : Expr) (b : Stmt) → Sub P b
            → Goes ds (Begins cx own ls) (if_only stmt cx c b) (Stays prints cx own ls)
        unfolding if_only
        if_only_g prints cx own ls i c b p = bind_g (value_g prints cx own ls i c) (λ t. bind_g (frame_g (subs prints cx own ls i b p)) (λ x.
            done_g (s.If t x) (λ l q. ((q.0).0, if_fits y main here prints own t x AnInt q.1 (q.0).1, quiet own (s.If t x) _ (if_is t x) refl))))

        abbrev BothStay : Bool → Context → List ℕ → List Local → Statement × Statement → List Local → Type 0
        BothStay prints cx own ls p l = Begins cx own ls l × StmtFits y main here prints own p.0 × StmtFits y main here prints own p.1

        both_g : (prints : Bool) (cx : Context) (own : List ℕ) (ls : List Local) → Inside prints cx → (a b : Stmt) → Sub P a → Sub P b
            → Goes ds (Begins cx own ls) (both stmt cx a b) (BothStay prints cx own ls)
        unfolding both
        both_g prints cx own ls i a b p q = bind_g (subs prints cx own ls i a p) (λ x.
            bind_g (given_g (λ l r. (r.0, r.1)) (frame_g {X = StmtFits y main here prints own x} (subs prints cx own ls i b q))) (λ z. done_g (x, z) (λ l r. ((r.0).0, r.1, (r.0).1))))

        if_else_g : (prints : Bool) (cx : Context) (own : List ℕ) (ls : List Local) → Inside prints cx → (c : Expr) (a b : Stmt) → Sub P a → Sub P b
            → Goes ds (Begins cx own ls) (if_else stmt cx c a b) (Stays prints cx own ls)
        unfolding if_else
        if_else_g prints cx own ls i c a b p q = bind_g (value_g prints cx own ls i c) (λ t. bind_g (frame_g (both_g prints cx own ls i a b p q)) (λ r.
            done_g (s.IfElse t r.0 r.1) (λ l z. (
              (z.0).0,
              if_else_fits y main here prints own t r.0 r.1 AnInt z.1 (z.0).1 (z.0).2,
              quiet own (s.IfElse t r.0 r.1) _ (if_else_is t r.0 r.1) refl,
            ))))

        choice_g : (prints : Bool) (cx : Context) (own : List ℕ) (ls : List Local) → Inside prints cx → (c : Expr) (a : Stmt) (o : Option Stmt)
            → Sub P a → IfSome (Sub P) o → Goes ds (Begins cx own ls) (choice stmt cx c a o) (Stays prints cx own ls)
        choice_g prints cx own ls i c a None p q = if_only_g prints cx own ls i c a p
        choice_g prints cx own ls i c a (Some b) p q = if_else_g prints cx own ls i c a b p q

        repeated_g : (prints : Bool) (cx : Context) (own : List ℕ) (ls : List Local) → Inside prints cx → (c : Expr) (b : Stmt) → Sub P b
            → Goes ds (Begins cx own ls) (repeated stmt cx c b) (Stays prints cx own ls)
        unfolding repeated
        repeated_g prints cx own ls i c b p = bind_g (value_g prints cx own ls i c) (λ t. bind_g
            (frame_g (subs prints (repeating cx) own ls (loop_inside prints cx true i) b p)) (λ x.
            done_g (s.While t x) (λ l q. ((q.0).0, while_fits y main here prints own t x AnInt q.1 (q.0).1, quiet own (s.While t x) _ (while_is t x) refl))))

        step_g : (prints : Bool) (cx : Context) (own : List ℕ) (ls : List Local) → Inside prints cx → (o : Option Stmt) → IfSome (Sub P) o
            → Goes ds (Begins cx own ls) (step stmt cx o) (Stays prints cx own ls)
        step_g prints cx own ls i None p = done_g s.Empty (λ l q. (q, empty_fits y main here prints own, quiet own s.Empty _ empty_is refl))
        step_g prints cx own ls i (Some b) p = subs prints cx own ls i b p

        abbrev Turns : Bool → Context → List ℕ → List Local → Statement × Statement → List Local → Type 0
        Turns prints cx own ls p l = (StmtFits y main here prints own p.0 × (declares (stmt_of p.0) own ≡ own)) × Opens prints cx own ls p.1 l

        turn_g : (prints : Bool) (cx : Context) (own : List ℕ) (ls : List Local) → Inside prints cx → (o : Option Stmt) (b : Stmt)
            → IfSome (Sub P) o → Sub P b → Goes ds (Begins cx own ls) (turn stmt cx o b) (Turns prints cx own ls)
        unfolding turn
        turn_g prints cx own ls i o b p q = bind_g (step_g prints (between cx) own ls (loop_inside prints cx false i) o p) (λ x.
            bind_g (given_g (λ l r. (r.0, (r.1, r.2))) (frame_g {X = StmtFits y main here prints own x × (declares (stmt_of x) own ≡ own)} (body_g prints (repeating cx) own ls (loop_inside prints cx true i) b q)))
            (λ z. done_g (x, z) (λ l r. (r.1, r.0))))

        counted_g : (prints : Bool) (cx : Context) (own : List ℕ) (ls : List Local) → Inside prints cx → (c : Option Expr) (o : Option Stmt) (b : Stmt)
            → IfSome (Sub P) o → Sub P b → Goes ds (Begins cx own ls) (counted stmt cx c o b) (Opens prints cx own ls)
        unfolding counted
        counted_g prints cx own ls i c o b p q = bind_g (condition_g prints cx own ls i c) (λ t. bind_g (frame_g (turn_g prints cx own ls i o b p q)) (λ r.
            done_g (s.For t r.0 r.1) (λ l z.
            (for_fits y main here prints own t r.0 r.1 AnInt ((z.0).0).1 z.1 ((z.0).0).0 ((z.0).1).0, ((z.0).1).1))))

        headed_g : (prints : Bool) (cx : Context) (own : List ℕ) (ls : List Local) → Inside prints cx → (first : List Stmt) (c : Option Expr)
            (o : Option Stmt) (b : Stmt) → EachOf P first → IfSome (Sub P) o → Sub P b
            → Goes ds (Begins cx own ls) (headed stmt cx first c o b) (λ x l. Opens prints cx own ls x l × (declares (stmt_of x) own ≡ own))
        unfolding headed
        headed_g prints cx own ls i first c o b f p q = bind_g (statements_g prints cx own ls i first f) (λ xs. at_g (λ l0. bind_g
            (given_g (λ l r. ((r.1, subst (λ z. Holds cx (declares_all y main here xs own) z) r.1 (r.0).1), ((r.0).0, subst (λ z. Extends ls z) r.1 (r.0).2)))
            (frame_g {X = StmtsFit y main here prints own xs × Extends ls l0} (counted_g prints cx (declares_all y main here xs own) l0 i c o b p q)))
            (λ x. done_g (s.Block (xs ++ x ∷ [])) (λ l z. (
              (
                block_fits y main here prints own (xs ++ x ∷ []) (one_more y main here prints own xs x (z.1).0 (z.0).0),
                extends_more ls l0 l (z.1).1 (z.0).1,
              ),
              quiet own (s.Block (xs ++ x ∷ [])) _ (block_is (xs ++ x ∷ [])) refl,
            )))))

        loop_of_g : (prints : Bool) (cx : Context) (own : List ℕ) (ls : List Local) → Inside prints cx → (first : List Stmt) (c : Option Expr)
            (o : Option Stmt) (b : Stmt) → EachOf P first → IfSome (Sub P) o → Sub P b
            → Goes ds (Begins cx own ls) (loop_of stmt cx first c o b) (Stays prints cx own ls)
        unfolding loop_of
        loop_of_g prints cx own ls i first c o b f p q = looking_g
            (λ t. headed stmt (inside cx (length t.locals)) first c o b >>= (λ x. leave (length t.locals) >> pure x))
            (λ t. bind_g
            (given_g (λ l r. (r.0, ((r.0).1, sym r.1 ∙ (r.0).0)))
            (frame_g {X = Holds cx own ls × (t.locals ≡ ls)} (headed_g prints (inside cx (length t.locals)) own ls (scope_inside prints cx (length t.locals) i) first c o b f p q)))
            (λ x. next_g (leave_g ls (length t.locals) (λ l r. (ap (λ z. length z) (r.1).1, ((r.0).0).1)))
            (done_g x (λ l r. let z = (r.1).1 in ((r.0, (z.1).0), ((z.0).0).0, (z.0).1)))))

        -- ---- parallel parts

        branch_begins : (cx : Context) (own more : List ℕ) (ls l : List Local) (n : ℕ) → n ≡ length ls → Begins cx own ls l → Begins (branch cx n) more ls l
        branch_begins cx own more ls l n is p = (
          p.0,
          ((subst (λ k. LocalsFit ds k more ls) (sym is) (rebase ds cx.part own more ls (p.1).0), ((p.1).0).1), (p.1).1, omega (arith, is)),
        )

        part_g : (prints : Bool) (cx : Context) (own : List ℕ) (ls : List Local) → Inside prints cx → (b : Stmt) → Sub P b
            → Goes ds (Begins cx own ls) (part stmt cx b) (λ x l. Begins cx own ls l × StmtFits y main here false [] x)
        part_g prints cx own ls i b p = looking_g (λ t. stmt (branch cx (length t.locals)) b) (λ t.
            gives_g (λ x l q. ((((q.0).0).0, q.1), (q.0).1))
            (given_g (λ l q. (branch_begins cx own [] ls l (length t.locals) (ap (λ z. length z) (sym q.1 ∙ (q.0).0)) q.0, (q.0).1))
            (frame_g {X = Holds cx own ls} (subs false (branch cx (length t.locals)) [] ls (branch_inside prints cx (length t.locals) i) b p))))

        parts_from_g : (prints : Bool) (cx : Context) (own : List ℕ) (ls : List Local) → Inside prints cx → (xs : List Statement) (bs : List Stmt)
            → EachOf (Sub P) bs → Goes ds (λ l. Begins cx own ls l × BranchesFit y main here xs) (parts_from stmt cx xs bs)
            (λ zs l. Begins cx own ls l × BranchesFit y main here zs)
        parts_from_g prints cx own ls i xs [] ps = done_g xs (λ l p. p)
        parts_from_g prints cx own ls i xs (b ∷ bs) ps = bind_g (frame_g (part_g prints cx own ls i b ps.0)) (λ x.
            given_g (λ l q. ((q.0).0, one_branch y main here xs x q.1 (q.0).1)) (parts_from_g prints cx own ls i (xs ++ x ∷ []) bs ps.1))

        parts_g : (prints : Bool) (cx : Context) (own : List ℕ) (ls : List Local) → Inside prints cx → (bs : List Stmt) → EachOf (Sub P) bs
            → Goes ds (Begins cx own ls) (parts stmt cx bs) (λ zs l. Begins cx own ls l × BranchesFit y main here zs)
        unfolding parts
        parts_g prints cx own ls i bs ps = given_g (λ l p. (p, tt)) (parts_from_g prints cx own ls i [] bs ps)

        par_g : (prints : Bool) (cx : Context) (own : List ℕ) (ls : List Local) → Inside prints cx → (bs : List Stmt) → EachOf (Sub P) bs
            → Goes ds (Begins cx own ls) (par stmt cx bs) (Stays prints cx own ls)
        unfolding par
        par_g prints cx own ls i bs ps = next_g (block_g cx.line) (bind_g (parts_g prints cx own ls i bs ps) (λ xs.
            done_g (s.Par xs) (λ l p. (p.0, par_fits y main here prints own xs p.1, quiet own (s.Par xs) _ (par_is xs) refl))))

        -- ---- the header of a parfor

        abbrev Newest : Context → Name → ℕ → List Local → List Local
        Newest cx name k ls = ls ++ record { name = name; number = k; declared = plain_int; part = cx.part } ∷ []

        no_step_g : {Q : Expression → List Local → Type 0} (prints : Bool) (cx : Context) (own : List ℕ) (ls : List Local) → Inside prints cx → (b : Stmt)
            → Sub P b → Goes ds (Begins cx own ls) (no_step stmt cx b) Q
        unfolding no_step
        no_step_g prints cx own ls i b p = bind_g (subs prints cx own ls i b p) (λ x. never_g cx r.ParforHeader no_value)

        assigned_there : (a : Option Assignment) → IsThere (λ (x : Assignment). Values y main here x.value AnInt) a → Values y main here (assigned_value a) AnInt
        assigned_there None p = absurd p
        assigned_there (Some a) p = p

        abbrev StepLeft : Context → List ℕ → List Local → Expression → List Local → Type 0
        StepLeft cx own ls x l = Begins cx own ls l × Values y main here x AnInt

        step_if_g : (prints : Bool) (cx : Context) (own : List ℕ) (ls : List Local) (name : Name) (k : ℕ) → Inside prints cx → (n : Bool) (b : Stmt)
            (target : Expr) (op : AssignOp) (e : Expr) → names target name ≡ n → Sub P b
            → Goes ds (Begins cx own (Newest cx name k ls)) (step_if stmt n cx b target op e) (StepLeft cx own (Newest cx name k ls))
        unfolding step_value
        step_if_g prints cx own ls name k i true b target op e is p = bind_g
            (exact_g {F = F} cx.part own (Newest cx name k ls)
            (own_assignment_runs y main here F ds ds cx.part own ls (at_line cx (out-Stmt b).line) (line_inside prints cx (out-Stmt b).line i).stands vars
            name k cx.part target op e is)
            (λ l q. (q.0, tt, (q.1).0.0, (q.1).1)))
            (λ a. done_g (assigned_value a) (λ l q. (q.0, assigned_there a q.1)))
        step_if_g prints cx own ls name k i false b target op e is p = no_step_g prints cx own (Newest cx name k ls) i b p

        header_step_by_g : (prints : Bool) (cx : Context) (own : List ℕ) (ls : List Local) (name : Name) (k : ℕ) → Inside prints cx → (w : Layer) (b : Stmt)
            → Sub P b → Goes ds (Begins cx own (Newest cx name k ls)) (header_step_by stmt w cx name b) (StepLeft cx own (Newest cx name k ls))
        header_step_by_g prints cx own ls name k i (StmtKind-F.Assign target op e) b p = step_if_g prints cx own ls name k i (names target name) b target op e refl p
        header_step_by_g prints cx own ls name k i (StmtKind-F.Block ss) b p = no_step_g prints cx own (Newest cx name k ls) i b p
        header_step_by_g prints cx own ls name k i StmtKind-F.Empty b p = no_step_g prints cx own (Newest cx name k ls) i b p
        header_step_by_g prints cx own ls name k i (StmtKind-F.Declare d) b p = no_step_g prints cx own (Newest cx name k ls) i b p
        header_step_by_g prints cx own ls name k i (StmtKind-F.Call e) b p = no_step_g prints cx own (Newest cx name k ls) i b p
        header_step_by_g prints cx own ls name k i (StmtKind-F.Print xs) b p = no_step_g prints cx own (Newest cx name k ls) i b p
        header_step_by_g prints cx own ls name k i (StmtKind-F.If c first other) b p = no_step_g prints cx own (Newest cx name k ls) i b p
        header_step_by_g prints cx own ls name k i (StmtKind-F.While c x) b p = no_step_g prints cx own (Newest cx name k ls) i b p
        header_step_by_g prints cx own ls name k i (StmtKind-F.For first c after x) b p = no_step_g prints cx own (Newest cx name k ls) i b p
        header_step_by_g prints cx own ls name k i StmtKind-F.Break b p = no_step_g prints cx own (Newest cx name k ls) i b p
        header_step_by_g prints cx own ls name k i StmtKind-F.Continue b p = no_step_g prints cx own (Newest cx name k ls) i b p
        header_step_by_g prints cx own ls name k i (StmtKind-F.Par bs) b p = no_step_g prints cx own (Newest cx name k ls) i b p
        header_step_by_g prints cx own ls name k i (StmtKind-F.ParFor text start c after x) b p = no_step_g prints cx own (Newest cx name k ls) i b p
        header_step_by_g prints cx own ls name k i (StmtKind-F.Spawn e) b p = no_step_g prints cx own (Newest cx name k ls) i b p
        header_step_by_g prints cx own ls name k i (StmtKind-F.Return e) b p = no_step_g prints cx own (Newest cx name k ls) i b p

        header_step_g : (prints : Bool) (cx : Context) (own : List ℕ) (ls : List Local) (name : Name) (k : ℕ) → Inside prints cx → (b : Stmt) → Sub P b
            → Goes ds (Begins cx own (Newest cx name k ls)) (header_step stmt cx name b) (StepLeft cx own (Newest cx name k ls))
        unfolding header_step
        header_step_g prints cx own ls name k i b p = header_step_by_g prints cx own ls name k i (layer b) b p

        abbrev HeaderFits : ℕ → (start test value : Expression) → Type 0
        HeaderFits k start test value =
            (slice_get ds k ≡ Some plain_int) × Values y main here start AnInt × Values y main here test AnInt × Values y main here value AnInt

        -- with the variable in scope
        abbrev Headed : Context → Name → List ℕ → List Local → ℕ → List Local → Type 0
        Headed cx name own ls k l = Begins cx (k ∷ own) (Newest cx name k ls) l

        header_rest_g : (prints : Bool) (cx : Context) (own : List ℕ) (ls : List Local) (name : Name) (k : ℕ) → Inside prints cx → (start : Expression) (c : Expr)
            (b : Stmt) → Sub P b
            → Goes ds (λ l. Headed cx name own ls k l × ((slice_get ds k ≡ Some plain_int) × Values y main here start AnInt)) (header_rest stmt cx name k start c b)
            (λ h l. Headed cx name own ls h.variable l × HeaderFits h.variable h.start h.test h.value)
        unfolding header_rest
        header_rest_g prints cx own ls name k i start c b p = bind_g (frame_g (value_g prints cx (k ∷ own) (Newest cx name k ls) i c)) (λ t.
            bind_g (given_g (λ l q. ((q.0).0, ((q.0).1, q.1))) (frame_g {X = Values y main here t AnInt × ((slice_get ds k ≡ Some plain_int) × Values y main here start AnInt)} (header_step_g prints cx (k ∷ own) ls name k i b p))) (λ v.
            done_g (record { variable = k; start = start; test = t; line = (out-Stmt b).line; value = v }) (λ l q. ((q.0).0, (((q.1).1).0, ((q.1).1).1, (q.1).0, (q.0).1)))))

        header_g : (prints : Bool) (cx : Context) (own : List ℕ) (ls : List Local) → Inside prints cx → (name : Name) (start c : Expr) (b : Stmt) → Sub P b
            → Goes ds (Begins cx own ls) (header stmt cx name start c b)
            (λ h l. Headed cx name own ls h.variable l × HeaderFits h.variable h.start h.test h.value)
        unfolding header
        header_g prints cx own ls i name start c b p = bind_g (value_g prints cx own ls i start) (λ a. bind_g
            (given_g (λ l q. (((q.0).0, ((q.0).1).0, tt, ((q.0).1).2), (((q.0).1), q.1))) (frame_g {X = Holds cx own ls × Values y main here a AnInt} (declare_g ds cx.part own ls cx name plain_int refl)))
            (λ k. given_g (λ l q. (
              ((q.0).2, (subst (λ z. Good ds cx.part (k ∷ own) z) (q.0).2 (q.0).1, ((q.1).0).1, longer ls _ ((q.1).0).2)),
              ((q.0).0, (q.1).1),
            ))
            (header_rest_g prints cx own ls name k i a c b p)))

        each_g : (prints : Bool) (cx : Context) (own : List ℕ) (ls : List Local) → Inside prints cx → (name : Name) (k : ℕ) (b : Stmt) → Sub P b
            → Goes ds (λ l. Headed cx name own ls k l × (slice_get ds k ≡ Some plain_int)) (each stmt cx name k b)
            (λ x l. StmtFits y main here false (k ∷ []) x × Extends ls l)
        unfolding copied
        each_g prints cx own ls i name k b p = looking_g (λ t. copied stmt (branch cx (length t.locals)) name k b) (λ t.
            next_g
            (given_g (λ l q.
            let w = branch_begins cx (k ∷ own) (k ∷ []) (Newest cx name k ls) l (length t.locals) (ap (λ z. length z) (sym q.1 ∙ ((q.0).0).0)) (q.0).0 in
            ((w.0, (w.1).0, ((q.0).1, tt, λ z. inl refl), (w.1).2), ((w.1).1, (w.1).2)))
            (frame_g {X = F × (length t.locals ≤ length (Newest cx name k ls))} (bring_g ds (length t.locals) (k ∷ []) (Newest cx name k ls) (branch cx (length t.locals)) name k plain_int refl)))
            (gives_g (λ x l q. (q.0, extends_more ls (Newest cx name k ls) l (_, refl) (extends_more (Newest cx name k ls) _ l (_, refl) q.1)))
            (given_g (λ l q. ((q.0).0, (subst (λ z. Good ds (length t.locals) (k ∷ []) z) (q.0).0 (q.0).1, (q.1).0, longer (Newest cx name k ls) _ (q.1).1)))
            (body_g false (branch cx (length t.locals)) (k ∷ []) (Newest (branch cx (length t.locals)) name k (Newest cx name k ls))
            (branch_inside prints cx (length t.locals) i) b p))))

        iterated_g : (prints : Bool) (cx : Context) (own : List ℕ) (ls : List Local) → Inside prints cx → (name : Name) (start c : Expr) (after b : Stmt)
            → Sub P after → Sub P b → Goes ds (Begins cx own ls) (iterated stmt cx name start c after b)
            (λ x l. StmtFits y main here prints own x × (declares (stmt_of x) own ≡ own) × Extends ls l)
        unfolding iterated
        iterated_g prints cx own ls i name start c after b p q = bind_g (header_g prints cx own ls i name start c after p) (λ h. bind_g
            (given_g (λ l r. ((r.0, (r.1).0), (r.1, ((r.0).1).1))) (frame_g {X = HeaderFits h.variable h.start h.test h.value × F} (each_g prints cx own ls i name h.variable b q)))
            (λ x. done_g (s.ParFor h.variable h.start h.test h.line h.value x) (λ l r. let z = (r.1).0 in (
              parfor_fits y main here prints own h.variable h.start h.test h.line h.value x AnInt AnInt (vars (r.1).1 h.variable plain_int z.0) z.1 z.2 z.3 (r.0).0,
              quiet own _ _ (parfor_is h.variable h.start h.test h.line h.value x) refl,
              (r.0).1,
            ))))

        parfor_g : (prints : Bool) (cx : Context) (own : List ℕ) (ls : List Local) → Inside prints cx → (name : Name) (start c : Expr) (after b : Stmt)
            → Sub P after → Sub P b → Goes ds (Begins cx own ls) (parfor stmt cx name start c after b) (Stays prints cx own ls)
        unfolding parfor
        parfor_g prints cx own ls i name start c after b p q = looking_g
            (λ t. block cx.line >> (iterated stmt (inside cx (length t.locals)) name start c after b >>= (λ x. leave (length t.locals) >> pure x)))
            (λ t. next_g (block_g cx.line) (bind_g
            (given_g (λ l r. (r.0, ((r.0).1, sym r.1 ∙ (r.0).0)))
            (frame_g {X = Holds cx own ls × (t.locals ≡ ls)} (iterated_g prints (inside cx (length t.locals)) own ls (scope_inside prints cx (length t.locals) i) name start c after b p q)))
            (λ x. next_g (leave_g ls (length t.locals) (λ l r. (ap (λ z. length z) (r.1).1, (r.0).2)))
            (done_g x (λ l r. let z = (r.1).1 in ((r.0, (z.1).0), (z.0).0, (z.0).1))))))

        -- ---- each statement

        sub_kind_g : (prints : Bool) (cx : Context) (own : List ℕ) (ls : List Local) → Inside prints cx → (w : Layer) → DeclaresNone w → ProperParts P w
            → Goes ds (Begins cx own ls) (kind stmt w cx) (Stays prints cx own ls)
        sub_kind_g prints cx own ls i (StmtKind-F.Block ss) n p = block_of_g prints cx own ls i ss p
        sub_kind_g prints cx own ls i StmtKind-F.Empty n p = done_g s.Empty (λ l q. (q, empty_fits y main here prints own, quiet own s.Empty _ empty_is refl))
        sub_kind_g prints cx own ls i (StmtKind-F.Declare d) n p = absurd n
        sub_kind_g prints cx own ls i (StmtKind-F.Assign target op e) n p =
            stays_g prints cx own ls (λ l. assign_runs y main here F ds ds cx.part own l cx i.stands vars prints refl i.outside target op e)
            (assign_quiet cx target op e own)
        sub_kind_g prints cx own ls i (StmtKind-F.Call e) n p =
            stays_g prints cx own ls (λ l. call_statement_runs y main here F ds ds cx.part own l cx i.stands vars prints e) (call_quiet cx e own)
        sub_kind_g prints cx own ls i (StmtKind-F.Print xs) n p =
            stays_g prints cx own ls (λ l. print_runs y main here F ds ds cx.part own l cx i.stands vars prints i.alone xs) (print_quiet cx xs own)
        sub_kind_g prints cx own ls i (StmtKind-F.If c first other) n p = choice_g prints cx own ls i c first other p.0 p.1
        sub_kind_g prints cx own ls i (StmtKind-F.While c b) n p = repeated_g prints cx own ls i c b p
        sub_kind_g prints cx own ls i (StmtKind-F.For first c after b) n p = loop_of_g prints cx own ls i first c after b p.0 p.1 p.2
        sub_kind_g prints cx own ls i StmtKind-F.Break n p = jump_g prints cx own ls i s.Break (break_fits y main here prints own)
            (quiet own s.Break _ break_is refl)
        sub_kind_g prints cx own ls i StmtKind-F.Continue n p = jump_g prints cx own ls i s.Continue (continue_fits y main here prints own)
            (quiet own s.Continue _ continue_is refl)
        sub_kind_g prints cx own ls i (StmtKind-F.Par bs) n p = par_g prints cx own ls i bs p
        sub_kind_g prints cx own ls i (StmtKind-F.ParFor name start c after b) n p = parfor_g prints cx own ls i name start c after b p.0 p.1
        sub_kind_g prints cx own ls i (StmtKind-F.Spawn e) n p =
            stays_g prints cx own ls (λ l. spawn_runs y main here F ds ds cx.part own l cx i.stands vars prints e) (spawn_quiet cx e own)
        sub_kind_g prints cx own ls i (StmtKind-F.Return e) n p =
            stays_g prints cx own ls (λ l. give_runs y main here F ds ds cx.part own l cx i.stands vars prints e) (give_quiet cx e own)

        kind_g : (prints : Bool) (cx : Context) (own : List ℕ) (ls : List Local) → Inside prints cx → (w : Layer) → ProperParts P w
            → Goes ds (Begins cx own ls) (kind stmt w cx) (Adds prints cx own ls)
        kind_g prints cx own ls i (StmtKind-F.Declare d) p = declaration_g prints cx own ls i d
        kind_g prints cx own ls i (StmtKind-F.Block ss) p = gives_g (adds prints cx own ls) (sub_kind_g prints cx own ls i (StmtKind-F.Block ss) tt p)
        kind_g prints cx own ls i StmtKind-F.Empty p = gives_g (adds prints cx own ls) (sub_kind_g prints cx own ls i StmtKind-F.Empty tt p)
        kind_g prints cx own ls i (StmtKind-F.Assign target op e) p = gives_g (adds prints cx own ls) (sub_kind_g prints cx own ls i (StmtKind-F.Assign target op e) tt p)
        kind_g prints cx own ls i (StmtKind-F.Call e) p = gives_g (adds prints cx own ls) (sub_kind_g prints cx own ls i (StmtKind-F.Call e) tt p)
        kind_g prints cx own ls i (StmtKind-F.Print xs) p = gives_g (adds prints cx own ls) (sub_kind_g prints cx own ls i (StmtKind-F.Print xs) tt p)
        kind_g prints cx own ls i (StmtKind-F.If c first other) p = gives_g (adds prints cx own ls) (sub_kind_g prints cx own ls i (StmtKind-F.If c first other) tt p)
        kind_g prints cx own ls i (StmtKind-F.While c b) p = gives_g (adds prints cx own ls) (sub_kind_g prints cx own ls i (StmtKind-F.While c b) tt p)
        kind_g prints cx own ls i (StmtKind-F.For first c after b) p = gives_g (adds prints cx own ls) (sub_kind_g prints cx own ls i (StmtKind-F.For first c after b) tt p)
        kind_g prints cx own ls i StmtKind-F.Break p = gives_g (adds prints cx own ls) (sub_kind_g prints cx own ls i StmtKind-F.Break tt p)
        kind_g prints cx own ls i StmtKind-F.Continue p = gives_g (adds prints cx own ls) (sub_kind_g prints cx own ls i StmtKind-F.Continue tt p)
        kind_g prints cx own ls i (StmtKind-F.Par bs) p = gives_g (adds prints cx own ls) (sub_kind_g prints cx own ls i (StmtKind-F.Par bs) tt p)
        kind_g prints cx own ls i (StmtKind-F.ParFor name start c after b) p = gives_g (adds prints cx own ls) (sub_kind_g prints cx own ls i (StmtKind-F.ParFor name start c after b) tt p)
        kind_g prints cx own ls i (StmtKind-F.Spawn e) p = gives_g (adds prints cx own ls) (sub_kind_g prints cx own ls i (StmtKind-F.Spawn e) tt p)
        kind_g prints cx own ls i (StmtKind-F.Return e) p = gives_g (adds prints cx own ls) (sub_kind_g prints cx own ls i (StmtKind-F.Return e) tt p)

        sub_node_g : (prints : Bool) (cx : Context) (own : List ℕ) (ls : List Local) → Inside prints cx → (b : Stmt) → IsPlain b → ProperParts P (layer b)
            → Goes ds (Begins cx own ls) (node stmt cx b) (Stays prints cx own ls)
        unfolding node kind_of
        sub_node_g prints cx own ls i b n p = bind_g (sub_kind_g prints (at_line cx (out-Stmt b).line) own ls (line_inside prints cx (out-Stmt b).line i) (layer b) n p)
            (λ x. done_g (s.AtLine (out-Stmt b).line x) (λ l q.
            (q.0, at_line_fits y main here prints own (out-Stmt b).line x q.1, quiet own _ _ (at_line_is (out-Stmt b).line x) q.2)))

        node_g : (prints : Bool) (cx : Context) (own : List ℕ) (ls : List Local) → Inside prints cx → (b : Stmt) → ProperParts P (layer b)
            → Goes ds (Begins cx own ls) (node stmt cx b) (Adds prints cx own ls)
        unfolding node kind_of
        node_g prints cx own ls i b p = bind_g (kind_g prints (at_line cx (out-Stmt b).line) own ls (line_inside prints cx (out-Stmt b).line i) (layer b) p)
            (λ x. done_g (s.AtLine (out-Stmt b).line x) (λ l q. (
              at_line_fits y main here prints own (out-Stmt b).line x q.0,
              subst (λ z. Holds cx (declares z own) l) (sym (at_line_is (out-Stmt b).line x)) q.1,
              q.2,
            )))

    -- ---- each depth

    abbrev SubLaw : (Context → Stmt → Elab Statement) → Type 0
    SubLaw stmt = (prints : Bool) (cx : Context) (own : List ℕ) (ls : List Local) → Inside prints cx → (b : Stmt) → Sub AlwaysProper b
        → Goes ds (Begins cx own ls) (stmt cx b) (Stays prints cx own ls)

    abbrev EntryLaw : (Context → Stmt → Elab Statement) → Type 0
    EntryLaw stmt = (prints : Bool) (cx : Context) (own : List ℕ) (ls : List Local) → Inside prints cx → (b : Stmt) → AlwaysProper b
        → Goes ds (Begins cx own ls) (stmt cx b) (Adds prints cx own ls)

    statement_to_g : (depth : ℕ) → SubLaw (statement_to depth) × EntryLaw (statement_to depth)
    unfolding statement_to
    statement_to_g zero = ((λ prints cx own ls i b p. never_g cx _ s.Empty), (λ prints cx own ls i b p. never_g cx _ s.Empty))
    statement_to_g (suc depth) = let z = statement_to_g depth in (
      (λ prints cx own ls i b p.
          sub_node_g AlwaysProper (statement_to depth) z.0 z.1 always_opened prints cx own ls i b p.0 (always_parts (layer b) (λ d. p.1 (suc d)))),
      (λ prints cx own ls i b p.
          node_g AlwaysProper (statement_to depth) z.0 z.1 always_opened prints cx own ls i b (always_parts (layer b) (λ d. p (suc d)))),
    )

    pub function_body_g : (prints : Bool) (cx : Context) (own : List ℕ) (ls : List Local) → Inside prints cx → (bs : List Stmt) → EachOf AlwaysProper bs
        → Goes ds (Begins cx own ls) (function_body cx bs) (λ xs l. StmtsFit y main here prints own xs)
    function_body_g prints cx own ls i bs ps = let z = statement_to_g 1000 in
        gives_g (λ xs l p. p.0) (statements_g AlwaysProper statement z.0 z.1 prints cx own ls i bs ps)
