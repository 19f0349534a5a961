-- The code that is made is the layout.
use Rattle.std.proofs.Common.{◌≡◌, ℕ, suc, List, [], ◌∷◌, ◌++◌, length, false, refl, sym, ap, ◌∙◌, arith, append_assoc, append-nil, length-append}
use Rattle.std.specs.Prelude.{replicate}
use Rattle.std.proofs.Math.Seq.{set-append_seam}
use Rattle.cc_ops.specs.declared.kind.Kind.TheVariants.{Int as IntK}
use Rattle.cc_ops.specs.declared.operator.Op.TheVariants.{Bool as Bool'}
use Rattle.cc_core.specs.Core.{How, Alone, On, Remote, Term, Push, This, Variable, Member, Index, At, Load, Unary, Binary, And, Or, New}
use Rattle.cc_core.specs.Core.{NewObject, Call, Val, Body, Branch, Starts, Terms, NoTerms, MoreTerms, MoreCells, Copied, Stmt, Empty}
use Rattle.cc_core.specs.Core.{AtLine, Make, Set, Build, Assign, Drop, Print, If, IfElse, While, For, Break, Continue, Par, ParFor}
use Rattle.cc_core.specs.Core.{Spawn, Return, Block, Turn, Forks, Each, Wait, Left, Stmts, NoStmts, MoreStmts, Shapes}
use Rattle.cc_core.specs.Source.{IsTerm, AreTerms, IsStmt, AreStmts}
use Rattle.cc_code.specs.Code.{VariableI, FieldI, DropI, JumpI, EndI, IndexI, AtI, LoadI, StoreI, OpI, TestI, AndI}
use Rattle.cc_code.specs.Code.{OrI, SetI, BuildI, NewObjectI, CallI, SpawnI, CellsI, RetI, ForkI, EachI, JoinI, PrintI}
use Rattle.cc_code.specs.Code.{Placed, Code}
use Rattle.cc_code.specs.Layout.{placed, call_code, end_term, end_stmt, end_branches, targets, Loop, NoLoop, In}
use Rattle.cc_code.specs.Layout.{code_term, code_terms, code_stmt, code_stmts, code_branches}
use Rattle.cc_follows.proofs.Lays.{after, looped, ends, term_end, stmt_end, branches_end}
use Rattle.stack_code.specs.View.{with_target}
use Rattle.cc_lower.specs.Emitted.{put, here, aim_here, put_call, count, emitted_term, emitted_terms, emitted_stmt, emitted_stmts, emitted_branches}
use Rattle.cc_lower.specs.Emitted.{for_again, for_out, while_out}
use Rattle.cc_lower.proofs.Pieces.{behind, behind_nothing, join, regroup, here_behind, here_put, next, last, two, three, seam, patched}

-- pieces in other groups
regroup_three : (a b c d : List Placed) → (a ++ (b ++ c)) ++ d ≡ a ++ (b ++ (c ++ d))
regroup_three a b c d = simp append_assoc

regroup_four : (a b c d : List Placed) → ((a ++ b) ++ c) ++ d ≡ a ++ (b ++ (c ++ d))
regroup_four a b c d = simp append_assoc

regroup_else : (a b c d e : List Placed) → (a ++ (b ++ c)) ++ (d ++ e) ≡ a ++ (b ++ (c ++ (d ++ e)))
regroup_else a b c d e = simp append_assoc

regroup_loop : (a b c d e f g h i j : List Placed)
    → (a ++ (b ++ (((c ++ (d ++ (e ++ (f ++ g)))) ++ h) ++ i))) ++ j ≡ a ++ (b ++ (c ++ (d ++ (e ++ (f ++ (g ++ (h ++ (i ++ j))))))))
regroup_loop a b c d e f g h i j = simp append_assoc

call_is : (c d : Code) (xs : List Placed) (n : ℕ) (how : How) (f : ℕ) → d ≡ behind c xs → put_call d n how f ≡ behind c (xs ++ call_code n how f)
call_is c d xs n Alone f is = last c d xs n (CallI Alone f) is
call_is c d xs n On f is = last c d xs n (CallI On f) is
call_is c d xs n Remote f is =
    last c (put d n (CallI Remote f)) (xs ++ placed n (CallI Remote f)) n JoinI (last c d xs n (CallI Remote f) is)
    ∙ regroup c xs (placed n (CallI Remote f)) (placed n JoinI)

-- a parfor from its first test on
abbrev emitted_loop : (n k : ℕ) → (test : Term) → (line : ℕ) → (value : Term) → Stmt → Code → Code
emitted_loop n k test line value u lp =
    let one = emitted_term lp n test in
    let two = put one n (TestI 0) in
    let step = put (emitted_term (put (put two n (EachI 0 k)) line (VariableI k)) line value) line (StoreI false) in
    let body = emitted_stmt (aim_here (put step n (JumpI (here lp))) (here two)) 0 NoLoop u in
    put (aim_here (put body n EndI) (here one)) n JoinI

abbrev loop_code : (n k : ℕ) → (test : Term) → (line : ℕ) → (value : Term) → Stmt → ℕ → List Placed
loop_code n k test line value s loop =
    let each = suc (end_term loop test) in
    let jump = suc (end_term (suc (suc each)) value) in
    let body = suc jump in
    let out = suc (end_stmt body s) in
    code_term n loop test ++ (placed n (TestI out) ++ (placed n (EachI body k)
    ++ (placed line (VariableI k) ++ (code_term line (suc (suc each)) value ++ (placed line (StoreI false) ++ (placed n (JumpI loop)
    ++ (code_stmt 0 NoLoop body s ++ (placed n EndI
    ++ placed n JoinI))))))))

-- a while and a for from the instruction that tests on, which stands at place m
abbrev while_code : (n b : ℕ) → Stmt → (m : ℕ) → List Placed
while_code n b u m =
    placed n (TestI (while_out m u)) ++ (code_stmt n (In (while_out m u) b) (suc m) u ++ placed n (JumpI b))

abbrev for_code : (n b : ℕ) → (step : Stmt) → Stmt → (m : ℕ) → List Placed
for_code n b step u m =
    placed n (TestI (for_out m step u)) ++ (code_stmt n (In (for_out m step u) (for_again m u)) (suc m) u
    ++ (code_stmt n NoLoop (for_again m u) step ++ placed n (JumpI b)))

module _ (h : Shapes) where
  mutual
    pub term_is : (n : ℕ) (e : Term) (c : Code) → IsTerm h e → emitted_term c n e ≡ behind c (code_term n (here c) e)
    term_is n (Push k) c s = refl
    term_is n This c s = refl
    term_is n (Variable k) c s = refl
    term_is n (Member e o) c s = last c (emitted_term c n e) (code_term n (here c) e) n (FieldI o) (term_is n e c s)
    term_is n (Index x size y) c s =
        three c (emitted_term c n x) (emitted_term (emitted_term c n x) n y) (code_term n (here c) x) (λ k. code_term n k y) (end_term (here c) x) n (IndexI size)
        (term_is n x c s.0) (term_is n y (emitted_term c n x) s.1) (term_end h n (here c) x s.0)
    term_is n (At x y) c s =
        three c (emitted_term c n x) (emitted_term (emitted_term c n x) n y) (code_term n (here c) x) (λ k. code_term n k y) (end_term (here c) x) n AtI
        (term_is n x c s.0) (term_is n y (emitted_term c n x) s.1) (term_end h n (here c) x s.0)
    term_is n (Load remote e) c s = last c (emitted_term c n e) (code_term n (here c) e) n (LoadI remote) (term_is n e c s)
    term_is n (Unary op e) c s = last c (emitted_term c n e) (code_term n (here c) e) n (OpI op) (term_is n e c s.0)
    term_is n (Binary op x y) c s =
        three c (emitted_term c n x) (emitted_term (emitted_term c n x) n y) (code_term n (here c) x) (λ k. code_term n k y) (end_term (here c) x) n (OpI op)
        (term_is n x c s.0) (term_is n y (emitted_term c n x) s.1) (term_end h n (here c) x s.0)
    term_is n (And x y) c s =
        let one = emitted_term c n x in
        let first = put one n (AndI 0) in
        let k = end_term (here c) x in
        patched c one (put (emitted_term first n y) n (OpI Bool')) (code_term n (here c) x) n (AndI 0) (λ m. code_term n m y ++ placed n (OpI Bool')) k
        (suc (end_term (suc k) y)) (term_is n x c s.0) (term_end h n (here c) x s.0)
        (last first (emitted_term first n y) (code_term n (here first) y) n (OpI Bool') (term_is n y first s.1))
        (ends (suc k) _ _ (code_term n (suc k) y) _ (term_end h n (suc k) y s.1) refl)
    term_is n (Or x y) c s =
        let one = emitted_term c n x in
        let first = put one n (OrI 0) in
        let k = end_term (here c) x in
        patched c one (put (emitted_term first n y) n (OpI Bool')) (code_term n (here c) x) n (OrI 0) (λ m. code_term n m y ++ placed n (OpI Bool')) k
        (suc (end_term (suc k) y)) (term_is n x c s.0) (term_end h n (here c) x s.0)
        (last first (emitted_term first n y) (code_term n (here first) y) n (OpI Bool') (term_is n y first s.1))
        (ends (suc k) _ _ (code_term n (suc k) y) _ (term_end h n (suc k) y s.1) refl)
    term_is n (New kind size) c s = refl
    term_is n (NewObject remote class es) c s =
        last c (emitted_terms c n es) (code_terms n (here c) es) n (NewObjectI remote class) (terms_is n es c s.0)
    term_is n (Call how f es) c s = call_is c (emitted_terms c n es) (code_terms n (here c) es) n how f (terms_is n es c s.0)
    term_is n (Val v) c s = absurd s
    term_is n (Body f this env ss) c s = absurd s
    term_is n (Branch this env b) c s = absurd s
    term_is n (Starts f this vs) c s = absurd s

    pub terms_is : (n : ℕ) (es : Terms) (c : Code) → AreTerms h es → emitted_terms c n es ≡ behind c (code_terms n (here c) es)
    terms_is n NoTerms c s = behind_nothing c
    terms_is n (MoreTerms e es) c s =
        two c (emitted_term c n e) (emitted_terms (emitted_term c n e) n es) (code_term n (here c) e) (λ k. code_terms n k es) (end_term (here c) e)
        (term_is n e c s.0) (terms_is n es (emitted_term c n e) s.1) (term_end h n (here c) e s.0)
    terms_is n (MoreCells e size es) c s =
        let d = put (emitted_term c n e) n (CellsI size) in
        two c d (emitted_terms d n es) (code_term n (here c) e ++ placed n (CellsI size)) (λ k. code_terms n k es) (suc (end_term (here c) e))
        (last c (emitted_term c n e) (code_term n (here c) e) n (CellsI size) (term_is n e c s.0)) (terms_is n es d s.1)
        (ends (here c) _ _ (code_term n (here c) e) _ (term_end h n (here c) e s.0) refl)
        ∙ regroup c (code_term n (here c) e) (placed n (CellsI size)) (code_terms n (suc (end_term (here c) e)) es)
    terms_is n (Copied vs es) c s = absurd s

  -- where the code behind a term begins, in code that the term stands behind
  term_here : (n : ℕ) (e : Term) (c : Code) → IsTerm h e → here (emitted_term c n e) ≡ end_term (here c) e
  term_here n e c s = ap here (term_is n e c s) ∙ (here_behind c (code_term n (here c) e) ∙ term_end h n (here c) e s)

  loop_is : (n k : ℕ) (test : Term) (line : ℕ) (value : Term) (u : Stmt) (lp : Code) → IsTerm h test → IsTerm h value → IsStmt h false u → ((c : Code) → emitted_stmt c 0 NoLoop u ≡ behind c (code_stmt 0 NoLoop (here c) u)) → emitted_loop n k test line value u lp ≡ behind lp (loop_code n k test line value u (here lp))
  loop_is n k test line value u lp s1 s2 s3 body_law =
      let start = here lp in
      let one = emitted_term lp n test in
      let tested = put one n (TestI 0) in
      let each = put tested n (EachI 0 k) in
      let variable = put each line (VariableI k) in
      let amount = emitted_term variable line value in
      let step = put amount line (StoreI false) in
      let turned = put step n (JumpI start) in
      let header : ℕ → List Placed =
      λ m. placed line (VariableI k) ++ (code_term line (suc m) value ++ (placed line (StoreI false) ++ placed n (JumpI start))) in
      let amount_is : amount ≡ behind each (placed line (VariableI k) ++ code_term line (suc (here each)) value) =
      two each variable amount (placed line (VariableI k)) (λ m. code_term line m value) (suc (here each)) refl (term_is line value variable s2) refl in
      let turned_is : turned ≡ behind each (header (here each)) =
      last each step _ n (JumpI start) (last each amount _ line (StoreI false) amount_is)
      ∙ ap (behind each)
      (regroup_four (placed line (VariableI k)) (code_term line (suc (here each)) value) (placed line (StoreI false)) (placed n (JumpI start))) in
      let body_at : ℕ → ℕ = λ m. suc (suc (end_term (suc (suc m)) value)) in
      let stops : (m : ℕ) → after (suc m) (header (suc m)) ≡ body_at m =
      λ m. ends (suc (suc m)) _ _ (code_term line (suc (suc m)) value) _ (term_end h line (suc (suc m)) value s2) refl in
      let forks : ℕ → List Placed = λ m. placed n (EachI (body_at m) k) ++ header (suc m) in
      let forked = aim_here turned (here tested) in
      let forked_is : forked ≡ behind tested (forks (here tested)) =
      patched tested tested turned [] n (EachI 0 k) header (here tested) (body_at (here tested)) (behind_nothing tested) refl turned_is (stops (here tested)) in
      let branch = emitted_stmt forked 0 NoLoop u in
      let branch_is : branch ≡ behind tested (forks (here tested) ++ code_stmt 0 NoLoop (body_at (here tested)) u) =
      two tested forked branch (forks (here tested)) (λ m. code_stmt 0 NoLoop m u) (body_at (here tested)) forked_is (body_law forked) (stops (here tested)) in
      let all : ℕ → List Placed = λ m. (forks m ++ code_stmt 0 NoLoop (body_at m) u) ++ placed n EndI in
      let ended = put branch n EndI in
      let test_end = end_term start test in
      let out = suc (end_stmt (body_at (suc test_end)) u) in
      let out_at : after (suc test_end) (all (suc test_end)) ≡ out =
      ends (suc test_end) _ _ (forks (suc test_end) ++ code_stmt 0 NoLoop (body_at (suc test_end)) u) _
      (ends (suc test_end) _ _ (forks (suc test_end)) _ (stops (suc test_end)) (stmt_end h 0 NoLoop (body_at (suc test_end)) u s3)) refl in
      last lp (aim_here ended (here one)) (code_term n start test ++ (placed n (TestI out) ++ all (suc test_end))) n JoinI
      (patched lp one ended (code_term n start test) n (TestI 0) all test_end out (term_is n test lp s1) (term_end h n start test s1)
      (last tested branch (forks (here tested) ++ code_stmt 0 NoLoop (body_at (here tested)) u) n EndI branch_is) out_at)
      ∙ ap (behind lp) (regroup_loop (code_term n start test) (placed n (TestI out)) (placed n (EachI (body_at (suc test_end)) k)) (placed line (VariableI k))
      (code_term line (suc (suc (suc test_end))) value) (placed line (StoreI false)) (placed n (JumpI start))
      (code_stmt 0 NoLoop (body_at (suc test_end)) u) (placed n EndI) (placed n JoinI))

  mutual
    pub stmt_is : (n : ℕ) (l : Loop) (s : Stmt) (c : Code) → IsStmt h (looped l) s → emitted_stmt c n l s ≡ behind c (code_stmt n l (here c) s)
    stmt_is n l Empty c s = behind_nothing c
    stmt_is n l (AtLine line t) c s = stmt_is line l t c s
    stmt_is n l (Make k kind size) c s = refl
    stmt_is n l (Set k kind e) c s = last c (emitted_term c n e) (code_term n (here c) e) n (SetI k kind) (term_is n e c s)
    stmt_is n l (Build k class es) c s = last c (emitted_terms c n es) (code_terms n (here c) es) n (BuildI k class) (terms_is n es c s.0)
    stmt_is n l (Assign remote x y) c s =
        three c (emitted_term c n x) (emitted_term (emitted_term c n x) n y) (code_term n (here c) x) (λ k. code_term n k y) (end_term (here c) x) n (StoreI remote)
        (term_is n x c s.0) (term_is n y (emitted_term c n x) s.1) (term_end h n (here c) x s.0)
    stmt_is n l (Drop e) c s = last c (emitted_term c n e) (code_term n (here c) e) n DropI (term_is n e c s)
    stmt_is n l (Print parts es) c s = last c (emitted_terms c n es) (code_terms n (here c) es) n (PrintI parts) (terms_is n es c s.0)
    stmt_is n l (If t u) c s =
        let one = emitted_term c n t in
        let first = put one n (TestI 0) in
        let k = end_term (here c) t in
        patched c one (emitted_stmt first n l u) (code_term n (here c) t) n (TestI 0) (λ m. code_stmt n l m u) k (end_stmt (suc k) u)
        (term_is n t c s.0) (term_end h n (here c) t s.0) (stmt_is n l u first s.1) (stmt_end h n l (suc k) u s.1)
    stmt_is n l (IfElse t u v) c s =
        let b = here c in
        let ct = code_term n b t in
        let k = end_term b t in
        let turn = suc k in
        let cu = code_stmt n l turn u in
        let other = suc (end_stmt turn u) in
        let one = emitted_term c n t in
        let first = put one n (TestI 0) in
        let second = emitted_stmt first n l u in
        let mid = aim_here (put second n (JumpI 0)) (here one) in
        let test = placed n (TestI other) in
        let front = behind c (ct ++ (test ++ cu)) in
        let mid_is : mid ≡ behind c (ct ++ (test ++ (cu ++ placed n (JumpI 0)))) =
        patched c one (put second n (JumpI 0)) ct n (TestI 0) (λ m. code_stmt n l m u ++ placed n (JumpI 0)) k other
        (term_is n t c s.0) (term_end h n b t s.0)
        (last first second (code_stmt n l (here first) u) n (JumpI 0) (stmt_is n l u first s.1))
        (ends turn _ _ cu _ (stmt_end h n l turn u s.1) refl) in
        let mid_put : mid ≡ put front n (JumpI 0) =
        mid_is ∙ (sym (ap (behind c) (append_assoc ct (test ++ cu) (placed n (JumpI 0)))) ∙ sym (join c (ct ++ (test ++ cu)) (placed n (JumpI 0)))) in
        let first_at : here first ≡ turn = here_put one n (TestI 0) ∙ ap suc (term_here n t c s.0) in
        let second_at : here second ≡ end_stmt turn u =
        ap here (stmt_is n l u first s.1)
        ∙ (here_behind first (code_stmt n l (here first) u)
        ∙ (ap (λ m. after m (code_stmt n l m u)) first_at ∙ stmt_end h n l turn u s.1)) in
        let front_end : after b (ct ++ (test ++ cu)) ≡ end_stmt turn u = ends b _ _ ct _ (term_end h n b t s.0) (stmt_end h n l turn u s.1) in
        let front_at : here front ≡ end_stmt turn u = here_behind c (ct ++ (test ++ cu)) ∙ front_end in
        let whole = emitted_stmt mid n l v in
        ap (aim_here whole) (second_at ∙ sym front_at)
        ∙ (patched c front whole (ct ++ (test ++ cu)) n (JumpI 0) (λ m. code_stmt n l m v) (end_stmt turn u) (end_stmt other v) refl front_end
        (stmt_is n l v mid s.2 ∙ ap (λ (x : Code). behind x (code_stmt n l (here x) v)) mid_put)
        (stmt_end h n l other v s.2)
        ∙ ap (behind c) (regroup_else ct test cu (placed n (JumpI (end_stmt other v))) (code_stmt n l other v)))
    stmt_is n l (While t u) c s =
        let b = here c in
        let one = emitted_term c n t in
        let m = here one in
        let loop = In (while_out m u) b in
        let first = put one n (TestI (while_out m u)) in
        let turn : put (emitted_stmt first n loop u) n (JumpI b) ≡ behind one (while_code n b u m) =
        three one first (emitted_stmt first n loop u) (placed n (TestI (while_out m u))) (λ k. code_stmt n loop k u) (suc m) n (JumpI b) refl
        (stmt_is n loop u first s.1) refl in
        two c one (put (emitted_stmt first n loop u) n (JumpI b)) (code_term n b t) (while_code n b u) (end_term b t) (term_is n t c s.0) turn
        (term_end h n b t s.0)
    stmt_is n l (For t step u) c s =
        let b = here c in
        let one = emitted_term c n t in
        let m = here one in
        let loop = In (for_out m step u) (for_again m u) in
        let first = put one n (TestI (for_out m step u)) in
        let second = emitted_stmt first n loop u in
        let whole = put (emitted_stmt second n NoLoop step) n (JumpI b) in
        let turn : whole ≡ behind first (code_stmt n loop (here first) u ++ (code_stmt n NoLoop (end_stmt (here first) u) step ++ placed n (JumpI b))) =
        three first second (emitted_stmt second n NoLoop step) (code_stmt n loop (here first) u) (λ k. code_stmt n NoLoop k step) (end_stmt (here first) u) n (JumpI b)
        (stmt_is n loop u first s.2) (stmt_is n NoLoop step second s.1) (stmt_end h n loop (here first) u s.2) in
        let tested : whole ≡ behind one (for_code n b step u m) =
        two one first whole (placed n (TestI (for_out m step u)))
        (λ k. code_stmt n loop k u ++ (code_stmt n NoLoop (end_stmt k u) step ++ placed n (JumpI b))) (suc m) refl turn refl in
        two c one whole (code_term n b t) (for_code n b step u) (end_term b t) (term_is n t c s.0) tested (term_end h n b t s.0)
    stmt_is n NoLoop Break c s = absurd s
    stmt_is n (In out again) Break c s = refl
    stmt_is n NoLoop Continue c s = absurd s
    stmt_is n (In out again) Continue c s = refl
    stmt_is n l (Par ss) c s =
        let b = here c in
        let ts = targets (suc (suc b)) ss in
        let fork = put c n (ForkI (replicate (count ss) 0)) in
        let front = put c n (ForkI ts) in
        let all = emitted_branches (put fork n (JumpI 0)) n b 0 ss in
        let out = end_branches (suc (suc b)) ss in
        let all_is : all ≡ behind front (placed n (JumpI 0) ++ code_branches n (suc (suc b)) ss) =
        branches_is n ss c [] (placed n (JumpI 0)) (suc (suc b)) refl s in
        let front_at : here front ≡ suc b = here_put c n (ForkI ts) in
        let places : here (put front n (JumpI 0)) ≡ suc (suc b) = here_put front n (JumpI 0) ∙ ap suc front_at in
        let goes : all ≡ behind (put front n (JumpI 0)) (code_branches n (here (put front n (JumpI 0))) ss) =
        all_is
        ∙ (sym (join front (placed n (JumpI 0)) (code_branches n (suc (suc b)) ss))
        ∙ ap (λ m. behind (put front n (JumpI 0)) (code_branches n m ss)) (sym places)) in
        let aimed_all : aim_here all (here fork) ≡ behind c (placed n (ForkI ts) ++ (placed n (JumpI out) ++ code_branches n (suc (suc b)) ss)) =
        ap (aim_here all) (here_put c n (ForkI (replicate (count ss) 0)) ∙ sym front_at)
        ∙ patched c front all (placed n (ForkI ts)) n (JumpI 0) (λ m. code_branches n m ss) (suc b) out refl refl goes (branches_end h n (suc (suc b)) ss s) in
        last c (aim_here all (here fork)) (placed n (ForkI ts) ++ (placed n (JumpI out) ++ code_branches n (suc (suc b)) ss)) n JoinI aimed_all
        ∙ ap (behind c) (regroup_three (placed n (ForkI ts)) (placed n (JumpI out)) (code_branches n (suc (suc b)) ss) (placed n JoinI))
    stmt_is n l (ParFor k start test line value u) c s =
        let b = here c in
        let lp = put (emitted_term c n start) n (SetI k IntK) in
        let cst = code_term n b start in
        let lp_is : lp ≡ behind c (cst ++ placed n (SetI k IntK)) = last c (emitted_term c n start) cst n (SetI k IntK) (term_is n start c s.0) in
        loop_is n k test line value u lp s.1 s.2 s.3 (λ d. stmt_is 0 NoLoop u d s.3)
        ∙ (next c lp (cst ++ placed n (SetI k IntK)) (loop_code n k test line value u) (suc (end_term b start)) lp_is
        (ends b _ _ cst _ (term_end h n b start s.0) refl)
        ∙ ap (behind c) (append_assoc cst (placed n (SetI k IntK)) (loop_code n k test line value u (suc (end_term b start)))))
    stmt_is n l (Spawn how f es) c s = last c (emitted_terms c n es) (code_terms n (here c) es) n (SpawnI how f) (terms_is n es c s.0)
    stmt_is n l (Return e) c s = last c (emitted_term c n e) (code_term n (here c) e) n RetI (term_is n e c s)
    stmt_is n l (Block ss) c s = stmts_is n l ss c s
    stmt_is n l (Turn t w) c s = absurd s
    stmt_is n l (Forks k test line value t made now) c s = absurd s
    stmt_is n l (Each k test line value t made) c s = absurd s
    stmt_is n l (Wait made) c s = absurd s
    stmt_is n l (Left v) c s = absurd s

    pub stmts_is : (n : ℕ) (l : Loop) (ss : Stmts) (c : Code) → AreStmts h (looped l) ss → emitted_stmts c n l ss ≡ behind c (code_stmts n l (here c) ss)
    stmts_is n l NoStmts c s = behind_nothing c
    stmts_is n l (MoreStmts t ts) c s =
        two c (emitted_stmt c n l t) (emitted_stmts (emitted_stmt c n l t) n l ts) (code_stmt n l (here c) t) (λ k. code_stmts n l k ts) (end_stmt (here c) t)
        (stmt_is n l t c s.0) (stmts_is n l ts (emitted_stmt c n l t) s.1) (stmt_end h n l (here c) t s.0)

    -- the branches behind those that are done, whose targets are known
    branches_is : (n : ℕ) (ss : Stmts) (c : Code) (ts : List ℕ) (done : List Placed) (m : ℕ) → after (suc (here c)) done ≡ m → AreStmts h false ss → emitted_branches (behind (put c n (ForkI (ts ++ replicate (count ss) 0))) done) n (here c) (length ts) ss ≡ behind (put c n (ForkI (ts ++ targets m ss))) (done ++ code_branches n m ss)
    branches_is n NoStmts c ts done m at s = ap (behind (put c n (ForkI (ts ++ [])))) (sym (append-nil done))
    branches_is n (MoreStmts t more) c ts done m at s =
        let zeros = replicate (count more) 0 in
        let cur = behind (put c n (ForkI (ts ++ 0 ∷ zeros))) done in
        let cur_at : here cur ≡ m =
        here_behind (put c n (ForkI (ts ++ 0 ∷ zeros))) done ∙ (ap (λ k. after k done) (here_put c n (ForkI (ts ++ 0 ∷ zeros))) ∙ at) in
        let set_up = behind (put c n (ForkI (ts ++ m ∷ zeros))) done in
        let set_at : here set_up ≡ m =
        here_behind (put c n (ForkI (ts ++ m ∷ zeros))) done ∙ (ap (λ k. after k done) (here_put c n (ForkI (ts ++ m ∷ zeros))) ∙ at) in
        let aimed_is : with_target cur (here c) (length ts) (here cur) ≡ set_up =
        ap (with_target cur (here c) (length ts)) cur_at
        ∙ (seam c n (ForkI (ts ++ 0 ∷ zeros)) done (length ts) m
        ∙ ap (λ z. behind (put c n (ForkI z)) done) (set-append_seam ts 0 zeros m)) in
        let ct = code_stmt 0 NoLoop m t in
        let more_done = done ++ (ct ++ placed n EndI) in
        let ts' = ts ++ m ∷ [] in
        let done_is : put (emitted_stmt set_up 0 NoLoop t) n EndI ≡ behind (put c n (ForkI (ts' ++ zeros))) more_done =
        last set_up (emitted_stmt set_up 0 NoLoop t) (code_stmt 0 NoLoop (here set_up) t) n EndI (stmt_is 0 NoLoop t set_up s.0)
        ∙ (ap (λ k. behind set_up (code_stmt 0 NoLoop k t ++ placed n EndI)) set_at
        ∙ (join (put c n (ForkI (ts ++ m ∷ zeros))) done (ct ++ placed n EndI)
        ∙ ap (λ z. behind (put c n (ForkI z)) more_done) (sym (append_assoc ts (m ∷ []) zeros)))) in
        let m' = suc (end_stmt m t) in
        let ends_at : after (suc (here c)) more_done ≡ m' =
        ends (suc (here c)) _ _ done _ at (ends m _ _ ct _ (stmt_end h 0 NoLoop m t s.0) refl) in
        let longer : suc (length ts) ≡ length ts' = omega (arith, length-append ts (m ∷ [])) in
        ap (λ x. emitted_branches (put (emitted_stmt x 0 NoLoop t) n EndI) n (here c) (suc (length ts)) more) aimed_is
        ∙ (ap (λ x. emitted_branches x n (here c) (suc (length ts)) more) done_is
        ∙ (ap (λ k. emitted_branches (behind (put c n (ForkI (ts' ++ zeros))) more_done) n (here c) k more) longer
        ∙ (branches_is n more c ts' more_done m' ends_at s.1
        ∙ (ap (λ z. behind (put c n (ForkI z)) (more_done ++ code_branches n m' more)) (append_assoc ts (m ∷ []) (targets m' more))
        ∙ ap (behind (put c n (ForkI (ts ++ m ∷ targets m' more)))) (regroup_three done ct (placed n EndI) (code_branches n m' more))))))
