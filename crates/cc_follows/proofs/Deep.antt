-- The depths of a term fit its instructions.
use Rattle.std.proofs.Common.{◌≡◌, ℕ, suc, ◌+◌, List, [], ◌∷◌, ◌++◌, false, sym, ap, ◌∙◌, subst, arith}
use Rattle.cc_core.specs.Core.{Alone, On, Remote, Term, Push, This, Variable, Member, Index, At, Load, Unary, Binary, And, Or, New}
use Rattle.cc_core.specs.Core.{NewObject, Call, Val, Body, Branch, Starts, Terms, NoTerms, MoreTerms, MoreCells, Copied, Stmt, Empty}
use Rattle.cc_core.specs.Core.{AtLine, Make, Set, Build, Assign, Drop, Print, If, IfElse, While, For, Break, Continue, Par, ParFor}
use Rattle.cc_core.specs.Core.{Spawn, Return, Block, Turn, Forks, Each, Wait, Left, Stmts, NoStmts, MoreStmts, Shapes}
use Rattle.cc_core.specs.Source.{width, IsTerm, AreTerms, IsStmt, AreStmts}
use Rattle.cc_code.specs.Code.{Placed}
use Rattle.cc_code.specs.Layout.{end_term, end_terms, end_stmt, end_stmts, targets, Loop, NoLoop, In, code_term}
use Rattle.cc_code.specs.Layout.{code_terms, code_stmt, code_stmts, code_branches}
use Rattle.cc_code.specs.Depths.{AllZero, AllFlow, TermDeep, TermsDeep, LoopDeep, StmtDeep, StmtsDeep, BranchesDeep}
use Rattle.cc_follows.proofs.Lays.{after, looped, term_end, terms_end, stmt_end, branches_end}

module _ (h : Shapes) (ds : ℕ → ℕ) where
  pub flow_both : (b mid : ℕ) (xs ys : List Placed) → after b xs ≡ mid → AllFlow h ds b xs → AllFlow h ds mid ys
      → AllFlow h ds b (xs ++ ys)
  flow_both b mid [] ys e f g = subst (λ n. AllFlow h ds n ys) (sym e) g
  flow_both b mid (x ∷ xs) ys e f g = (f.0, flow_both (suc b) mid xs ys e f.1 g)

  mutual
    pub term_starts : (d b : ℕ) (e : Term) → TermDeep ds d b e → ds b ≡ d
    term_starts d b (Push c) s = s
    term_starts d b This s = s
    term_starts d b (Variable k) s = s
    term_starts d b (Member e o) s = term_starts d b e s.0
    term_starts d b (Index x n y) s = term_starts d b x s.0
    term_starts d b (At x y) s = term_starts d b x s.0
    term_starts d b (Load remote e) s = term_starts d b e s.0
    term_starts d b (Unary op e) s = term_starts d b e s.0
    term_starts d b (Binary op x y) s = term_starts d b x s.0
    term_starts d b (And x y) s = term_starts d b x s.0
    term_starts d b (Or x y) s = term_starts d b x s.0
    term_starts d b (New kind n) s = s
    term_starts d b (NewObject remote c es) s = terms_start d b es s.0 s.1
    term_starts d b (Call Alone f es) s = terms_start d b es s.0 s.1
    term_starts d b (Call On f es) s = terms_start d b es s.0 s.1
    term_starts d b (Call Remote f es) s = terms_start d b es s.0 s.1
    term_starts d b (Val v) s = absurd s
    term_starts d b (Body f t env ss) s = absurd s
    term_starts d b (Branch t env x) s = absurd s
    term_starts d b (Starts f t vs) s = absurd s

    pub terms_start : (d b : ℕ) (es : Terms) → TermsDeep ds d b es → ds (end_terms b es) ≡ d + width es → ds b ≡ d
    terms_start d b NoTerms s e = omega (arith, e)
    terms_start d b (MoreTerms x es) s e = term_starts d b x s.0
    terms_start d b (MoreCells x n es) s e = term_starts d b x s.0
    terms_start d b (Copied vs es) s e = absurd s

  mutual
    pub term_flows : (n d b : ℕ) (e : Term) → IsTerm h e → TermDeep ds d b e → ds (end_term b e) ≡ suc d
        → AllFlow h ds b (code_term n b e)
    term_flows n d b (Push c) t s g = ((d, omega (arith, s), omega (arith, g)), tt)
    term_flows n d b This t s g = ((d, omega (arith, s), omega (arith, g)), tt)
    term_flows n d b (Variable k) t s g = ((d, omega (arith, s), omega (arith, g)), tt)
    term_flows n d b (Member e o) t s g =
        flow_both b _ (code_term n b e) _ (term_end h n b e t) (term_flows n d b e t s.0 s.1)
        ((d, omega (arith, s.1), omega (arith, g)), tt)
    term_flows n d b (Index x size y) t s g =
        flow_both b _ (code_term n b x) _ (term_end h n b x t.0) (term_flows n d b x t.0 s.0 (term_starts (suc d) _ y s.1))
        (flow_both _ _ (code_term n (end_term b x) y) _ (term_end h n (end_term b x) y t.1) (term_flows n (suc d) _ y t.1 s.1 s.2)
        ((d, omega (arith, s.2), omega (arith, g)), tt))
    term_flows n d b (At x y) t s g =
        flow_both b _ (code_term n b x) _ (term_end h n b x t.0) (term_flows n d b x t.0 s.0 (term_starts (suc d) _ y s.1))
        (flow_both _ _ (code_term n (end_term b x) y) _ (term_end h n (end_term b x) y t.1) (term_flows n (suc d) _ y t.1 s.1 s.2)
        ((d, omega (arith, s.2), omega (arith, g)), tt))
    term_flows n d b (Load remote e) t s g =
        flow_both b _ (code_term n b e) _ (term_end h n b e t) (term_flows n d b e t s.0 s.1)
        ((d, omega (arith, s.1), omega (arith, g)), tt)
    term_flows n d b (Unary op e) t s g =
        flow_both b _ (code_term n b e) _ (term_end h n b e t.0) (term_flows n d b e t.0 s.0 s.1)
        ((d, omega (arith, s.1, t.1), omega (arith, g)), tt)
    term_flows n d b (Binary op x y) t s g =
        flow_both b _ (code_term n b x) _ (term_end h n b x t.0) (term_flows n d b x t.0 s.0 (term_starts (suc d) _ y s.1))
        (flow_both _ _ (code_term n (end_term b x) y) _ (term_end h n (end_term b x) y t.1) (term_flows n (suc d) _ y t.1 s.1 s.2)
        ((d, omega (arith, s.2, t.2), omega (arith, g)), tt))
    term_flows n d b (And x y) t s g =
        let i = term_starts d _ y s.2 in
        flow_both b _ (code_term n b x) _ (term_end h n b x t.0) (term_flows n d b x t.0 s.0 s.1) (
          ((d, omega (arith, s.1), omega (arith, i)), g ∙ sym (ap suc i)),
          flow_both _ _ (code_term n (suc (end_term b x)) y) _
              (term_end h n (suc (end_term b x)) y t.1) (term_flows n d _ y t.1 s.2 s.3) ((d, omega (arith, s.3), omega (arith, g)), tt),
        )
    term_flows n d b (Or x y) t s g =
        let i = term_starts d _ y s.2 in
        flow_both b _ (code_term n b x) _ (term_end h n b x t.0) (term_flows n d b x t.0 s.0 s.1) (
          ((d, omega (arith, s.1), omega (arith, i)), g ∙ sym (ap suc i)),
          flow_both _ _ (code_term n (suc (end_term b x)) y) _
              (term_end h n (suc (end_term b x)) y t.1) (term_flows n d _ y t.1 s.2 s.3) ((d, omega (arith, s.3), omega (arith, g)), tt),
        )
    term_flows n d b (New kind size) t s g = ((d, omega (arith, s), omega (arith, g)), tt)
    term_flows n d b (NewObject remote c es) t s g =
        flow_both b _ (code_terms n b es) _ (terms_end h n b es t.0) (terms_flow n d b es t.0 s.0 s.1)
        ((d, s.1 ∙ ap (λ k. d + k) t.1, omega (arith, g)), tt)
    term_flows n d b (Call Alone f es) t s g =
        flow_both b _ (code_terms n b es) _ (terms_end h n b es t.0) (terms_flow n d b es t.0 s.0 s.1)
        ((d, s.1 ∙ ap (λ k. d + k) t.1.1, omega (arith, g)), tt)
    term_flows n d b (Call On f es) t s g =
        flow_both b _ (code_terms n b es) _ (terms_end h n b es t.0) (terms_flow n d b es t.0 s.0 s.1)
        ((d, s.1 ∙ ap (λ k. d + k) t.1.1, omega (arith, g)), tt)
    term_flows n d b (Call Remote f es) t s g =
        flow_both b _ (code_terms n b es) _ (terms_end h n b es t.0) (terms_flow n d b es t.0 s.0 s.1)
        ((d, s.1 ∙ ap (λ k. d + k) t.1.1, omega (arith, s.2)), ((suc d, omega (arith, s.2), omega (arith, g)), tt))
    term_flows n d b (Val v) t s g = absurd t
    term_flows n d b (Body f u env ss) t s g = absurd t
    term_flows n d b (Branch u env x) t s g = absurd t
    term_flows n d b (Starts f u vs) t s g = absurd t

    pub terms_flow : (n d b : ℕ) (es : Terms) → AreTerms h es → TermsDeep ds d b es → ds (end_terms b es) ≡ d + width es
        → AllFlow h ds b (code_terms n b es)
    terms_flow n d b NoTerms t s g = tt
    terms_flow n d b (MoreTerms e es) t s g =
        let g' : ds (end_terms (end_term b e) es) ≡ suc d + width es = omega (arith, g) in
        flow_both b _ (code_term n b e) _ (term_end h n b e t.0) (term_flows n d b e t.0 s.0 (terms_start (suc d) _ es s.1 g'))
        (terms_flow n (suc d) _ es t.1 s.1 g')
    terms_flow n d b (MoreCells e size es) t s g =
        let g' : ds (end_terms (suc (end_term b e)) es) ≡ (d + size) + width es = omega (arith, g) in
        flow_both b _ (code_term n b e) _ (term_end h n b e t.0) (term_flows n d b e t.0 s.0 s.1)
        ((d, omega (arith, s.1), terms_start (d + size) _ es s.2 g'), terms_flow n (d + size) _ es t.1 s.2 g')
    terms_flow n d b (Copied vs es) t s g = absurd s

  mutual
    pub stmt_starts : (b : ℕ) (t : Stmt) → StmtDeep ds b t → ds (end_stmt b t) ≡ 0 → ds b ≡ 0
    stmt_starts b Empty s g = g
    stmt_starts b (AtLine line t) s g = stmt_starts b t s g
    stmt_starts b (Make k kind n) s g = s
    stmt_starts b (Set k kind e) s g = term_starts 0 b e s.0
    stmt_starts b (Build k c es) s g = terms_start 0 b es s.0 (omega (arith, s.1))
    stmt_starts b (Assign remote x y) s g = term_starts 0 b x s.0
    stmt_starts b (Drop e) s g = term_starts 0 b e s.0
    stmt_starts b (Print ps es) s g = terms_start 0 b es s.0 (omega (arith, s.1))
    stmt_starts b (If c t) s g = term_starts 0 b c s.0
    stmt_starts b (IfElse c t u) s g = term_starts 0 b c s.0
    stmt_starts b (While c t) s g = term_starts 0 b c s.0
    stmt_starts b (For c step t) s g = term_starts 0 b c s.0
    stmt_starts b Break s g = s
    stmt_starts b Continue s g = s
    stmt_starts b (Par ss) s g = s.0
    stmt_starts b (ParFor k start test line value t) s g = term_starts 0 b start s.0
    stmt_starts b (Spawn how f es) s g = terms_start 0 b es s.0 (omega (arith, s.1))
    stmt_starts b (Return e) s g = term_starts 0 b e s.0
    stmt_starts b (Block ss) s g = stmts_start b ss s g
    stmt_starts b (Turn t w) s g = absurd s
    stmt_starts b (Forks k test line value t made now) s g = absurd s
    stmt_starts b (Each k test line value t made) s g = absurd s
    stmt_starts b (Wait made) s g = absurd s
    stmt_starts b (Left v) s g = absurd s

    pub stmts_start : (b : ℕ) (ss : Stmts) → StmtsDeep ds b ss → ds (end_stmts b ss) ≡ 0 → ds b ≡ 0
    stmts_start b NoStmts s g = g
    stmts_start b (MoreStmts t ss) s g = stmt_starts b t s.0 (stmts_start (end_stmt b t) ss s.1 g)

  all_zero : (b : ℕ) (ss : Stmts) → BranchesDeep ds b ss → AllZero ds (targets b ss)
  all_zero b NoStmts s = tt
  all_zero b (MoreStmts t ss) s = (stmt_starts b t s.0 s.1, all_zero (suc (end_stmt b t)) ss s.2)

  mutual
    pub stmt_flows : (n : ℕ) (l : Loop) (b : ℕ) (t : Stmt) → IsStmt h (looped l) t → LoopDeep ds l → StmtDeep ds b t
        → ds (end_stmt b t) ≡ 0 → AllFlow h ds b (code_stmt n l b t)
    stmt_flows n l b Empty i z s g = tt
    stmt_flows n l b (AtLine line t) i z s g = stmt_flows line l b t i z s g
    stmt_flows n l b (Make k kind size) i z s g = ((0, omega (arith, s), omega (arith, g)), tt)
    stmt_flows n l b (Set k kind e) i z s g =
        flow_both b _ (code_term n b e) _ (term_end h n b e i) (term_flows n 0 b e i s.0 s.1)
        ((0, omega (arith, s.1), omega (arith, g)), tt)
    stmt_flows n l b (Build k c es) i z s g =
        flow_both b _ (code_terms n b es) _ (terms_end h n b es i.0) (terms_flow n 0 b es i.0 s.0 (omega (arith, s.1)))
        ((0, omega (arith, s.1, i.1), omega (arith, g)), tt)
    stmt_flows n l b (Assign remote x y) i z s g =
        flow_both b _ (code_term n b x) _ (term_end h n b x i.0) (term_flows n 0 b x i.0 s.0 (term_starts 1 _ y s.1))
        (flow_both _ _ (code_term n (end_term b x) y) _ (term_end h n (end_term b x) y i.1) (term_flows n 1 _ y i.1 s.1 s.2)
        ((0, omega (arith, s.2), omega (arith, g)), tt))
    stmt_flows n l b (Drop e) i z s g =
        flow_both b _ (code_term n b e) _ (term_end h n b e i) (term_flows n 0 b e i s.0 s.1)
        ((0, omega (arith, s.1), omega (arith, g)), tt)
    stmt_flows n l b (Print ps es) i z s g =
        flow_both b _ (code_terms n b es) _ (terms_end h n b es i.0) (terms_flow n 0 b es i.0 s.0 (omega (arith, s.1)))
        ((0, omega (arith, s.1, i.1), omega (arith, g)), tt)
    stmt_flows n l b (If c t) i z s g =
        let a = stmt_starts (suc (end_term b c)) t s.2 g in
        flow_both b _ (code_term n b c) _ (term_end h n b c i.0) (term_flows n 0 b c i.0 s.0 s.1)
        (((0, omega (arith, s.1), omega (arith, a)), g ∙ sym a), stmt_flows n l (suc (end_term b c)) t i.1 z s.2 g)
    stmt_flows n l b (IfElse c t u) i z s g =
        let one = suc (end_term b c) in
        let other = suc (end_stmt one t) in
        let o = stmt_starts other u s.4 g in
        let a = stmt_starts one t s.2 s.3 in
        flow_both b _ (code_term n b c) _ (term_end h n b c i.0) (term_flows n 0 b c i.0 s.0 s.1) (
          ((0, omega (arith, s.1), omega (arith, a)), o ∙ sym a),
          flow_both one _ (code_stmt n l one t) _ (stmt_end h n l one t i.1)
              (stmt_flows n l one t i.1 z s.2 s.3) (g ∙ sym s.3, stmt_flows n l other u i.2 z s.4 g),
        )
    stmt_flows n l b (While c t) i z s g =
        let one = suc (end_term b c) in
        let loop = In (suc (end_stmt one t)) b in
        let a = stmt_starts one t s.2 s.3 in
        let start = term_starts 0 b c s.0 in
        flow_both b _ (code_term n b c) _ (term_end h n b c i.0) (term_flows n 0 b c i.0 s.0 s.1) (
          ((0, omega (arith, s.1), omega (arith, a)), g ∙ sym a),
          flow_both one _ (code_stmt n loop one t) _
              (stmt_end h n loop one t i.1) (stmt_flows n loop one t i.1 (g, start) s.2 s.3) (start ∙ sym s.3, tt),
        )
    stmt_flows n l b (For c step t) i z s g =
        let one = suc (end_term b c) in
        let again = end_stmt one t in
        let loop = In (suc (end_stmt again step)) again in
        let m = stmt_starts again step s.3 s.4 in
        let a = stmt_starts one t s.2 m in
        let start = term_starts 0 b c s.0 in
        flow_both b _ (code_term n b c) _ (term_end h n b c i.0) (term_flows n 0 b c i.0 s.0 s.1) (
          ((0, omega (arith, s.1), omega (arith, a)), g ∙ sym a),
          flow_both one _ (code_stmt n loop one t) _ (stmt_end h n loop one t i.2) (stmt_flows n loop one t i.2 (g, m) s.2 m)
              (flow_both again _ (code_stmt n NoLoop again step) _ (stmt_end h n NoLoop again step i.1)
              (stmt_flows n NoLoop again step i.1 tt s.3 s.4) (start ∙ sym s.4, tt)),
        )
    stmt_flows n NoLoop b Break i z s g = absurd i
    stmt_flows n (In out again) b Break i z s g = (z.0 ∙ sym s, tt)
    stmt_flows n NoLoop b Continue i z s g = absurd i
    stmt_flows n (In out again) b Continue i z s g = (z.1 ∙ sym s, tt)
    stmt_flows n l b (Par ss) i z s g = (
      ((0, omega (arith, s.0), omega (arith, s.1)), all_zero (suc (suc b)) ss s.2),
      (
        s.3 ∙ sym s.1,
        flow_both (suc (suc b)) _ (code_branches n (suc (suc b)) ss) _ (branches_end h n (suc (suc b)) ss i)
            (branches_flow n (suc (suc b)) ss i s.2) ((0, omega (arith, s.3), omega (arith, g)), tt),
      ),
    )
    stmt_flows n l b (ParFor k start test line value t) i z s g =
        let loop = suc (end_term b start) in
        let each = suc (end_term loop test) in
        let jump = suc (end_term (suc (suc each)) value) in
        let at_loop = term_starts 0 loop test s.2 in
        let at_value = term_starts 1 (suc (suc each)) value s.6 in
        let at_body = stmt_starts (suc jump) t s.9 s.10 in
        flow_both b _ (code_term n b start) _ (term_end h n b start i.0) (term_flows n 0 b start i.0 s.0 s.1) (
          (0, omega (arith, s.1), omega (arith, at_loop)),
          flow_both loop _ (code_term n loop test) _ (term_end h n loop test i.1) (term_flows n 0 loop test i.1 s.2 s.3) (
            ((0, omega (arith, s.3), omega (arith, s.4)), s.11 ∙ sym s.4),
            (
              ((0, omega (arith, s.4), omega (arith, s.5)), at_body),
              (
                (0, omega (arith, s.5), omega (arith, at_value)),
                flow_both (suc (suc each)) _ (code_term line (suc (suc each)) value) _ (term_end h line (suc (suc each)) value i.2)
                    (term_flows line 1 (suc (suc each)) value i.2 s.6 s.7) (
                      (0, omega (arith, s.7), omega (arith, s.8)),
                      (
                        at_loop ∙ sym s.8,
                        flow_both (suc jump) _ (code_stmt 0 NoLoop (suc jump) t) _
                            (stmt_end h 0 NoLoop (suc jump) t i.3) (stmt_flows 0 NoLoop (suc jump) t i.3 tt s.9 s.10)
                            (s.10, ((0, omega (arith, s.11), omega (arith, g)), tt)),
                      ),
                    ),
              ),
            ),
          ),
        )
    stmt_flows n l b (Spawn how f es) i z s g =
        flow_both b _ (code_terms n b es) _ (terms_end h n b es i.0) (terms_flow n 0 b es i.0 s.0 (omega (arith, s.1)))
        ((0, omega (arith, s.1, i.1.1), omega (arith, g)), tt)
    stmt_flows n l b (Return e) i z s g = flow_both b _ (code_term n b e) _ (term_end h n b e i) (term_flows n 0 b e i s.0 s.1) (s.1, tt)
    stmt_flows n l b (Block ss) i z s g = stmts_flow n l b ss i z s g
    stmt_flows n l b (Turn t w) i z s g = absurd i
    stmt_flows n l b (Forks k test line value t made now) i z s g = absurd i
    stmt_flows n l b (Each k test line value t made) i z s g = absurd i
    stmt_flows n l b (Wait made) i z s g = absurd i
    stmt_flows n l b (Left v) i z s g = absurd i

    pub stmts_flow : (n : ℕ) (l : Loop) (b : ℕ) (ss : Stmts) → AreStmts h (looped l) ss → LoopDeep ds l → StmtsDeep ds b ss
        → ds (end_stmts b ss) ≡ 0 → AllFlow h ds b (code_stmts n l b ss)
    stmts_flow n l b NoStmts i z s g = tt
    stmts_flow n l b (MoreStmts t ss) i z s g =
        flow_both b _ (code_stmt n l b t) _ (stmt_end h n l b t i.0)
        (stmt_flows n l b t i.0 z s.0 (stmts_start (end_stmt b t) ss s.1 g)) (stmts_flow n l (end_stmt b t) ss i.1 z s.1 g)

    pub branches_flow : (n b : ℕ) (ss : Stmts) → AreStmts h false ss → BranchesDeep ds b ss → AllFlow h ds b (code_branches n b ss)
    branches_flow n b NoStmts i s = tt
    branches_flow n b (MoreStmts t ss) i s =
        flow_both b _ (code_stmt 0 NoLoop b t) _ (stmt_end h 0 NoLoop b t i.0) (stmt_flows 0 NoLoop b t i.0 tt s.0 s.1)
        (s.1, branches_flow n (suc (end_stmt b t)) ss i.1 s.2)
