-- The layout's instructions stand where the layout says.
use Rattle.std.proofs.Common.{◌≡◌, ℕ, suc, List, [], ◌∷◌, ◌++◌, Bool, true, false, refl}
use Rattle.std.proofs.Common.{ap, ◌∙◌, subst}
use Rattle.cc_core.specs.Core.{Alone, On, Remote, Term, Push, This, Variable, Member, Index, At, Load, Unary, Binary, And, Or, New}
use Rattle.cc_core.specs.Core.{NewObject, Call, Val, Body, Branch, Starts, Terms, NoTerms, MoreTerms, MoreCells, Copied, Stmt, Empty}
use Rattle.cc_core.specs.Core.{AtLine, Make, Set, Build, Assign, Drop, Print, If, IfElse, While, For, Break, Continue, Par, ParFor}
use Rattle.cc_core.specs.Core.{Spawn, Return, Block, Turn, Forks, Each, Wait, Left, Stmts, NoStmts, MoreStmts}
use Rattle.cc_core.specs.Core.{Shapes}
use Rattle.cc_core.specs.Source.{IsTerm, AreTerms, IsStmt, AreStmts}
use Rattle.cc_code.specs.Code.{Placed, Code}
use Rattle.cc_code.specs.Layout.{end_term, end_terms, end_stmt, end_stmts, end_branches, Loop, NoLoop}
use Rattle.cc_code.specs.Layout.{In, code_term, code_terms, code_stmt, code_stmts, code_branches}
use Rattle.cc_code.specs.Stands.{Has, TermStands, TermsStand, StmtStands, StmtsStand, BranchesStand}

abbrev pub looped : Loop → Bool
looped NoLoop = false
looped (In out again) = true

-- the place behind items that begin at a place, each at a place of its own
abbrev pub after : {A : Type 0} → ℕ → List A → ℕ
after b [] = b
after b (i ∷ is) = after (suc b) is

after_both : {A : Type 0} (b : ℕ) (xs ys : List A) → after b (xs ++ ys) ≡ after (after b xs) ys
after_both b [] ys = refl
after_both b (x ∷ xs) ys = after_both (suc b) xs ys

abbrev pub Lie : Code → ℕ → List Placed → Type 0
Lie code b [] = Unit {0}
Lie code b (i ∷ is) = Has code i.line b i.instr × Lie code (suc b) is

-- one part and what stands behind it, where the part ends at a known place
pub parts : (code : Code) (b end : ℕ) (xs ys : List Placed) → after b xs ≡ end → Lie code b (xs ++ ys) → Lie code b xs × Lie code end ys
parts code b end [] ys e h = (tt, subst (λ n. Lie code n ys) e h)
parts code b end (x ∷ xs) ys e h = let r = parts code (suc b) end xs ys e h.1 in ((h.0, r.0), r.1)

-- the end of two parts
pub ends : {A : Type 0} (b mid end : ℕ) (xs ys : List A) → after b xs ≡ mid → after mid ys ≡ end → after b (xs ++ ys) ≡ end
ends b mid end xs ys e d = after_both b xs ys ∙ (ap (λ n. after n ys) e ∙ d)

module _ (h : Shapes) where
  mutual
    pub term_end : (n b : ℕ) (e : Term) → IsTerm h e → after b (code_term n b e) ≡ end_term b e
    term_end n b (Push c) s = refl
    term_end n b This s = refl
    term_end n b (Variable k) s = refl
    term_end n b (Member e o) s = ends b _ _ (code_term n b e) _ (term_end n b e s) refl
    term_end n b (Index x size y) s =
        ends b _ _ (code_term n b x) _ (term_end n b x s.0)
        (ends (end_term b x) _ _ (code_term n (end_term b x) y) _ (term_end n (end_term b x) y s.1) refl)
    term_end n b (At x y) s =
        ends b _ _ (code_term n b x) _ (term_end n b x s.0)
        (ends (end_term b x) _ _ (code_term n (end_term b x) y) _ (term_end n (end_term b x) y s.1) refl)
    term_end n b (Load remote e) s = ends b _ _ (code_term n b e) _ (term_end n b e s) refl
    term_end n b (Unary op e) s = ends b _ _ (code_term n b e) _ (term_end n b e s.0) refl
    term_end n b (Binary op x y) s =
        ends b _ _ (code_term n b x) _ (term_end n b x s.0)
        (ends (end_term b x) _ _ (code_term n (end_term b x) y) _ (term_end n (end_term b x) y s.1) refl)
    term_end n b (And x y) s =
        ends b _ _ (code_term n b x) _ (term_end n b x s.0)
        (ends (suc (end_term b x)) _ _ (code_term n (suc (end_term b x)) y) _ (term_end n (suc (end_term b x)) y s.1) refl)
    term_end n b (Or x y) s =
        ends b _ _ (code_term n b x) _ (term_end n b x s.0)
        (ends (suc (end_term b x)) _ _ (code_term n (suc (end_term b x)) y) _ (term_end n (suc (end_term b x)) y s.1) refl)
    term_end n b (New kind size) s = refl
    term_end n b (NewObject remote c es) s = ends b _ _ (code_terms n b es) _ (terms_end n b es s.0) refl
    term_end n b (Call Alone f es) s = ends b _ _ (code_terms n b es) _ (terms_end n b es s.0) refl
    term_end n b (Call On f es) s = ends b _ _ (code_terms n b es) _ (terms_end n b es s.0) refl
    term_end n b (Call Remote f es) s = ends b _ _ (code_terms n b es) _ (terms_end n b es s.0) refl
    term_end n b (Val v) s = absurd s
    term_end n b (Body f t env ss) s = absurd s
    term_end n b (Branch t env ss) s = absurd s
    term_end n b (Starts f t vs) s = absurd s

    pub terms_end : (n b : ℕ) (es : Terms) → AreTerms h es → after b (code_terms n b es) ≡ end_terms b es
    terms_end n b NoTerms s = refl
    terms_end n b (MoreTerms e es) s = ends b _ _ (code_term n b e) _ (term_end n b e s.0) (terms_end n (end_term b e) es s.1)
    terms_end n b (MoreCells e size es) s = ends b _ _ (code_term n b e) _ (term_end n b e s.0) (terms_end n (suc (end_term b e)) es s.1)
    terms_end n b (Copied vs es) s = absurd s

  mutual
    pub stmt_end : (n : ℕ) (l : Loop) (b : ℕ) (t : Stmt) → IsStmt h (looped l) t → after b (code_stmt n l b t) ≡ end_stmt b t
    stmt_end n l b Empty s = refl
    stmt_end n l b (AtLine line t) s = stmt_end line l b t s
    stmt_end n l b (Make k kind size) s = refl
    stmt_end n l b (Set k kind e) s = ends b _ _ (code_term n b e) _ (term_end n b e s) refl
    stmt_end n l b (Build k c es) s = ends b _ _ (code_terms n b es) _ (terms_end n b es s.0) refl
    stmt_end n l b (Assign remote x y) s =
        ends b _ _ (code_term n b x) _ (term_end n b x s.0)
        (ends (end_term b x) _ _ (code_term n (end_term b x) y) _ (term_end n (end_term b x) y s.1) refl)
    stmt_end n l b (Drop e) s = ends b _ _ (code_term n b e) _ (term_end n b e s) refl
    stmt_end n l b (Print ps es) s = ends b _ _ (code_terms n b es) _ (terms_end n b es s.0) refl
    stmt_end n l b (If c t) s = ends b _ _ (code_term n b c) _ (term_end n b c s.0) (stmt_end n l (suc (end_term b c)) t s.1)
    stmt_end n l b (IfElse c t u) s =
        let one = suc (end_term b c) in
        let other = suc (end_stmt one t) in
        ends b _ _ (code_term n b c) _ (term_end n b c s.0)
        (ends one _ _ (code_stmt n l one t) _ (stmt_end n l one t s.1) (stmt_end n l other u s.2))
    stmt_end n l b (While c t) s =
        let one = suc (end_term b c) in
        let loop = In (suc (end_stmt one t)) b in
        ends b _ _ (code_term n b c) _ (term_end n b c s.0) (ends one _ _ (code_stmt n loop one t) _ (stmt_end n loop one t s.1) refl)
    stmt_end n l b (For c step t) s =
        let one = suc (end_term b c) in
        let again = end_stmt one t in
        let loop = In (suc (end_stmt again step)) again in
        ends b _ _ (code_term n b c) _ (term_end n b c s.0)
        (ends one _ _ (code_stmt n loop one t) _ (stmt_end n loop one t s.2)
        (ends again _ _ (code_stmt n NoLoop again step) _ (stmt_end n NoLoop again step s.1) refl))
    stmt_end n NoLoop b Break s = absurd s
    stmt_end n (In out again) b Break s = refl
    stmt_end n NoLoop b Continue s = absurd s
    stmt_end n (In out again) b Continue s = refl
    stmt_end n l b (Par ss) s = ends (suc (suc b)) _ _ (code_branches n (suc (suc b)) ss) _ (branches_end n (suc (suc b)) ss s) refl
    stmt_end n l b (ParFor k start test line value t) s =
        let loop = suc (end_term b start) in
        let each = suc (end_term loop test) in
        let jump = suc (end_term (suc (suc each)) value) in
        ends b _ _ (code_term n b start) _ (term_end n b start s.0)
        (ends loop _ _ (code_term n loop test) _ (term_end n loop test s.1)
        (ends (suc (suc each)) _ _ (code_term line (suc (suc each)) value) _ (term_end line (suc (suc each)) value s.2)
        (ends (suc jump) _ _ (code_stmt 0 NoLoop (suc jump) t) _ (stmt_end 0 NoLoop (suc jump) t s.3) refl)))
    stmt_end n l b (Spawn how f es) s = ends b _ _ (code_terms n b es) _ (terms_end n b es s.0) refl
    stmt_end n l b (Return e) s = ends b _ _ (code_term n b e) _ (term_end n b e s) refl
    stmt_end n l b (Block ss) s = stmts_end n l b ss s
    stmt_end n l b (Turn t w) s = absurd s
    stmt_end n l b (Forks k test line value t made now) s = absurd s
    stmt_end n l b (Each k test line value t made) s = absurd s
    stmt_end n l b (Wait made) s = absurd s
    stmt_end n l b (Left v) s = absurd s

    pub stmts_end : (n : ℕ) (l : Loop) (b : ℕ) (ss : Stmts) → AreStmts h (looped l) ss → after b (code_stmts n l b ss) ≡ end_stmts b ss
    stmts_end n l b NoStmts s = refl
    stmts_end n l b (MoreStmts t ss) s = ends b _ _ (code_stmt n l b t) _ (stmt_end n l b t s.0) (stmts_end n l (end_stmt b t) ss s.1)

    pub branches_end : (n b : ℕ) (ss : Stmts) → AreStmts h false ss → after b (code_branches n b ss) ≡ end_branches b ss
    branches_end n b NoStmts s = refl
    branches_end n b (MoreStmts t ss) s =
        ends b _ _ (code_stmt 0 NoLoop b t) _ (stmt_end 0 NoLoop b t s.0) (branches_end n (suc (end_stmt b t)) ss s.1)

module _ (code : Code) where
  mutual
    pub term_stands : (n b : ℕ) (e : Term) → IsTerm code.shapes e → Lie code b (code_term n b e) → TermStands code n b e
    term_stands n b (Push c) s h = h.0
    term_stands n b This s h = h.0
    term_stands n b (Variable k) s h = h.0
    term_stands n b (Member e o) s h =
        let r = parts code b _ (code_term n b e) _ (term_end code.shapes n b e s) h in (term_stands n b e s r.0, r.1.0)
    term_stands n b (Index x size y) s h =
        let r = parts code b _ (code_term n b x) _ (term_end code.shapes n b x s.0) h in
        let q = parts code _ _ (code_term n (end_term b x) y) _ (term_end code.shapes n (end_term b x) y s.1) r.1 in
        (term_stands n b x s.0 r.0, term_stands n (end_term b x) y s.1 q.0, q.1.0)
    term_stands n b (At x y) s h =
        let r = parts code b _ (code_term n b x) _ (term_end code.shapes n b x s.0) h in
        let q = parts code _ _ (code_term n (end_term b x) y) _ (term_end code.shapes n (end_term b x) y s.1) r.1 in
        (term_stands n b x s.0 r.0, term_stands n (end_term b x) y s.1 q.0, q.1.0)
    term_stands n b (Load remote e) s h =
        let r = parts code b _ (code_term n b e) _ (term_end code.shapes n b e s) h in (term_stands n b e s r.0, r.1.0)
    term_stands n b (Unary op e) s h =
        let r = parts code b _ (code_term n b e) _ (term_end code.shapes n b e s.0) h in (term_stands n b e s.0 r.0, r.1.0, s.1)
    term_stands n b (Binary op x y) s h =
        let r = parts code b _ (code_term n b x) _ (term_end code.shapes n b x s.0) h in
        let q = parts code _ _ (code_term n (end_term b x) y) _ (term_end code.shapes n (end_term b x) y s.1) r.1 in
        (term_stands n b x s.0 r.0, term_stands n (end_term b x) y s.1 q.0, q.1.0, s.2)
    term_stands n b (And x y) s h =
        let r = parts code b _ (code_term n b x) _ (term_end code.shapes n b x s.0) h in
        let q = parts code _ _ (code_term n (suc (end_term b x)) y) _ (term_end code.shapes n (suc (end_term b x)) y s.1) r.1.1 in
        (term_stands n b x s.0 r.0, r.1.0, term_stands n (suc (end_term b x)) y s.1 q.0, q.1.0)
    term_stands n b (Or x y) s h =
        let r = parts code b _ (code_term n b x) _ (term_end code.shapes n b x s.0) h in
        let q = parts code _ _ (code_term n (suc (end_term b x)) y) _ (term_end code.shapes n (suc (end_term b x)) y s.1) r.1.1 in
        (term_stands n b x s.0 r.0, r.1.0, term_stands n (suc (end_term b x)) y s.1 q.0, q.1.0)
    term_stands n b (New kind size) s h = h.0
    term_stands n b (NewObject remote c es) s h =
        let r = parts code b _ (code_terms n b es) _ (terms_end code.shapes n b es s.0) h in (terms_stand n b es s.0 r.0, r.1.0, s.1)
    term_stands n b (Call Alone f es) s h =
        let r = parts code b _ (code_terms n b es) _ (terms_end code.shapes n b es s.0) h
        in (terms_stand n b es s.0 r.0, r.1.0, s.1, tt)
    term_stands n b (Call On f es) s h =
        let r = parts code b _ (code_terms n b es) _ (terms_end code.shapes n b es s.0) h
        in (terms_stand n b es s.0 r.0, r.1.0, s.1, tt)
    term_stands n b (Call Remote f es) s h =
        let r = parts code b _ (code_terms n b es) _ (terms_end code.shapes n b es s.0) h
        in (terms_stand n b es s.0 r.0, r.1.0, s.1, r.1.1.0)
    term_stands n b (Val v) s h = absurd s
    term_stands n b (Body f t env ss) s h = absurd s
    term_stands n b (Branch t env ss) s h = absurd s
    term_stands n b (Starts f t vs) s h = absurd s

    terms_stand : (n b : ℕ) (es : Terms) → AreTerms code.shapes es → Lie code b (code_terms n b es) → TermsStand code n b es
    terms_stand n b NoTerms s h = tt
    terms_stand n b (MoreTerms e es) s h =
        let r = parts code b _ (code_term n b e) _ (term_end code.shapes n b e s.0) h in
        (term_stands n b e s.0 r.0, terms_stand n (end_term b e) es s.1 r.1)
    terms_stand n b (MoreCells e size es) s h =
        let r = parts code b _ (code_term n b e) _ (term_end code.shapes n b e s.0) h in
        (term_stands n b e s.0 r.0, r.1.0, terms_stand n (suc (end_term b e)) es s.1 r.1.1)
    terms_stand n b (Copied vs es) s h = absurd s

  mutual
    stmt_stands : (n : ℕ) (l : Loop) (b : ℕ) (t : Stmt) → IsStmt code.shapes (looped l) t → Lie code b (code_stmt n l b t)
        → StmtStands code n l b t
    stmt_stands n l b Empty s h = tt
    stmt_stands n l b (AtLine line t) s h = stmt_stands line l b t s h
    stmt_stands n l b (Make k kind size) s h = h.0
    stmt_stands n l b (Set k kind e) s h =
        let r = parts code b _ (code_term n b e) _ (term_end code.shapes n b e s) h in (term_stands n b e s r.0, r.1.0)
    stmt_stands n l b (Build k c es) s h =
        let r = parts code b _ (code_terms n b es) _ (terms_end code.shapes n b es s.0) h in (terms_stand n b es s.0 r.0, r.1.0, s.1)
    stmt_stands n l b (Assign remote x y) s h =
        let r = parts code b _ (code_term n b x) _ (term_end code.shapes n b x s.0) h in
        let q = parts code _ _ (code_term n (end_term b x) y) _ (term_end code.shapes n (end_term b x) y s.1) r.1 in
        (term_stands n b x s.0 r.0, term_stands n (end_term b x) y s.1 q.0, q.1.0)
    stmt_stands n l b (Drop e) s h =
        let r = parts code b _ (code_term n b e) _ (term_end code.shapes n b e s) h in (term_stands n b e s r.0, r.1.0)
    stmt_stands n l b (Print ps es) s h =
        let r = parts code b _ (code_terms n b es) _ (terms_end code.shapes n b es s.0) h in (terms_stand n b es s.0 r.0, r.1.0, s.1)
    stmt_stands n l b (If c t) s h =
        let r = parts code b _ (code_term n b c) _ (term_end code.shapes n b c s.0) h in
        (term_stands n b c s.0 r.0, r.1.0, stmt_stands n l (suc (end_term b c)) t s.1 r.1.1)
    stmt_stands n l b (IfElse c t u) s h =
        let one = suc (end_term b c) in
        let other = suc (end_stmt one t) in
        let r = parts code b _ (code_term n b c) _ (term_end code.shapes n b c s.0) h in
        let q = parts code one _ (code_stmt n l one t) _ (stmt_end code.shapes n l one t s.1) r.1.1 in
        (term_stands n b c s.0 r.0, r.1.0, stmt_stands n l one t s.1 q.0, q.1.0, stmt_stands n l other u s.2 q.1.1)
    stmt_stands n l b (While c t) s h =
        let one = suc (end_term b c) in
        let loop = In (suc (end_stmt one t)) b in
        let r = parts code b _ (code_term n b c) _ (term_end code.shapes n b c s.0) h in
        let q = parts code one _ (code_stmt n loop one t) _ (stmt_end code.shapes n loop one t s.1) r.1.1 in
        (term_stands n b c s.0 r.0, r.1.0, stmt_stands n loop one t s.1 q.0, q.1.0)
    stmt_stands n l b (For c step t) s h =
        let one = suc (end_term b c) in
        let again = end_stmt one t in
        let loop = In (suc (end_stmt again step)) again in
        let r = parts code b _ (code_term n b c) _ (term_end code.shapes n b c s.0) h in
        let q = parts code one _ (code_stmt n loop one t) _ (stmt_end code.shapes n loop one t s.2) r.1.1 in
        let o = parts code again _ (code_stmt n NoLoop again step) _ (stmt_end code.shapes n NoLoop again step s.1) q.1 in
        (term_stands n b c s.0 r.0, r.1.0, stmt_stands n loop one t s.2 q.0, stmt_stands n NoLoop again step s.1 o.0, o.1.0)
    stmt_stands n NoLoop b Break s h = absurd s
    stmt_stands n (In out again) b Break s h = h.0
    stmt_stands n NoLoop b Continue s h = absurd s
    stmt_stands n (In out again) b Continue s h = h.0
    stmt_stands n l b (Par ss) s h =
        let r = parts code (suc (suc b)) _ (code_branches n (suc (suc b)) ss) _ (branches_end code.shapes n (suc (suc b)) ss s) h.1.1 in
        (h.0, h.1.0, branches_stand n (suc (suc b)) ss s r.0, r.1.0)
    stmt_stands n l b (ParFor k start test line value t) s h =
        let loop = suc (end_term b start) in
        let each = suc (end_term loop test) in
        let jump = suc (end_term (suc (suc each)) value) in
        let r = parts code b _ (code_term n b start) _ (term_end code.shapes n b start s.0) h in
        let q = parts code loop _ (code_term n loop test) _ (term_end code.shapes n loop test s.1) r.1.1 in
        let o = parts code (suc (suc each)) _ (code_term line (suc (suc each)) value) _
        (term_end code.shapes line (suc (suc each)) value s.2) q.1.1.1.1 in
        let u = parts code (suc jump) _ (code_stmt 0 NoLoop (suc jump) t) _ (stmt_end code.shapes 0 NoLoop (suc jump) t s.3) o.1.1.1 in (
          term_stands n b start s.0 r.0,
          r.1.0,
          record {
            tests = term_stands n loop test s.1 q.0;
            chooses = q.1.0;
            each = q.1.1.0;
            place = q.1.1.1.0;
            amount = term_stands line (suc (suc each)) value s.2 o.0;
            stores = o.1.0;
            is_jump = refl;
            jumps = o.1.1.0;
            branch = stmt_stands 0 NoLoop (suc jump) t s.3 u.0;
            ends = u.1.0;
            joins = u.1.1.0;
          },
        )
    stmt_stands n l b (Spawn how f es) s h =
        let r = parts code b _ (code_terms n b es) _ (terms_end code.shapes n b es s.0) h in (terms_stand n b es s.0 r.0, r.1.0, s.1)
    stmt_stands n l b (Return e) s h =
        let r = parts code b _ (code_term n b e) _ (term_end code.shapes n b e s) h in (term_stands n b e s r.0, r.1.0)
    stmt_stands n l b (Block ss) s h = stmts_stand n l b ss s h
    stmt_stands n l b (Turn t w) s h = absurd s
    stmt_stands n l b (Forks k test line value t made now) s h = absurd s
    stmt_stands n l b (Each k test line value t made) s h = absurd s
    stmt_stands n l b (Wait made) s h = absurd s
    stmt_stands n l b (Left v) s h = absurd s

    pub stmts_stand : (n : ℕ) (l : Loop) (b : ℕ) (ss : Stmts) → AreStmts code.shapes (looped l) ss → Lie code b (code_stmts n l b ss)
        → StmtsStand code n l b ss
    stmts_stand n l b NoStmts s h = tt
    stmts_stand n l b (MoreStmts t ss) s h =
        let r = parts code b _ (code_stmt n l b t) _ (stmt_end code.shapes n l b t s.0) h in
        (stmt_stands n l b t s.0 r.0, stmts_stand n l (end_stmt b t) ss s.1 r.1)

    branches_stand : (n b : ℕ) (ss : Stmts) → AreStmts code.shapes false ss → Lie code b (code_branches n b ss)
        → BranchesStand code n b ss
    branches_stand n b NoStmts s h = tt
    branches_stand n b (MoreStmts t ss) s h =
        let r = parts code b _ (code_stmt 0 NoLoop b t) _ (stmt_end code.shapes 0 NoLoop b t s.0) h in
        (stmt_stands 0 NoLoop b t s.0 r.0, r.1.0, branches_stand n (suc (end_stmt b t)) ss s.1 r.1.1)
