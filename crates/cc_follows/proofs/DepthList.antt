-- The depths of a program, place by place, and that the parts of the program have them.
use Rattle.std.proofs.Common.{◌≡◌, ℕ, suc, ◌+◌, List, [], ◌∷◌, ◌++◌, Bool, true, false, refl, ◌∙◌, subst}
use Rattle.std.specs.Prelude.{get_or}
use Rattle.cc_core.specs.Core.{How, Alone, On, Remote, Term, Push, This, Variable, Member, Index, At, Load, Unary, Binary, And, Or}
use Rattle.cc_core.specs.Core.{New, NewObject, Call, Val, Body, Branch, Starts, Terms, NoTerms, MoreTerms, MoreCells, Copied, Stmt}
use Rattle.cc_core.specs.Core.{Empty, AtLine, Make, Set, Build, Assign, Drop, Print, If, IfElse, While, For, Break, Continue, Par}
use Rattle.cc_core.specs.Core.{ParFor, Spawn, Return, Block, Turn, Forks, Each, Wait, Left, Stmts, NoStmts, MoreStmts, Shapes}
use Rattle.cc_core.specs.Source.{width, IsTerm, AreTerms, IsStmt, AreStmts}
use Rattle.cc_code.specs.Layout.{end_term, end_terms, end_stmt, end_stmts, end_branches}
use Rattle.cc_code.specs.Depths.{TermDeep, TermsDeep, StmtDeep, StmtsDeep, BranchesDeep}
use Rattle.cc_follows.proofs.Lays.{after, ends}

-- the depth at the instruction of a call, and of its join
abbrev call_depths : How → (d n : ℕ) → List ℕ
call_depths Alone d n = (d + n) ∷ []
call_depths On d n = (d + n) ∷ []
call_depths Remote d n = (d + n) ∷ suc d ∷ []

abbrev mutual
  -- of a term that begins at depth d
  pub term_depths : (d : ℕ) → Term → List ℕ
  term_depths d (Push c) = d ∷ []
  term_depths d This = d ∷ []
  term_depths d (Variable k) = d ∷ []
  term_depths d (Member e o) = term_depths d e ++ suc d ∷ []
  term_depths d (Index x n y) = term_depths d x ++ (term_depths (suc d) y ++ suc (suc d) ∷ [])
  term_depths d (At x y) = term_depths d x ++ (term_depths (suc d) y ++ suc (suc d) ∷ [])
  term_depths d (Load remote e) = term_depths d e ++ suc d ∷ []
  term_depths d (Unary op e) = term_depths d e ++ suc d ∷ []
  term_depths d (Binary op x y) = term_depths d x ++ (term_depths (suc d) y ++ suc (suc d) ∷ [])
  term_depths d (And x y) = term_depths d x ++ (suc d ∷ (term_depths d y ++ suc d ∷ []))
  term_depths d (Or x y) = term_depths d x ++ (suc d ∷ (term_depths d y ++ suc d ∷ []))
  term_depths d (New kind n) = d ∷ []
  term_depths d (NewObject remote c es) = terms_depths d es ++ (d + width es) ∷ []
  term_depths d (Call how f es) = terms_depths d es ++ call_depths how d (width es)
  term_depths d (Val v) = []
  term_depths d (Body f this env ss) = []
  term_depths d (Branch this env s) = []
  term_depths d (Starts f this vs) = []

  pub terms_depths : (d : ℕ) → Terms → List ℕ
  terms_depths d NoTerms = []
  terms_depths d (MoreTerms e es) = term_depths d e ++ terms_depths (suc d) es
  terms_depths d (MoreCells e n es) = term_depths d e ++ (suc d ∷ terms_depths (d + n) es)
  terms_depths d (Copied vs es) = []

abbrev mutual
  -- of a statement, which begins and ends at depth 0
  pub stmt_depths : Stmt → List ℕ
  stmt_depths Empty = []
  stmt_depths (AtLine line s) = stmt_depths s
  stmt_depths (Make k kind n) = 0 ∷ []
  stmt_depths (Set k kind e) = term_depths 0 e ++ 1 ∷ []
  stmt_depths (Build k c es) = terms_depths 0 es ++ width es ∷ []
  stmt_depths (Assign remote x y) = term_depths 0 x ++ (term_depths 1 y ++ 2 ∷ [])
  stmt_depths (Drop e) = term_depths 0 e ++ 1 ∷ []
  stmt_depths (Print parts es) = terms_depths 0 es ++ width es ∷ []
  stmt_depths (If c s) = term_depths 0 c ++ (1 ∷ stmt_depths s)
  stmt_depths (IfElse c s t) = term_depths 0 c ++ (1 ∷ (stmt_depths s ++ (0 ∷ stmt_depths t)))
  stmt_depths (While c s) = term_depths 0 c ++ (1 ∷ (stmt_depths s ++ 0 ∷ []))
  stmt_depths (For c step s) = term_depths 0 c ++ (1 ∷ (stmt_depths s ++ (stmt_depths step ++ 0 ∷ [])))
  stmt_depths Break = 0 ∷ []
  stmt_depths Continue = 0 ∷ []
  stmt_depths (Par ss) = 0 ∷ 0 ∷ (branches_depths ss ++ 0 ∷ [])
  stmt_depths (ParFor k start test line value s) =
      term_depths 0 start ++ (1 ∷ (term_depths 0 test ++ (1 ∷ 0 ∷ 0 ∷ (term_depths 1 value ++ (2 ∷ 0 ∷ (stmt_depths s ++ 0 ∷ 0 ∷ []))))))
  stmt_depths (Spawn how f es) = terms_depths 0 es ++ width es ∷ []
  stmt_depths (Return e) = term_depths 0 e ++ 1 ∷ []
  stmt_depths (Block ss) = stmts_depths ss
  stmt_depths (Turn s w) = []
  stmt_depths (Forks k test line value s made now) = []
  stmt_depths (Each k test line value s made) = []
  stmt_depths (Wait made) = []
  stmt_depths (Left v) = []

  pub stmts_depths : Stmts → List ℕ
  stmts_depths NoStmts = []
  stmts_depths (MoreStmts s ss) = stmt_depths s ++ stmts_depths ss

  pub branches_depths : Stmts → List ℕ
  branches_depths NoStmts = []
  branches_depths (MoreStmts s ss) = stmt_depths s ++ (0 ∷ branches_depths ss)

module _ (h : Shapes) where
  mutual
    pub term_end : (d b : ℕ) (e : Term) → IsTerm h e → after b (term_depths d e) ≡ end_term b e
    term_end d b (Push c) s = refl
    term_end d b This s = refl
    term_end d b (Variable k) s = refl
    term_end d b (Member e o) s = ends b _ _ (term_depths d e) _ (term_end d b e s) refl
    term_end d b (Index x n y) s =
        ends b _ _ (term_depths d x) _ (term_end d b x s.0)
        (ends (end_term b x) _ _ (term_depths (suc d) y) _ (term_end (suc d) (end_term b x) y s.1) refl)
    term_end d b (At x y) s =
        ends b _ _ (term_depths d x) _ (term_end d b x s.0)
        (ends (end_term b x) _ _ (term_depths (suc d) y) _ (term_end (suc d) (end_term b x) y s.1) refl)
    term_end d b (Load remote e) s = ends b _ _ (term_depths d e) _ (term_end d b e s) refl
    term_end d b (Unary op e) s = ends b _ _ (term_depths d e) _ (term_end d b e s.0) refl
    term_end d b (Binary op x y) s =
        ends b _ _ (term_depths d x) _ (term_end d b x s.0)
        (ends (end_term b x) _ _ (term_depths (suc d) y) _ (term_end (suc d) (end_term b x) y s.1) refl)
    term_end d b (And x y) s =
        ends b _ _ (term_depths d x) _ (term_end d b x s.0)
        (ends (suc (end_term b x)) _ _ (term_depths d y) _ (term_end d (suc (end_term b x)) y s.1) refl)
    term_end d b (Or x y) s =
        ends b _ _ (term_depths d x) _ (term_end d b x s.0)
        (ends (suc (end_term b x)) _ _ (term_depths d y) _ (term_end d (suc (end_term b x)) y s.1) refl)
    term_end d b (New kind n) s = refl
    term_end d b (NewObject remote c es) s = ends b _ _ (terms_depths d es) _ (terms_end d b es s.0) refl
    term_end d b (Call Alone f es) s = ends b _ _ (terms_depths d es) _ (terms_end d b es s.0) refl
    term_end d b (Call On f es) s = ends b _ _ (terms_depths d es) _ (terms_end d b es s.0) refl
    term_end d b (Call Remote f es) s = ends b _ _ (terms_depths d es) _ (terms_end d b es s.0) refl
    term_end d b (Val v) s = absurd s
    term_end d b (Body f t env ss) s = absurd s
    term_end d b (Branch t env ss) s = absurd s
    term_end d b (Starts f t vs) s = absurd s

    pub terms_end : (d b : ℕ) (es : Terms) → AreTerms h es → after b (terms_depths d es) ≡ end_terms b es
    terms_end d b NoTerms s = refl
    terms_end d b (MoreTerms e es) s = ends b _ _ (term_depths d e) _ (term_end d b e s.0) (terms_end (suc d) (end_term b e) es s.1)
    terms_end d b (MoreCells e n es) s =
        ends b _ _ (term_depths d e) _ (term_end d b e s.0) (terms_end (d + n) (suc (end_term b e)) es s.1)
    terms_end d b (Copied vs es) s = absurd s

  mutual
    pub stmt_end : (l : Bool) (b : ℕ) (t : Stmt) → IsStmt h l t → after b (stmt_depths t) ≡ end_stmt b t
    stmt_end l b Empty s = refl
    stmt_end l b (AtLine line t) s = stmt_end l b t s
    stmt_end l b (Make k kind n) s = refl
    stmt_end l b (Set k kind e) s = ends b _ _ (term_depths 0 e) _ (term_end 0 b e s) refl
    stmt_end l b (Build k c es) s = ends b _ _ (terms_depths 0 es) _ (terms_end 0 b es s.0) refl
    stmt_end l b (Assign remote x y) s =
        ends b _ _ (term_depths 0 x) _ (term_end 0 b x s.0)
        (ends (end_term b x) _ _ (term_depths 1 y) _ (term_end 1 (end_term b x) y s.1) refl)
    stmt_end l b (Drop e) s = ends b _ _ (term_depths 0 e) _ (term_end 0 b e s) refl
    stmt_end l b (Print ps es) s = ends b _ _ (terms_depths 0 es) _ (terms_end 0 b es s.0) refl
    stmt_end l b (If c t) s = ends b _ _ (term_depths 0 c) _ (term_end 0 b c s.0) (stmt_end l (suc (end_term b c)) t s.1)
    stmt_end l b (IfElse c t u) s =
        let one = suc (end_term b c) in
        ends b _ _ (term_depths 0 c) _ (term_end 0 b c s.0)
        (ends one _ _ (stmt_depths t) _ (stmt_end l one t s.1) (stmt_end l (suc (end_stmt one t)) u s.2))
    stmt_end l b (While c t) s =
        let one = suc (end_term b c) in
        ends b _ _ (term_depths 0 c) _ (term_end 0 b c s.0) (ends one _ _ (stmt_depths t) _ (stmt_end true one t s.1) refl)
    stmt_end l b (For c step t) s =
        let one = suc (end_term b c) in
        let again = end_stmt one t in
        ends b _ _ (term_depths 0 c) _ (term_end 0 b c s.0)
        (ends one _ _ (stmt_depths t) _ (stmt_end true one t s.2)
        (ends again _ _ (stmt_depths step) _ (stmt_end false again step s.1) refl))
    stmt_end l b Break s = refl
    stmt_end l b Continue s = refl
    stmt_end l b (Par ss) s = ends (suc (suc b)) _ _ (branches_depths ss) _ (branches_end (suc (suc b)) ss s) refl
    stmt_end l b (ParFor k start test line value t) s =
        let loop = suc (end_term b start) in
        let each = suc (end_term loop test) in
        let jump = suc (end_term (suc (suc each)) value) in
        ends b _ _ (term_depths 0 start) _ (term_end 0 b start s.0)
        (ends loop _ _ (term_depths 0 test) _ (term_end 0 loop test s.1)
        (ends (suc (suc each)) _ _ (term_depths 1 value) _ (term_end 1 (suc (suc each)) value s.2)
        (ends (suc jump) _ _ (stmt_depths t) _ (stmt_end false (suc jump) t s.3) refl)))
    stmt_end l b (Spawn how f es) s = ends b _ _ (terms_depths 0 es) _ (terms_end 0 b es s.0) refl
    stmt_end l b (Return e) s = ends b _ _ (term_depths 0 e) _ (term_end 0 b e s) refl
    stmt_end l b (Block ss) s = stmts_end l b ss s
    stmt_end l b (Turn t w) s = absurd s
    stmt_end l b (Forks k test line value t made now) s = absurd s
    stmt_end l b (Each k test line value t made) s = absurd s
    stmt_end l b (Wait made) s = absurd s
    stmt_end l b (Left v) s = absurd s

    pub stmts_end : (l : Bool) (b : ℕ) (ss : Stmts) → AreStmts h l ss → after b (stmts_depths ss) ≡ end_stmts b ss
    stmts_end l b NoStmts s = refl
    stmts_end l b (MoreStmts t ss) s = ends b _ _ (stmt_depths t) _ (stmt_end l b t s.0) (stmts_end l (end_stmt b t) ss s.1)

    pub branches_end : (b : ℕ) (ss : Stmts) → AreStmts h false ss → after b (branches_depths ss) ≡ end_branches b ss
    branches_end b NoStmts s = refl
    branches_end b (MoreStmts t ss) s = ends b _ _ (stmt_depths t) _ (stmt_end false b t s.0) (branches_end (suc (end_stmt b t)) ss s.1)

-- the depths from place b on are these
abbrev pub HasDepths : (ds : ℕ → ℕ) → (b : ℕ) → List ℕ → Type 0
HasDepths ds b [] = Unit {0}
HasDepths ds b (d ∷ more) = (ds b ≡ d) × HasDepths ds (suc b) more

pub parts : (ds : ℕ → ℕ) (b end : ℕ) (xs ys : List ℕ) → after b xs ≡ end → HasDepths ds b (xs ++ ys)
    → HasDepths ds b xs × HasDepths ds end ys
parts ds b end [] ys e h = (tt, subst (λ n. HasDepths ds n ys) e h)
parts ds b end (x ∷ xs) ys e h = let r = parts ds (suc b) end xs ys e h.1 in ((h.0, r.0), r.1)

module _ (h : Shapes) (ds : ℕ → ℕ) where
  mutual
    pub term_deep : (d b : ℕ) (e : Term) → IsTerm h e → HasDepths ds b (term_depths d e) → TermDeep ds d b e
    term_deep d b (Push c) s g = g.0
    term_deep d b This s g = g.0
    term_deep d b (Variable k) s g = g.0
    term_deep d b (Member e o) s g = let r = parts ds b _ (term_depths d e) _ (term_end h d b e s) g in (term_deep d b e s r.0, r.1.0)
    term_deep d b (Index x n y) s g =
        let r = parts ds b _ (term_depths d x) _ (term_end h d b x s.0) g in
        let q = parts ds _ _ (term_depths (suc d) y) _ (term_end h (suc d) (end_term b x) y s.1) r.1 in
        (term_deep d b x s.0 r.0, term_deep (suc d) _ y s.1 q.0, q.1.0)
    term_deep d b (At x y) s g =
        let r = parts ds b _ (term_depths d x) _ (term_end h d b x s.0) g in
        let q = parts ds _ _ (term_depths (suc d) y) _ (term_end h (suc d) (end_term b x) y s.1) r.1 in
        (term_deep d b x s.0 r.0, term_deep (suc d) _ y s.1 q.0, q.1.0)
    term_deep d b (Load remote e) s g = let r = parts ds b _ (term_depths d e) _ (term_end h d b e s) g in (term_deep d b e s r.0, r.1.0)
    term_deep d b (Unary op e) s g = let r = parts ds b _ (term_depths d e) _ (term_end h d b e s.0) g in (term_deep d b e s.0 r.0, r.1.0)
    term_deep d b (Binary op x y) s g =
        let r = parts ds b _ (term_depths d x) _ (term_end h d b x s.0) g in
        let q = parts ds _ _ (term_depths (suc d) y) _ (term_end h (suc d) (end_term b x) y s.1) r.1 in
        (term_deep d b x s.0 r.0, term_deep (suc d) _ y s.1 q.0, q.1.0)
    term_deep d b (And x y) s g =
        let r = parts ds b _ (term_depths d x) _ (term_end h d b x s.0) g in
        let q = parts ds _ _ (term_depths d y) _ (term_end h d (suc (end_term b x)) y s.1) r.1.1 in
        (term_deep d b x s.0 r.0, r.1.0, term_deep d _ y s.1 q.0, q.1.0)
    term_deep d b (Or x y) s g =
        let r = parts ds b _ (term_depths d x) _ (term_end h d b x s.0) g in
        let q = parts ds _ _ (term_depths d y) _ (term_end h d (suc (end_term b x)) y s.1) r.1.1 in
        (term_deep d b x s.0 r.0, r.1.0, term_deep d _ y s.1 q.0, q.1.0)
    term_deep d b (New kind n) s g = g.0
    term_deep d b (NewObject remote c es) s g =
        let r = parts ds b _ (terms_depths d es) _ (terms_end h d b es s.0) g in (terms_deep d b es s.0 r.0, r.1.0)
    term_deep d b (Call Alone f es) s g =
        let r = parts ds b _ (terms_depths d es) _ (terms_end h d b es s.0) g in (terms_deep d b es s.0 r.0, r.1.0)
    term_deep d b (Call On f es) s g =
        let r = parts ds b _ (terms_depths d es) _ (terms_end h d b es s.0) g in (terms_deep d b es s.0 r.0, r.1.0)
    term_deep d b (Call Remote f es) s g =
        let r = parts ds b _ (terms_depths d es) _ (terms_end h d b es s.0) g in (terms_deep d b es s.0 r.0, r.1.0, r.1.1.0)
    term_deep d b (Val v) s g = absurd s
    term_deep d b (Body f t env ss) s g = absurd s
    term_deep d b (Branch t env ss) s g = absurd s
    term_deep d b (Starts f t vs) s g = absurd s

    pub terms_deep : (d b : ℕ) (es : Terms) → AreTerms h es → HasDepths ds b (terms_depths d es) → TermsDeep ds d b es
    terms_deep d b NoTerms s g = tt
    terms_deep d b (MoreTerms e es) s g =
        let r = parts ds b _ (term_depths d e) _ (term_end h d b e s.0) g
        in (term_deep d b e s.0 r.0, terms_deep (suc d) _ es s.1 r.1)
    terms_deep d b (MoreCells e n es) s g =
        let r = parts ds b _ (term_depths d e) _ (term_end h d b e s.0) g
        in (term_deep d b e s.0 r.0, r.1.0, terms_deep (d + n) _ es s.1 r.1.1)
    terms_deep d b (Copied vs es) s g = absurd s

  mutual
    pub stmt_deep : (l : Bool) (b : ℕ) (t : Stmt) → IsStmt h l t → HasDepths ds b (stmt_depths t) → StmtDeep ds b t
    stmt_deep l b Empty s g = tt
    stmt_deep l b (AtLine line t) s g = stmt_deep l b t s g
    stmt_deep l b (Make k kind n) s g = g.0
    stmt_deep l b (Set k kind e) s g = let r = parts ds b _ (term_depths 0 e) _ (term_end h 0 b e s) g in (term_deep 0 b e s r.0, r.1.0)
    stmt_deep l b (Build k c es) s g =
        let r = parts ds b _ (terms_depths 0 es) _ (terms_end h 0 b es s.0) g in (terms_deep 0 b es s.0 r.0, r.1.0)
    stmt_deep l b (Assign remote x y) s g =
        let r = parts ds b _ (term_depths 0 x) _ (term_end h 0 b x s.0) g in
        let q = parts ds _ _ (term_depths 1 y) _ (term_end h 1 (end_term b x) y s.1) r.1 in
        (term_deep 0 b x s.0 r.0, term_deep 1 _ y s.1 q.0, q.1.0)
    stmt_deep l b (Drop e) s g = let r = parts ds b _ (term_depths 0 e) _ (term_end h 0 b e s) g in (term_deep 0 b e s r.0, r.1.0)
    stmt_deep l b (Print ps es) s g =
        let r = parts ds b _ (terms_depths 0 es) _ (terms_end h 0 b es s.0) g in (terms_deep 0 b es s.0 r.0, r.1.0)
    stmt_deep l b (If c t) s g =
        let r = parts ds b _ (term_depths 0 c) _ (term_end h 0 b c s.0) g
        in (term_deep 0 b c s.0 r.0, r.1.0, stmt_deep l _ t s.1 r.1.1)
    stmt_deep l b (IfElse c t u) s g =
        let r = parts ds b _ (term_depths 0 c) _ (term_end h 0 b c s.0) g in
        let q = parts ds _ _ (stmt_depths t) _ (stmt_end h l (suc (end_term b c)) t s.1) r.1.1 in
        (term_deep 0 b c s.0 r.0, r.1.0, stmt_deep l _ t s.1 q.0, q.1.0, stmt_deep l _ u s.2 q.1.1)
    stmt_deep l b (While c t) s g =
        let r = parts ds b _ (term_depths 0 c) _ (term_end h 0 b c s.0) g in
        let q = parts ds _ _ (stmt_depths t) _ (stmt_end h true (suc (end_term b c)) t s.1) r.1.1 in
        (term_deep 0 b c s.0 r.0, r.1.0, stmt_deep true _ t s.1 q.0, q.1.0)
    stmt_deep l b (For c step t) s g =
        let one = suc (end_term b c) in
        let r = parts ds b _ (term_depths 0 c) _ (term_end h 0 b c s.0) g in
        let q = parts ds _ _ (stmt_depths t) _ (stmt_end h true one t s.2) r.1.1 in
        let o = parts ds _ _ (stmt_depths step) _ (stmt_end h false (end_stmt one t) step s.1) q.1 in
        (term_deep 0 b c s.0 r.0, r.1.0, stmt_deep true one t s.2 q.0, stmt_deep false _ step s.1 o.0, o.1.0)
    stmt_deep l b Break s g = g.0
    stmt_deep l b Continue s g = g.0
    stmt_deep l b (Par ss) s g =
        let r = parts ds (suc (suc b)) _ (branches_depths ss) _ (branches_end h (suc (suc b)) ss s) g.1.1 in
        (g.0, g.1.0, branches_deep (suc (suc b)) ss s r.0, r.1.0)
    stmt_deep l b (ParFor k start test line value t) s g =
        let loop = suc (end_term b start) in
        let each = suc (end_term loop test) in
        let jump = suc (end_term (suc (suc each)) value) in
        let r = parts ds b _ (term_depths 0 start) _ (term_end h 0 b start s.0) g in
        let q = parts ds loop _ (term_depths 0 test) _ (term_end h 0 loop test s.1) r.1.1 in
        let o = parts ds (suc (suc each)) _ (term_depths 1 value) _ (term_end h 1 (suc (suc each)) value s.2) q.1.1.1.1 in
        let m = parts ds (suc jump) _ (stmt_depths t) _ (stmt_end h false (suc jump) t s.3) o.1.1.1 in (
          term_deep 0 b start s.0 r.0,
          r.1.0,
          term_deep 0 loop test s.1 q.0,
          q.1.0,
          q.1.1.0,
          q.1.1.1.0,
          term_deep 1 _ value s.2 o.0,
          o.1.0,
          o.1.1.0,
          stmt_deep false _ t s.3 m.0,
          m.1.0,
          m.1.1.0,
        )
    stmt_deep l b (Spawn how f es) s g =
        let r = parts ds b _ (terms_depths 0 es) _ (terms_end h 0 b es s.0) g in (terms_deep 0 b es s.0 r.0, r.1.0)
    stmt_deep l b (Return e) s g = let r = parts ds b _ (term_depths 0 e) _ (term_end h 0 b e s) g in (term_deep 0 b e s r.0, r.1.0)
    stmt_deep l b (Block ss) s g = stmts_deep l b ss s g
    stmt_deep l b (Turn t w) s g = absurd s
    stmt_deep l b (Forks k test line value t made now) s g = absurd s
    stmt_deep l b (Each k test line value t made) s g = absurd s
    stmt_deep l b (Wait made) s g = absurd s
    stmt_deep l b (Left v) s g = absurd s

    pub stmts_deep : (l : Bool) (b : ℕ) (ss : Stmts) → AreStmts h l ss → HasDepths ds b (stmts_depths ss) → StmtsDeep ds b ss
    stmts_deep l b NoStmts s g = tt
    stmts_deep l b (MoreStmts t ss) s g =
        let r = parts ds b _ (stmt_depths t) _ (stmt_end h l b t s.0) g in (stmt_deep l b t s.0 r.0, stmts_deep l _ ss s.1 r.1)

    pub branches_deep : (b : ℕ) (ss : Stmts) → AreStmts h false ss → HasDepths ds b (branches_depths ss) → BranchesDeep ds b ss
    branches_deep b NoStmts s g = tt
    branches_deep b (MoreStmts t ss) s g =
        let r = parts ds b _ (stmt_depths t) _ (stmt_end h false b t s.0) g
        in (stmt_deep false b t s.0 r.0, r.1.0, branches_deep _ ss s.1 r.1.1)

-- a list's items, by their places
shifted : (xs : List ℕ) (b : ℕ) (ds es : ℕ → ℕ) → ((i : ℕ) → es (suc i) ≡ ds i) → HasDepths ds b xs → HasDepths es (suc b) xs
shifted [] b ds es same h = tt
shifted (x ∷ xs) b ds es same h = (same b ∙ h.0, shifted xs (suc b) ds es same h.1)

pub listed : (xs : List ℕ) → HasDepths (λ b. get_or xs b 0) 0 xs
listed [] = tt
listed (x ∷ xs) = (refl, shifted xs 0 (λ b. get_or xs b 0) (λ b. get_or (x ∷ xs) b 0) (λ i. refl) (listed xs))
