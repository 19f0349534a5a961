-- Each place of a layout settles.
use Rattle.std.proofs.Common.{◌≡◌, ℕ, suc, ◌≤◌, Some, None, ⊎_elim, refl, ap, ◌∙◌}
use Rattle.std.proofs.Common.{subst, arith}
use Rattle.std.proofs.lemmas.Bool.{cases_lt}
use Rattle.cc_core.specs.Core.{Alone, On, Remote, Term, Push, This, Variable, Member, Index, At, Load, Unary, Binary, And, Or, New}
use Rattle.cc_core.specs.Core.{NewObject, Call, Val, Body, Branch, Starts, Terms, NoTerms, MoreTerms, MoreCells, Copied, Stmt, Empty}
use Rattle.cc_core.specs.Core.{AtLine, Make, Set, Build, Assign, Drop, Print, If, IfElse, While, For, Break, Continue, Par, ParFor}
use Rattle.cc_core.specs.Core.{Spawn, Return, Block, Turn, Forks, Each, Wait, Left, Stmts, NoStmts, MoreStmts}
use Rattle.cc_code.specs.Code.{Instr, JumpI, Code}
use Rattle.cc_code.specs.Layout.{end_term, end_terms, end_stmt, end_stmts, end_branches, Loop, NoLoop, In}
use Rattle.cc_code.specs.Stands.{Has, BreakStands, ContinueStands, TermStands, TermsStand, StmtStands, StmtsStand, BranchesStand}
use Rattle.cc_code.specs.Settles.{leads, silent_to, Settles, stops, goes, AllSettle}

-- from a place to a later one, each of which settles
pub record Span (code : Code) (b e : ℕ) : Type 0 where
  pub up : b ≤ e
  pub all : AllSettle code b e

module _ (code : Code) where
  start : (b e : ℕ) → Span code b e → Settles code b
  start b e s = s.all b (omega arith) (omega (arith, s.up))

  one : (b : ℕ) → Settles code b → Span code b b
  one b s = record { up = omega arith; all = λ c h g. let e : b ≡ c = omega arith in subst (Settles code) e s }

  joined : (b c e : ℕ) → Span code b c → Span code c e → Span code b e
  joined b c e s t =
      record {
        up = omega (arith, s.up, t.up);
        all = λ d h g. ⊎_elim (λ x. s.all d h (omega arith)) (λ x. t.all d (omega arith) g)
            (cases_lt d c);
      }

  pub next : (b e : ℕ) → Span code b e → Settles code (suc e) → Span code b (suc e)
  next b e s t =
      joined b e (suc e) s (record {
        up = omega arith;
        all = λ d h g. ⊎_elim
            (λ x. let q : e ≡ d = omega arith in subst (Settles code) q (s.all e s.up (omega arith)))
            (λ x. let q : suc e ≡ d = omega arith in subst (Settles code) q t) (cases_lt d (suc e));
      })

  pub stop_at : (n b : ℕ) (i : Instr) → Has code n b i → leads b i ≡ None → Settles code b
  stop_at n b i at e = stops (ap (silent_to b) at ∙ e)

  pub go_at : (n b c : ℕ) (i : Instr) → Has code n b i → leads b i ≡ Some c → Settles code c → Settles code b
  go_at n b c i at e s = goes (ap (silent_to b) at ∙ e) s

  mutual
    term_settles : (e : Term) (n b : ℕ) → TermStands code n b e → Settles code (end_term b e) → Span code b (end_term b e)
    term_settles (Push c) n b s h = next b b (one b (go_at n b _ _ s refl h)) h
    term_settles This n b s h = next b b (one b (go_at n b _ _ s refl h)) h
    term_settles (Variable k) n b s h = next b b (one b (go_at n b _ _ s refl h)) h
    term_settles (Member e o) n b s h = next b _ (term_settles e n b s.0 (go_at n _ _ _ s.1 refl h)) h
    term_settles (Index x size y) n b s h =
        let t = term_settles y n (end_term b x) s.1 (stop_at n _ _ s.2 refl) in
        next b _ (joined b _ _ (term_settles x n b s.0 (start _ _ t)) t) h
    term_settles (At x y) n b s h =
        let t = term_settles y n (end_term b x) s.1 (stop_at n _ _ s.2 refl) in
        next b _ (joined b _ _ (term_settles x n b s.0 (start _ _ t)) t) h
    term_settles (Load remote e) n b s h = next b _ (term_settles e n b s.0 (stop_at n _ _ s.1 refl)) h
    term_settles (Unary op e) n b s h = next b _ (term_settles e n b s.0 (stop_at n _ _ s.1 refl)) h
    term_settles (Binary op x y) n b s h =
        let t = term_settles y n (end_term b x) s.1 (stop_at n _ _ s.2 refl) in
        next b _ (joined b _ _ (term_settles x n b s.0 (start _ _ t)) t) h
    term_settles (And x y) n b s h =
        let t = term_settles y n (suc (end_term b x)) s.2 (stop_at n _ _ s.3 refl) in
        next b _ (joined b _ _ (next b _ (term_settles x n b s.0 (stop_at n _ _ s.1 refl)) (start _ _ t)) t) h
    term_settles (Or x y) n b s h =
        let t = term_settles y n (suc (end_term b x)) s.2 (stop_at n _ _ s.3 refl) in
        next b _ (joined b _ _ (next b _ (term_settles x n b s.0 (stop_at n _ _ s.1 refl)) (start _ _ t)) t) h
    term_settles (New kind size) n b s h = next b b (one b (stop_at n b _ s refl)) h
    term_settles (NewObject remote c es) n b s h = next b _ (terms_settle es n b s.0 (stop_at n _ _ s.1 refl)) h
    term_settles (Call Alone f es) n b s h = next b _ (terms_settle es n b s.0 (stop_at n _ _ s.1 refl)) h
    term_settles (Call On f es) n b s h = next b _ (terms_settle es n b s.0 (stop_at n _ _ s.1 refl)) h
    term_settles (Call Remote f es) n b s h =
        next b _ (next b _ (terms_settle es n b s.0 (stop_at n _ _ s.1 refl)) (stop_at n _ _ s.3 refl)) h
    term_settles (Val v) n b s h = absurd s
    term_settles (Body f t env ss) n b s h = absurd s
    term_settles (Branch t env x) n b s h = absurd s
    term_settles (Starts f t vs) n b s h = absurd s

    terms_settle : (es : Terms) (n b : ℕ) → TermsStand code n b es → Settles code (end_terms b es) → Span code b (end_terms b es)
    terms_settle NoTerms n b s h = one b h
    terms_settle (MoreTerms e es) n b s h =
        let t = terms_settle es n (end_term b e) s.1 h in joined b _ _ (term_settles e n b s.0 (start _ _ t)) t
    terms_settle (MoreCells e size es) n b s h =
        let t = terms_settle es n (suc (end_term b e)) s.2 h in joined b _ _
        (next b _ (term_settles e n b s.0 (stop_at n _ _ s.1 refl)) (start _ _ t)) t
    terms_settle (Copied vs es) n b s h = absurd s

  abbrev pub LoopSettles : Loop → Type 0
  LoopSettles NoLoop = Unit {0}
  LoopSettles (In out again) = Settles code out × Settles code again

  break_settles : (l : Loop) (n b : ℕ) → BreakStands code n l b → LoopSettles l → Settles code b
  break_settles NoLoop n b s h = absurd s
  break_settles (In out again) n b s h = go_at n b out (JumpI out) s refl h.0

  continue_settles : (l : Loop) (n b : ℕ) → ContinueStands code n l b → LoopSettles l → Settles code b
  continue_settles NoLoop n b s h = absurd s
  continue_settles (In out again) n b s h = go_at n b again (JumpI again) s refl h.1

  mutual
    pub stmt_settles : (t : Stmt) (n : ℕ) (l : Loop) (b : ℕ) → StmtStands code n l b t → LoopSettles l → Settles code (end_stmt b t)
        → Span code b (end_stmt b t)
    stmt_settles Empty n l b s g h = one b h
    stmt_settles (AtLine line t) n l b s g h = stmt_settles t line l b s g h
    stmt_settles (Make k kind size) n l b s g h = next b b (one b (stop_at n b _ s refl)) h
    stmt_settles (Set k kind e) n l b s g h = next b _ (term_settles e n b s.0 (stop_at n _ _ s.1 refl)) h
    stmt_settles (Build k c es) n l b s g h = next b _ (terms_settle es n b s.0 (stop_at n _ _ s.1 refl)) h
    stmt_settles (Assign remote x y) n l b s g h =
        let t = term_settles y n (end_term b x) s.1 (stop_at n _ _ s.2 refl) in
        next b _ (joined b _ _ (term_settles x n b s.0 (start _ _ t)) t) h
    stmt_settles (Drop e) n l b s g h = next b _ (term_settles e n b s.0 (go_at n _ _ _ s.1 refl h)) h
    stmt_settles (Print ps es) n l b s g h = next b _ (terms_settle es n b s.0 (stop_at n _ _ s.1 refl)) h
    stmt_settles (If c t) n l b s g h =
        let p = stmt_settles t n l (suc (end_term b c)) s.2 g h in
        joined b _ _ (next b _ (term_settles c n b s.0 (stop_at n _ _ s.1 refl)) (start _ _ p)) p
    stmt_settles (IfElse c t u) n l b s g h =
        let b1 = suc (end_term b c) in
        let b2 = suc (end_stmt b1 t) in
        let q = stmt_settles u n l b2 s.4 g h in
        let p = stmt_settles t n l b1 s.2 g (go_at n _ _ _ s.3 refl h) in
        joined b _ _ (next b _ (joined b _ _ (next b _ (term_settles c n b s.0 (stop_at n _ _ s.1 refl)) (start _ _ p)) p)
        (start _ _ q)) q
    stmt_settles (While c t) n l b s g h =
        let b1 = suc (end_term b c) in
        let b2 = suc (end_stmt b1 t) in
        let o = term_settles c n b s.0 (stop_at n _ _ s.1 refl) in
        let p = stmt_settles t n (In b2 b) b1 s.2 (h, start _ _ o) (go_at n _ _ _ s.3 refl (start _ _ o)) in
        next b _ (joined b _ _ (next b _ o (start _ _ p)) p) h
    stmt_settles (For c step t) n l b s g h =
        let b1 = suc (end_term b c) in
        let b2 = end_stmt b1 t in
        let b3 = suc (end_stmt b2 step) in
        let o = term_settles c n b s.0 (stop_at n _ _ s.1 refl) in
        let q = stmt_settles step n NoLoop b2 s.3 tt (go_at n _ _ _ s.4 refl (start _ _ o)) in
        let p = stmt_settles t n (In b3 b2) b1 s.2 (h, start _ _ q) (start _ _ q) in
        next b _ (joined b _ _ (joined b _ _ (next b _ o (start _ _ p)) p) q) h
    stmt_settles Break n l b s g h = next b b (one b (break_settles l n b s g)) h
    stmt_settles Continue n l b s g h = next b b (one b (continue_settles l n b s g)) h
    stmt_settles (Par ss) n l b s g h =
        let j = stop_at n _ _ s.3 refl in
        let p = branches_settle ss n (suc (suc b)) s.2 j in
        next b _ (joined b _ _ (next b _ (next b _ (one b (stop_at n b _ s.0 refl)) (go_at n _ _ _ s.1 refl j)) (start _ _ p)) p) h
    stmt_settles (ParFor k st test line value t) n l b s g h =
        let f = s.2 in
        let loop = suc (end_term b st) in
        let each = suc (end_term loop test) in
        let jump = suc (end_term (suc (suc each)) value) in
        let tests = term_settles test n loop f.tests (stop_at n _ _ f.chooses refl) in
        let amounts = term_settles value line (suc (suc each)) f.amount (stop_at line _ _ f.stores refl) in
        let branch = stmt_settles t 0 NoLoop (suc jump) f.branch tt (stop_at n _ _ f.ends refl) in
        let starts = term_settles st n b s.0 (stop_at n _ _ s.1 refl) in
        let a = joined b _ _ (next b _ starts (start _ _ tests)) tests in
        let place : Settles code (suc each) = go_at line _ _ _ f.place refl (start _ _ amounts) in
        let c = next b _ (next b _ (next b _ a (stop_at n _ _ f.each refl)) place) (start _ _ amounts) in
        let d = joined b _ _ c amounts in
        let e = next b _ (next b _ d (go_at n _ _ _ f.jumps refl (start _ _ tests))) (start _ _ branch) in
        next b _ (next b _ (joined b _ _ e branch) (stop_at n _ _ f.joins refl)) h
    stmt_settles (Spawn how f es) n l b s g h = next b _ (terms_settle es n b s.0 (stop_at n _ _ s.1 refl)) h
    stmt_settles (Return e) n l b s g h = next b _ (term_settles e n b s.0 (stop_at n _ _ s.1 refl)) h
    stmt_settles (Block ss) n l b s g h = stmts_settle ss n l b s g h
    stmt_settles (Turn t w) n l b s g h = absurd s
    stmt_settles (Forks k test line value t made now) n l b s g h = absurd s
    stmt_settles (Each k test line value t made) n l b s g h = absurd s
    stmt_settles (Wait made) n l b s g h = absurd s
    stmt_settles (Left v) n l b s g h = absurd s

    pub stmts_settle : (ss : Stmts) (n : ℕ) (l : Loop) (b : ℕ) → StmtsStand code n l b ss → LoopSettles l
        → Settles code (end_stmts b ss) → Span code b (end_stmts b ss)
    stmts_settle NoStmts n l b s g h = one b h
    stmts_settle (MoreStmts t ss) n l b s g h =
        let q = stmts_settle ss n l (end_stmt b t) s.1 g h in joined b _ _ (stmt_settles t n l b s.0 g (start _ _ q)) q

    branches_settle : (ss : Stmts) (n b : ℕ) → BranchesStand code n b ss → Settles code (end_branches b ss)
        → Span code b (end_branches b ss)
    branches_settle NoStmts n b s h = one b h
    branches_settle (MoreStmts t ss) n b s h =
        let q = branches_settle ss n (suc (end_stmt b t)) s.2 h in
        joined b _ _ (next b _ (stmt_settles t 0 NoLoop b s.0 tt (stop_at n _ _ s.1 refl)) (start _ _ q)) q
