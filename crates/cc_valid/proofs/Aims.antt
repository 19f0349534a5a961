-- The instructions of each part of a function have their numbers in range, and lead to places of the function alone.
use Rattle.std.proofs.Common.{◌≡◌, ℕ, suc, ◌<◌, ◌≤◌, List, [], ◌∷◌, ◌++◌, length, Bool, true, false, refl, sym, subst, arith}
use Rattle.std.specs.Prelude.{nat_lt}
use Rattle.std.proofs.lemmas.Bool.{lt-ltb, and_from}
use Rattle.cc_ops.specs.declared.shape.FunShape.{FunShape}
use Rattle.cc_core.specs.Core.{Alone, On, Remote, Term, Push, This, Variable, Member, Index, At, Load, Unary, Binary, And, Or, New}
use Rattle.cc_core.specs.Core.{NewObject, Call, Val, Body, Branch, Starts, Terms, NoTerms, MoreTerms, MoreCells, Copied, Stmt, Empty}
use Rattle.cc_core.specs.Core.{AtLine, Make, Set, Build, Assign, Drop, Print, If, IfElse, While, For, Break, Continue, Par, ParFor}
use Rattle.cc_core.specs.Core.{Spawn, Return, Block, Turn, Forks, Each, Wait, Left, Stmts, NoStmts, MoreStmts, Shapes}
use Rattle.cc_core.specs.Source.{IsTerm, AreTerms, IsStmt, AreStmts}
use Rattle.cc_code.specs.Code.{Instr, JumpI, Placed}
use Rattle.cc_code.specs.Layout.{end_term, end_terms, end_stmt, end_stmts, end_branches, targets, Loop, NoLoop, In, code_term}
use Rattle.cc_code.specs.Layout.{code_terms, code_stmt, code_stmts, code_branches}
use Rattle.cc_code.specs.Valid.{in_range, goes_on, targets_of}
use Rattle.cc_follows.proofs.Lays.{after, looped, term_end, terms_end, stmt_end, stmts_end, branches_end}
use Rattle.cc_valid.specs.Ranges.{TermInRange, TermsInRange, StmtInRange, StmtsInRange}

-- something holds of each instruction and its place, from a place on
abbrev pub EachInstr : (ℕ → Instr → Type 0) → ℕ → List Placed → Type 0
EachInstr P b [] = Unit {0}
EachInstr P b (i ∷ is) = P b i.instr × EachInstr P (suc b) is

abbrev pub Between : (low high b : ℕ) → Type 0
Between low high b = (low ≤ b) × (b < high)

abbrev pub AllBetween : (low high : ℕ) → List ℕ → Type 0
AllBetween low high [] = Unit {0}
AllBetween low high (b ∷ bs) = Between low high b × AllBetween low high bs

-- the next place is below another, where it is reached
abbrev pub GoesBelow : Bool → (high b : ℕ) → Type 0
GoesBelow true high b = suc b < high
GoesBelow false high b = Unit {0}

-- in a function of this shape that stands between two places
pub record Aims (h : Shapes) (f : FunShape) (low high b : ℕ) (i : Instr) : Type 0 where
  pub ranges : in_range h f i ≡ true
  pub next : GoesBelow (goes_on i) high b
  pub leads : AllBetween low high (targets_of i)

pub each_both : (P : ℕ → Instr → Type 0) (b mid : ℕ) (xs ys : List Placed) → after b xs ≡ mid → EachInstr P b xs → EachInstr P mid ys
    → EachInstr P b (xs ++ ys)
each_both P b mid [] ys e f g = subst (λ n. EachInstr P n ys) (sym e) g
each_both P b mid (x ∷ xs) ys e f g = (f.0, each_both P (suc b) mid xs ys e f.1 g)

pub after_up : (b : ℕ) (xs : List Placed) → b ≤ after b xs
after_up b [] = omega arith
after_up b (x ∷ xs) = let more : suc b ≤ after (suc b) xs = after_up (suc b) xs in omega (arith, more)

-- a part ends behind its beginning
module _ (h : Shapes) where
  pub term_up : (b : ℕ) (e : Term) → IsTerm h e → b ≤ end_term b e
  term_up b e s = subst (λ n. b ≤ n) (term_end h 0 b e s) (after_up b (code_term 0 b e))

  pub terms_up : (b : ℕ) (es : Terms) → AreTerms h es → b ≤ end_terms b es
  terms_up b es s = subst (λ n. b ≤ n) (terms_end h 0 b es s) (after_up b (code_terms 0 b es))

  pub stmt_up : (l : Loop) (b : ℕ) (t : Stmt) → IsStmt h (looped l) t → b ≤ end_stmt b t
  stmt_up l b t s = subst (λ n. b ≤ n) (stmt_end h 0 l b t s) (after_up b (code_stmt 0 l b t))

  pub stmts_up : (l : Loop) (b : ℕ) (ss : Stmts) → AreStmts h (looped l) ss → b ≤ end_stmts b ss
  stmts_up l b ss s = subst (λ n. b ≤ n) (stmts_end h 0 l b ss s) (after_up b (code_stmts 0 l b ss))

  pub branches_up : (b : ℕ) (ss : Stmts) → AreStmts h false ss → b ≤ end_branches b ss
  branches_up b ss s = subst (λ n. b ≤ n) (branches_end h 0 b ss s) (after_up b (code_branches 0 b ss))

below : (a b : ℕ) → a < b → nat_lt a b ≡ true
below a b lt = lt-ltb a b lt

module _ (h : Shapes) (f : FunShape) (low high : ℕ) where
  abbrev pub AllAim : ℕ → List Placed → Type 0
  AllAim = EachInstr (Aims h f low high)

  -- an instruction without targets, one with one target, and a jump
  abbrev Aimed : ℕ → Instr → Type 0
  Aimed = Aims h f low high

  pub plain : (b : ℕ) (i : Instr) → in_range h f i ≡ true → goes_on i ≡ true → targets_of i ≡ [] → suc b < high → Aimed b i
  plain b i r g none up = record {
    ranges = r;
    next = subst (λ (x : Bool). GoesBelow x high b) (sym g) up;
    leads = subst (AllBetween low high) (sym none) tt;
  }

  aimed : (b to : ℕ) (i : Instr) → in_range h f i ≡ true → goes_on i ≡ true → targets_of i ≡ to ∷ [] → suc b < high
      → Between low high to → Aimed b i
  aimed b to i r g one up at = record {
    ranges = r;
    next = subst (λ (x : Bool). GoesBelow x high b) (sym g) up;
    leads = subst (AllBetween low high) (sym one) (at, tt);
  }

  jumps : (b to : ℕ) → Between low high to → Aimed b (JumpI to)
  jumps b to at = record { ranges = refl; next = tt; leads = (at, tt) }

  pub ends_there : (b : ℕ) (i : Instr) → in_range h f i ≡ true → goes_on i ≡ false → targets_of i ≡ [] → Aimed b i
  ends_there b i r g none = record {
    ranges = r;
    next = subst (λ (x : Bool). GoesBelow x high b) (sym g) tt;
    leads = subst (AllBetween low high) (sym none) tt;
  }

  both : (b mid : ℕ) (xs ys : List Placed) → after b xs ≡ mid → AllAim b xs → AllAim mid ys → AllAim b (xs ++ ys)
  both = each_both (Aims h f low high)

  abbrev InTerm : Term → Type 0
  InTerm = TermInRange f.vars (length h.classes)

  abbrev InTerms : Terms → Type 0
  InTerms = TermsInRange f.vars (length h.classes)

  abbrev InStmt : Stmt → Type 0
  InStmt = StmtInRange f.vars (length h.classes)

  abbrev InStmts : Stmts → Type 0
  InStmts = StmtsInRange f.vars (length h.classes)

  mutual
    pub term_aims : (n b : ℕ) (e : Term) → IsTerm h e → InTerm e → low ≤ b → end_term b e < high → AllAim b (code_term n b e)
    term_aims n b (Push c) s r lo up = (plain b _ refl refl refl up, tt)
    term_aims n b This s r lo up = (plain b _ refl refl refl up, tt)
    term_aims n b (Variable k) s r lo up = (plain b _ (below _ _ r) refl refl up, tt)
    term_aims n b (Member e o) s r lo up =
        both b _ (code_term n b e) _ (term_end h n b e s) (term_aims n b e s r lo (omega (arith, up))) (plain _ _ refl refl refl up, tt)
    term_aims n b (Index x size y) s r lo up =
        let m = end_term b x in
        let bx = term_up h b x s.0 in
        let my = term_up h m y s.1 in
        both b _ (code_term n b x) _ (term_end h n b x s.0) (term_aims n b x s.0 r.0 lo (omega (arith, up, my)))
        (both m _ (code_term n m y) _ (term_end h n m y s.1) (term_aims n m y s.1 r.1 (omega (arith, lo, bx)) (omega (arith, up)))
        (plain _ _ (below _ _ r.2) refl refl up, tt))
    term_aims n b (At x y) s r lo up =
        let m = end_term b x in
        let bx = term_up h b x s.0 in
        let my = term_up h m y s.1 in
        both b _ (code_term n b x) _ (term_end h n b x s.0) (term_aims n b x s.0 r.0 lo (omega (arith, up, my)))
        (both m _ (code_term n m y) _ (term_end h n m y s.1) (term_aims n m y s.1 r.1 (omega (arith, lo, bx)) (omega (arith, up)))
        (plain _ _ refl refl refl up, tt))
    term_aims n b (Load remote e) s r lo up =
        both b _ (code_term n b e) _ (term_end h n b e s) (term_aims n b e s r lo (omega (arith, up))) (plain _ _ refl refl refl up, tt)
    term_aims n b (Unary op e) s r lo up =
        both b _ (code_term n b e) _ (term_end h n b e s.0) (term_aims n b e s.0 r lo (omega (arith, up))) (plain _ _ refl refl refl up, tt)
    term_aims n b (Binary op x y) s r lo up =
        let m = end_term b x in
        let bx = term_up h b x s.0 in
        let my = term_up h m y s.1 in
        both b _ (code_term n b x) _ (term_end h n b x s.0) (term_aims n b x s.0 r.0 lo (omega (arith, up, my)))
        (both m _ (code_term n m y) _ (term_end h n m y s.1) (term_aims n m y s.1 r.1 (omega (arith, lo, bx)) (omega (arith, up)))
        (plain _ _ refl refl refl up, tt))
    term_aims n b (And x y) s r lo up =
        let m = end_term b x in
        let bx = term_up h b x s.0 in
        let my = term_up h (suc m) y s.1 in
        both b _ (code_term n b x) _ (term_end h n b x s.0) (term_aims n b x s.0 r.0 lo (omega (arith, up, my))) (
          aimed m (end_term b (And x y)) _ refl refl refl (omega (arith, up, my)) (omega (arith, lo, bx, my), up),
          both (suc m) _ (code_term n (suc m) y) _ (term_end h n (suc m) y s.1)
              (term_aims n (suc m) y s.1 r.1 (omega (arith, lo, bx)) (omega (arith, up))) (plain _ _ refl refl refl up, tt),
        )
    term_aims n b (Or x y) s r lo up =
        let m = end_term b x in
        let bx = term_up h b x s.0 in
        let my = term_up h (suc m) y s.1 in
        both b _ (code_term n b x) _ (term_end h n b x s.0) (term_aims n b x s.0 r.0 lo (omega (arith, up, my))) (
          aimed m (end_term b (Or x y)) _ refl refl refl (omega (arith, up, my)) (omega (arith, lo, bx, my), up),
          both (suc m) _ (code_term n (suc m) y) _ (term_end h n (suc m) y s.1)
              (term_aims n (suc m) y s.1 r.1 (omega (arith, lo, bx)) (omega (arith, up))) (plain _ _ refl refl refl up, tt),
        )
    term_aims n b (New kind size) s r lo up = (plain b _ (below _ _ r) refl refl up, tt)
    term_aims n b (NewObject remote c es) s r lo up =
        both b _ (code_terms n b es) _ (terms_end h n b es s.0) (terms_aim n b es s.0 r.0 lo (omega (arith, up)))
        (plain _ _ (below _ _ r.1) refl refl up, tt)
    term_aims n b (Call Alone g es) s r lo up =
        both b _ (code_terms n b es) _ (terms_end h n b es s.0) (terms_aim n b es s.0 r lo (omega (arith, up)))
        (plain _ _ (below _ _ s.1.0) refl refl up, tt)
    term_aims n b (Call On g es) s r lo up =
        both b _ (code_terms n b es) _ (terms_end h n b es s.0) (terms_aim n b es s.0 r lo (omega (arith, up)))
        (plain _ _ (below _ _ s.1.0) refl refl up, tt)
    term_aims n b (Call Remote g es) s r lo up =
        both b _ (code_terms n b es) _ (terms_end h n b es s.0) (terms_aim n b es s.0 r lo (omega (arith, up)))
        (plain _ _ (below _ _ s.1.0) refl refl (omega (arith, up)), (plain _ _ refl refl refl up, tt))
    term_aims n b (Val v) s r lo up = absurd s
    term_aims n b (Body g t env ss) s r lo up = absurd s
    term_aims n b (Branch t env x) s r lo up = absurd s
    term_aims n b (Starts g t vs) s r lo up = absurd s

    pub terms_aim : (n b : ℕ) (es : Terms) → AreTerms h es → InTerms es → low ≤ b → end_terms b es < high → AllAim b (code_terms n b es)
    terms_aim n b NoTerms s r lo up = tt
    terms_aim n b (MoreTerms e es) s r lo up =
        let m = end_term b e in
        let be = term_up h b e s.0 in
        let me = terms_up h m es s.1 in
        both b _ (code_term n b e) _ (term_end h n b e s.0) (term_aims n b e s.0 r.0 lo (omega (arith, up, me)))
        (terms_aim n m es s.1 r.1 (omega (arith, lo, be)) up)
    terms_aim n b (MoreCells e size es) s r lo up =
        let m = end_term b e in
        let be = term_up h b e s.0 in
        let me = terms_up h (suc m) es s.1 in
        both b _ (code_term n b e) _ (term_end h n b e s.0) (term_aims n b e s.0 r.0 lo (omega (arith, up, me)))
        (plain _ _ (below _ _ r.2) refl refl (omega (arith, up, me)), terms_aim n (suc m) es s.1 r.1 (omega (arith, lo, be)) up)
    terms_aim n b (Copied vs es) s r lo up = absurd s

  -- where break and continue go
  abbrev LoopAims : Loop → Type 0
  LoopAims NoLoop = Unit {0}
  LoopAims (In out again) = Between low high out × Between low high again

  targets_between : (b : ℕ) (ss : Stmts) → AreStmts h false ss → low ≤ b → end_branches b ss < high → AllBetween low high (targets b ss)
  targets_between b NoStmts s lo up = tt
  targets_between b (MoreStmts t ss) s lo up =
      let bt = stmt_up h NoLoop b t s.0 in
      let more = branches_up h (suc (end_stmt b t)) ss s.1 in
      ((lo, omega (arith, up, bt, more)), targets_between (suc (end_stmt b t)) ss s.1 (omega (arith, lo, bt)) up)

  mutual
    pub stmt_aims : (n : ℕ) (l : Loop) (b : ℕ) (t : Stmt) → IsStmt h (looped l) t → InStmt t → LoopAims l → low ≤ b → end_stmt b t < high
        → AllAim b (code_stmt n l b t)
    stmt_aims n l b Empty s r z lo up = tt
    stmt_aims n l b (AtLine line t) s r z lo up = stmt_aims line l b t s r z lo up
    stmt_aims n l b (Make k kind size) s r z lo up = (plain b _ (and_from _ _ (below _ _ r.0) (below _ _ r.1)) refl refl up, tt)
    stmt_aims n l b (Set k kind e) s r z lo up =
        both b _ (code_term n b e) _ (term_end h n b e s) (term_aims n b e s r.0 lo (omega (arith, up)))
        (plain _ _ (below _ _ r.1) refl refl up, tt)
    stmt_aims n l b (Build k c es) s r z lo up =
        both b _ (code_terms n b es) _ (terms_end h n b es s.0) (terms_aim n b es s.0 r.0 lo (omega (arith, up)))
        (plain _ _ (and_from _ _ (below _ _ r.1) (below _ _ r.2)) refl refl up, tt)
    stmt_aims n l b (Assign remote x y) s r z lo up =
        let m = end_term b x in
        let bx = term_up h b x s.0 in
        let my = term_up h m y s.1 in
        both b _ (code_term n b x) _ (term_end h n b x s.0) (term_aims n b x s.0 r.0 lo (omega (arith, up, my)))
        (both m _ (code_term n m y) _ (term_end h n m y s.1) (term_aims n m y s.1 r.1 (omega (arith, lo, bx)) (omega (arith, up)))
        (plain _ _ refl refl refl up, tt))
    stmt_aims n l b (Drop e) s r z lo up =
        both b _ (code_term n b e) _ (term_end h n b e s) (term_aims n b e s r lo (omega (arith, up))) (plain _ _ refl refl refl up, tt)
    stmt_aims n l b (Print ps es) s r z lo up =
        both b _ (code_terms n b es) _ (terms_end h n b es s.0) (terms_aim n b es s.0 r lo (omega (arith, up)))
        (plain _ _ refl refl refl up, tt)
    stmt_aims n l b (If c t) s r z lo up =
        let m = end_term b c in
        let bm = term_up h b c s.0 in
        let mt = stmt_up h l (suc m) t s.1 in
        both b _ (code_term n b c) _ (term_end h n b c s.0) (term_aims n b c s.0 r.0 lo (omega (arith, up, mt))) (
          aimed m (end_stmt b (If c t)) _ refl refl refl (omega (arith, up, mt)) (omega (arith, lo, bm, mt), up),
          stmt_aims n l (suc m) t s.1 r.1 z (omega (arith, lo, bm)) up,
        )
    stmt_aims n l b (IfElse c t u) s r z lo up =
        let m = end_term b c in
        let one = suc m in
        let other = suc (end_stmt one t) in
        let bm = term_up h b c s.0 in
        let ot = stmt_up h l one t s.1 in
        let ou = stmt_up h l other u s.2 in
        both b _ (code_term n b c) _ (term_end h n b c s.0) (term_aims n b c s.0 r.0 lo (omega (arith, up, ot, ou))) (
          aimed m other _ refl refl refl (omega (arith, up, ot, ou)) (omega (arith, lo, bm, ot), omega (arith, up, ou)),
          both one _ (code_stmt n l one t) _ (stmt_end h n l one t s.1)
              (stmt_aims n l one t s.1 r.1 z (omega (arith, lo, bm)) (omega (arith, up, ou))) (
                jumps _ (end_stmt other u) (omega (arith, lo, bm, ot, ou), up),
                stmt_aims n l other u s.2 r.2 z (omega (arith, lo, bm, ot)) up,
              ),
        )
    stmt_aims n l b (While c t) s r z lo up =
        let m = end_term b c in
        let turn = suc m in
        let out = suc (end_stmt turn t) in
        let loop = In out b in
        let bm = term_up h b c s.0 in
        let mt = stmt_up h loop turn t s.1 in
        let at_out : Between low high out = (omega (arith, lo, bm, mt), up) in
        let at_turn : Between low high b = (lo, omega (arith, up, bm, mt)) in
        both b _ (code_term n b c) _ (term_end h n b c s.0) (term_aims n b c s.0 r.0 lo (omega (arith, up, mt))) (
          aimed m out _ refl refl refl (omega (arith, up, mt)) at_out,
          both turn _ (code_stmt n loop turn t) _ (stmt_end h n loop turn t s.1)
              (stmt_aims n loop turn t s.1 r.1 (at_out, at_turn) (omega (arith, lo, bm)) (omega (arith, up))) (jumps _ b at_turn, tt),
        )
    stmt_aims n l b (For c step t) s r z lo up =
        let m = end_term b c in
        let turn = suc m in
        let again = end_stmt turn t in
        let out = suc (end_stmt again step) in
        let loop = In out again in
        let bm = term_up h b c s.0 in
        let mt = stmt_up h loop turn t s.2 in
        let ms = stmt_up h NoLoop again step s.1 in
        let at_out : Between low high out = (omega (arith, lo, bm, mt, ms), up) in
        let at_again : Between low high again = (omega (arith, lo, bm, mt), omega (arith, up, ms)) in
        both b _ (code_term n b c) _ (term_end h n b c s.0) (term_aims n b c s.0 r.0 lo (omega (arith, up, mt, ms))) (
          aimed m out _ refl refl refl (omega (arith, up, mt, ms)) at_out,
          both turn _ (code_stmt n loop turn t) _ (stmt_end h n loop turn t s.2)
              (stmt_aims n loop turn t s.2 r.2 (at_out, at_again) (omega (arith, lo, bm)) (omega (arith, up, ms)))
              (both again _ (code_stmt n NoLoop again step) _ (stmt_end h n NoLoop again step s.1)
              (stmt_aims n NoLoop again step s.1 r.1 tt (omega (arith, lo, bm, mt)) (omega (arith, up)))
              (jumps _ b (lo, omega (arith, up, bm, mt, ms)), tt)),
        )
    stmt_aims n NoLoop b Break s r z lo up = absurd s
    stmt_aims n (In out again) b Break s r z lo up = (jumps b out z.0, tt)
    stmt_aims n NoLoop b Continue s r z lo up = absurd s
    stmt_aims n (In out again) b Continue s r z lo up = (jumps b again z.1, tt)
    stmt_aims n l b (Par ss) s r z lo up =
        let first = suc (suc b) in
        let out = end_branches first ss in
        let fo = branches_up h first ss s in (
          record {
            ranges = refl;
            next = omega (arith, up, fo);
            leads = targets_between first ss s (omega (arith, lo)) (omega (arith, up));
          },
          (
            jumps (suc b) out (omega (arith, lo, fo), omega (arith, up)),
            both first _ (code_branches n first ss) _ (branches_end h n first ss s)
                (branches_aim n first ss s r (omega (arith, lo)) (omega (arith, up))) (plain _ _ refl refl refl up, tt),
          ),
        )
    stmt_aims n l b (ParFor k start test line value t) s r z lo up =
        let before = end_term b start in
        let loop = suc before in
        let tested = end_term loop test in
        let each = suc tested in
        let stored = end_term (suc (suc each)) value in
        let jump = suc stored in
        let body = suc jump in
        let last = end_stmt body t in
        let out = suc last in
        let b1 = term_up h b start s.0 in
        let b2 = term_up h loop test s.1 in
        let b3 = term_up h (suc (suc each)) value s.2 in
        let b4 = stmt_up h NoLoop body t s.3 in
        let at_loop : Between low high loop = (omega (arith, lo, b1), omega (arith, up, b2, b3, b4)) in
        both b _ (code_term n b start) _ (term_end h n b start s.0) (term_aims n b start s.0 r.0 lo (omega (arith, up, b2, b3, b4))) (
          plain _ _ (below _ _ r.4) refl refl (omega (arith, up, b2, b3, b4)),
          both loop _ (code_term n loop test) _ (term_end h n loop test s.1)
              (term_aims n loop test s.1 r.1 at_loop.0 (omega (arith, up, b3, b4))) (
                aimed tested out _ refl refl refl (omega (arith, up, b3, b4)) (omega (arith, at_loop.0, b2, b3, b4), omega (arith, up)),
                (
                  aimed each body _ (below _ _ r.4) refl refl (omega (arith, up, b3, b4))
                      (omega (arith, at_loop.0, b2, b3), omega (arith, up, b4)),
                  (
                    plain _ _ (below _ _ r.4) refl refl (omega (arith, up, b3, b4)),
                    both (suc (suc each)) _ (code_term line (suc (suc each)) value) _ (term_end h line (suc (suc each)) value s.2)
                        (term_aims line (suc (suc each)) value s.2 r.2 (omega (arith, at_loop.0, b2)) (omega (arith, up, b4))) (
                          plain _ _ refl refl refl (omega (arith, up, b4)),
                          (
                            jumps jump loop at_loop,
                            both body _ (code_stmt 0 NoLoop body t) _ (stmt_end h 0 NoLoop body t s.3)
                                (stmt_aims 0 NoLoop body t s.3 r.3 tt (omega (arith, at_loop.0, b2, b3)) (omega (arith, up)))
                                (ends_there _ _ refl refl refl, (plain _ _ refl refl refl up, tt)),
                          ),
                        ),
                  ),
                ),
              ),
        )
    stmt_aims n l b (Spawn how g es) s r z lo up =
        both b _ (code_terms n b es) _ (terms_end h n b es s.0) (terms_aim n b es s.0 r lo (omega (arith, up)))
        (plain _ _ (below _ _ s.1.0) refl refl up, tt)
    stmt_aims n l b (Return e) s r z lo up =
        both b _ (code_term n b e) _ (term_end h n b e s) (term_aims n b e s r lo (omega (arith, up))) (ends_there _ _ refl refl refl, tt)
    stmt_aims n l b (Block ss) s r z lo up = stmts_aim n l b ss s r z lo up
    stmt_aims n l b (Turn t w) s r z lo up = absurd s
    stmt_aims n l b (Forks k test line value t made now) s r z lo up = absurd s
    stmt_aims n l b (Each k test line value t made) s r z lo up = absurd s
    stmt_aims n l b (Wait made) s r z lo up = absurd s
    stmt_aims n l b (Left v) s r z lo up = absurd s

    pub stmts_aim : (n : ℕ) (l : Loop) (b : ℕ) (ss : Stmts) → AreStmts h (looped l) ss → InStmts ss → LoopAims l → low ≤ b
        → end_stmts b ss < high → AllAim b (code_stmts n l b ss)
    stmts_aim n l b NoStmts s r z lo up = tt
    stmts_aim n l b (MoreStmts t ss) s r z lo up =
        let m = end_stmt b t in
        let bt = stmt_up h l b t s.0 in
        let ms = stmts_up h l m ss s.1 in
        both b _ (code_stmt n l b t) _ (stmt_end h n l b t s.0) (stmt_aims n l b t s.0 r.0 z lo (omega (arith, up, ms)))
        (stmts_aim n l m ss s.1 r.1 z (omega (arith, lo, bt)) up)

    pub branches_aim : (n b : ℕ) (ss : Stmts) → AreStmts h false ss → InStmts ss → low ≤ b → end_branches b ss < high
        → AllAim b (code_branches n b ss)
    branches_aim n b NoStmts s r lo up = tt
    branches_aim n b (MoreStmts t ss) s r lo up =
        let m = end_stmt b t in
        let bt = stmt_up h NoLoop b t s.0 in
        let ms = branches_up h (suc m) ss s.1 in
        both b _ (code_stmt 0 NoLoop b t) _ (stmt_end h 0 NoLoop b t s.0) (stmt_aims 0 NoLoop b t s.0 r.0 tt lo (omega (arith, up, ms)))
        (ends_there _ _ refl refl refl, branches_aim n (suc m) ss s.1 r.1 (omega (arith, lo, bt)) up)
