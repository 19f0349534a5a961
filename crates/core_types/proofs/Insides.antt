-- A thread's term shows what the thread is inside, also after each answer to what it asks.
use Rattle.std.proofs.Common.{◌≡◌, ℕ, Bool, true, false, List, [], ◌∷◌, refl, sym, ap, subst, ◌∙◌, ⊎_elim, inl, inr}
use Rattle.std.specs.Prelude.{if◌then◌else◌}
use Rattle.cc_ops.specs.Values.{Void, is_zero, first}
use Rattle.cc_ops.specs.Operators.{truth}
use Rattle.cc_ops.specs.declared.operator.Op.TheVariants.{Bool as Bool'}
use Rattle.cc_core.specs.Names.{Name, Value}
use Rattle.cc_core.specs.Core.{Env, How, Alone, On, Remote, Program, function, Term, Push, This, Variable, Member, Index, At, Load}
use Rattle.cc_core.specs.Core.{Unary, Binary, And, Or, New, NewObject, Call, Val, Body, Branch, Starts, Terms, NoTerms, MoreTerms}
use Rattle.cc_core.specs.Core.{MoreCells, Copied, Stmt, Empty, AtLine, Make, Set, Build, Assign, Drop, Print, If, IfElse, While, For}
use Rattle.cc_core.specs.Core.{Break, Continue, Par, ParFor, Spawn, Return, Block, Turn, Forks, Each, Wait, Left, Stmts, NoStmts}
use Rattle.cc_core.specs.Core.{MoreStmts}
use Rattle.cc_core.specs.Asks.{Ask, Answer, Reads, Writes, Copies, Indexes, Shifts, Computes, Tests, Makes, MakesWith, Builds, Enters}
use Rattle.cc_core.specs.Asks.{Leaves, ForksAll, ForksOne, Joins, Spawns, Prints, Calls, Casts, NewProcessor}
use Rattle.cc_core.specs.Next.{Next, Ready, Asks, just, on_ready, Ending, Falls, Returns, Breaks, Continues, gives, does}
use Rattle.cc_core.specs.Next.{call_ask, spawn_ask, object_ask, entered, called, returns_default, body_ends, branch_ends, branches}
use Rattle.cc_core.specs.Next.{and_then, turn_ends, for_turn, next_term, next_terms, next_stmt, next_stmts, next}
use Rattle.cc_core.specs.Effects.{left_behind}
use Rattle.core_types.specs.Atomic.{Entered}
use Rattle.core_types.proofs.Inside.{IsPlain, ArePlain, IsPlainStmt, ArePlainStmts, IsPlainProgram, IsVal, IsInside, AreInside, IsInsideStmt, AreInsideStmts}

-- what a thread is inside after an ask
abbrev pub after_ask : Ask Name → Entered → Entered
after_ask (Reads remote x) gs = gs
after_ask (Writes remote x v) gs = gs
after_ask (Copies x n) gs = gs
after_ask (Indexes x n i) gs = gs
after_ask (Shifts x i) gs = gs
after_ask (Computes op vs) gs = gs
after_ask Tests gs = gs
after_ask (Makes kind n) gs = gs
after_ask (MakesWith kind v) gs = gs
after_ask (Builds c vs) gs = gs
after_ask (Enters f o vs) gs = (f, o) ∷ gs
after_ask Leaves gs = left_behind gs
after_ask (ForksAll n) gs = gs
after_ask (ForksOne x) gs = gs
after_ask (Joins made) gs = gs
after_ask (Spawns f o vs) gs = gs
after_ask (Prints parts vs) gs = gs
after_ask (Calls f o vs) gs = gs
after_ask (Casts f o vs) gs = gs
after_ask (NewProcessor c vs) gs = gs

-- threads begin inside nothing
abbrev pub Begin : List Term → Type 0
Begin [] = Unit {0}
Begin (e ∷ es) = IsInside e [] [] × Begin es

abbrev pub NextIn : {V A : Type 0} → (V → Type 0) → (Entered → A → Type 0) → Entered → Next V A → Type 0
NextIn PV PA gs (Ready v) = PV v
NextIn PV PA gs (Asks line ask k) = (x : Answer Name) → PA (after_ask ask gs) (k x).left × Begin (k x).branches

within : {V A W B : Type 0} (PV : V → Type 0) (PA : Entered → A → Type 0) (QV : W → Type 0) (QA : Entered → B → Type 0) (gs : Entered)
    (n : Next V A) (G : A → B) (go : V → Next W B) → NextIn PV PA gs n → ((hs : Entered) (a : A) → PA hs a → QA hs (G a))
    → ((v : V) → PV v → NextIn QV QA gs (go v)) → NextIn QV QA gs (on_ready n G go)
within PV PA QV QA gs (Ready v) G go h back on = on v h
within PV PA QV QA gs (Asks line ask k) G go h back on = λ x. let r = h x in (back (after_ask ask gs) (k x).left r.0, r.1)

-- what is plain is inside nothing more

mutual
  pub plain_term : (e : Term) (fs gs : Entered) → gs ≡ fs → IsPlain e → IsInside e fs gs
  plain_term (Push c) fs gs s f = s
  plain_term This fs gs s f = s
  plain_term (Variable k) fs gs s f = s
  plain_term (Member e o) fs gs s f = plain_term e fs gs s f
  plain_term (Index e n i) fs gs s f = inl (plain_term e fs gs s f.0, f.1)
  plain_term (At e i) fs gs s f = inl (plain_term e fs gs s f.0, f.1)
  plain_term (Load remote e) fs gs s f = plain_term e fs gs s f
  plain_term (Unary op e) fs gs s f = plain_term e fs gs s f
  plain_term (Binary op a b) fs gs s f = inl (plain_term a fs gs s f.0, f.1)
  plain_term (And a b) fs gs s f = (plain_term a fs gs s f.0, f.1)
  plain_term (Or a b) fs gs s f = (plain_term a fs gs s f.0, f.1)
  plain_term (New kind n) fs gs s f = s
  plain_term (NewObject remote c es) fs gs s f = plain_terms es fs gs s f
  plain_term (Call how k es) fs gs s f = plain_terms es fs gs s f
  plain_term (Val v) fs gs s f = s
  plain_term (Body k this env ss) fs gs s f = absurd f
  plain_term (Branch this env t) fs gs s f = absurd f
  plain_term (Starts k this vs) fs gs s f = absurd f

  pub plain_terms : (es : Terms) (fs gs : Entered) → gs ≡ fs → ArePlain es → AreInside es fs gs
  plain_terms NoTerms fs gs s f = s
  plain_terms (MoreTerms e es) fs gs s f = inl (plain_term e fs gs s f.0, f.1)
  plain_terms (MoreCells e n es) fs gs s f = (plain_term e fs gs s f.0, f.1)
  plain_terms (Copied vs es) fs gs s f = plain_terms es fs gs s f

mutual
  pub plain_stmt : (r : Bool) (t : Stmt) (fs gs : Entered) → gs ≡ fs → IsPlainStmt r t → IsInsideStmt r t fs gs
  plain_stmt r Empty fs gs s f = s
  plain_stmt r (AtLine line t) fs gs s f = plain_stmt r t fs gs s f
  plain_stmt r (Make k kind n) fs gs s f = s
  plain_stmt r (Set k kind e) fs gs s f = plain_term e fs gs s f
  plain_stmt r (Build k c es) fs gs s f = plain_terms es fs gs s f
  plain_stmt r (Assign remote a e) fs gs s f = inl (plain_term a fs gs s f.0, f.1)
  plain_stmt r (Drop e) fs gs s f = plain_term e fs gs s f
  plain_stmt r (Print parts es) fs gs s f = plain_terms es fs gs s f
  plain_stmt r (If c t) fs gs s f = (plain_term c fs gs s f.0, f.1)
  plain_stmt r (IfElse c t u) fs gs s f = (plain_term c fs gs s f.0, f.1, f.2)
  plain_stmt r (While c t) fs gs s f = (s, f.0, f.1)
  plain_stmt r (For c step t) fs gs s f = (s, f.0, f.1, f.2)
  plain_stmt r Break fs gs s f = s
  plain_stmt r Continue fs gs s f = s
  plain_stmt r (Par ss) fs gs s f = (s, f)
  plain_stmt r (ParFor k start test line value t) fs gs s f = (plain_term start fs gs s f.0, f.1, f.2, f.3)
  plain_stmt r (Spawn how k es) fs gs s f = plain_terms es fs gs s f
  plain_stmt r (Return e) fs gs s f = (f.0, plain_term e fs gs s f.1)
  plain_stmt r (Block ss) fs gs s f = plain_stmts r ss fs gs s f
  plain_stmt r (Turn t u) fs gs s f = (plain_stmt r t fs gs s f.0, f.1)
  plain_stmt r (Forks k test line value t made now) fs gs s f = (plain_term now fs gs s f.0, f.1, f.2, f.3)
  plain_stmt r (Each k test line value t made) fs gs s f = (s, f.0, f.1, f.2)
  plain_stmt r (Wait made) fs gs s f = s
  plain_stmt r (Left v) fs gs s f = absurd f

  pub plain_stmts : (r : Bool) (ss : Stmts) (fs gs : Entered) → gs ≡ fs → ArePlainStmts r ss → AreInsideStmts r ss fs gs
  plain_stmts r NoStmts fs gs s f = s
  plain_stmts r (MoreStmts t ss) fs gs s f = (plain_stmt r t fs gs s f.0, f.1)

module _ (p : Program) (plain : IsPlainProgram p) where
  module _ (fs gs : Entered) where
    abbrev pub Same : {V : Type 0} → V → Type 0
    Same v = gs ≡ fs

    abbrev pub TermInside : Entered → Term → Type 0
    TermInside hs e = IsInside e fs hs

    abbrev pub TermsInside : Entered → Terms → Type 0
    TermsInside hs es = AreInside es fs hs

    abbrev pub StmtInside : Bool → Entered → (Env × Stmt) → Type 0
    StmtInside r hs l = IsInsideStmt r l.1 fs hs

    abbrev pub StmtsInside : Bool → Entered → (Env × Stmts) → Type 0
    StmtsInside r hs l = AreInsideStmts r l.1 fs hs

    abbrev pub EndsInside : Bool → Ending → Type 0
    EndsInside r (Falls env) = gs ≡ fs
    EndsInside r (Returns v) = (g : ℕ × Value) × (r ≡ true) × (fs ≡ g ∷ gs)
    EndsInside r (Breaks env) = gs ≡ fs
    EndsInside r (Continues env) = gs ≡ fs

    -- where `return` may stand, a function is entered
    abbrev pub Within : Bool → Type 0
    Within r = r ≡ true → (g : ℕ × Value) × (hs : Entered) × (fs ≡ g ∷ hs)

    chosen : {A : Type 0} (P : A → Type 0) (b : Bool) (x z : A) → P x → P z → P (if b then x else z)
    chosen P true x z f g = f
    chosen P false x z f g = g

    entered_inside : (f : ℕ) (this : Value) (xs : List Value) → gs ≡ fs → IsInside (entered p f this xs) fs ((f, this) ∷ gs)
    entered_inside f this xs s = plain_stmts true (function p f).body ((f, this) ∷ fs) ((f, this) ∷ gs) (ap (λ z. (f, this) ∷ z) s) (plain f)

    call_inside : (n : ℕ) (how : How) (f : ℕ) (vs : List Value) → gs ≡ fs
        → NextIn {V = Value} Same TermInside gs (Asks n (call_ask (function p f).shape how f vs) (λ x. just (called p how f vs x.values)))
    call_inside n Alone f vs s = λ x. (entered_inside f Void x.values s, tt)
    call_inside n On f vs s = λ x. (entered_inside f (first vs) x.values s, tt)
    call_inside n Remote f vs s = λ x. (s, tt)

    object_inside : (n : ℕ) (remote : Bool) (c : ℕ) (vs : List Value) → gs ≡ fs → NextIn {V = Value} Same TermInside gs (gives n (object_ask remote c vs))
    object_inside n false c vs s = λ x. (s, tt)
    object_inside n true c vs s = λ x. (s, tt)

    spawn_inside : (r : Bool) (n : ℕ) (env : Env) (how : How) (f : ℕ) (vs : List Value) → gs ≡ fs
        → NextIn (EndsInside r) (StmtInside r) gs (does n env (spawn_ask (function p f).shape how f vs))
    spawn_inside r n env Alone f vs s = λ x. (s, tt)
    spawn_inside r n env On f vs s = λ x. (s, tt)
    spawn_inside r n env Remote f vs s = λ x. (s, tt)

    follows : (r : Bool) (end : Ending) (go : Env → Next Ending (Env × Stmts)) → EndsInside r end
        → ((env : Env) → gs ≡ fs → NextIn (EndsInside r) (StmtsInside r) gs (go env)) → NextIn (EndsInside r) (StmtsInside r) gs (and_then end go)
    follows r (Falls env) go h f = f env h
    follows r (Returns v) go h f = h
    follows r (Breaks env) go h f = h
    follows r (Continues env) go h f = h

    turns : (r : Bool) (end : Ending) (go : Env → Next Ending (Env × Stmt)) → EndsInside r end
        → ((env : Env) → gs ≡ fs → NextIn (EndsInside r) (StmtInside r) gs (go env)) → NextIn (EndsInside r) (StmtInside r) gs (turn_ends end go)
    turns r (Falls env) go h f = f env h
    turns r (Returns v) go h f = h
    turns r (Breaks env) go h f = h
    turns r (Continues env) go h f = f env h

    tested : (r : Bool) (n : ℕ) (env : Env) (b : Bool) (t u : Stmt) → IsInsideStmt r t fs gs → IsInsideStmt r u fs gs
        → NextIn (EndsInside r) (StmtInside r) gs (Asks n Tests (λ x. just (env, if b then t else u)))
    tested r n env b t u f g = λ x. (chosen (λ z. IsInsideStmt r z fs gs) b t u f g, tt)

    left_one : (r : Bool) → r ≡ true → gs ≡ fs → Within r → (x : ℕ × Value) × (r ≡ true) × (fs ≡ x ∷ left_behind gs)
    left_one r t s c = let h = c t in (h.0, t, h.2 ∙ ap (λ z. h.0 ∷ z) (sym (ap left_behind (s ∙ h.2))))

    ends_branch : (end : Ending) → EndsInside false end → NextIn {V = Value} Same TermInside gs (branch_ends end)
    ends_branch (Falls env) h = h
    ends_branch (Returns v) h = let z : false ≡ true = h.1 in cc
    ends_branch (Breaks env) h = h
    ends_branch (Continues env) h = h

  -- inside a function that is entered from fs
  module _ (fs gs : Entered) (f : ℕ) (this : Value) where
    default_inside : gs ≡ (f, this) ∷ fs → NextIn {V = Value} (Same fs gs) (TermInside fs gs) gs (returns_default p f)
    default_inside h = λ x. (ap left_behind h, tt)

    ends_body : (end : Ending) → EndsInside ((f, this) ∷ fs) gs true end → NextIn {V = Value} (Same fs gs) (TermInside fs gs) gs (body_ends p f end)
    ends_body (Falls env) h = default_inside h
    ends_body (Returns v) h = rest h.0 h.2
      where
        rest : (g : ℕ × Value) → (f, this) ∷ fs ≡ g ∷ gs → gs ≡ fs
        rest g e = cc
    ends_body (Breaks env) h = default_inside h
    ends_body (Continues env) h = default_inside h

  all_begin : (this : Value) (env : Env) (ss : Stmts) → ArePlainStmts false ss → Begin (branches this env ss)
  all_begin this env NoStmts f = tt
  all_begin this env (MoreStmts s ss) f = (plain_stmt false s [] [] refl f.0, all_begin this env ss f.1)

  mutual
    pub term_inside : (n : ℕ) (this : Value) (env : Env) (fs gs : Entered) (e : Term) → IsInside e fs gs
        → NextIn (Same fs gs) (TermInside fs gs) gs (next_term p n this env e)
    term_inside n this env fs gs (Push c) f = f
    term_inside n this env fs gs This f = f
    term_inside n this env fs gs (Variable k) f = f
    term_inside n this env fs gs (Member e o) f =
        within (Same fs gs) (TermInside fs gs) (Same fs gs) (TermInside fs gs) gs (next_term p n this env e) (λ z. Member z o) _ (term_inside n this env fs gs e f)
        (λ hs a h. h) (λ v s. s)
    term_inside n this env fs gs (Index e size i) f = ⊎_elim
        (λ (a : IsInside e fs gs × IsPlain i).
        within (Same fs gs) (TermInside fs gs) (Same fs gs) (TermInside fs gs) gs (next_term p n this env e) (λ z. Index z size i) _ (term_inside n this env fs gs e a.0)
        (λ hs z h. inl (h, a.1))
        (λ v s. within (Same fs gs) (TermInside fs gs) (Same fs gs) (TermInside fs gs) gs (next_term p n this env i) (Index (Val v) size) _
        (term_inside n this env fs gs i (plain_term i fs gs s a.1)) (λ hs z h. inr ((v, refl), h)) (λ u s' x. (s', tt))))
        (λ (b : IsVal e × IsInside i fs gs).
        subst (λ z. NextIn (Same fs gs) (TermInside fs gs) gs (next_term p n this env (Index z size i))) (sym b.0.1)
        (within (Same fs gs) (TermInside fs gs) (Same fs gs) (TermInside fs gs) gs (next_term p n this env i) (Index (Val b.0.0) size) _
        (term_inside n this env fs gs i b.1) (λ hs z h. inr ((b.0.0, refl), h)) (λ u s' x. (s', tt))))
        f
    term_inside n this env fs gs (At e i) f = ⊎_elim
        (λ (a : IsInside e fs gs × IsPlain i).
        within (Same fs gs) (TermInside fs gs) (Same fs gs) (TermInside fs gs) gs (next_term p n this env e) (λ z. At z i) _ (term_inside n this env fs gs e a.0)
        (λ hs z h. inl (h, a.1))
        (λ v s. within (Same fs gs) (TermInside fs gs) (Same fs gs) (TermInside fs gs) gs (next_term p n this env i) (At (Val v)) _
        (term_inside n this env fs gs i (plain_term i fs gs s a.1)) (λ hs z h. inr ((v, refl), h)) (λ u s' x. (s', tt))))
        (λ (b : IsVal e × IsInside i fs gs).
        subst (λ z. NextIn (Same fs gs) (TermInside fs gs) gs (next_term p n this env (At z i))) (sym b.0.1)
        (within (Same fs gs) (TermInside fs gs) (Same fs gs) (TermInside fs gs) gs (next_term p n this env i) (At (Val b.0.0)) _
        (term_inside n this env fs gs i b.1) (λ hs z h. inr ((b.0.0, refl), h)) (λ u s' x. (s', tt))))
        f
    term_inside n this env fs gs (Load remote e) f =
        within (Same fs gs) (TermInside fs gs) (Same fs gs) (TermInside fs gs) gs (next_term p n this env e) (Load remote) _ (term_inside n this env fs gs e f)
        (λ hs a h. h) (λ v s x. (s, tt))
    term_inside n this env fs gs (Unary op e) f =
        within (Same fs gs) (TermInside fs gs) (Same fs gs) (TermInside fs gs) gs (next_term p n this env e) (Unary op) _ (term_inside n this env fs gs e f)
        (λ hs a h. h) (λ v s x. (s, tt))
    term_inside n this env fs gs (Binary op e i) f = ⊎_elim
        (λ (a : IsInside e fs gs × IsPlain i).
        within (Same fs gs) (TermInside fs gs) (Same fs gs) (TermInside fs gs) gs (next_term p n this env e) (λ z. Binary op z i) _ (term_inside n this env fs gs e a.0)
        (λ hs z h. inl (h, a.1))
        (λ v s. within (Same fs gs) (TermInside fs gs) (Same fs gs) (TermInside fs gs) gs (next_term p n this env i) (Binary op (Val v)) _
        (term_inside n this env fs gs i (plain_term i fs gs s a.1)) (λ hs z h. inr ((v, refl), h)) (λ u s' x. (s', tt))))
        (λ (b : IsVal e × IsInside i fs gs).
        subst (λ z. NextIn (Same fs gs) (TermInside fs gs) gs (next_term p n this env (Binary op z i))) (sym b.0.1)
        (within (Same fs gs) (TermInside fs gs) (Same fs gs) (TermInside fs gs) gs (next_term p n this env i) (Binary op (Val b.0.0)) _
        (term_inside n this env fs gs i b.1) (λ hs z h. inr ((b.0.0, refl), h)) (λ u s' x. (s', tt))))
        f
    term_inside n this env fs gs (And a b) f =
        within (Same fs gs) (TermInside fs gs) (Same fs gs) (TermInside fs gs) gs (next_term p n this env a) (λ z. And z b) _ (term_inside n this env fs gs a f.0)
        (λ hs z h. (h, f.1))
        (λ v s x. (chosen fs gs (λ z. IsInside z fs gs) (is_zero v) (Val (truth false)) (Unary Bool' b) s (plain_term b fs gs s f.1), tt))
    term_inside n this env fs gs (Or a b) f =
        within (Same fs gs) (TermInside fs gs) (Same fs gs) (TermInside fs gs) gs (next_term p n this env a) (λ z. Or z b) _ (term_inside n this env fs gs a f.0)
        (λ hs z h. (h, f.1))
        (λ v s x. (chosen fs gs (λ z. IsInside z fs gs) (is_zero v) (Unary Bool' b) (Val (truth true)) (plain_term b fs gs s f.1) s, tt))
    term_inside n this env fs gs (New kind size) f = λ x. (f, tt)
    term_inside n this env fs gs (NewObject remote k es) f =
        within (Same fs gs) (TermsInside fs gs) (Same fs gs) (TermInside fs gs) gs (next_terms p n this env es) (NewObject remote k) _ (terms_inside n this env fs gs es f)
        (λ hs a h. h) (λ vs s. object_inside fs gs n remote k vs s)
    term_inside n this env fs gs (Call how k es) f =
        within (Same fs gs) (TermsInside fs gs) (Same fs gs) (TermInside fs gs) gs (next_terms p n this env es) (Call how k) _ (terms_inside n this env fs gs es f)
        (λ hs a h. h) (λ vs s. call_inside fs gs n how k vs s)
    term_inside n this env fs gs (Val v) f = f
    term_inside n this env fs gs (Body k this' env' ss) f =
        within (EndsInside ((k, this') ∷ fs) gs true) (StmtsInside ((k, this') ∷ fs) gs true) (Same fs gs) (TermInside fs gs) gs
        (next_stmts p (function p k).shape.line this' env' ss) (λ l. Body k this' l.0 l.1) (body_ends p k)
        (stmts_inside true (function p k).shape.line this' env' ((k, this') ∷ fs) gs (λ t. ((k, this'), fs, refl)) ss f)
        (λ hs a h. h) (λ end h. ends_body fs gs k this' end h)
    term_inside n this env fs gs (Branch this' env' t) f =
        within (EndsInside fs gs false) (StmtInside fs gs false) (Same fs gs) (TermInside fs gs) gs (next_stmt p 0 this' env' t) (λ l. Branch this' l.0 l.1) branch_ends
        (stmt_inside false 0 this' env' fs gs (λ e. let z : false ≡ true = e in cc) t f)
        (λ hs a h. h) (λ end h. ends_branch fs gs end h)
    term_inside n this env fs gs (Starts k this' vs) f = λ x. (entered_inside fs gs k this' x.values f, tt)

    pub terms_inside : (n : ℕ) (this : Value) (env : Env) (fs gs : Entered) (es : Terms) → AreInside es fs gs
        → NextIn (Same fs gs) (TermsInside fs gs) gs (next_terms p n this env es)
    terms_inside n this env fs gs NoTerms f = f
    terms_inside n this env fs gs (MoreTerms e es) f = ⊎_elim
        (λ (a : IsInside e fs gs × ArePlain es).
        within (Same fs gs) (TermInside fs gs) (Same fs gs) (TermsInside fs gs) gs (next_term p n this env e) (λ z. MoreTerms z es) _ (term_inside n this env fs gs e a.0)
        (λ hs z h. inl (h, a.1))
        (λ v s. within (Same fs gs) (TermsInside fs gs) (Same fs gs) (TermsInside fs gs) gs (next_terms p n this env es) (MoreTerms (Val v)) _
        (terms_inside n this env fs gs es (plain_terms es fs gs s a.1)) (λ hs z h. inr ((v, refl), h)) (λ u s'. s')))
        (λ (b : IsVal e × AreInside es fs gs).
        subst (λ z. NextIn (Same fs gs) (TermsInside fs gs) gs (next_terms p n this env (MoreTerms z es))) (sym b.0.1)
        (within (Same fs gs) (TermsInside fs gs) (Same fs gs) (TermsInside fs gs) gs (next_terms p n this env es) (MoreTerms (Val b.0.0)) _
        (terms_inside n this env fs gs es b.1) (λ hs z h. inr ((b.0.0, refl), h)) (λ u s'. s')))
        f
    terms_inside n this env fs gs (MoreCells e size es) f =
        within (Same fs gs) (TermInside fs gs) (Same fs gs) (TermsInside fs gs) gs (next_term p n this env e) (λ z. MoreCells z size es) _ (term_inside n this env fs gs e f.0)
        (λ hs z h. (h, f.1)) (λ v s x. (plain_terms es fs gs s f.1, tt))
    terms_inside n this env fs gs (Copied vs es) f =
        within (Same fs gs) (TermsInside fs gs) (Same fs gs) (TermsInside fs gs) gs (next_terms p n this env es) (Copied vs) _ (terms_inside n this env fs gs es f)
        (λ hs z h. h) (λ ws s. s)

    pub stmt_inside : (r : Bool) (n : ℕ) (this : Value) (env : Env) (fs gs : Entered) → Within fs gs r → (t : Stmt) → IsInsideStmt r t fs gs
        → NextIn (EndsInside fs gs r) (StmtInside fs gs r) gs (next_stmt p n this env t)
    stmt_inside r n this env fs gs c Empty f = f
    stmt_inside r n this env fs gs c (AtLine line t) f =
        within (EndsInside fs gs r) (StmtInside fs gs r) (EndsInside fs gs r) (StmtInside fs gs r) gs (next_stmt p line this env t) (λ l. (l.0, AtLine line l.1)) Ready
        (stmt_inside r line this env fs gs c t f) (λ hs a h. h) (λ end h. h)
    stmt_inside r n this env fs gs c (Make k kind size) f = λ x. (f, tt)
    stmt_inside r n this env fs gs c (Set k kind e) f =
        within (Same fs gs) (TermInside fs gs) (EndsInside fs gs r) (StmtInside fs gs r) gs (next_term p n this env e) (λ z. (env, Set k kind z)) _
        (term_inside n this env fs gs e f) (λ hs a h. h) (λ v s x. (s, tt))
    stmt_inside r n this env fs gs c (Build k d es) f =
        within (Same fs gs) (TermsInside fs gs) (EndsInside fs gs r) (StmtInside fs gs r) gs (next_terms p n this env es) (λ z. (env, Build k d z)) _
        (terms_inside n this env fs gs es f) (λ hs a h. h) (λ v s x. (s, tt))
    stmt_inside r n this env fs gs c (Assign remote e i) f = ⊎_elim
        (λ (a : IsInside e fs gs × IsPlain i).
        within (Same fs gs) (TermInside fs gs) (EndsInside fs gs r) (StmtInside fs gs r) gs (next_term p n this env e) (λ z. (env, Assign remote z i)) _ (term_inside n this env fs gs e a.0)
        (λ hs z h. inl (h, a.1))
        (λ v s. within (Same fs gs) (TermInside fs gs) (EndsInside fs gs r) (StmtInside fs gs r) gs (next_term p n this env i) (λ z. (env, Assign remote (Val v) z)) _
        (term_inside n this env fs gs i (plain_term i fs gs s a.1)) (λ hs z h. inr ((v, refl), h)) (λ u s' x. (s', tt))))
        (λ (b : IsVal e × IsInside i fs gs).
        subst (λ z. NextIn (EndsInside fs gs r) (StmtInside fs gs r) gs (next_stmt p n this env (Assign remote z i))) (sym b.0.1)
        (within (Same fs gs) (TermInside fs gs) (EndsInside fs gs r) (StmtInside fs gs r) gs (next_term p n this env i) (λ z. (env, Assign remote (Val b.0.0) z)) _
        (term_inside n this env fs gs i b.1) (λ hs z h. inr ((b.0.0, refl), h)) (λ u s' x. (s', tt))))
        f
    stmt_inside r n this env fs gs c (Drop e) f =
        within (Same fs gs) (TermInside fs gs) (EndsInside fs gs r) (StmtInside fs gs r) gs (next_term p n this env e) (λ z. (env, Drop z)) _
        (term_inside n this env fs gs e f) (λ hs a h. h) (λ v s. s)
    stmt_inside r n this env fs gs c (Print parts es) f =
        within (Same fs gs) (TermsInside fs gs) (EndsInside fs gs r) (StmtInside fs gs r) gs (next_terms p n this env es) (λ z. (env, Print parts z)) _
        (terms_inside n this env fs gs es f) (λ hs a h. h) (λ v s x. (s, tt))
    stmt_inside r n this env fs gs c (If e t) f =
        within (Same fs gs) (TermInside fs gs) (EndsInside fs gs r) (StmtInside fs gs r) gs (next_term p n this env e) (λ z. (env, If z t)) _
        (term_inside n this env fs gs e f.0) (λ hs a h. (h, f.1))
        (λ v s. tested fs gs r n env (is_zero v) Empty t s (plain_stmt r t fs gs s f.1))
    stmt_inside r n this env fs gs c (IfElse e t u) f =
        within (Same fs gs) (TermInside fs gs) (EndsInside fs gs r) (StmtInside fs gs r) gs (next_term p n this env e) (λ z. (env, IfElse z t u)) _
        (term_inside n this env fs gs e f.0) (λ hs a h. (h, f.1, f.2))
        (λ v s. tested fs gs r n env (is_zero v) u t (plain_stmt r u fs gs s f.2) (plain_stmt r t fs gs s f.1))
    stmt_inside r n this env fs gs c (While e t) f =
        within (Same fs gs) (TermInside fs gs) (EndsInside fs gs r) (StmtInside fs gs r) gs (next_term p n this env e) (λ z. (env, If z (Turn t (While e t)))) _
        (term_inside n this env fs gs e (plain_term e fs gs f.0 f.1)) (λ hs a h. (h, (f.2, (f.1, f.2))))
        (λ v s. tested fs gs r n env (is_zero v) Empty (Turn t (While e t)) s (plain_stmt r t fs gs s f.2, (f.1, f.2)))
    stmt_inside r n this env fs gs c (For e step t) f =
        within (Same fs gs) (TermInside fs gs) (EndsInside fs gs r) (StmtInside fs gs r) gs (next_term p n this env e) (λ z. (env, If z (for_turn e step t))) _
        (term_inside n this env fs gs e (plain_term e fs gs f.0 f.1)) (λ hs a h. (h, (f.3, (f.2, ((f.1, f.2, f.3), tt)))))
        (λ v s. tested fs gs r n env (is_zero v) Empty (for_turn e step t) s (plain_stmt r t fs gs s f.3, (f.2, ((f.1, f.2, f.3), tt))))
    stmt_inside r n this env fs gs c Break f = f
    stmt_inside r n this env fs gs c Continue f = f
    stmt_inside r n this env fs gs c (Par ss) f = λ x. (f.0, all_begin this env ss f.1)
    stmt_inside r n this env fs gs c (ParFor k start test line value t) f =
        within (Same fs gs) (TermInside fs gs) (EndsInside fs gs r) (StmtInside fs gs r) gs (next_term p n this env start) (λ z. (env, ParFor k z test line value t)) _
        (term_inside n this env fs gs start f.0) (λ hs a h. (h, f.1, f.2, f.3))
        (λ v s x. ((plain_term test fs gs s f.1, f.1, f.2, f.3), tt))
    stmt_inside r n this env fs gs c (Spawn how k es) f =
        within (Same fs gs) (TermsInside fs gs) (EndsInside fs gs r) (StmtInside fs gs r) gs (next_terms p n this env es) (λ z. (env, Spawn how k z)) _
        (terms_inside n this env fs gs es f) (λ hs a h. h) (λ vs s. spawn_inside fs gs r n env how k vs s)
    stmt_inside r n this env fs gs c (Return e) f =
        within (Same fs gs) (TermInside fs gs) (EndsInside fs gs r) (StmtInside fs gs r) gs (next_term p n this env e) (λ z. (env, Return z)) _
        (term_inside n this env fs gs e f.1) (λ hs a h. (f.0, h)) (λ v s x. (left_one fs gs r f.0 s c, tt))
    stmt_inside r n this env fs gs c (Block ss) f =
        within (EndsInside fs gs r) (StmtsInside fs gs r) (EndsInside fs gs r) (StmtInside fs gs r) gs (next_stmts p n this env ss) (λ l. (l.0, Block l.1)) Ready
        (stmts_inside r n this env fs gs c ss f) (λ hs a h. h) (λ end h. h)
    stmt_inside r n this env fs gs c (Turn t u) f =
        within (EndsInside fs gs r) (StmtInside fs gs r) (EndsInside fs gs r) (StmtInside fs gs r) gs (next_stmt p n this env t) (λ l. (l.0, Turn l.1 u)) _
        (stmt_inside r n this env fs gs c t f.0) (λ hs a h. (h, f.1))
        (λ end h. turns fs gs r end (λ env'. next_stmt p n this env' u) h
        (λ env' s. stmt_inside r n this env' fs gs c u (plain_stmt r u fs gs s f.1)))
    stmt_inside r n this env fs gs c (Forks k test line value t made now) f =
        within (Same fs gs) (TermInside fs gs) (EndsInside fs gs r) (StmtInside fs gs r) gs (next_term p n this env now) (λ z. (env, Forks k test line value t made z)) _
        (term_inside n this env fs gs now f.0) (λ hs a h. (h, f.1, f.2, f.3))
        (λ v s. tested fs gs r n env (is_zero v) (Wait made) (Each k test line value t made) s (s, f.1, f.2, f.3))
    stmt_inside r n this env fs gs c (Each k test line value t made) f =
        λ x. ((inl (f.0, f.2), (f.1, f.1, f.2, f.3)), (plain_stmt false t [] [] refl f.3, tt))
    stmt_inside r n this env fs gs c (Wait made) f = λ x. (f, tt)
    stmt_inside r n this env fs gs c (Left v) f = f

    pub stmts_inside : (r : Bool) (n : ℕ) (this : Value) (env : Env) (fs gs : Entered) → Within fs gs r → (ss : Stmts) → AreInsideStmts r ss fs gs
        → NextIn (EndsInside fs gs r) (StmtsInside fs gs r) gs (next_stmts p n this env ss)
    stmts_inside r n this env fs gs c NoStmts f = f
    stmts_inside r n this env fs gs c (MoreStmts t ss) f =
        within (EndsInside fs gs r) (StmtInside fs gs r) (EndsInside fs gs r) (StmtsInside fs gs r) gs (next_stmt p n this env t) (λ l. (l.0, MoreStmts l.1 ss)) _
        (stmt_inside r n this env fs gs c t f.0) (λ hs a h. (h, f.1))
        (λ end h. follows fs gs r end (λ env'. next_stmts p n this env' ss) h
        (λ env' s. stmts_inside r n this env' fs gs c ss (plain_stmts r ss fs gs s f.1)))

  pub thread_inside : (e : Term) (gs : Entered) → IsInside e [] gs → NextIn (Same [] gs) (TermInside [] gs) gs (next p e)
  thread_inside e gs f = term_inside 0 Void [] [] gs e f
