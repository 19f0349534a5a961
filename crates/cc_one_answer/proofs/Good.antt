-- Each ask of a fine thread is good, and what is left after it is fine.
use Rattle.std.proofs.Common.{◌≡◌, ℕ, ◌+◌, ◌≤◌, Bool, true, false, cond, List, [], ◌∷◌, ◌++◌, length, Some, refl, sym, subst}
use Rattle.std.proofs.Common.{⊎_elim, inl, inr, arith}
use Rattle.std.specs.Prelude.{slice_get, get_or, set}
use Rattle.cc_ops.specs.Values.{Null, first, moved, sent, is_zero}
use Rattle.cc_core.specs.Names.{Name, Value}
use Rattle.cc_core.specs.Core.{Env, Term, Push, This, Variable, Member, Index, At}
use Rattle.cc_core.specs.Core.{Load, Unary, Binary, And, Or, New, NewObject, Call, Val, Body, Branch, Starts, Terms, NoTerms, MoreTerms}
use Rattle.cc_core.specs.Core.{MoreCells, Copied, Stmt, Empty, AtLine, Make, Set, Build, Assign, Drop, Print, If, IfElse, While, For}
use Rattle.cc_core.specs.Core.{Break, Continue, Par, ParFor, Spawn, Return, Block, Turn, Forks, Each, Wait, Left, Stmts, NoStmts}
use Rattle.cc_core.specs.Core.{MoreStmts, Program, shapes, function, function_shape}
use Rattle.cc_core.specs.Next.{variable}
use Rattle.cc_core.specs.Types.{ValueType, NoValue, AnAddress, Cells, ObjectOf, FunctionTypes, Types, function_types, IsAmong}
use Rattle.cc_one_answer.specs.Sorts.{Sort, Valued, NamedCell, is_sync, Named, Uniform, Instance}
use Rattle.cc_one_answer.specs.Sorts.{Kin, World, Fits, AllFit, HasSort}
use Rattle.cc_one_answer.specs.Determinate.{DetTerms, DetStmt}
use Rattle.cc_one_answer.specs.Owned.{IsOwnAt, IsOwnHere, PendTerm, PendTerms, PendStmt, PendStmts, IsDeclared}
use Rattle.cc_one_answer.specs.Owned.{FineEnv, IsThis, IsDone, IsWritable, IsToCome, IsLoop, FineStmt, FineStmts, FineHeader}
use Rattle.cc_core.specs.Asks.{Reads, Writes, Indexes, Shifts, Computes, Tests, Makes, MakesWith, Builds, Enters}
use Rattle.cc_core.specs.Asks.{Leaves, Prints}
use Rattle.cc_core.specs.Next.{Ready, Asks, on_ready, just}
use Rattle.cc_one_answer.proofs.More.{fits_more, this_more, loop_more}
use Rattle.cc_one_answer.proofs.More.{stmt_more, term_of, terms_of, stmt_of, stmts_of, quiet, quiet_all, quiet_stmt}
use Rattle.cc_one_answer.proofs.Fine.{type_of, parameter_types}
use Rattle.cc_one_answer.proofs.Fine.{IsGood, good_within, nowhere, plain, gift_of, last_ask}
use Rattle.cc_ops.specs.declared.kind.Kind.TheVariants.{Int as IntK}
use Rattle.cc_ops.specs.declared.operator.Op.TheVariants.{Bool as Bool'}
use Rattle.cc_ops.specs.Operators.{truth}
use Rattle.cc_core.specs.Next.{Ending, Falls, gives, does, makes, call_ask, spawn_ask, object_ask, entered, called}
use Rattle.cc_core.specs.Next.{body_ends, branch_ends, and_then, turn_ends, for_turn, header_step, next_term, next_terms, next_stmt, next_stmts}
use Rattle.cc_one_answer.specs.Determinate.{IsDeterminate}
use Rattle.cc_one_answer.proofs.Values.{cond_case, constant_has, fits_sort, sort_fits, number_has}
use Rattle.cc_one_answer.proofs.Values.{member_moved}
use Rattle.cc_one_answer.proofs.Values.{holds_kind, content_is, first_made}
use Rattle.cc_one_answer.proofs.Weaker.{among_left, among_right}
use Rattle.cc_one_answer.proofs.TermParts.{read_of, read_value, reads_of, taken_alone, taken_on, this_on, entered_fine, right_index, right_at}
use Rattle.cc_one_answer.proofs.TermParts.{right_binary, right_terms, good_object, good_call, good_spawn, start_gift, kinds_ok}
use Rattle.cc_one_answer.proofs.StatementParts.{keep_same, made_after, stay, in_stmt, in_stmt_all, good_test, vars_more, come_more, not_set, older_one}
use Rattle.cc_one_answer.proofs.StatementParts.{lent_entry, this_there, par_kids, par_lends, own_index, target_of, right_assign, body_default, body_ready}
use Rattle.cc_one_answer.proofs.StatementParts.{branch_ready, c_map, cs_map, block_end, follow, turn_ready, list_ready, known_of, made_of, at_env}
use Rattle.cc_one_answer.proofs.StatementParts.{loop_own, parfor_after, each_loop, each_lends, each_known, each_kid, header_assign, par_known, each_names}
use Rattle.cc_one_answer.proofs.StatementParts.{each_kin}
use Rattle.cc_one_answer.proofs.TermParts as terms
use Rattle.cc_one_answer.proofs.StatementParts as statements

module _ (p : Program) (y : Types) (det : IsDeterminate p y) (w : World) (t : Name) (lent : List Name) (hi m0 : ℕ) where
  abbrev H : Sort → Value → Type 0
  H = terms.H p y det w t lent hi m0

  abbrev T : FunctionTypes → ℕ → Sort → World → ℕ → Term → Type 0
  T = terms.T p y det w t lent hi m0

  abbrev Ts : FunctionTypes → ℕ → List ValueType → World → ℕ → Terms → Type 0
  Ts = terms.Ts p y det w t lent hi m0

  abbrev D : FunctionTypes → Term → Sort → Type 0
  D = terms.D p y det w t lent hi m0

  abbrev Here : FunctionTypes → ℕ → Value → Env → Type 0
  Here = terms.Here p y det w t lent hi m0

  abbrev A : FunctionTypes → ℕ → Bool → Env → Stmt → World → ℕ → (Env × Stmt) → Type 0
  A = statements.A p y det w t lent hi m0

  abbrev P : (Env × Stmt) → ℕ → Type 0
  P = statements.P p y det w t lent hi m0

  abbrev C : FunctionTypes → ℕ → Env → Stmt → Ending → Type 0
  C = statements.C p y det w t lent hi m0

  abbrev As : FunctionTypes → ℕ → Bool → Env → World → ℕ → (Env × Stmts) → Type 0
  As = statements.As p y det w t lent hi m0

  abbrev Ps : (Env × Stmts) → ℕ → Type 0
  Ps = statements.Ps p y det w t lent hi m0

  abbrev Cs : FunctionTypes → ℕ → Env → Ending → Type 0
  Cs = statements.Cs p y det w t lent hi m0

  abbrev W : ℕ → Bool → ValueType → Sort → Value → Type 0
  W = statements.W p y det w t lent hi m0

  abbrev FH : ℕ → ℕ → Env → ℕ → ValueType → World → ℕ → (Env × Stmt) → Type 0
  FH = statements.FH p y det w t lent hi m0

  abbrev fork_kin : ℕ → ℕ → Env → Kin
  fork_kin = statements.fork_kin p y det w t lent hi m0

  mutual
    pub good_term : (here : FunctionTypes) (lo n : ℕ) (this : Value) (env : Env) (c : Here here lo this env) (e : Term) (r : Sort)
        → T here lo r w hi e → IsGood p y w t lent hi m0 lo (PendTerm e) (H r) (T here lo r) PendTerm (next_term p n this env e)
    good_term here lo n this env c (Push k) r f = (constant_has w y t lent k r, λ b h. h)
    good_term here lo n this env c This r f =
        (subst (λ s. H s this) (sym f.2) (fits_sort w y t lent this (AnAddress (ObjectOf f.0)) (c.is_this f.0 f.1)), λ b h. h)
    good_term here lo n this env c (Variable k) r f = (subst (λ s. H s (variable env k Null)) (sym f.2) (c.reads k f.0 f.1), λ b h. h)
    good_term here lo n this env c (Member e o) r f =
        good_within p y w t lent hi m0 lo lo (PendTerm e) (PendTerm e) nowhere (H (Valued (AnAddress (ObjectOf f.0)))) (H r)
        (T here lo (Valued (AnAddress (ObjectOf f.0)))) (T here lo r) PendTerm PendTerm (λ x. Member x o) (next_term p n this env e)
        (λ v. Ready (moved v o))
        (plain p y w t lent hi m0 lo (PendTerm e) (PendTerm e) (T here lo (Valued (AnAddress (ObjectOf f.0)))) (T here lo r) PendTerm PendTerm
        (λ x. Member x o) (λ v h x g le fx. (f.0, f.1, fx, f.3)) (λ b h. h) (λ x b h. h))
        (good_term here lo n this env c e (Valued (AnAddress (ObjectOf f.0))) f.2)
        (λ v hv none. (subst (λ s. H s (moved v o)) (sym f.3) (member_moved w y t lent v f.0 o f.1 hv), none))
    good_term here lo n this env c (Index a size i) r f = ⊎_elim
        (λ (x : T here lo f.0 w hi a × D here i f.1).
        good_within p y w t lent hi m0 lo lo (PendTerm a) (PendTerm (Index a size i)) nowhere (H f.0) (H r) (T here lo f.0) (T here lo r) PendTerm PendTerm
        (λ z. Index z size i) (next_term p n this env a)
        (λ v. on_ready (next_term p n this env i) (Index (Val v) size) (λ u. gives n (Indexes v size u)))
        (plain p y w t lent hi m0 lo (PendTerm a) (PendTerm (Index a size i)) (T here lo f.0) (T here lo r) PendTerm PendTerm (λ z. Index z size i)
        (λ v h z g le fz. (f.0, f.1, f.2, inl (fz, x.1)))
        (λ b h. ⊎_elim (λ (z : PendTerm a b). z) (λ (z : PendTerm i b). absurd (quiet y p.main here b i f.1 x.1 z)) h) (λ z b h. inl h))
        (good_term here lo n this env c a f.0 x.0)
        (λ v hv none. right_index p y det w t lent hi m0 here lo n size v i f.0 f.1 r this env f.2 hv (PendTerm (Index a size i)) (λ b h. absurd (none b h))
        (good_term here lo n this env c i f.1 (term_of y p.main t lent w here lo hi i f.1 x.1))))
        (λ (x : IsDone y p.main t lent w a f.0 × T here lo f.1 w hi i).
        subst (λ z. IsGood p y w t lent hi m0 lo (PendTerm (Index z size i)) (H r) (T here lo r) PendTerm (next_term p n this env (Index z size i)))
        (sym x.0.1)
        (right_index p y det w t lent hi m0 here lo n size x.0.0 i f.0 f.1 r this env f.2 x.0.2 (PendTerm (Index (Val x.0.0) size i))
        (λ b h. ⊎_elim (λ (z : ⊥). absurd z) (λ (z : PendTerm i b). z) h)
        (good_term here lo n this env c i f.1 x.1)))
        f.3
    good_term here lo n this env c (At a i) r f = ⊎_elim
        (λ (x : T here lo r w hi a × D here i f.2).
        good_within p y w t lent hi m0 lo lo (PendTerm a) (PendTerm (At a i)) nowhere (H r) (H r) (T here lo r) (T here lo r) PendTerm PendTerm
        (λ z. At z i) (next_term p n this env a)
        (λ v. on_ready (next_term p n this env i) (At (Val v)) (λ u. gives n (Shifts v u)))
        (plain p y w t lent hi m0 lo (PendTerm a) (PendTerm (At a i)) (T here lo r) (T here lo r) PendTerm PendTerm (λ z. At z i)
        (λ v h z g le fz. (f.0, f.1, f.2, f.3, inl (fz, x.1)))
        (λ b h. ⊎_elim (λ (z : PendTerm a b). z) (λ (z : PendTerm i b). absurd (quiet y p.main here b i f.2 x.1 z)) h) (λ z b h. inl h))
        (good_term here lo n this env c a r x.0)
        (λ v hv none. right_at p y det w t lent hi m0 here lo n v i f.0 f.1 f.2 r this env f.3 hv (PendTerm (At a i)) (λ b h. absurd (none b h))
        (good_term here lo n this env c i f.2 (term_of y p.main t lent w here lo hi i f.2 x.1))))
        (λ (x : IsDone y p.main t lent w a r × T here lo f.2 w hi i).
        subst (λ z. IsGood p y w t lent hi m0 lo (PendTerm (At z i)) (H r) (T here lo r) PendTerm (next_term p n this env (At z i))) (sym x.0.1)
        (right_at p y det w t lent hi m0 here lo n x.0.0 i f.0 f.1 f.2 r this env f.3 x.0.2 (PendTerm (At (Val x.0.0) i))
        (λ b h. ⊎_elim (λ (z : ⊥). absurd z) (λ (z : PendTerm i b). z) h)
        (good_term here lo n this env c i f.2 x.1)))
        f.4
    good_term here lo n this env c (Load remote e) r f =
        good_within p y w t lent hi m0 lo lo (PendTerm e) (PendTerm e) nowhere (H f.0) (H r) (T here lo f.0) (T here lo r) PendTerm PendTerm
        (Load remote) (next_term p n this env e) (λ v. gives n (Reads remote v))
        (plain p y w t lent hi m0 lo (PendTerm e) (PendTerm e) (T here lo f.0) (T here lo r) PendTerm PendTerm (Load remote)
        (λ v h x g le fx. (f.0, f.1, f.2, f.3, f.4, fx)) (λ b h. h) (λ x b h. h))
        (good_term here lo n this env c e f.0 f.5)
        (λ v hv none. last_ask p y w t lent hi m0 lo (PendTerm e) (T here lo r) PendTerm (Reads remote v) (λ x. Val (first x.values))
        (gift_of [] f.2) refl refl none (f.0, f.1, hv, f.3)
        (λ u x g ans. subst (λ s. HasSort u y t lent (first x.values) s) (sym f.4) (fits_sort u y t lent (first x.values) f.2 ans.values)))
    good_term here lo n this env c (Unary op e) r f =
        good_within p y w t lent hi m0 lo lo (PendTerm e) (PendTerm e) nowhere (H f.0) (H r) (T here lo f.0) (T here lo r) PendTerm PendTerm
        (Unary op) (next_term p n this env e) (λ v. gives n (Computes op (v ∷ [])))
        (plain p y w t lent hi m0 lo (PendTerm e) (PendTerm e) (T here lo f.0) (T here lo r) PendTerm PendTerm (Unary op)
        (λ v h x g le fx. (f.0, fx)) (λ b h. h) (λ x b h. h))
        (good_term here lo n this env c e f.0 f.1)
        (λ v hv none. last_ask p y w t lent hi m0 lo (PendTerm e) (T here lo r) PendTerm (Computes op (v ∷ [])) (λ x. Val (first x.values))
        (gift_of [] NoValue) refl refl none tt (λ u x g ans. number_has u y t lent (first x.values) r ans.values))
    good_term here lo n this env c (Binary op a i) r f = ⊎_elim
        (λ (x : T here lo f.0 w hi a × D here i f.1).
        good_within p y w t lent hi m0 lo lo (PendTerm a) (PendTerm (Binary op a i)) nowhere (H f.0) (H r) (T here lo f.0) (T here lo r) PendTerm PendTerm
        (λ z. Binary op z i) (next_term p n this env a)
        (λ v. on_ready (next_term p n this env i) (Binary op (Val v)) (λ u. gives n (Computes op (v ∷ u ∷ []))))
        (plain p y w t lent hi m0 lo (PendTerm a) (PendTerm (Binary op a i)) (T here lo f.0) (T here lo r) PendTerm PendTerm (λ z. Binary op z i)
        (λ v h z g le fz. (f.0, f.1, inl (fz, x.1)))
        (λ b h. ⊎_elim (λ (z : PendTerm a b). z) (λ (z : PendTerm i b). absurd (quiet y p.main here b i f.1 x.1 z)) h) (λ z b h. inl h))
        (good_term here lo n this env c a f.0 x.0)
        (λ v hv none. right_binary p y det w t lent hi m0 here lo n op v i f.0 f.1 r this env hv (PendTerm (Binary op a i)) (λ b h. absurd (none b h))
        (good_term here lo n this env c i f.1 (term_of y p.main t lent w here lo hi i f.1 x.1))))
        (λ (x : IsDone y p.main t lent w a f.0 × T here lo f.1 w hi i).
        subst (λ z. IsGood p y w t lent hi m0 lo (PendTerm (Binary op z i)) (H r) (T here lo r) PendTerm (next_term p n this env (Binary op z i)))
        (sym x.0.1)
        (right_binary p y det w t lent hi m0 here lo n op x.0.0 i f.0 f.1 r this env x.0.2 (PendTerm (Binary op (Val x.0.0) i))
        (λ b h. ⊎_elim (λ (z : ⊥). absurd z) (λ (z : PendTerm i b). z) h)
        (good_term here lo n this env c i f.1 x.1)))
        f.2
    good_term here lo n this env c (And a i) r f =
        good_within p y w t lent hi m0 lo lo (PendTerm a) (PendTerm a) nowhere (H f.0) (H r) (T here lo f.0) (T here lo r) PendTerm PendTerm
        (λ z. And z i) (next_term p n this env a) (λ v. Asks n Tests (λ x. just (cond (is_zero v) (Val (truth false)) (Unary Bool' i))))
        (plain p y w t lent hi m0 lo (PendTerm a) (PendTerm a) (T here lo f.0) (T here lo r) PendTerm PendTerm (λ z. And z i)
        (λ v h x g le fx. (f.0, f.1, fx, f.3)) (λ b h. h) (λ x b h. h))
        (good_term here lo n this env c a f.0 f.2)
        (λ v hv none. last_ask p y w t lent hi m0 lo (PendTerm a) (T here lo r) PendTerm Tests
        (λ x. cond (is_zero v) (Val (truth false)) (Unary Bool' i)) (gift_of [] NoValue) refl refl none tt
        (λ u x g ans. cond_case (T here lo r u (hi + 0)) (is_zero v) (Val (truth false)) (Unary Bool' i) tt
        (f.1, term_of y p.main t lent u here lo (hi + 0) i f.1 f.3)))
    good_term here lo n this env c (Or a i) r f =
        good_within p y w t lent hi m0 lo lo (PendTerm a) (PendTerm a) nowhere (H f.0) (H r) (T here lo f.0) (T here lo r) PendTerm PendTerm
        (λ z. Or z i) (next_term p n this env a) (λ v. Asks n Tests (λ x. just (cond (is_zero v) (Unary Bool' i) (Val (truth true)))))
        (plain p y w t lent hi m0 lo (PendTerm a) (PendTerm a) (T here lo f.0) (T here lo r) PendTerm PendTerm (λ z. Or z i)
        (λ v h x g le fx. (f.0, f.1, fx, f.3)) (λ b h. h) (λ x b h. h))
        (good_term here lo n this env c a f.0 f.2)
        (λ v hv none. last_ask p y w t lent hi m0 lo (PendTerm a) (T here lo r) PendTerm Tests
        (λ x. cond (is_zero v) (Unary Bool' i) (Val (truth true))) (gift_of [] NoValue) refl refl none tt
        (λ u x g ans. cond_case (T here lo r u (hi + 0)) (is_zero v) (Unary Bool' i) (Val (truth true))
        (f.1, term_of y p.main t lent u here lo (hi + 0) i f.1 f.3) tt))
    good_term here lo n this env c (New kind size) r f =
        last_ask p y w t lent hi m0 lo (PendTerm (New kind size)) (T here lo r) PendTerm (Makes kind size) (λ x. Val (first x.values))
        (gift_of (Uniform (is_sync kind) f.0 ∷ []) NoValue) refl refl (λ b h. h) (Uniform (is_sync kind) f.0, refl, refl)
        (λ u x g ans. let m = first_made u t hi (Uniform (is_sync kind) f.0) [] x.values ans.values in
        subst (λ s. HasSort u y t lent (first x.values) s) (sym f.1)
        (subst (λ z. HasSort u y t lent z (Valued (AnAddress (Cells (is_sync kind) f.0)))) (sym m.0) m.1))
    good_term here lo n this env c (NewObject remote k es) r f =
        good_within p y w t lent hi m0 lo lo (PendTerms es) (PendTerms es) nowhere (λ vs. AllFit w vs (get_or y.makers k [])) (H r)
        (Ts here lo (get_or y.makers k [])) (T here lo r) PendTerms PendTerm (NewObject remote k) (next_terms p n this env es)
        (λ vs. gives n (object_ask remote k vs))
        (plain p y w t lent hi m0 lo (PendTerms es) (PendTerms es) (Ts here lo (get_or y.makers k [])) (T here lo r) PendTerms PendTerm
        (NewObject remote k) (λ v h x g le fx. (fx, f.1)) (λ b h. h) (λ x b h. h))
        (good_terms here lo n this env c es (get_or y.makers k []) f.0)
        (λ vs hv none. good_object p y det w t lent hi m0 here lo n remote k vs r (PendTerms es) f.1 hv none)
    good_term here lo n this env c (Call how g es) r f =
        good_within p y w t lent hi m0 lo lo (PendTerms es) (PendTerms es) nowhere (λ vs. AllFit w vs f.0) (H r)
        (Ts here lo f.0) (T here lo r) PendTerms PendTerm (Call how g) (next_terms p n this env es)
        (λ vs. Asks n (call_ask (function p g).shape how g vs) (λ x. just (called p how g vs x.values)))
        (plain p y w t lent hi m0 lo (PendTerms es) (PendTerms es) (Ts here lo f.0) (T here lo r) PendTerms PendTerm
        (Call how g) (λ v h x grows le fx. (f.0, f.1, f.2, f.3, fx)) (λ b h. h) (λ x b h. h))
        (good_terms here lo n this env c es f.0 f.4)
        (λ vs hv none. good_call p y det w t lent hi m0 here lo c.low n how g vs f.0 r (PendTerms es) f.1 f.2 f.3 hv none)
    good_term here lo n this env c (Val v) r f = (f, λ b h. h)
    good_term here lo n this env c (Body g this' env' ss) r f =
        good_within p y w t lent hi m0 lo lo (PendStmts ss) (PendStmts ss) nowhere (Cs (function_types y g) lo env') (H r)
        (As (function_types y g) lo f.0 env') (T here lo r) Ps PendTerm (λ l. Body g this' l.0 l.1)
        (next_stmts p (function p g).shape.line this' env' ss) (body_ends p g)
        (plain p y w t lent hi m0 lo (PendStmts ss) (PendStmts ss) (As (function_types y g) lo f.0 env') (T here lo r) Ps PendTerm
        (λ l. Body g this' l.0 l.1)
        (λ v h l grows le a. (f.0, f.1, f.2, this_more w v grows y p.main t lent (function_types y g) this' f.3, a.0, a.2)) (λ b h. h) (λ l b h. h))
        (good_stmts g lo c.low (function p g).shape.line this' f.0 env' ss f.4 f.3 f.5 f.1)
        (body_ready p y det w t lent hi m0 here lo g r env' (PendStmts ss) f.2)
    good_term here lo n this env c (Branch this' env' s) r f =
        good_within p y w t lent hi m0 lo lo (PendStmt s) (PendStmt s) nowhere (C (function_types y f.0) lo env' s) (H r)
        (A (function_types y f.0) lo false env' s) (T here lo r) P PendTerm (λ l. Branch this' l.0 l.1)
        (next_stmt p 0 this' env' s) branch_ends
        (plain p y w t lent hi m0 lo (PendStmt s) (PendStmt s) (A (function_types y f.0) lo false env' s) (T here lo r) P PendTerm
        (λ l. Branch this' l.0 l.1)
        (λ v h l grows le a. (f.0, f.1, this_more w v grows y p.main t lent (function_types y f.0) this' f.2, a.0, a.3)) (λ b h. h) (λ l b h. h))
        (good_stmt f.0 lo c.low 0 this' false env' s f.3 f.2 f.4 (λ e. let g : false ≡ true = e in cc))
        (λ end ce none. branch_ready p y det w t lent hi m0 f.0 lo r env' s (PendStmt s) f.1 end ce none here)
    good_term here lo n this env c (Starts g this' vs) r f =
        last_ask p y w t lent hi m0 lo (PendTerm (Starts g this' vs)) (T here lo r) PendTerm (Enters g this' vs) (λ x. entered p g this' x.values)
        (gift_of (parameter_types (function_shape (shapes p) g).params (function_types y g).params) NoValue) refl refl (λ b h. h)
        (refl, f.3)
        (λ v x grows ans. subst (λ s. T here lo s v (hi + length (function_shape (shapes p) g).params) (entered p g this' x.values)) (sym f.1)
        (entered_fine p y det w t lent hi m0 here lo c.low v grows g f.0 this' f.2 x.values ans.values.0 ans.values.1))

    pub good_terms : (here : FunctionTypes) (lo n : ℕ) (this : Value) (env : Env) (c : Here here lo this env) (es : Terms) (us : List ValueType)
        → Ts here lo us w hi es
        → IsGood p y w t lent hi m0 lo (PendTerms es) (λ vs. AllFit w vs us) (Ts here lo us) PendTerms (next_terms p n this env es)
    good_terms here lo n this env c NoTerms us f = (subst (AllFit w []) (sym f) refl, λ b h. h)
    good_terms here lo n this env c (MoreTerms e es) us f = ⊎_elim
        (λ (x : T here lo (Valued f.0) w hi e × DetTerms y p.main here es f.1).
        good_within p y w t lent hi m0 lo lo (PendTerm e) (PendTerms (MoreTerms e es)) nowhere (H (Valued f.0)) (λ vs. AllFit w vs us)
        (T here lo (Valued f.0)) (Ts here lo us) PendTerm PendTerms (λ z. MoreTerms z es) (next_term p n this env e)
        (λ v. on_ready (next_terms p n this env es) (MoreTerms (Val v)) (λ vs. Ready (v ∷ vs)))
        (plain p y w t lent hi m0 lo (PendTerm e) (PendTerms (MoreTerms e es)) (T here lo (Valued f.0)) (Ts here lo us) PendTerm PendTerms
        (λ z. MoreTerms z es) (λ v h z g le fz. (f.0, f.1, f.2, inl (fz, x.1)))
        (λ b h. ⊎_elim (λ (z : PendTerm e b). z) (λ (z : PendTerms es b). absurd (quiet_all y p.main here b es f.1 x.1 z)) h) (λ z b h. inl h))
        (good_term here lo n this env c e (Valued f.0) x.0)
        (λ v hv none. right_terms p y det w t lent hi m0 here lo n v es f.0 f.1 us this env f.2 hv (PendTerms (MoreTerms e es)) (λ b h. absurd (none b h))
        (good_terms here lo n this env c es f.1 (terms_of y p.main t lent w here lo hi es f.1 x.1))))
        (λ (x : IsDone y p.main t lent w e (Valued f.0) × Ts here lo f.1 w hi es).
        subst (λ z. IsGood p y w t lent hi m0 lo (PendTerms (MoreTerms z es)) (λ vs. AllFit w vs us) (Ts here lo us) PendTerms
        (next_terms p n this env (MoreTerms z es))) (sym x.0.1)
        (right_terms p y det w t lent hi m0 here lo n x.0.0 es f.0 f.1 us this env f.2 x.0.2 (PendTerms (MoreTerms (Val x.0.0) es))
        (λ b h. ⊎_elim (λ (z : ⊥). absurd z) (λ (z : PendTerms es b). z) h)
        (good_terms here lo n this env c es f.1 x.1)))
        f.3
    good_terms here lo n this env c (MoreCells e size es) us f = absurd f
    good_terms here lo n this env c (Copied vs es) us f = absurd f

    -- a place of a variable of this part stays one
    good_place : (here : FunctionTypes) (lo n : ℕ) (this : Value) (env : Env) (c : Here here lo this env) (e : Term) (r : Sort)
        → T here lo r w hi e → IsOwnHere t lo env e
        → IsGood p y w t lent hi m0 lo (PendTerm e) (λ v. H r v × IsOwnAt t lo v)
        (λ v h x. T here lo r v h x × IsOwnHere t lo env x) PendTerm (next_term p n this env e)
    good_place here lo n this env c (Push k) r f own = absurd own
    good_place here lo n this env c This r f own = absurd own
    good_place here lo n this env c (Variable k) r f own =
        ((subst (λ s. H s (variable env k Null)) (sym f.2) (c.reads k f.0 f.1), own), λ b h. h)
    good_place here lo n this env c (Member e o) r f own = absurd own
    good_place here lo n this env c (Index a size i) r f own = ⊎_elim
        (λ (x : T here lo f.0 w hi a × D here i f.1).
        good_within p y w t lent hi m0 lo lo (PendTerm a) (PendTerm (Index a size i)) nowhere (λ v. H f.0 v × IsOwnAt t lo v)
        (λ v. H r v × IsOwnAt t lo v) (λ v h z. T here lo f.0 v h z × IsOwnHere t lo env z) (λ v h z. T here lo r v h z × IsOwnHere t lo env z)
        PendTerm PendTerm (λ z. Index z size i) (next_term p n this env a)
        (λ v. on_ready (next_term p n this env i) (Index (Val v) size) (λ u. gives n (Indexes v size u)))
        (plain p y w t lent hi m0 lo (PendTerm a) (PendTerm (Index a size i)) (λ v h z. T here lo f.0 v h z × IsOwnHere t lo env z)
        (λ v h z. T here lo r v h z × IsOwnHere t lo env z) PendTerm PendTerm (λ z. Index z size i)
        (λ v h z g le fz. ((f.0, f.1, f.2, inl (fz.0, x.1)), fz.1))
        (λ b h. ⊎_elim (λ (z : PendTerm a b). z) (λ (z : PendTerm i b). absurd (quiet y p.main here b i f.1 x.1 z)) h) (λ z b h. inl h))
        (good_place here lo n this env c a f.0 x.0 own)
        (λ v hv none. own_index p y det w t lent hi m0 here lo n size v i f.0 f.1 r this env f.2 hv.0 hv.1 (PendTerm (Index a size i)) (λ b h. absurd (none b h))
        (good_term here lo n this env c i f.1 (term_of y p.main t lent w here lo hi i f.1 x.1))))
        (λ (x : IsDone y p.main t lent w a f.0 × T here lo f.1 w hi i).
        subst (λ z. IsGood p y w t lent hi m0 lo (PendTerm (Index z size i)) (λ v. H r v × IsOwnAt t lo v)
        (λ v h q. T here lo r v h q × IsOwnHere t lo env q) PendTerm (next_term p n this env (Index z size i)))
        (sym x.0.1)
        (own_index p y det w t lent hi m0 here lo n size x.0.0 i f.0 f.1 r this env f.2 x.0.2 (subst (IsOwnHere t lo env) x.0.1 own) (PendTerm (Index (Val x.0.0) size i))
        (λ b h. ⊎_elim (λ (z : ⊥). absurd z) (λ (z : PendTerm i b). z) h)
        (good_term here lo n this env c i f.1 x.1)))
        f.3
    good_place here lo n this env c (At a i) r f own = absurd own
    good_place here lo n this env c (Load remote e) r f own = absurd own
    good_place here lo n this env c (Unary op e) r f own = absurd own
    good_place here lo n this env c (Binary op a i) r f own = absurd own
    good_place here lo n this env c (And a i) r f own = absurd own
    good_place here lo n this env c (Or a i) r f own = absurd own
    good_place here lo n this env c (New kind size) r f own = absurd own
    good_place here lo n this env c (NewObject remote k es) r f own = absurd own
    good_place here lo n this env c (Call how g es) r f own = absurd own
    good_place here lo n this env c (Val v) r f own = ((f, own), λ b h. h)
    good_place here lo n this env c (Body g this' env' ss) r f own = absurd own
    good_place here lo n this env c (Branch this' env' s) r f own = absurd own
    good_place here lo n this env c (Starts g this' vs) r f own = absurd own

    pub good_stmt : (f lo : ℕ) → lo ≤ hi → (n : ℕ) (this : Value) (prints : Bool) (env : Env) (s : Stmt)
        → FineEnv y p.main t lent w (function_types y f) lo hi env → IsThis y p.main t lent w (function_types y f) this → FineStmt y p.main t lent w (function_types y f) lo hi prints env s → (prints ≡ true → t ≡ [])
        → IsGood p y w t lent hi m0 lo (PendStmt s) (C (function_types y f) lo env s) (A (function_types y f) lo prints env s) P (next_stmt p n this env s)
    good_stmt f lo low n this prints env Empty fine it fs pr = ((fine, keep_same p y det w t lent hi m0 lo env, λ k d. absurd d), λ b h. h)
    good_stmt f lo low n this prints env (AtLine line s) fine it fs pr =
        good_within p y w t lent hi m0 lo lo (PendStmt s) (PendStmt s) nowhere (C (function_types y f) lo env s) (C (function_types y f) lo env (AtLine line s)) (A (function_types y f) lo prints env s)
        (A (function_types y f) lo prints env (AtLine line s)) P P (λ l. (l.0, AtLine line l.1)) (next_stmt p line this env s) Ready
        (plain p y w t lent hi m0 lo (PendStmt s) (PendStmt s) (A (function_types y f) lo prints env s) (A (function_types y f) lo prints env (AtLine line s)) P P (λ l. (l.0, AtLine line l.1))
        (λ v h l g le a. a) (λ b h. h) (λ l b h. h))
        (good_stmt f lo low line this prints env s fine it fs pr)
        (λ end ce none. (c_map p y det w t lent hi m0 (function_types y f) lo env env s (AtLine line s) (keep_same p y det w t lent hi m0 lo env) (λ k d. d) end ce, none))
    good_stmt f lo low n this prints env (Make k kind size) fine it fs pr =
        last_ask p y w t lent hi m0 lo (PendStmt (Make k kind size)) (A (function_types y f) lo prints env (Make k kind size)) P (Makes kind size)
        (λ x. (set env k (first x.values), Empty)) (gift_of (type_of (Cells (is_sync kind) fs.0) ∷ []) NoValue) refl refl (λ b h. h)
        (type_of (Cells (is_sync kind) fs.0), refl, holds_kind kind fs.0)
        (λ v x g ans. made_after p y det w t lent hi m0 (function_types y f) lo low prints env (Make k kind size) k (Cells (is_sync kind) fs.0) fs.1 (λ j d. d) fine v g x.values ans.values)
    good_stmt f lo low n this prints env (Set k kind e) fine it fs pr =
        good_within p y w t lent hi m0 lo lo (PendTerm e) (PendTerm e) nowhere (H (Valued fs.0)) (C (function_types y f) lo env (Set k kind e)) (T (function_types y f) lo (Valued fs.0))
        (A (function_types y f) lo prints env (Set k kind e)) PendTerm P (λ x. (env, Set k kind x)) (next_term p n this env e)
        (λ v. makes n env k (MakesWith kind v))
        (in_stmt p y det w t lent hi m0 (function_types y f) lo prints env (Set k kind e) (Valued fs.0) (PendTerm e) (PendTerm e) (λ x. Set k kind x) fine (λ j x d. d)
        (λ v h x g le fx. (fs.0, fs.1, fx)) (λ b h. h) (λ x b h. h))
        (good_term (function_types y f) lo n this env (at_env p y det w t lent hi m0 (function_types y f) lo lo low this env fine it) e (Valued fs.0) fs.2)
        (λ v hv none. last_ask p y w t lent hi m0 lo (PendTerm e) (A (function_types y f) lo prints env (Set k kind e)) P (MakesWith kind v)
        (λ x. (set env k (first x.values), Empty)) (gift_of (type_of (Cells (is_sync kind) fs.0) ∷ []) NoValue) refl refl none (
          type_of (Cells (is_sync kind) fs.0),
          refl,
          holds_kind kind fs.0,
          subst (Fits w v) (sym (content_is (is_sync kind) fs.0)) (sort_fits w y t lent v fs.0 hv),
        )
        (λ u x g ans. made_after p y det w t lent hi m0 (function_types y f) lo low prints env (Set k kind e) k (Cells (is_sync kind) fs.0) fs.1 (λ j d. d) fine u g x.values ans.values))
    good_stmt f lo low n this prints env (Build k c es) fine it fs pr =
        good_within p y w t lent hi m0 lo lo (PendTerms es) (PendTerms es) nowhere (λ vs. AllFit w vs (get_or y.makers c [])) (C (function_types y f) lo env (Build k c es))
        (Ts (function_types y f) lo (get_or y.makers c [])) (A (function_types y f) lo prints env (Build k c es)) PendTerms P (λ x. (env, Build k c x)) (next_terms p n this env es)
        (λ vs. makes n env k (Builds c vs))
        (in_stmt_all p y det w t lent hi m0 (function_types y f) lo prints env (Build k c es) (get_or y.makers c []) (PendTerms es) (λ x. Build k c x) fine (λ j x d. d)
        (λ v h x g le fx. (fs.0, fx)) (λ x b h. h))
        (good_terms (function_types y f) lo n this env (at_env p y det w t lent hi m0 (function_types y f) lo lo low this env fine it) es (get_or y.makers c []) fs.1)
        (λ vs hv none. last_ask p y w t lent hi m0 lo (PendTerms es) (A (function_types y f) lo prints env (Build k c es)) P (Builds c vs)
        (λ x. (set env k (first x.values), Empty)) (gift_of (Instance c ∷ []) NoValue) refl refl none (refl, hv)
        (λ u x g ans. made_after p y det w t lent hi m0 (function_types y f) lo low prints env (Build k c es) k (ObjectOf c) fs.0 (λ j d. d) fine u g x.values ans.values))
    good_stmt f lo low n this prints env (Assign remote a e) fine it fs pr = ⊎_elim
        (λ (x : T (function_types y f) lo fs.0 w hi a × D (function_types y f) e (Valued fs.2)).
        good_within p y w t lent hi m0 lo lo (PendTerm a) (PendStmt (Assign remote a e)) nowhere (λ v. H fs.0 v × W lo fs.1 fs.2 fs.0 v)
        (C (function_types y f) lo env (Assign remote a e)) (λ v h z. T (function_types y f) lo fs.0 v h z × IsWritable y p.main t lent w lo env fs.1 fs.2 fs.0 z)
        (A (function_types y f) lo prints env (Assign remote a e)) PendTerm P (λ z. (env, Assign remote z e)) (next_term p n this env a)
        (λ v. on_ready (next_term p n this env e) (λ z. (env, Assign remote (Val v) z)) (λ k. does n env (Writes remote v (sent remote k))))
        (plain p y w t lent hi m0 lo (PendTerm a) (PendStmt (Assign remote a e)) (λ v h z. T (function_types y f) lo fs.0 v h z × IsWritable y p.main t lent w lo env fs.1 fs.2 fs.0 z)
        (A (function_types y f) lo prints env (Assign remote a e)) PendTerm P (λ z. (env, Assign remote z e))
        (λ v h z g le fz. stay p y det w t lent hi m0 (function_types y f) lo prints env (Assign remote a e) (Assign remote z e) v h g le fine (λ k d. d)
        (fs.0, fs.1, fs.2, fs.3, fz.1, inl (fz.0, x.1)))
        (λ b h. ⊎_elim (λ (z : PendTerm a b). z) (λ (z : PendTerm e b). absurd (quiet y p.main (function_types y f) b e (Valued fs.2) x.1 z)) h)
        (λ z b h. inl h))
        (target_of p y det w t lent hi m0 (function_types y f) lo n this env a fs.0 fs.1 fs.2 fs.4
        (good_term (function_types y f) lo n this env (at_env p y det w t lent hi m0 (function_types y f) lo lo low this env fine it) a fs.0 x.0)
        (λ own. good_place (function_types y f) lo n this env (at_env p y det w t lent hi m0 (function_types y f) lo lo low this env fine it) a fs.0 x.0 own))
        (λ v hv none. right_assign p y det w t lent hi m0 (function_types y f) lo n prints env (Assign remote a e) remote v e fs.0 fs.1 fs.2 this fine (λ k d. d) fs.3 hv.0 hv.1
        (PendStmt (Assign remote a e)) (λ b h. absurd (none b h))
        (good_term (function_types y f) lo n this env (at_env p y det w t lent hi m0 (function_types y f) lo lo low this env fine it) e (Valued fs.2) (term_of y p.main t lent w (function_types y f) lo hi e (Valued fs.2) x.1))))
        (λ (x : IsDone y p.main t lent w a fs.0 × T (function_types y f) lo (Valued fs.2) w hi e).
        subst (λ z. IsGood p y w t lent hi m0 lo (PendStmt (Assign remote z e)) (C (function_types y f) lo env (Assign remote z e)) (A (function_types y f) lo prints env (Assign remote z e)) P
        (next_stmt p n this env (Assign remote z e))) (sym x.0.1)
        (right_assign p y det w t lent hi m0 (function_types y f) lo n prints env (Assign remote (Val x.0.0) e) remote x.0.0 e fs.0 fs.1 fs.2 this fine (λ k d. d) fs.3 x.0.2
        (subst (IsWritable y p.main t lent w lo env fs.1 fs.2 fs.0) x.0.1 fs.4)
        (PendStmt (Assign remote (Val x.0.0) e)) (λ b h. ⊎_elim (λ (z : ⊥). absurd z) (λ (z : PendTerm e b). z) h)
        (good_term (function_types y f) lo n this env (at_env p y det w t lent hi m0 (function_types y f) lo lo low this env fine it) e (Valued fs.2) x.1)))
        fs.5
    good_stmt f lo low n this prints env (Drop e) fine it fs pr =
        good_within p y w t lent hi m0 lo lo (PendTerm e) (PendTerm e) nowhere (H fs.0) (C (function_types y f) lo env (Drop e)) (T (function_types y f) lo fs.0) (A (function_types y f) lo prints env (Drop e))
        PendTerm P (λ x. (env, Drop x)) (next_term p n this env e) (λ v. Ready (Falls env))
        (in_stmt p y det w t lent hi m0 (function_types y f) lo prints env (Drop e) fs.0 (PendTerm e) (PendTerm e) (λ x. Drop x) fine (λ j x d. d)
        (λ v h x g le fx. (fs.0, fx)) (λ b h. h) (λ x b h. h))
        (good_term (function_types y f) lo n this env (at_env p y det w t lent hi m0 (function_types y f) lo lo low this env fine it) e fs.0 fs.1)
        (λ v hv none. ((fine, keep_same p y det w t lent hi m0 lo env, λ k d. absurd d), none))
    good_stmt f lo low n this prints env (Print parts es) fine it fs pr =
        good_within p y w t lent hi m0 lo lo (PendTerms es) (PendTerms es) nowhere (λ vs. AllFit w vs fs.0) (C (function_types y f) lo env (Print parts es))
        (Ts (function_types y f) lo fs.0) (A (function_types y f) lo prints env (Print parts es)) PendTerms P (λ x. (env, Print parts x)) (next_terms p n this env es)
        (λ vs. does n env (Prints parts vs))
        (in_stmt_all p y det w t lent hi m0 (function_types y f) lo prints env (Print parts es) fs.0 (PendTerms es) (λ x. Print parts x) fine (λ j x d. d)
        (λ v h x g le fx. (fs.0, fs.1, fx)) (λ x b h. h))
        (good_terms (function_types y f) lo n this env (at_env p y det w t lent hi m0 (function_types y f) lo lo low this env fine it) es fs.0 fs.2)
        (λ vs hv none. last_ask p y w t lent hi m0 lo (PendTerms es) (A (function_types y f) lo prints env (Print parts es)) P (Prints parts vs) (λ x. (env, Empty))
        (gift_of [] NoValue) refl refl none (pr fs.1)
        (λ u x g ans. stay p y det w t lent hi m0 (function_types y f) lo prints env (Print parts es) Empty u (hi + 0) g (omega arith) fine (λ k d. absurd d) tt))
    good_stmt f lo low n this prints env (If c s) fine it fs pr =
        good_within p y w t lent hi m0 lo lo (PendTerm c) (PendTerm c) nowhere (H fs.0) (C (function_types y f) lo env (If c s)) (T (function_types y f) lo fs.0) (A (function_types y f) lo prints env (If c s))
        PendTerm P (λ x. (env, If x s)) (next_term p n this env c) (λ v. Asks n Tests (λ x. just (env, cond (is_zero v) Empty s)))
        (in_stmt p y det w t lent hi m0 (function_types y f) lo prints env (If c s) fs.0 (PendTerm c) (PendTerm c) (λ x. If x s) fine (λ j x d. d)
        (λ v h x g le fx. (fs.0, fx, stmt_more w v g y p.main t lent hi h le (function_types y f) lo prints env s fs.2)) (λ b h. h) (λ x b h. h))
        (good_term (function_types y f) lo n this env (at_env p y det w t lent hi m0 (function_types y f) lo lo low this env fine it) c fs.0 fs.1)
        (λ v hv none. good_test p y det w t lent hi m0 (function_types y f) lo n prints env (If c s) v Empty s (PendTerm c) fine (λ k d. d) (λ u g. tt)
        (λ u g. stmt_more w u g y p.main t lent hi (hi + 0) (omega arith) (function_types y f) lo prints env s fs.2) none)
    good_stmt f lo low n this prints env (IfElse c s z) fine it fs pr =
        good_within p y w t lent hi m0 lo lo (PendTerm c) (PendTerm c) nowhere (H fs.0) (C (function_types y f) lo env (IfElse c s z)) (T (function_types y f) lo fs.0) (A (function_types y f) lo prints env (IfElse c s z))
        PendTerm P (λ x. (env, IfElse x s z)) (next_term p n this env c) (λ v. Asks n Tests (λ x. just (env, cond (is_zero v) z s)))
        (in_stmt p y det w t lent hi m0 (function_types y f) lo prints env (IfElse c s z) fs.0 (PendTerm c) (PendTerm c) (λ x. IfElse x s z) fine (λ j x d. d)
        (λ v h x g le fx. (fs.0, fx, stmt_more w v g y p.main t lent hi h le (function_types y f) lo prints env s fs.2, stmt_more w v g y p.main t lent hi h le (function_types y f) lo prints env z fs.3))
        (λ b h. h) (λ x b h. h))
        (good_term (function_types y f) lo n this env (at_env p y det w t lent hi m0 (function_types y f) lo lo low this env fine it) c fs.0 fs.1)
        (λ v hv none. good_test p y det w t lent hi m0 (function_types y f) lo n prints env (IfElse c s z) v z s (PendTerm c) fine (λ k d. d)
        (λ u g. stmt_more w u g y p.main t lent hi (hi + 0) (omega arith) (function_types y f) lo prints env z fs.3)
        (λ u g. stmt_more w u g y p.main t lent hi (hi + 0) (omega arith) (function_types y f) lo prints env s fs.2) none)
    good_stmt f lo low n this prints env (While c s) fine it fs pr =
        good_within p y w t lent hi m0 lo lo (PendTerm c) (PendStmt (While c s)) nowhere (H fs.2.0) (C (function_types y f) lo env (While c s)) (T (function_types y f) lo fs.2.0) (A (function_types y f) lo prints env (While c s))
        PendTerm P (λ x. (env, If x (Turn s (While c s)))) (next_term p n this env c)
        (λ v. Asks n Tests (λ x. just (env, cond (is_zero v) Empty (Turn s (While c s)))))
        (in_stmt p y det w t lent hi m0 (function_types y f) lo prints env (While c s) fs.2.0 (PendTerm c) (PendStmt (While c s)) (λ x. If x (Turn s (While c s))) fine (λ j x d. d)
        (λ v h x g le fx. (fs.2.0, fx, inl (stmt_of y p.main t lent v (function_types y f) lo h prints fs.0 env s fs.1 fs.2.2, fs))) (λ b h. absurd h) (λ x b h. h))
        (good_term (function_types y f) lo n this env (at_env p y det w t lent hi m0 (function_types y f) lo lo low this env fine it) c fs.2.0 (term_of y p.main t lent w (function_types y f) lo hi c fs.2.0 fs.2.1))
        (λ v hv none. good_test p y det w t lent hi m0 (function_types y f) lo n prints env (While c s) v Empty (Turn s (While c s)) (PendStmt (While c s)) fine (λ k d. d) (λ u g. tt)
        (λ u g. inl (stmt_of y p.main t lent u (function_types y f) lo (hi + 0) prints fs.0 env s fs.1 fs.2.2, fs)) none)
    good_stmt f lo low n this prints env (For c step s) fine it fs pr =
        let come : IsToCome y p.main t lent w (function_types y f) lo prints env (Block (MoreStmts step (MoreStmts (For c step s) NoStmts))) =
        (fs.0, fs.1, (fs.2.3, (subst (λ o. DetStmt y p.main (function_types y f) prints o (For c step s)) (sym fs.2.1) fs.2, tt))) in
        good_within p y w t lent hi m0 lo lo (PendTerm c) (PendStmt (For c step s)) nowhere (H fs.2.0) (C (function_types y f) lo env (For c step s)) (T (function_types y f) lo fs.2.0) (A (function_types y f) lo prints env (For c step s))
        PendTerm P (λ x. (env, If x (for_turn c step s))) (next_term p n this env c)
        (λ v. Asks n Tests (λ x. just (env, cond (is_zero v) Empty (for_turn c step s))))
        (in_stmt p y det w t lent hi m0 (function_types y f) lo prints env (For c step s) fs.2.0 (PendTerm c) (PendStmt (For c step s)) (λ x. If x (for_turn c step s)) fine (λ j x d. d)
        (λ v h x g le fx. (fs.2.0, fx, inl (stmt_of y p.main t lent v (function_types y f) lo h prints fs.0 env s fs.1 fs.2.4, come))) (λ b h. absurd h) (λ x b h. h))
        (good_term (function_types y f) lo n this env (at_env p y det w t lent hi m0 (function_types y f) lo lo low this env fine it) c fs.2.0 (term_of y p.main t lent w (function_types y f) lo hi c fs.2.0 fs.2.2))
        (λ v hv none. good_test p y det w t lent hi m0 (function_types y f) lo n prints env (For c step s) v Empty (for_turn c step s) (PendStmt (For c step s)) fine (λ k d. d) (λ u g. tt)
        (λ u g. inl (stmt_of y p.main t lent u (function_types y f) lo (hi + 0) prints fs.0 env s fs.1 fs.2.4, come)) none)
    good_stmt f lo low n this prints env Break fine it fs pr = ((fine, keep_same p y det w t lent hi m0 lo env), λ b h. h)
    good_stmt f lo low n this prints env Continue fine it fs pr = ((fine, keep_same p y det w t lent hi m0 lo env), λ b h. h)
    good_stmt f lo low n this prints env (Par ss) fine it fs pr = record {
      gift = record { makes = []; reads = NoValue; kin = fork_kin f hi env };
      ask = tt;
      fine = λ v x g ans. stay p y det w t lent hi m0 (function_types y f) lo prints env (Par ss) (Wait x.made) v (hi + 0) g (omega arith) fine (λ k d. absurd d) tt;
      keeps = λ x b h. absurd h;
      kids = λ v x g ans. par_kids p y det w t lent hi m0 f lo this env v g it fine m0 ss fs;
      lends = λ o u h e. par_lends p y det w t lent hi m0 f lo env fine o u h e;
      known = λ o h. par_known p y det w t lent hi m0 f lo env fine o h;
      pends = λ x b made among. among;
    }
    good_stmt f lo low n this prints env (ParFor k start test line value s) fine it fs pr =
        good_within p y w t lent hi m0 lo lo (PendTerm start) (PendTerm start) nowhere (H (Valued fs.0)) (C (function_types y f) lo env (ParFor k start test line value s))
        (T (function_types y f) lo (Valued fs.0)) (A (function_types y f) lo prints env (ParFor k start test line value s)) PendTerm P
        (λ x. (env, ParFor k x test line value s)) (next_term p n this env start)
        (λ v. Asks n (MakesWith IntK v) (λ x. just (set env k (first x.values), Forks k test line value s [] test)))
        (in_stmt p y det w t lent hi m0 (function_types y f) lo prints env (ParFor k start test line value s) (Valued fs.0) (PendTerm start) (PendTerm start)
        (λ x. ParFor k x test line value s) fine (λ j x d. d)
        (λ v h x g le fx. (fs.0, fs.1, fs.2, fx, fs.4, fs.5, fs.6)) (λ b h. h) (λ x b h. h))
        (good_term (function_types y f) lo n this env (at_env p y det w t lent hi m0 (function_types y f) lo lo low this env fine it) start (Valued fs.0) fs.3)
        (λ v hv none. last_ask p y w t lent hi m0 lo (PendTerm start) (A (function_types y f) lo prints env (ParFor k start test line value s)) P (MakesWith IntK v)
        (λ x. (set env k (first x.values), Forks k test line value s [] test)) (gift_of (Named fs.0 ∷ []) NoValue) refl refl none
        (Named fs.0, refl, refl, sort_fits w y t lent v fs.0 hv)
        (λ u x g ans. parfor_after p y det w t lent hi m0 f lo low prints env (ParFor k start test line value s) k fs.0 test fs.1 line value s fs.2 fs.4 fs.5 fs.6
        (λ j d. d) fine u g x.values ans.values))
    good_stmt f lo low n this prints env (Spawn how h es) fine it fs pr =
        good_within p y w t lent hi m0 lo lo (PendTerms es) (PendTerms es) nowhere (λ vs. AllFit w vs fs.0) (C (function_types y f) lo env (Spawn how h es))
        (Ts (function_types y f) lo fs.0) (A (function_types y f) lo prints env (Spawn how h es)) PendTerms P (λ x. (env, Spawn how h x)) (next_terms p n this env es)
        (λ vs. does n env (spawn_ask (function p h).shape how h vs))
        (in_stmt_all p y det w t lent hi m0 (function_types y f) lo prints env (Spawn how h es) fs.0 (PendTerms es) (λ x. Spawn how h x) fine (λ j x d. d)
        (λ v top x g le fx. (fs.0, fs.1, fs.2, fx)) (λ x b d. d))
        (good_terms (function_types y f) lo n this env (at_env p y det w t lent hi m0 (function_types y f) lo lo low this env fine it) es fs.0 fs.3)
        (λ vs hv none. good_spawn p y det w t lent hi m0 lo n how h vs fs.0 (PendTerms es) (A (function_types y f) lo prints env (Spawn how h es)) P (env, Empty) fs.1 fs.2 hv none
        (λ v g. stay p y det w t lent hi m0 (function_types y f) lo prints env (Spawn how h es) Empty v (hi + 0) g (omega arith) fine (λ k d. absurd d) tt))
    good_stmt f lo low n this prints env (Return e) fine it fs pr =
        good_within p y w t lent hi m0 lo lo (PendTerm e) (PendTerm e) nowhere (H (Valued (function_types y f).result)) (C (function_types y f) lo env (Return e)) (T (function_types y f) lo (Valued (function_types y f).result))
        (A (function_types y f) lo prints env (Return e)) PendTerm P (λ x. (env, Return x)) (next_term p n this env e)
        (λ v. Asks n Leaves (λ x. just (env, Left v)))
        (in_stmt p y det w t lent hi m0 (function_types y f) lo prints env (Return e) (Valued (function_types y f).result) (PendTerm e) (PendTerm e) (λ x. Return x) fine (λ j x d. d)
        (λ v h x g le fx. fx) (λ b h. h) (λ x b h. h))
        (good_term (function_types y f) lo n this env (at_env p y det w t lent hi m0 (function_types y f) lo lo low this env fine it) e (Valued (function_types y f).result) fs)
        (λ v hv none. last_ask p y w t lent hi m0 lo (PendTerm e) (A (function_types y f) lo prints env (Return e)) P Leaves (λ x. (env, Left v)) (gift_of [] NoValue)
        refl refl none tt
        (λ u x g ans. stay p y det w t lent hi m0 (function_types y f) lo prints env (Return e) (Left v) u (hi + 0) g (omega arith) fine (λ k d. absurd d)
        (fits_more w u g v (function_types y f).result (sort_fits w y t lent v (function_types y f).result hv))))
    good_stmt f lo low n this prints env (Block ss) fine it fs pr =
        good_within p y w t lent hi m0 lo lo (PendStmts ss) (PendStmts ss) nowhere (Cs (function_types y f) lo env) (C (function_types y f) lo env (Block ss)) (As (function_types y f) lo prints env)
        (A (function_types y f) lo prints env (Block ss)) Ps P (λ l. (l.0, Block l.1)) (next_stmts p n this env ss) Ready
        (plain p y w t lent hi m0 lo (PendStmts ss) (PendStmts ss) (As (function_types y f) lo prints env) (A (function_types y f) lo prints env (Block ss)) Ps P (λ l. (l.0, Block l.1))
        (λ v h l g le a. (a.0, a.1, (λ k d. absurd d), a.2)) (λ b h. h) (λ l b h. h))
        (good_stmts f lo low n this prints env ss fine it fs pr)
        (λ end ce none. (block_end p y det w t lent hi m0 (function_types y f) lo env ss end ce, none))
    good_stmt f lo low n this prints env (Turn s z) fine it fs pr = ⊎_elim
        (λ (x : FineStmt y p.main t lent w (function_types y f) lo hi prints env s × IsToCome y p.main t lent w (function_types y f) lo prints env z).
        good_within p y w t lent hi m0 lo lo (PendStmt s) (PendStmt (Turn s z)) nowhere (C (function_types y f) lo env s) (C (function_types y f) lo env (Turn s z)) (A (function_types y f) lo prints env s)
        (A (function_types y f) lo prints env (Turn s z)) P P (λ l. (l.0, Turn l.1 z)) (next_stmt p n this env s)
        (λ end. turn_ends end (λ e. next_stmt p n this e z))
        (plain p y w t lent hi m0 lo (PendStmt s) (PendStmt (Turn s z)) (A (function_types y f) lo prints env s) (A (function_types y f) lo prints env (Turn s z)) P P (λ l. (l.0, Turn l.1 z))
        (λ v h l g le a. (a.0, a.1, (λ k d. absurd d), inl (a.3, come_more p y det w t lent hi m0 (function_types y f) lo prints env l.0 z w v a.1 x.1)))
        (λ b h. ⊎_elim (λ (q : PendStmt s b). q) (λ (q : PendStmt z b). absurd (quiet_stmt y p.main (function_types y f) b prints x.1.0 z x.1.2 q)) h)
        (λ l b h. inl h))
        (good_stmt f lo low n this prints env s fine it x.0 pr)
        (λ end ce none. turn_ready p y det w t lent hi m0 f lo n this prints env s z (PendStmt (Turn s z)) end ce none
        (λ e fe keep. good_stmt f lo low n this prints e z fe it
        (stmt_of y p.main t lent w (function_types y f) lo hi prints x.1.0 e z (vars_more p y det w t lent hi m0 lo env e x.1.0 keep x.1.1) x.1.2) pr)))
        (λ (x : (k : ℕ) × (test : Term) × (line : ℕ) × (value : Term) × (body : Stmt) × (made : List ℕ) × (mark : ℕ) × (u : ValueType)
        × (z ≡ Forks k test line value body made test) × (slice_get (function_types y f).vars k ≡ Some (Cells false u))
        × IsLoop y p.main t lent w (function_types y f) lo hi env k test line value body made mark × FineHeader y p.main t lent w (function_types y f) mark hi env k u s).
        let loop = x.10 in
        let high = loop.high in
        good_within p y w t lent hi m0 x.6 lo (PendStmt s) (PendStmt (Turn s z)) (λ b. IsAmong b x.5) (λ end. end ≡ Falls env) (C (function_types y f) lo env (Turn s z))
        (FH f x.6 env x.0 x.7) (A (function_types y f) lo prints env (Turn s z)) P P (λ l. (l.0, Turn l.1 z)) (next_stmt p n this env s)
        (λ end. turn_ends end (λ e. next_stmt p n this e z))
        (record {
          below = loop.low;
          up = λ v h l g le a. subst (λ q. A (function_types y f) lo prints env (Turn s z) v h (q, Turn l.1 z)) (sym a.0)
              (stay p y det w t lent hi m0 (function_types y f) lo prints env (Turn s z) (Turn l.1 z) v h g le fine (λ k d. d)
              (inr (
                x.0,
                x.1,
                x.2,
                x.3,
                x.4,
                x.5,
                x.6,
                x.7,
                x.8,
                x.9,
                loop_more w v g y p.main t lent (function_types y f) lo hi h le env x.0 x.1 x.2 x.3 x.4 x.5 x.6 loop,
                a.1,
              )));
          old = λ b h. ⊎_elim
              (λ (q : PendStmt s b). inl q)
              (λ (q : PendStmt z b). inr (made_of p y det w t lent hi m0 x.0 x.2 x.3 x.4 x.5 x.1 z x.8 b
              (λ r. quiet y p.main (function_types y f) b x.1 loop.test_sort loop.test_fine r) q))
              h;
          new = λ l b h. ⊎_elim
              (λ (q : PendStmt l.1 b). inl q)
              (λ (q : IsAmong b x.5). inr (subst (λ r. PendStmt r b) (sym x.8) (inr q)))
              h;
          low = loop.marked;
        })
        (good_header f lo x.6 (omega (arith, high)) n this env x.0 x.7 s fine it
        (loop_own p y det w t lent hi m0 x.6 (variable env x.0 Null) loop.own) (reads_of p y det w t lent hi m0 (function_types y f) lo env fine x.0 (Cells false x.7) x.9) x.11)
        (λ end e none. subst (λ q. IsGood p y w t lent hi m0 lo (PendStmt (Turn s z)) (C (function_types y f) lo env (Turn s z)) (A (function_types y f) lo prints env (Turn s z)) P
        (turn_ends q (λ e1. next_stmt p n this e1 z))) (sym e)
        (follow p y det w t lent hi m0 f lo n this prints env env (Turn s z) z (PendStmt (Turn s z)) (keep_same p y det w t lent hi m0 lo env) (λ k d. d)
        (λ b h. subst (λ r. PendStmt r b) (sym x.8) (inr (none b h)))
        (good_stmt f lo low n this prints env z fine it
        (subst (FineStmt y p.main t lent w (function_types y f) lo hi prints env) (sym x.8)
        (x.6, loop.test_sort, term_of y p.main t lent w (function_types y f) x.6 hi x.1 loop.test_sort loop.test_fine, loop)) pr))))
        fs
    good_stmt f lo low n this prints env (Forks k test line value s made now) fine it fs pr =
        let loop = fs.3 in
        let high = loop.high in
        good_within p y w t lent hi m0 fs.0 lo (PendTerm now) (PendStmt (Forks k test line value s made now)) (λ b. IsAmong b made) (H fs.1)
        (C (function_types y f) lo env (Forks k test line value s made now)) (T (function_types y f) fs.0 fs.1) (A (function_types y f) lo prints env (Forks k test line value s made now)) PendTerm P
        (λ x. (env, Forks k test line value s made x)) (next_term p n this env now)
        (λ v. Asks n Tests (λ x. just (env, cond (is_zero v) (Wait made) (Each k test line value s made))))
        (record {
          below = loop.low;
          up = λ v h x g le fx. stay p y det w t lent hi m0 (function_types y f) lo prints env (Forks k test line value s made now) (Forks k test line value s made x) v h g le fine (λ j d. d)
              (fs.0, fs.1, fx, loop_more w v g y p.main t lent (function_types y f) lo hi h le env k test line value s made fs.0 loop);
          old = λ b h. h;
          new = λ x b h. h;
          low = loop.marked;
        })
        (good_term (function_types y f) fs.0 n this env (at_env p y det w t lent hi m0 (function_types y f) lo fs.0 (omega (arith, high)) this env fine it) now fs.1 fs.2)
        (λ v hv none. record {
          gift = gift_of [] NoValue;
          ask = tt;
          fine = λ u x g ans.
              stay p y det w t lent hi m0 (function_types y f) lo prints env (Forks k test line value s made now) (cond (is_zero v) (Wait made) (Each k test line value s made)) u (hi + 0) g
              (omega arith) fine (λ j d. absurd d)
              (cond_case (λ q. FineStmt y p.main t lent u (function_types y f) lo (hi + 0) prints env q) (is_zero v) (Wait made) (Each k test line value s made) tt
              (fs.0, loop_more w u g y p.main t lent (function_types y f) lo hi (hi + 0) (omega arith) env k test line value s made fs.0 loop));
          keeps = λ x b h. inl (cond_case (λ q. PendStmt q b) (is_zero v) (Wait made) (Each k test line value s made) (none b h) (none b h));
          kids = λ u x g ans. tt;
          lends = λ o u h e. absurd h;
          known = λ o h. absurd h;
          pends = λ x b e h. absurd (subst (IsAmong b) e h);
        })
    good_stmt f lo low n this prints env (Each k test line value s made) fine it fs pr =
        let loop = fs.1 in
        record {
          gift = record { makes = Named loop.type ∷ []; reads = NoValue; kin = each_kin p y det w t lent hi m0 f lo this env k test line value s made fs.0 loop };
          ask = (loop.type, refl, reads_of p y det w t lent hi m0 (function_types y f) lo env fine k (Cells false loop.type) loop.typed);
          fine = λ v x g ans.
              stay p y det w t lent hi m0 (function_types y f) lo prints env (Each k test line value s made)
              (Turn (header_step k line value) (Forks k test line value s (x.made ++ made) test)) v (hi + 0) g (omega arith) fine (λ j d. absurd d)
              (inr (
                k,
                test,
                line,
                value,
                s,
                x.made ++ made,
                fs.0,
                loop.type,
                refl,
                loop.typed,
                each_loop p y det w t lent hi m0 f lo this env k test line value s made fs.0 loop v g x.made ans.kin,
                (refl, inl refl, term_of y p.main t lent v (function_types y f) fs.0 (hi + 0) value (Valued loop.type) loop.value_fine),
              ));
          keeps = λ x b h. inl (inr (inr (among_right b x.made made h)));
          kids = λ v x g ans. (each_kid p y det w t lent hi m0 f lo this env k test line value s made fs.0 loop v g it x.values ans.values, tt);
          lends = λ o u h e. each_lends p y det w t lent hi m0 f lo this env k test line value s made fs.0 loop o u h e;
          known = λ o h. each_known p y det w t lent hi m0 f lo this env k test line value s made fs.0 loop o h;
          pends = λ x b e h. inr (inr (among_left b x.made made h));
        }
    good_stmt f lo low n this prints env (Wait made) fine it fs pr = record {
      gift = gift_of [] NoValue;
      ask = tt;
      fine = λ v x g ans. stay p y det w t lent hi m0 (function_types y f) lo prints env (Wait made) Empty v (hi + 0) g (omega arith) fine (λ k d. absurd d) tt;
      keeps = λ x b h. inr h;
      kids = λ v x g ans. tt;
      lends = λ o u h e. absurd h;
      known = λ o h. absurd h;
      pends = λ x b e h. absurd (subst (IsAmong b) e h);
    }
    good_stmt f lo low n this prints env (Left v) fine it fs pr = (fs, λ b h. h)

    pub good_stmts : (f lo : ℕ) → lo ≤ hi → (n : ℕ) (this : Value) (prints : Bool) (env : Env) (ss : Stmts)
        → FineEnv y p.main t lent w (function_types y f) lo hi env → IsThis y p.main t lent w (function_types y f) this → FineStmts y p.main t lent w (function_types y f) lo hi prints env ss → (prints ≡ true → t ≡ [])
        → IsGood p y w t lent hi m0 lo (PendStmts ss) (Cs (function_types y f) lo env) (As (function_types y f) lo prints env) Ps (next_stmts p n this env ss)
    good_stmts f lo low n this prints env NoStmts fine it fs pr = ((fine, keep_same p y det w t lent hi m0 lo env), λ b h. h)
    good_stmts f lo low n this prints env (MoreStmts s ss) fine it fs pr =
        good_within p y w t lent hi m0 lo lo (PendStmt s) (PendStmt s) nowhere (C (function_types y f) lo env s) (Cs (function_types y f) lo env) (A (function_types y f) lo prints env s) (As (function_types y f) lo prints env) P Ps
        (λ l. (l.0, MoreStmts l.1 ss)) (next_stmt p n this env s) (λ end. and_then end (λ e. next_stmts p n this e ss))
        (plain p y w t lent hi m0 lo (PendStmt s) (PendStmt s) (A (function_types y f) lo prints env s) (As (function_types y f) lo prints env) P Ps (λ l. (l.0, MoreStmts l.1 ss))
        (λ v h l g le a. (
          a.0,
          a.1,
          (
            fs.0,
            a.3,
            (λ k i. ⊎_elim
                (λ (o : IsOwnAt t lo (variable env k Null)). inl (a.1 k o)) (λ (d : IsDeclared k s). a.2 k d) (fs.2 k i)),
            fs.3,
          ),
        ))
        (λ b h. h) (λ l b h. h))
        (good_stmt f lo low n this prints env s fine it fs.1 pr)
        (λ end ce none. list_ready p y det w t lent hi m0 f lo n this prints env s ss (PendStmt s) end ce none
        (λ e fe keep decl. good_stmts f lo low n this prints e ss fe it
        (stmts_of y p.main t lent w (function_types y f) lo hi prints fs.0 e ss (λ k i. ⊎_elim
        (λ (o : IsOwnAt t lo (variable env k Null)). keep k o) (λ (d : IsDeclared k s). decl k d) (fs.2 k i)) fs.3) pr))

    good_header : (f lo mark : ℕ) → mark ≤ hi → (n : ℕ) (this : Value) (env : Env) (k : ℕ) (u : ValueType) (s : Stmt)
        → FineEnv y p.main t lent w (function_types y f) lo hi env → IsThis y p.main t lent w (function_types y f) this → IsOwnAt t mark (variable env k Null) → H (NamedCell u) (variable env k Null)
        → FineHeader y p.main t lent w (function_types y f) mark hi env k u s
        → IsGood p y w t lent hi m0 mark (PendStmt s) (λ end. end ≡ Falls env) (FH f mark env k u) P (next_stmt p n this env s)
    good_header f lo mark low n this env k u Empty fine it own has fh = (refl, λ b h. h)
    good_header f lo mark low n this env k u (AtLine line s) fine it own has fh =
        good_within p y w t lent hi m0 mark mark (PendStmt s) (PendStmt s) nowhere (λ end. end ≡ Falls env) (λ end. end ≡ Falls env) (FH f mark env k u)
        (FH f mark env k u) P P (λ l. (l.0, AtLine line l.1)) (next_stmt p line this env s) Ready
        (plain p y w t lent hi m0 mark (PendStmt s) (PendStmt s) (FH f mark env k u) (FH f mark env k u) P P (λ l. (l.0, AtLine line l.1))
        (λ v h l g le a. a) (λ b h. h) (λ l b h. h))
        (good_header f lo mark low line this env k u s fine it own has fh)
        (λ end e none. (e, none))
    good_header f lo mark low n this env k u (Make j kind size) fine it own has fh = absurd fh
    good_header f lo mark low n this env k u (Set j kind e) fine it own has fh = absurd fh
    good_header f lo mark low n this env k u (Build j c es) fine it own has fh = absurd fh
    good_header f lo mark low n this env k u (Assign remote a e) fine it own has fh =
        let core = header_assign p y det w t lent hi m0 f mark n this env k u e own has
        (good_term (function_types y f) mark n this env (at_env p y det w t lent hi m0 (function_types y f) lo mark low this env fine it) e (Valued u) fh.2) in
        subst (λ q. IsGood p y w t lent hi m0 mark (PendStmt (Assign q a e)) (λ end. end ≡ Falls env) (FH f mark env k u) P
        (next_stmt p n this env (Assign q a e))) (sym fh.0)
        (⊎_elim
        (λ (x : a ≡ Variable k). subst (λ q. IsGood p y w t lent hi m0 mark (PendStmt (Assign false q e)) (λ end. end ≡ Falls env) (FH f mark env k u) P
        (next_stmt p n this env (Assign false q e))) (sym x) core)
        (λ (x : a ≡ Val (variable env k Null)). subst (λ q. IsGood p y w t lent hi m0 mark (PendStmt (Assign false q e)) (λ end. end ≡ Falls env) (FH f mark env k u) P
        (next_stmt p n this env (Assign false q e))) (sym x) core)
        fh.1)
    good_header f lo mark low n this env k u (Drop e) fine it own has fh = absurd fh
    good_header f lo mark low n this env k u (Print parts es) fine it own has fh = absurd fh
    good_header f lo mark low n this env k u (If c s) fine it own has fh = absurd fh
    good_header f lo mark low n this env k u (IfElse c s z) fine it own has fh = absurd fh
    good_header f lo mark low n this env k u (While c s) fine it own has fh = absurd fh
    good_header f lo mark low n this env k u (For c step s) fine it own has fh = absurd fh
    good_header f lo mark low n this env k u Break fine it own has fh = absurd fh
    good_header f lo mark low n this env k u Continue fine it own has fh = absurd fh
    good_header f lo mark low n this env k u (Par ss) fine it own has fh = absurd fh
    good_header f lo mark low n this env k u (ParFor j start test line value s) fine it own has fh = absurd fh
    good_header f lo mark low n this env k u (Spawn how h es) fine it own has fh = absurd fh
    good_header f lo mark low n this env k u (Return e) fine it own has fh = absurd fh
    good_header f lo mark low n this env k u (Block ss) fine it own has fh = absurd fh
    good_header f lo mark low n this env k u (Turn s z) fine it own has fh = absurd fh
    good_header f lo mark low n this env k u (Forks j test line value s made now) fine it own has fh = absurd fh
    good_header f lo mark low n this env k u (Each j test line value s made) fine it own has fh = absurd fh
    good_header f lo mark low n this env k u (Wait made) fine it own has fh = absurd fh
    good_header f lo mark low n this env k u (Left v) fine it own has fh = absurd fh
