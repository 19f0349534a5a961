-- The parts of statements: what is good of a whole where it is of its parts.
use Rattle.std.proofs.Common.{◌≡◌, ◌≢◌, ◌⊎◌, ℕ, suc, ◌+◌, ◌<◌, ◌≤◌, Bool, true, false, cond, List, [], ◌∷◌, ◌++◌, Option, Some, None, refl, sym, subst, ◌∙◌}
use Rattle.std.proofs.Common.{⊎_elim, inl, inr, arith}
use Rattle.std.specs.Prelude.{slice_get, set}
use Rattle.std.specs.FinMap as fin
use Rattle.cc_ops.specs.Values.{constant, Void, Int, Null, Ptr, first, moved, sent, is_zero}
use Rattle.cc_core.specs.Names.{Name, Value}
use Rattle.cc_core.specs.Core.{Env, Term, Index}
use Rattle.cc_core.specs.Core.{Val, Branch, Terms}
use Rattle.cc_core.specs.Core.{Stmt, Empty, Assign}
use Rattle.cc_core.specs.Core.{Block, Turn, Forks, Stmts, NoStmts}
use Rattle.cc_core.specs.Core.{MoreStmts, Program, function}
use Rattle.cc_core.specs.Next.{variable}
use Rattle.cc_core.specs.Types.{ValueType, NoValue, AnAddress, Target, Cells, ObjectOf, FunctionTypes, Types, function_types, no_types, IsAmong}
use Rattle.cc_one_answer.specs.Sorts.{Sort, Valued, NamedCell, IsCell, IsElement, ObjectType, Named, Uniform, Instance}
use Rattle.cc_one_answer.specs.Sorts.{Kin, World, Grows, IsNameIn, IsMineIn, Fits, HasSort}
use Rattle.cc_one_answer.specs.Determinate.{DetStmt, DetBranches}
use Rattle.cc_one_answer.specs.Owned.{IsOwnAt, OwnVars, IsOwnHere, PendTerm, PendTerms, PendStmt, PendStmts, IsDeclared, IsEntryOf, IsEntry}
use Rattle.cc_one_answer.specs.Owned.{FineEnv, IsThis, IsWritable, IsToCome, IsLoop, FineTerm, FineStmt, FineStmts, FineHeader}
use Rattle.cc_core.specs.Asks.{Writes, Indexes, Tests}
use Rattle.cc_core.specs.Asks.{Leaves}
use Rattle.cc_core.specs.Next.{Asks, on_ready, just}
use Rattle.cc_one_answer.proofs.More.{fits_more, sort_more, entry_more, env_more, loop_more}
use Rattle.cc_one_answer.proofs.More.{term_of, stmt_of, quiet}
use Rattle.cc_one_answer.proofs.Fine.{type_of, AreMade}
use Rattle.cc_one_answer.proofs.Fine.{AreFineKids, IsGood, IsContext, good_within, nowhere, plain, gift_of, last_ask}
use Rattle.cc_core.specs.Next.{Ending, Falls, Returns, Breaks, Continues, gives, does, returns_default}
use Rattle.cc_core.specs.Next.{body_ends, branch_ends, branches, and_then, turn_ends, next_term, next_stmt, next_stmts}
use Rattle.cc_one_answer.specs.Determinate.{IsDeterminate}
use Rattle.cc_one_answer.proofs.Swaps.{cases_number}
use Rattle.cc_one_answer.proofs.Values.{not_uniform, not_instance, null_no_pointer, same_pointer, cond_case, own_moved, constant_has, fits_sort, sort_fits}
use Rattle.cc_one_answer.proofs.Values.{element_has, sent_fits, set_here, set_other, names_in, name_there}
use Rattle.cc_one_answer.proofs.Values.{name_at, first_made, entry_made, own_made}
use Rattle.cc_one_answer.proofs.Weaker.{good_map, good_fewer, append_among, Keeps}
use Rattle.cc_one_answer.proofs.TermParts.{read_of, read_value, reads_of, taken_alone, taken_on, this_on, entered_fine, right_index, right_at}
use Rattle.cc_one_answer.proofs.TermParts.{right_binary, right_terms, good_object, good_call, good_spawn}
use Rattle.cc_one_answer.proofs.TermParts as terms

module _ (p : Program) (y : Types) (det : IsDeterminate p y) (w : World) (t : Name) (lent : List Name) (hi m0 : ℕ) where
  abbrev H : Sort → Value → Type 0
  H = terms.H p y det w t lent hi m0

  abbrev T : FunctionTypes → ℕ → Sort → World → ℕ → Term → Type 0
  T = terms.T p y det w t lent hi m0

  abbrev Ts : FunctionTypes → ℕ → List ValueType → World → ℕ → Terms → Type 0
  Ts = terms.Ts p y det w t lent hi m0

  abbrev D : FunctionTypes → Term → Sort → Type 0
  D = terms.D p y det w t lent hi m0

  abbrev Here : FunctionTypes → ℕ → Value → Env → Type 0
  Here = terms.Here p y det w t lent hi m0

  -- statements

  -- after a step of s0 with the variables env0
  abbrev pub A : FunctionTypes → ℕ → Bool → Env → Stmt → World → ℕ → (Env × Stmt) → Type 0
  A here lo prints env0 s0 v h l = FineEnv y p.main t lent v here lo h l.0 × Keeps t lo env0 l.0
      × ((k : ℕ) → IsDeclared k s0 → IsOwnAt t lo (variable l.0 k Null) ⊎ IsDeclared k l.1)
      × FineStmt y p.main t lent v here lo h prints l.0 l.1

  abbrev pub P : (Env × Stmt) → ℕ → Type 0
  P l b = PendStmt l.1 b

  abbrev pub C : FunctionTypes → ℕ → Env → Stmt → Ending → Type 0
  C here lo env0 s0 (Falls env) = FineEnv y p.main t lent w here lo hi env × Keeps t lo env0 env
      × ((k : ℕ) → IsDeclared k s0 → IsOwnAt t lo (variable env k Null))
  C here lo env0 s0 (Returns v) = Fits w v here.result
  C here lo env0 s0 (Breaks env) = FineEnv y p.main t lent w here lo hi env × Keeps t lo env0 env
  C here lo env0 s0 (Continues env) = FineEnv y p.main t lent w here lo hi env × Keeps t lo env0 env

  abbrev pub As : FunctionTypes → ℕ → Bool → Env → World → ℕ → (Env × Stmts) → Type 0
  As here lo prints env0 v h l = FineEnv y p.main t lent v here lo h l.0 × Keeps t lo env0 l.0
      × FineStmts y p.main t lent v here lo h prints l.0 l.1

  abbrev pub Ps : (Env × Stmts) → ℕ → Type 0
  Ps l b = PendStmts l.1 b

  abbrev pub Cs : FunctionTypes → ℕ → Env → Ending → Type 0
  Cs here lo env0 (Falls env) = FineEnv y p.main t lent w here lo hi env × Keeps t lo env0 env
  Cs here lo env0 (Returns v) = Fits w v here.result
  Cs here lo env0 (Breaks env) = FineEnv y p.main t lent w here lo hi env × Keeps t lo env0 env
  Cs here lo env0 (Continues env) = FineEnv y p.main t lent w here lo hi env × Keeps t lo env0 env

  pub keep_same : (lo : ℕ) (env : Env) → Keeps t lo env env
  keep_same lo env = λ k h. h

  -- a new variable
  pub made_after : (here : FunctionTypes) (lo : ℕ) → lo ≤ hi → (prints : Bool) (env : Env) (s0 : Stmt) (k : ℕ) (a : Target)
      → slice_get here.vars k ≡ Some a → ((j : ℕ) → IsDeclared j s0 → j ≡ k) → FineEnv y p.main t lent w here lo hi env → (v : World)
      → Grows w v → (xs : List Value) → AreMade v t hi (type_of a ∷ []) xs
      → A here lo prints env s0 v (hi + 1) (set env k (first xs), Empty)
  made_after here lo low prints env s0 k a typed only fine v g xs made =
      let m = first_made v t hi (type_of a) [] xs made in
      let own : IsOwnAt t lo (variable (set env k (first xs)) k Null) = ⊎_elim
      (λ (e : variable (set env k (first xs)) k Null ≡ first xs).
      subst (IsOwnAt t lo) (sym (e ∙ m.0)) (hi, refl, low))
      (λ (e : variable (set env k (first xs)) k Null ≡ Null). subst (IsOwnAt t lo) (sym e) tt)
      (set_here env k (first xs)) in (
        (λ j. ⊎_elim
            (λ (e : j ≡ k). subst (λ i. IsEntry y p.main t lent v lo (hi + 1) (variable (set env k (first xs)) i Null) (slice_get here.vars i)) (sym e)
            (⊎_elim
            (λ (f : variable (set env k (first xs)) k Null ≡ first xs).
            entry_made y p.main t lent v lo (hi + 1) hi low (omega arith) (variable (set env k (first xs)) k Null) (slice_get here.vars k) a
            (f ∙ m.0) typed m.1)
            (λ (f : variable (set env k (first xs)) k Null ≡ Null).
            subst (λ z. IsEntry y p.main t lent v lo (hi + 1) z (slice_get here.vars k)) (sym f) tt)
            (set_here env k (first xs))))
            (λ (ne : j ≢ k). subst (λ z. IsEntry y p.main t lent v lo (hi + 1) z (slice_get here.vars j)) (sym (set_other env k j (first xs) ne))
            (entry_more w v g y p.main t lent lo hi (hi + 1) (omega arith) (variable env j Null) (slice_get here.vars j) (fine j)))
            (cases_number j k)),
        (λ j h. ⊎_elim
            (λ (e : j ≡ k). subst (λ i. IsOwnAt t lo (variable (set env k (first xs)) i Null)) (sym e) own)
            (λ (ne : j ≢ k). subst (IsOwnAt t lo) (sym (set_other env k j (first xs) ne)) h)
            (cases_number j k)),
        (λ j d. inl (subst (λ i. IsOwnAt t lo (variable (set env k (first xs)) i Null)) (sym (only j d)) own)),
        tt,
      )

  -- nothing changes but what is left
  pub stay : (here : FunctionTypes) (lo : ℕ) (prints : Bool) (env : Env) (s0 s : Stmt) (v : World) (h : ℕ) → Grows w v → hi ≤ h
      → FineEnv y p.main t lent w here lo hi env → ((k : ℕ) → IsDeclared k s0 → IsDeclared k s)
      → FineStmt y p.main t lent v here lo h prints env s → A here lo prints env s0 v h (env, s)
  stay here lo prints env s0 s v h g le fine decl f =
      (env_more w v g y p.main t lent here lo hi h env le fine, keep_same lo env, (λ k d. inr (decl k d)), f)

  -- a part of a statement that is a term
  pub in_stmt : (here : FunctionTypes) (lo : ℕ) (prints : Bool) (env : Env) (s0 : Stmt) (r : Sort) (Old Old' : ℕ → Type 0) (S : Term → Stmt)
      → FineEnv y p.main t lent w here lo hi env → ((k : ℕ) (x : Term) → IsDeclared k s0 → IsDeclared k (S x))
      → ((v : World) (h : ℕ) (x : Term) → Grows w v → hi ≤ h → T here lo r v h x → FineStmt y p.main t lent v here lo h prints env (S x))
      → ((b : ℕ) → Old' b → Old b) → ((x : Term) (b : ℕ) → PendTerm x b → PendStmt (S x) b)
      → IsContext p y w t lent hi m0 lo lo Old Old' nowhere (T here lo r) (A here lo prints env s0) PendTerm P (λ x. (env, S x))
  in_stmt here lo prints env s0 r Old Old' S fine decl up old new =
      plain p y w t lent hi m0 lo Old Old' (T here lo r) (A here lo prints env s0) PendTerm P (λ x. (env, S x))
      (λ v h x g le fx. stay here lo prints env s0 (S x) v h g le fine (λ k d. decl k x d) (up v h x g le fx)) old new

  pub in_stmt_all : (here : FunctionTypes) (lo : ℕ) (prints : Bool) (env : Env) (s0 : Stmt) (us : List ValueType) (Old : ℕ → Type 0) (S : Terms → Stmt)
      → FineEnv y p.main t lent w here lo hi env → ((k : ℕ) (x : Terms) → IsDeclared k s0 → IsDeclared k (S x))
      → ((v : World) (h : ℕ) (x : Terms) → Grows w v → hi ≤ h → Ts here lo us v h x → FineStmt y p.main t lent v here lo h prints env (S x))
      → ((x : Terms) (b : ℕ) → PendTerms x b → PendStmt (S x) b)
      → IsContext p y w t lent hi m0 lo lo Old Old nowhere (Ts here lo us) (A here lo prints env s0) PendTerms P (λ x. (env, S x))
  in_stmt_all here lo prints env s0 us Old S fine decl up new =
      plain p y w t lent hi m0 lo Old Old (Ts here lo us) (A here lo prints env s0) PendTerms P (λ x. (env, S x))
      (λ v h x g le fx. stay here lo prints env s0 (S x) v h g le fine (λ k d. decl k x d) (up v h x g le fx)) (λ b h. h) new

  -- a test, after which one of two statements is left
  pub good_test : (here : FunctionTypes) (lo n : ℕ) (prints : Bool) (env : Env) (s0 : Stmt) (v : Value) (s z : Stmt) (Old : ℕ → Type 0)
      → FineEnv y p.main t lent w here lo hi env → ((k : ℕ) → IsDeclared k s0 → ⊥)
      → ((u : World) → Grows w u → FineStmt y p.main t lent u here lo (hi + 0) prints env s)
      → ((u : World) → Grows w u → FineStmt y p.main t lent u here lo (hi + 0) prints env z) → ((b : ℕ) → Old b → ⊥)
      → IsGood p y w t lent hi m0 lo Old (C here lo env s0) (A here lo prints env s0) P
      (Asks n Tests (λ x. just (env, cond (is_zero v) s z)))
  good_test here lo n prints env s0 v s z Old fine decl a b none =
      last_ask p y w t lent hi m0 lo Old (A here lo prints env s0) P Tests (λ x. (env, cond (is_zero v) s z)) (gift_of [] NoValue) refl refl
      none tt
      (λ u x g ans. stay here lo prints env s0 (cond (is_zero v) s z) u (hi + 0) g (omega arith) fine (λ k d. absurd (decl k d))
      (cond_case (λ q. FineStmt y p.main t lent u here lo (hi + 0) prints env q) (is_zero v) s z (a u g) (b u g)))

  pub vars_more : (lo : ℕ) (env env' : Env) (own : List ℕ) → Keeps t lo env env' → OwnVars t lo env own → OwnVars t lo env' own
  vars_more lo env env' own keep vars = λ k i. keep k (vars k i)

  pub come_more : (here : FunctionTypes) (lo : ℕ) (prints : Bool) (env env' : Env) (s : Stmt) (v u : World) → Keeps t lo env env'
      → IsToCome y p.main t lent v here lo prints env s → IsToCome y p.main t lent u here lo prints env' s
  come_more here lo prints env env' s v u keep h = (h.0, vars_more lo env env' h.0 keep h.1, h.2)

  -- the copy of a variable, and the branches that are lent what is older
  pub not_set : (env : Env) (k : ℕ) (o : Name) (x : ℕ) → variable (set env k Null) k Null ≡ Ptr o x → ⊥
  not_set env k o x e = ⊎_elim
      (λ (f : variable (set env k Null) k Null ≡ Null). null_no_pointer o x (sym f ∙ e))
      (λ (f : variable (set env k Null) k Null ≡ Null). null_no_pointer o x (sym f ∙ e))
      (set_here env k Null)

  pub older_one : (lo mark : ℕ) (o : Name) (x : ℕ) (a : Option Target) (u : ValueType) → IsEntryOf y p.main t lent w lo mark o x a
      → fin.get w.types o ≡ Some (Named u) → ((i : ℕ) × (o ≡ i ∷ t) × (i < mark)) ⊎ IsNameIn o lent
  older_one lo mark o x None u h named = absurd h
  older_one lo mark o x (Some (Cells false q)) u h named =
      ⊎_elim (λ (m : IsMineIn t lo mark o). inl (m.0, m.1, m.3)) (λ (l : IsNameIn o lent). inr l) h.1
  older_one lo mark o x (Some (Cells true q)) u h named = absurd (not_uniform q u true (sym h ∙ named))
  older_one lo mark o x (Some (ObjectOf c)) u h named = absurd (not_instance c u (sym h.0 ∙ named))

  -- a variable that is older than a fork, as a branch has it
  pub lent_entry : (b : Name) (names : List Name) (lo mark top : ℕ) (v : World) → Grows w v → (z : Value) (a : Option Target)
      → IsEntry y p.main t lent w lo mark z a → ((o : Name) (x : ℕ) → z ≡ Ptr o x → IsNameIn o names)
      → IsEntry y p.main b names v 0 top z a
  lent_entry b names lo mark top v g Void a h there = tt
  lent_entry b names lo mark top v g (Int n) a h there = tt
  lent_entry b names lo mark top v g Null a h there = tt
  lent_entry b names lo mark top v g (Ptr o x) None h there = absurd h
  lent_entry b names lo mark top v g (Ptr o x) (Some (Cells false u)) h there = (g.types o _ h.0, inr (there o x refl))
  lent_entry b names lo mark top v g (Ptr o x) (Some (Cells true u)) h there = g.types o _ h
  lent_entry b names lo mark top v g (Ptr o x) (Some (ObjectOf c)) h there = (g.types o _ h.0, h.1)

  pub this_there : (f : ℕ) (this : Value) (b : Name) (names : List Name) (v : World) → Grows w v → IsThis y p.main t lent w (function_types y f) this
      → IsThis y p.main b names v (function_types y f) this
  this_there f this b names v g h = λ c e. fits_more w v g this (AnAddress (ObjectOf c)) (h c e)

  abbrev pub fork_kin : ℕ → ℕ → Env → Kin
  fork_kin f mark env = record { mark = mark; lent = names_in env; result = (function_types y f).result }

  pub par_kids : (f : ℕ) (lo : ℕ) (this : Value) (env : Env) (v : World) → Grows w v → IsThis y p.main t lent w (function_types y f) this
      → FineEnv y p.main t lent w (function_types y f) lo hi env → (k : ℕ) (ss : Stmts) → DetBranches y p.main (function_types y f) ss
      → AreFineKids p y w t lent hi m0 v 0 (fork_kin f hi env) k (branches this env ss)
  par_kids f lo this env v g it fine k NoStmts h = tt
  par_kids f lo this env v g it fine k (MoreStmts s ss) h = (
    (
      f,
      refl,
      this_there f this (k ∷ t) (names_in env) v g it,
      (λ j. lent_entry (k ∷ t) (names_in env) lo hi 0 v g (variable env j Null) (slice_get (function_types y f).vars j) (fine j)
          (λ o x e. name_there env j o x e)),
      stmt_of y p.main (k ∷ t) (names_in env) v (function_types y f) 0 0 false [] env s (λ j i. absurd i) h.0,
    ),
    par_kids f lo this env v g it fine (suc k) ss h.1,
  )

  pub par_lends : (f lo : ℕ) (env : Env) → FineEnv y p.main t lent w (function_types y f) lo hi env → (o : Name) (u : ValueType)
      → IsNameIn o (names_in env) → fin.get w.types o ≡ Some (Named u) → ((i : ℕ) × (o ≡ i ∷ t) × (i < hi)) ⊎ IsNameIn o lent
  par_lends f lo env fine o u h named =
      let at = name_at env o h in
      older_one lo hi o at.1 (slice_get (function_types y f).vars at.0) u
      (subst (λ z. IsEntry y p.main t lent w lo hi z (slice_get (function_types y f).vars at.0)) at.2 (fine at.0)) named

  pub own_index : (here : FunctionTypes) (lo n size : ℕ) (a' : Value) (i : Term) (q z r : Sort) (this : Value) (env : Env)
      → IsElement y size q r → H q a' → IsOwnAt t lo a' → (Old : ℕ → Type 0) → ((b : ℕ) → Old b → PendTerm i b)
      → IsGood p y w t lent hi m0 lo (PendTerm i) (H z) (T here lo z) PendTerm (next_term p n this env i)
      → IsGood p y w t lent hi m0 lo Old (λ v. H r v × IsOwnAt t lo v) (λ v h x. T here lo r v h x × IsOwnHere t lo env x) PendTerm
      (on_ready (next_term p n this env i) (Index (Val a') size) (λ u. gives n (Indexes a' size u)))
  own_index here lo n size a' i q z r this env el has own Old sub good =
      good_within p y w t lent hi m0 lo lo (PendTerm i) Old nowhere (H z) (λ v. H r v × IsOwnAt t lo v) (T here lo z)
      (λ v h x. T here lo r v h x × IsOwnHere t lo env x) PendTerm PendTerm
      (Index (Val a') size) (next_term p n this env i) (λ u. gives n (Indexes a' size u))
      (plain p y w t lent hi m0 lo (PendTerm i) Old (T here lo z) (λ v h x. T here lo r v h x × IsOwnHere t lo env x) PendTerm PendTerm
      (Index (Val a') size)
      (λ v h x g le fx. ((q, z, el, inr ((a', refl, sort_more w v g y p.main t lent a' q has), fx)), own)) sub (λ x b h. inr h))
      good
      (λ u hu none. last_ask p y w t lent hi m0 lo Old (λ v h x. T here lo r v h x × IsOwnHere t lo env x) PendTerm (Indexes a' size u)
      (λ x. Val (first x.values)) (gift_of [] NoValue) refl refl none tt
      (λ v x g ans. let j = ans.values in (
        subst (λ k. HasSort v y t lent k r) (sym j.2)
            (sort_more w v g y p.main t lent (moved a' j.0) r (element_has w y t lent size q r a' j.0 el j.1 has)),
        subst (IsOwnAt t lo) (sym j.2) (own_moved t lo a' j.0 own),
      )))

  -- a place that is assigned
  abbrev pub W : ℕ → Bool → ValueType → Sort → Value → Type 0
  W lo sync u q v = (sync ≡ true) ⊎ ((q ≡ NamedCell u) × IsOwnAt t lo v)

  pub target_of : (here : FunctionTypes) (lo n : ℕ) (this : Value) (env : Env) (a : Term) (q : Sort) (sync : Bool) (u : ValueType)
      → IsWritable y p.main t lent w lo env sync u q a
      → IsGood p y w t lent hi m0 lo (PendTerm a) (H q) (T here lo q) PendTerm (next_term p n this env a)
      → (IsOwnHere t lo env a → IsGood p y w t lent hi m0 lo (PendTerm a) (λ v. H q v × IsOwnAt t lo v)
      (λ v h x. T here lo q v h x × IsOwnHere t lo env x) PendTerm (next_term p n this env a))
      → IsGood p y w t lent hi m0 lo (PendTerm a) (λ v. H q v × W lo sync u q v)
      (λ v h x. T here lo q v h x × IsWritable y p.main t lent w lo env sync u q x) PendTerm (next_term p n this env a)
  target_of here lo n this env a q sync u wr good place = ⊎_elim
      (λ (s : sync ≡ true). good_map p y w t lent hi m0 lo (PendTerm a) (H q) (λ v. H q v × W lo sync u q v) (T here lo q)
      (λ v h x. T here lo q v h x × IsWritable y p.main t lent w lo env sync u q x) PendTerm (next_term p n this env a)
      (λ v hv. (hv, inl s)) (λ v h x g le fx. (fx, inl s)) good)
      (λ (s : (q ≡ NamedCell u) × IsOwnHere t lo env a). good_map p y w t lent hi m0 lo (PendTerm a) (λ v. H q v × IsOwnAt t lo v)
      (λ v. H q v × W lo sync u q v) (λ v h x. T here lo q v h x × IsOwnHere t lo env x)
      (λ v h x. T here lo q v h x × IsWritable y p.main t lent w lo env sync u q x) PendTerm (next_term p n this env a)
      (λ v hv. (hv.0, inr (s.0, hv.1))) (λ v h x g le fx. (fx.0, inr (s.0, fx.1))) (place s.1))
      wr

  pub right_assign : (here : FunctionTypes) (lo n : ℕ) (prints : Bool) (env : Env) (s0 : Stmt) (remote : Bool) (a' : Value) (e : Term) (q : Sort)
      (sync : Bool) (u : ValueType) (this : Value) → FineEnv y p.main t lent w here lo hi env → ((k : ℕ) → IsDeclared k s0 → ⊥)
      → IsCell y q sync u → H q a' → W lo sync u q a' → (Old : ℕ → Type 0) → ((b : ℕ) → Old b → PendTerm e b)
      → IsGood p y w t lent hi m0 lo (PendTerm e) (H (Valued u)) (T here lo (Valued u)) PendTerm (next_term p n this env e)
      → IsGood p y w t lent hi m0 lo Old (C here lo env s0) (A here lo prints env s0) P
      (on_ready (next_term p n this env e) (λ x. (env, Assign remote (Val a') x)) (λ k. does n env (Writes remote a' (sent remote k))))
  right_assign here lo n prints env s0 remote a' e q sync u this fine decl cell has wr Old sub good =
      good_within p y w t lent hi m0 lo lo (PendTerm e) Old nowhere (H (Valued u)) (C here lo env s0) (T here lo (Valued u))
      (A here lo prints env s0) PendTerm P (λ x. (env, Assign remote (Val a') x)) (next_term p n this env e)
      (λ k. does n env (Writes remote a' (sent remote k)))
      (in_stmt here lo prints env s0 (Valued u) (PendTerm e) Old (λ x. Assign remote (Val a') x) fine (λ k x d. absurd (decl k d))
      (λ v h x g le fx. (q, sync, u, cell, wr, inr ((a', refl, sort_more w v g y p.main t lent a' q has), fx))) sub (λ x b h. inr h))
      good
      (λ k hk none. last_ask p y w t lent hi m0 lo Old (A here lo prints env s0) P (Writes remote a' (sent remote k)) (λ x. (env, Empty))
      (gift_of [] NoValue) refl refl none (
        q,
        sync,
        u,
        has,
        cell,
        sent_fits w y t lent remote k u (sort_fits w y t lent k u hk),
        ⊎_elim
            (λ (x : sync ≡ true). inl x)
            (λ (x : (q ≡ NamedCell u) × IsOwnAt t lo a'). inr (x.0, x.1, λ i z eq b d. absurd (none b d)))
            wr,
      )
      (λ v x g ans. stay here lo prints env s0 Empty v (hi + 0) g (omega arith) fine (λ j d. absurd (decl j d)) tt))

  pub body_default : (here : FunctionTypes) (lo g : ℕ) (r : Sort) (Old : ℕ → Type 0) → ((b : ℕ) → Old b → ⊥)
      → IsGood p y w t lent hi m0 lo Old (H r) (T here lo r) PendTerm (returns_default p g)
  body_default here lo g r Old none =
      last_ask p y w t lent hi m0 lo Old (T here lo r) PendTerm Leaves (λ x. Val (constant (function p g).default)) (gift_of [] NoValue)
      refl refl none tt (λ u x grows ans. constant_has u y t lent (function p g).default r)

  pub body_ready : (here : FunctionTypes) (lo g : ℕ) (r : Sort) (env0 : Env) (Old : ℕ → Type 0) → r ≡ Valued (function_types y g).result
      → (end : Ending) → Cs (function_types y g) lo env0 end → ((b : ℕ) → Old b → ⊥)
      → IsGood p y w t lent hi m0 lo Old (H r) (T here lo r) PendTerm (body_ends p g end)
  body_ready here lo g r env0 Old e (Falls env) ce none = body_default here lo g r Old none
  body_ready here lo g r env0 Old e (Returns v) ce none =
      (subst (λ s. H s v) (sym e) (fits_sort w y t lent v (function_types y g).result ce), none)
  body_ready here lo g r env0 Old e (Breaks env) ce none = body_default here lo g r Old none
  body_ready here lo g r env0 Old e (Continues env) ce none = body_default here lo g r Old none

  pub branch_ready : (f lo : ℕ) (r : Sort) (env0 : Env) (s0 : Stmt) (Old : ℕ → Type 0) → r ≡ Valued (function_types y f).result
      → (end : Ending) → C (function_types y f) lo env0 s0 end → ((b : ℕ) → Old b → ⊥) → (here : FunctionTypes)
      → IsGood p y w t lent hi m0 lo Old (H r) (T here lo r) PendTerm (branch_ends end)
  branch_ready f lo r env0 s0 Old e (Falls env) ce none here = (tt, none)
  branch_ready f lo r env0 s0 Old e (Returns v) ce none here =
      (subst (λ s. H s v) (sym e) (fits_sort w y t lent v (function_types y f).result ce), none)
  branch_ready f lo r env0 s0 Old e (Breaks env) ce none here = (tt, none)
  branch_ready f lo r env0 s0 Old e (Continues env) ce none here = (tt, none)

  pub c_map : (here : FunctionTypes) (lo : ℕ) (env env0 : Env) (s0 s1 : Stmt) → Keeps t lo env env0
      → ((k : ℕ) → IsDeclared k s1 → IsDeclared k s0) → (end : Ending) → C here lo env0 s0 end → C here lo env s1 end
  c_map here lo env env0 s0 s1 keep decl (Falls e) c = (c.0, (λ k h. c.1 k (keep k h)), λ k d. c.2 k (decl k d))
  c_map here lo env env0 s0 s1 keep decl (Returns v) c = c
  c_map here lo env env0 s0 s1 keep decl (Breaks e) c = (c.0, λ k h. c.1 k (keep k h))
  c_map here lo env env0 s0 s1 keep decl (Continues e) c = (c.0, λ k h. c.1 k (keep k h))

  pub cs_map : (here : FunctionTypes) (lo : ℕ) (env env0 : Env) → Keeps t lo env env0 → (end : Ending) → Cs here lo env0 end → Cs here lo env end
  cs_map here lo env env0 keep (Falls e) c = (c.0, λ k h. c.1 k (keep k h))
  cs_map here lo env env0 keep (Returns v) c = c
  cs_map here lo env env0 keep (Breaks e) c = (c.0, λ k h. c.1 k (keep k h))
  cs_map here lo env env0 keep (Continues e) c = (c.0, λ k h. c.1 k (keep k h))

  pub block_end : (here : FunctionTypes) (lo : ℕ) (env : Env) (ss : Stmts) (end : Ending) → Cs here lo env end → C here lo env (Block ss) end
  block_end here lo env ss (Falls e) c = (c.0, c.1, λ k d. absurd d)
  block_end here lo env ss (Returns v) c = c
  block_end here lo env ss (Breaks e) c = c
  block_end here lo env ss (Continues e) c = c

  -- what follows a statement, with the variables env1
  pub follow : (f lo n : ℕ) (this : Value) (prints : Bool) (env env1 : Env) (s z : Stmt) (Old : ℕ → Type 0) → Keeps t lo env env1
      → ((k : ℕ) → IsDeclared k s → ⊥) → ((b : ℕ) → Old b → PendStmt z b)
      → IsGood p y w t lent hi m0 lo (PendStmt z) (C (function_types y f) lo env1 z) (A (function_types y f) lo prints env1 z) P
      (next_stmt p n this env1 z)
      → IsGood p y w t lent hi m0 lo Old (C (function_types y f) lo env s) (A (function_types y f) lo prints env s) P (next_stmt p n this env1 z)
  follow f lo n this prints env env1 s z Old keep decl sub good =
      good_fewer p y w t lent hi m0 lo (PendStmt z) Old (C (function_types y f) lo env s) (A (function_types y f) lo prints env s) P
      (next_stmt p n this env1 z) sub
      (good_map p y w t lent hi m0 lo (PendStmt z) (C (function_types y f) lo env1 z) (C (function_types y f) lo env s)
      (A (function_types y f) lo prints env1 z) (A (function_types y f) lo prints env s) P (next_stmt p n this env1 z)
      (λ end c. c_map (function_types y f) lo env env1 z s keep (λ k d. absurd (decl k d)) end c)
      (λ v h l g le a. (a.0, (λ k o. a.1 k (keep k o)), (λ k d. absurd (decl k d)), a.3)) good)

  pub turn_ready : (f lo n : ℕ) (this : Value) (prints : Bool) (env : Env) (s z : Stmt) (Old : ℕ → Type 0) (end : Ending)
      → C (function_types y f) lo env s end → ((b : ℕ) → Old b → ⊥)
      → ((env1 : Env) → FineEnv y p.main t lent w (function_types y f) lo hi env1 → Keeps t lo env env1
      → IsGood p y w t lent hi m0 lo (PendStmt z) (C (function_types y f) lo env1 z) (A (function_types y f) lo prints env1 z) P
      (next_stmt p n this env1 z))
      → IsGood p y w t lent hi m0 lo Old (C (function_types y f) lo env (Turn s z)) (A (function_types y f) lo prints env (Turn s z)) P
      (turn_ends end (λ e. next_stmt p n this e z))
  turn_ready f lo n this prints env s z Old (Falls e) ce none again =
      follow f lo n this prints env e (Turn s z) z Old ce.1 (λ k d. d) (λ b h. absurd (none b h)) (again e ce.0 ce.1)
  turn_ready f lo n this prints env s z Old (Returns v) ce none again = (ce, none)
  turn_ready f lo n this prints env s z Old (Breaks e) ce none again = ((ce.0, ce.1, λ k d. absurd d), none)
  turn_ready f lo n this prints env s z Old (Continues e) ce none again =
      follow f lo n this prints env e (Turn s z) z Old ce.1 (λ k d. d) (λ b h. absurd (none b h)) (again e ce.0 ce.1)

  pub list_ready : (f lo n : ℕ) (this : Value) (prints : Bool) (env : Env) (s : Stmt) (ss : Stmts) (Old : ℕ → Type 0) (end : Ending)
      → C (function_types y f) lo env s end → ((b : ℕ) → Old b → ⊥)
      → ((env1 : Env) → FineEnv y p.main t lent w (function_types y f) lo hi env1 → Keeps t lo env env1
      → ((k : ℕ) → IsDeclared k s → IsOwnAt t lo (variable env1 k Null))
      → IsGood p y w t lent hi m0 lo (PendStmts ss) (Cs (function_types y f) lo env1) (As (function_types y f) lo prints env1) Ps
      (next_stmts p n this env1 ss))
      → IsGood p y w t lent hi m0 lo Old (Cs (function_types y f) lo env) (As (function_types y f) lo prints env) Ps
      (and_then end (λ e. next_stmts p n this e ss))
  list_ready f lo n this prints env s ss Old (Falls e) ce none again =
      good_fewer p y w t lent hi m0 lo (PendStmts ss) Old (Cs (function_types y f) lo env) (As (function_types y f) lo prints env) Ps
      (next_stmts p n this e ss) (λ b h. absurd (none b h))
      (good_map p y w t lent hi m0 lo (PendStmts ss) (Cs (function_types y f) lo e) (Cs (function_types y f) lo env)
      (As (function_types y f) lo prints e) (As (function_types y f) lo prints env) Ps (next_stmts p n this e ss)
      (λ end c. cs_map (function_types y f) lo env e ce.1 end c)
      (λ v h l g le a. (a.0, (λ k o. a.1 k (ce.1 k o)), a.2)) (again e ce.0 ce.1 ce.2))
  list_ready f lo n this prints env s ss Old (Returns v) ce none again = (ce, none)
  list_ready f lo n this prints env s ss Old (Breaks e) ce none again = (ce, none)
  list_ready f lo n this prints env s ss Old (Continues e) ce none again = (ce, none)

  pub known_of : (lo top : ℕ) (o : Name) (x : ℕ) (a : Option Target) → IsEntryOf y p.main t lent w lo top o x a
      → (b : ObjectType) × (fin.get w.types o ≡ Some b)
  known_of lo top o x None h = absurd h
  known_of lo top o x (Some (Cells false u)) h = (Named u, h.0)
  known_of lo top o x (Some (Cells true u)) h = (Uniform true u, h)
  known_of lo top o x (Some (ObjectOf c)) h = (Instance c, h.0)

  pub made_of : (k line : ℕ) (value : Term) (body : Stmt) (made : List ℕ) (test : Term) (z : Stmt) → z ≡ Forks k test line value body made test
      → (b : ℕ) → (PendTerm test b → ⊥) → PendStmt z b → IsAmong b made
  made_of k line value body made test z e b quiet h = ⊎_elim
      (λ (x : PendTerm test b). absurd (quiet x)) (λ (x : IsAmong b made). x) (subst (λ q. PendStmt q b) e h)

  pub at_env : (here : FunctionTypes) (lo mark : ℕ) → mark ≤ hi → (this : Value) (env : Env) → FineEnv y p.main t lent w here lo hi env
      → IsThis y p.main t lent w here this → Here here mark this env
  at_env here lo mark low this env fine it = record { low = low; reads = reads_of p y det w t lent hi m0 here lo env fine; is_this = it }

  pub loop_own : (mark : ℕ) (z : Value) → ((o : Name) (x : ℕ) → z ≡ Ptr o x → o ≡ mark ∷ t) → IsOwnAt t mark z
  loop_own mark Void h = tt
  loop_own mark (Int n) h = tt
  loop_own mark Null h = tt
  loop_own mark (Ptr o x) h = (mark, h o x refl, omega arith)

  -- a parfor begins
  pub parfor_after : (f lo : ℕ) → lo ≤ hi → (prints : Bool) (env : Env) (s0 : Stmt) (k : ℕ) (u : ValueType) (test : Term) (q : Sort) (line : ℕ)
      (value : Term) (s : Stmt) → slice_get (function_types y f).vars k ≡ Some (Cells false u) → D (function_types y f) test q
      → D (function_types y f) value (Valued u) → DetStmt y p.main (function_types y f) false (k ∷ []) s
      → ((j : ℕ) → IsDeclared j s0 → ⊥) → FineEnv y p.main t lent w (function_types y f) lo hi env → (v : World) → Grows w v
      → (xs : List Value) → AreMade v t hi (Named u ∷ []) xs
      → A (function_types y f) lo prints env s0 v (hi + 1) (set env k (first xs), Forks k test line value s [] test)
  parfor_after f lo low prints env s0 k u test q line value s typed dtest dvalue dbody decl fine v g xs made =
      let here = function_types y f in
      let a = made_after here lo low prints env s0 k (Cells false u) typed (λ j d. absurd (decl j d)) fine v g xs made in
      let m = first_made v t hi (Named u) [] xs made in (
        a.0,
        a.1,
        (λ j d. absurd (decl j d)),
        (
          hi,
          q,
          term_of y p.main t lent v here hi (hi + 1) test q dtest,
          record {
            low = low;
            high = omega arith;
            type = u;
            typed = typed;
            own = λ o x e. ⊎_elim
                (λ (h : variable (set env k (first xs)) k Null ≡ first xs). same_pointer o (hi ∷ t) x 0 (sym e ∙ (h ∙ m.0)))
                (λ (h : variable (set env k (first xs)) k Null ≡ Null). absurd (null_no_pointer o x (sym h ∙ e)))
                (set_here env k (first xs));
            older = λ j ne.
                subst (λ z. IsEntry y p.main t lent v lo hi z (slice_get here.vars j)) (sym (set_other env k j (first xs) ne))
                (entry_more w v g y p.main t lent lo hi hi (omega arith) (variable env j Null) (slice_get here.vars j) (fine j));
            marked = λ b i. absurd i;
            test_sort = q;
            test_fine = dtest;
            value_fine = dvalue;
            body_fine = dbody;
          },
        ),
      )

  module _ (f lo : ℕ) (this : Value) (env : Env) (k : ℕ) (test : Term) (line : ℕ) (value : Term) (s : Stmt) (made : List ℕ) (mark : ℕ)
      (loop : IsLoop y p.main t lent w (function_types y f) lo hi env k test line value s made mark) where
    abbrev pub each_names : List Name
    each_names = names_in (set env k Null)

    abbrev pub each_kin : Kin
    each_kin = fork_kin f mark (set env k Null)

    pub each_loop : (v : World) → Grows w v → (more : List ℕ) → ((b : ℕ) → IsAmong b more → fin.get v.kin (b ∷ t) ≡ Some each_kin)
        → IsLoop y p.main t lent v (function_types y f) lo (hi + 0) env k test line value s (more ++ made) mark
    each_loop v g more kin =
        let l = loop_more w v g y p.main t lent (function_types y f) lo hi (hi + 0) (omega arith) env k test line value s made mark loop in
        record {
          low = l.low;
          high = l.high;
          type = l.type;
          typed = l.typed;
          own = l.own;
          older = l.older;
          marked = λ b i. ⊎_elim
              (λ (j : IsAmong b more). (each_kin, kin b j, omega arith))
              (λ (j : IsAmong b made). l.marked b j)
              (append_among b more made i);
          test_sort = l.test_sort;
          test_fine = l.test_fine;
          value_fine = l.value_fine;
          body_fine = l.body_fine;
        }

    pub each_lends : (o : Name) (u : ValueType) → IsNameIn o each_names → fin.get w.types o ≡ Some (Named u)
        → ((i : ℕ) × (o ≡ i ∷ t) × (i < mark)) ⊎ IsNameIn o lent
    each_lends o u h named =
        let at = name_at (set env k Null) o h in
        ⊎_elim
        (λ (e : at.0 ≡ k). absurd (not_set env k o at.1 (subst (λ j. variable (set env k Null) j Null ≡ Ptr o at.1) e at.2)))
        (λ (ne : at.0 ≢ k).
        older_one lo mark o at.1 (slice_get (function_types y f).vars at.0) u
        (subst (λ z. IsEntry y p.main t lent w lo mark z (slice_get (function_types y f).vars at.0)) (sym (set_other env k at.0 Null ne) ∙ at.2)
        (loop.older at.0 ne)) named)
        (cases_number at.0 k)

    pub each_known : (o : Name) → IsNameIn o each_names → (b : ObjectType) × (fin.get w.types o ≡ Some b)
    each_known o h =
        let at = name_at (set env k Null) o h in
        ⊎_elim
        (λ (e : at.0 ≡ k). absurd (not_set env k o at.1 (subst (λ j. variable (set env k Null) j Null ≡ Ptr o at.1) e at.2)))
        (λ (ne : at.0 ≢ k).
        known_of lo mark o at.1 (slice_get (function_types y f).vars at.0)
        (subst (λ z. IsEntry y p.main t lent w lo mark z (slice_get (function_types y f).vars at.0)) (sym (set_other env k at.0 Null ne) ∙ at.2)
        (loop.older at.0 ne)))
        (cases_number at.0 k)

    pub each_kid : (v : World) → Grows w v → IsThis y p.main t lent w (function_types y f) this → (xs : List Value)
        → AreMade v (m0 ∷ t) 0 (Named loop.type ∷ []) xs
        → FineTerm y p.main (m0 ∷ t) each_names v no_types 0 1 (Branch this (set env k (first xs)) s) (Valued (function_types y f).result)
    each_kid v g it xs made' =
        let m = first_made v (m0 ∷ t) 0 (Named loop.type) [] xs made' in
        let vars = (function_types y f).vars in
        let own : IsOwnAt (m0 ∷ t) 0 (variable (set env k (first xs)) k Null) = ⊎_elim
        (λ (e : variable (set env k (first xs)) k Null ≡ first xs).
        own_made y p.main (m0 ∷ t) each_names v 0 1 0 (omega arith) (omega arith) (variable (set env k (first xs)) k Null) (e ∙ m.0))
        (λ (e : variable (set env k (first xs)) k Null ≡ Null). subst (IsOwnAt (m0 ∷ t) 0) (sym e) tt)
        (set_here env k (first xs)) in (
          f,
          refl,
          this_there f this (m0 ∷ t) each_names v g it,
          (λ j. ⊎_elim
              (λ (e : j ≡ k). subst (λ i. IsEntry y p.main (m0 ∷ t) each_names v 0 1 (variable (set env k (first xs)) i Null) (slice_get vars i)) (sym e)
              (⊎_elim
              (λ (h : variable (set env k (first xs)) k Null ≡ first xs).
              entry_made y p.main (m0 ∷ t) each_names v 0 1 0 (omega arith) (omega arith) (variable (set env k (first xs)) k Null)
              (slice_get vars k) (Cells false loop.type) (h ∙ m.0) loop.typed m.1)
              (λ (h : variable (set env k (first xs)) k Null ≡ Null).
              subst (λ z. IsEntry y p.main (m0 ∷ t) each_names v 0 1 z (slice_get vars k)) (sym h) tt)
              (set_here env k (first xs))))
              (λ (ne : j ≢ k).
              subst (λ z. IsEntry y p.main (m0 ∷ t) each_names v 0 1 z (slice_get vars j)) (sym (set_other env k j (first xs) ne))
              (lent_entry (m0 ∷ t) each_names lo mark 1 v g (variable env j Null) (slice_get vars j) (loop.older j ne)
              (λ o x e. name_there (set env k Null) j o x (set_other env k j Null ne ∙ e))))
              (cases_number j k)),
          stmt_of y p.main (m0 ∷ t) each_names v (function_types y f) 0 1 false (k ∷ []) (set env k (first xs)) s
              (λ j i. ⊎_elim
              (λ (e : j ≡ k). subst (λ q. IsOwnAt (m0 ∷ t) 0 (variable (set env k (first xs)) q Null)) (sym e) own)
              (λ (z : ⊥). absurd z)
              i)
              loop.body_fine,
        )

  -- the last part of a parfor's header
  abbrev pub FH : ℕ → ℕ → Env → ℕ → ValueType → World → ℕ → (Env × Stmt) → Type 0
  FH f mark env k u v h l = (l.0 ≡ env) × FineHeader y p.main t lent v (function_types y f) mark h env k u l.1

  pub header_assign : (f mark n : ℕ) (this : Value) (env : Env) (k : ℕ) (u : ValueType) (e : Term)
      → IsOwnAt t mark (variable env k Null) → H (NamedCell u) (variable env k Null)
      → IsGood p y w t lent hi m0 mark (PendTerm e) (H (Valued u)) (T (function_types y f) mark (Valued u)) PendTerm (next_term p n this env e)
      → IsGood p y w t lent hi m0 mark (λ b. ⊥ ⊎ PendTerm e b) (λ end. end ≡ Falls env) (FH f mark env k u) P
      (on_ready (next_term p n this env e) (λ x. (env, Assign false (Val (variable env k Null)) x))
      (λ j. does n env (Writes false (variable env k Null) (sent false j))))
  header_assign f mark n this env k u e own has good =
      good_within p y w t lent hi m0 mark mark (PendTerm e) (λ b. ⊥ ⊎ PendTerm e b) nowhere (H (Valued u)) (λ end. end ≡ Falls env)
      (T (function_types y f) mark (Valued u)) (FH f mark env k u) PendTerm P (λ x. (env, Assign false (Val (variable env k Null)) x))
      (next_term p n this env e) (λ j. does n env (Writes false (variable env k Null) (sent false j)))
      (plain p y w t lent hi m0 mark (PendTerm e) (λ b. ⊥ ⊎ PendTerm e b) (T (function_types y f) mark (Valued u)) (FH f mark env k u) PendTerm P
      (λ x. (env, Assign false (Val (variable env k Null)) x))
      (λ v h x g le fx. (refl, (refl, inr refl, fx)))
      (λ b h. ⊎_elim (λ (z : ⊥). absurd z) (λ (z : PendTerm e b). z) h) (λ x b h. inr h))
      good
      (λ j hj none. last_ask p y w t lent hi m0 mark (λ b. ⊥ ⊎ PendTerm e b) (FH f mark env k u) P
      (Writes false (variable env k Null) (sent false j)) (λ x. (env, Empty)) (gift_of [] NoValue) refl refl none (
        NamedCell u,
        false,
        u,
        has,
        (refl, refl),
        sent_fits w y t lent false j u (sort_fits w y t lent j u hj),
        inr (refl, own, λ i z eq b d. absurd (none b d)),
      )
      (λ v x g ans. (refl, tt)))

  pub par_known : (f lo : ℕ) (env : Env) → FineEnv y p.main t lent w (function_types y f) lo hi env → (o : Name) → IsNameIn o (names_in env)
      → (b : ObjectType) × (fin.get w.types o ≡ Some b)
  par_known f lo env fine o h =
      let at = name_at env o h in
      known_of lo hi o at.1 (slice_get (function_types y f).vars at.0)
      (subst (λ z. IsEntry y p.main t lent w lo hi z (slice_get (function_types y f).vars at.0)) at.2 (fine at.0))
