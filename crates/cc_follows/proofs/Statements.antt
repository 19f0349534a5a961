-- The code of statements follows them.
use Rattle.std.proofs.Common.{◌≡◌, ℕ, zero, suc, List, [], ◌∷◌, ◌++◌, length, Bool, false, refl}
use Rattle.std.proofs.Common.{sym, ap, ◌∙◌, subst}
use Rattle.std.specs.Prelude.{if◌then◌else◌, set}
use Rattle.cc_ops.specs.Values.{is_zero, first}
use Rattle.cc_ops.specs.declared.kind.Kind.TheVariants.{Int as IntK}
use Rattle.cc_core.specs.Names.{Name, Value}
use Rattle.cc_core.specs.Core.{Env, Term, Variable, Branch, Stmt, Empty}
use Rattle.cc_core.specs.Core.{AtLine, Make, Set, Build, Assign, Drop, Print, If, IfElse, While, For, Break, Continue, Par, ParFor}
use Rattle.cc_core.specs.Core.{Spawn, Return, Block, Turn, Forks, Each, Wait, Left, Stmts, NoStmts, MoreStmts, Program}
use Rattle.cc_core.specs.Core.{class_shape}
use Rattle.cc_core.specs.Asks.{ForksAll, Tests}
use Rattle.cc_core.specs.Source.{operands, values}
use Rattle.cc_core.specs.Next.{Next, Ready, Asks, on_ready, just, Ending, Falls, Breaks, Continues}
use Rattle.cc_core.specs.Next.{branch_ends, branches, how_many, and_then, for_turn, header_step, spawn_ask}
use Rattle.cc_core.specs.Next.{next_term, next_terms, next_stmt, next_stmts, next}
use Rattle.cc_code.specs.Code.{DropI, JumpI, EndI, StoreI, TestI, MakeI, SetI, BuildI, SpawnI, RetI, ForkI}
use Rattle.cc_code.specs.Code.{EachI, JoinI, PrintI, Code, Frame, Runs, Finished, pushed}
use Rattle.cc_code.specs.Code.{frame, branch_at, branches_at}
use Rattle.cc_code.specs.Layout.{end_term, end_terms, end_stmt, end_stmts, end_branches, targets, Loop, NoLoop, In}
use Rattle.cc_code.specs.Stands.{Has, BreakStands, ContinueStands, TermStands, StmtStands, StmtsStand, BranchesStand}
use Rattle.cc_code.specs.Stands.{ForksStand}
use Rattle.cc_code.specs.Agrees.{Follows, AllAgree, ProgramStands}
use Rattle.cc_follows.proofs.Parts.{shorter, Context, thread, popped_all, back, by_instr, inside, chosen}
use Rattle.cc_follows.proofs.Terms.{LoopGoes, Goes, Good, no_loop, term_follows, terms_follow}

module _ (p : Program) (code : Code) where
  less_loop : (m : ℕ) (this : Value) (fs : List (Frame Name)) (base : List Value) (rest : Ending → Next Value Term) (l : Loop)
      → LoopGoes p code (suc m) this fs base rest l → LoopGoes p code m this fs base rest l
  less_loop zero this fs base rest l h = tt
  less_loop (suc m) this fs base rest NoLoop h = tt
  less_loop (suc m) this fs base rest (In out again) h = (λ env. shorter p code m _ _ (h.0 env), λ env. shorter p code m _ _ (h.1 env))

  same_loop : (m : ℕ) (this : Value) (fs : List (Frame Name)) (base : List Value) (rest rest' : Ending → Next Value Term) (l : Loop)
      → ((env : Env) → rest (Breaks env) ≡ rest' (Breaks env)) → ((env : Env) → rest (Continues env) ≡ rest' (Continues env))
      → LoopGoes p code (suc m) this fs base rest l → LoopGoes p code (suc m) this fs base rest' l
  same_loop m this fs base rest rest' NoLoop e d h = tt
  same_loop m this fs base rest rest' (In out again) e d h = (
    λ env. subst (λ n. Follows p code m n (Runs (frame this env [] out) fs base)) (e env) (h.0 env),
    λ env. subst
        (λ n. Follows p code m n (Runs (frame this env [] again) fs base)) (d env) (h.1 env),
  )

  less : (m : ℕ) (this : Value) (fs : List (Frame Name)) (base : List Value) (l : Loop) (end : ℕ) (rest : Ending → Next Value Term)
      → Goes p code (suc m) this fs base l end rest → Goes p code m this fs base l end rest
  less m this fs base l end rest h =
      record {
        falls = λ env. shorter p code m _ _ (h.falls env);
        returns = λ v. shorter p code m _ _ (h.returns v);
        loop = less_loop m this fs base rest l h.loop;
      }

  how_many_targets : (b : ℕ) (ss : Stmts) → how_many ss ≡ length (targets b ss)
  how_many_targets b NoStmts = refl
  how_many_targets b (MoreStmts s ss) = ap suc (how_many_targets (suc (end_stmt b s)) ss)

module _ (p : Program) (code : Code) (stands : ProgramStands p code) (m : ℕ) (good : Good p code m) where
  -- an assignment, in any frame
  assign_follows : (remote : Bool) (a e : Term) (n : ℕ) (f : Frame Name) (fs : List (Frame Name)) (b : ℕ) (ops : List Value)
      (K : Env × Stmt → Term) (rest : Ending → Next Value Term)
      → Context p (λ (z : Env × Stmt). next_stmt p n f.this z.0 z.1) K rest → TermStands code n b a
      → TermStands code n (end_term b a) e → Has code n (end_term (end_term b a) e) (StoreI remote)
      → Follows p code (suc m) (rest (Falls f.vars)) (thread f fs (suc (end_term (end_term b a) e)) ops)
      → Follows p code (suc m) (on_ready (next_stmt p n f.this f.vars (Assign remote a e)) K rest) (thread f fs b ops)
  assign_follows remote a e n f fs b ops K rest x s s' at h =
      let T = next_term p n f.this f.vars in
      let S = λ (z : Env × Stmt). next_stmt p n f.this z.0 z.1 in
      inside p code (suc m) T S _ _ _ _ a (thread f fs b ops) (λ a'. refl) x
      (λ x'. term_follows p code stands m good a n f fs b ops _ _ x' s (λ v.
      inside p code (suc m) T S _ _ _ _ e (thread f fs (end_term b a) (v ∷ ops)) (λ a'. refl) x
      (λ x''. term_follows p code stands m good e n f fs (end_term b a) (v ∷ ops) _ _ x'' s' (λ w.
      by_instr p code m _ f fs n (end_term (end_term b a) e) (w ∷ v ∷ ops) (StoreI remote) at
      (refl, refl, λ y. (back p code m S K rest x (f.vars, Empty) _ (shorter p code m _ _ h), tt))))))

  -- a branch
  branch_follows : (this : Value) (env : Env) (b : ℕ) (s : Stmt) (n : ℕ) → StmtStands code 0 NoLoop b s
      → Has code n (end_stmt b s) EndI → Follows p code m (next p (Branch this env s)) (branch_at this env b)
  branch_follows this env b s n h at =
      let S = λ (z : Env × Stmt). next_stmt p 0 this z.0 z.1 in
      let K : Env × Stmt → Term = λ z. Branch this z.0 z.1 in
      let x : Context p S K branch_ends = record { same = λ a. refl } in
      let left : (v : Value) → Follows p code m (Ready v) (Finished v) = λ v. shorter p code m _ _ (refl) in
      good.stmt 0 this env [] [] NoLoop b s K branch_ends x h (record {
        falls =
            λ env'. shorter p code m _ _ (by_instr p code m _ (frame this env' [] (end_stmt b s)) [] n
            (end_stmt b s) [] EndI at refl);
        returns = λ v. left v;
        loop = no_loop p code m _ _ _ _;
      })

  branches_follow : (this : Value) (env : Env) (b : ℕ) (ss : Stmts) (n : ℕ) → BranchesStand code n b ss
      → AllAgree p (Follows p code m) (branches this env ss) (branches_at this env (targets b ss))
  branches_follow this env b NoStmts n h = tt
  branches_follow this env b (MoreStmts s ss) n h =
      (branch_follows this env b s n h.0 h.1, branches_follow this env (suc (end_stmt b s)) ss n h.2)

  wait_follows : (n : ℕ) (this : Value) (env : Env) (made : List ℕ) (fs : List (Frame Name)) (base : List Value) (b : ℕ)
      (K : Env × Stmt → Term) (rest : Ending → Next Value Term)
      → Context p (λ (z : Env × Stmt). next_stmt p n this z.0 z.1) K rest → Has code n b JoinI
      → Follows p code (suc m) (rest (Falls env)) (Runs (frame this env [] (suc b)) fs base)
      → Follows p code (suc m) (on_ready (next_stmt p n this env (Wait made)) K rest) (Runs (frame this env made b) fs base)
  wait_follows n this env made fs base b K rest x at h =
      by_instr p code m _ (frame this env made b) fs n b base JoinI at (
        refl,
        refl,
        λ y. (
          back p code m (λ (z : Env × Stmt). next_stmt p n this z.0 z.1) K rest x (env, Empty) _
              (shorter p code m _ _ h),
          tt,
        ),
      )

  break_follows : (l : Loop) (n : ℕ) (this : Value) (env : Env) (fs : List (Frame Name)) (base : List Value) (b end : ℕ)
      (rest : Ending → Next Value Term)
      → BreakStands code n l b → Goes p code (suc m) this fs base l end rest
      → Follows p code (suc m) (rest (Breaks env)) (Runs (frame this env [] b) fs base)
  break_follows NoLoop n this env fs base b end rest s h = absurd s
  break_follows (In out again) n this env fs base b end rest s h =
      by_instr p code m _ (frame this env [] b) fs n b base (JumpI out) s (h.loop.0 env)

  continue_follows : (l : Loop) (n : ℕ) (this : Value) (env : Env) (fs : List (Frame Name)) (base : List Value) (b end : ℕ)
      (rest : Ending → Next Value Term)
      → ContinueStands code n l b → Goes p code (suc m) this fs base l end rest
      → Follows p code (suc m) (rest (Continues env)) (Runs (frame this env [] b) fs base)
  continue_follows NoLoop n this env fs base b end rest s h = absurd s
  continue_follows (In out again) n this env fs base b end rest s h =
      by_instr p code m _ (frame this env [] b) fs n b base (JumpI again) s (h.loop.1 env)

  -- the loop of a parfor
  pub forks_follow : (n : ℕ) (this : Value) (env : Env) (made : List ℕ) (fs : List (Frame Name)) (base : List Value) (b k : ℕ)
      (test : Term) (line : ℕ) (e : Term) (s : Stmt) (jump : ℕ) (K : Env × Stmt → Term) (rest : Ending → Next Value Term)
      → Context p (λ (z : Env × Stmt). next_stmt p n this z.0 z.1) K rest
      → ForksStand code n b k test line e s jump (StmtStands code 0 NoLoop (suc jump) s)
      → ((env' : Env) → Follows p code (suc m) (rest (Falls env'))
      (Runs (frame this env' [] (suc (suc (end_stmt (suc jump) s)))) fs base))
      → Follows p code (suc m) (on_ready (next_stmt p n this env (Forks k test line e s made test)) K rest)
      (Runs (frame this env made b) fs base)
  forks_follow n this env made fs base b k test line e s jump K rest x st h =
      let T = next_term p n this env in
      let S = λ (z : Env × Stmt). next_stmt p n this z.0 z.1 in
      let L = λ (z : Env × Stmt). next_stmt p line this z.0 z.1 in
      let f = frame this env made b in
      let each = suc (end_term b test) in
      let out = suc (end_stmt (suc jump) s) in
      let later : (made' : List ℕ) → Follows p code m (on_ready (next_stmt p n this env (Forks k test line e s made' test)) K rest)
      (Runs (frame this env made' b) fs base) =
      λ made'. good.forks n this env made' fs base b k test line e s jump K rest x st (λ env'. shorter p code m _ _ (h env')) in
      let jumped : (made' : List ℕ) → Follows p code (suc m)
      (on_ready (next_stmt p n this env (Forks k test line e s made' test)) K rest)
      (Runs (frame this env made' (suc (end_term (suc (suc each)) e))) fs base) =
      λ made'. by_instr p code m _ (frame this env made' each) fs n _ base (JumpI b)
      (subst (λ j. Has code n j (JumpI b)) st.is_jump st.jumps) (later made') in
      let stepped : (made' : List ℕ) → Follows p code (suc m)
      (on_ready (next_stmt p n this env (Turn (header_step k line e) (Forks k test line e s made' test))) K rest)
      (Runs (frame this env made' (suc each)) fs base) =
      λ made'. inside p code (suc m) S S _ _ _ _ (env, header_step k line e) (Runs (frame this env made' (suc each)) fs base)
      (λ a'. refl) x (λ x''.
      inside p code (suc m) L S _ _ _ _ (env, Assign false (Variable k) e) (Runs (frame this env made' (suc each)) fs base)
      (λ a'. refl) x'' (λ x'''.
      assign_follows false (Variable k) e line (frame this env made' (suc each)) fs
      (suc each) base _ _ x''' st.place st.amount st.stores (jumped made'))) in
      let forked : Follows p code (suc m) (on_ready (next_stmt p n this env (Each k test line e s made)) K rest)
      (Runs (frame this env made each) fs base) =
      by_instr p code m _ f fs n each base (EachI (suc jump) k) st.each (
        refl,
        refl,
        λ z. (
          back p code m S K rest x (env, Turn (header_step k line e) (Forks k test line e s (z.made ++ made) test)) _
              (shorter p code m _ _ (stepped (z.made ++ made))),
          (branch_follows this (set env k (first z.values)) (suc jump) s n st.branch st.ends, tt),
        ),
      ) in
      inside p code (suc m) T S _ _ _ _ test (thread f fs b base) (λ a'. refl) x
      (λ x'. term_follows p code stands m good test n f fs b base _ _ x' st.tests (λ v.
      by_instr p code m _ f fs n (end_term b test) (v ∷ base) (TestI out) st.chooses (
        refl,
        refl,
        λ y. (
          chosen p code m (is_zero v) (λ t'. K (env, t')) (Wait made) (Each k test line e s made) _ _
              (back p code m S K rest x (env, Wait made) _
              (shorter p code m _ _ (wait_follows n this env made fs base out K rest x st.joins (h env))))
              (back p code m S K rest x (env, Each k test line e s made) _ (shorter p code m _ _ forked)),
          tt,
        ),
      )))

  -- a test, and both ways to go on
  tested : (c : Term) (F : Term → Stmt) (other one : Stmt) (n : ℕ) (this : Value) (env : Env) (fs : List (Frame Name))
      (base : List Value) (b to : ℕ) (K : Env × Stmt → Term) (rest : Ending → Next Value Term)
      → Context p (λ (z : Env × Stmt). next_stmt p n this z.0 z.1) K rest
      → ((c' : Term) → next_stmt p n this env (F c')
      ≡ on_ready (next_term p n this env c') (λ c''. (env, F c''))
      (λ v. Asks n Tests (λ y. just (env, if is_zero v then other else one))))
      → TermStands code n b c → Has code n (end_term b c) (TestI to)
      → Follows p code (suc m) (on_ready (next_stmt p n this env other) K rest) (Runs (frame this env [] to) fs base)
      → Follows p code (suc m) (on_ready (next_stmt p n this env one) K rest) (Runs (frame this env [] (suc (end_term b c))) fs base)
      → Follows p code (suc m) (on_ready (on_ready (next_term p n this env c) (λ c''. (env, F c''))
      (λ v. Asks n Tests (λ y. just (env, if is_zero v then other else one)))) K rest) (Runs (frame this env [] b) fs base)
  tested c F other one n this env fs base b to K rest x e s at h g =
      let T = next_term p n this env in
      let S = λ (z : Env × Stmt). next_stmt p n this z.0 z.1 in
      let f = frame this env [] b in
      inside p code (suc m) T S (λ c'. (env, F c')) (λ v. Asks n Tests (λ y. just (env, if is_zero v then other else one))) K rest c
      (thread f fs b base) e x (λ x'. term_follows p code stands m good c n f fs b base _ _ x' s (λ v.
      by_instr p code m _ f fs n (end_term b c) (v ∷ base) (TestI to) at (
        refl,
        refl,
        λ y. (
          chosen p code m (is_zero v) (λ t. K (env, t)) other one _ _
              (back p code m S K rest x (env, other) _ (shorter p code m _ _ h))
              (back p code m S K rest x (env, one) _ (shorter p code m _ _ g)),
          tt,
        ),
      )))

  mutual
    pub stmt_follows : (s : Stmt) (n : ℕ) (this : Value) (env : Env) (fs : List (Frame Name)) (base : List Value) (l : Loop) (b : ℕ)
        (K : Env × Stmt → Term) (rest : Ending → Next Value Term)
        → Context p (λ (z : Env × Stmt). next_stmt p n this z.0 z.1) K rest → StmtStands code n l b s
        → Goes p code (suc m) this fs base l (end_stmt b s) rest
        → Follows p code (suc m) (on_ready (next_stmt p n this env s) K rest) (Runs (frame this env [] b) fs base)
    stmt_follows Empty n this env fs base l b K rest x s h = h.falls env
    stmt_follows (AtLine line t) n this env fs base l b K rest x s h =
        let S = λ (z : Env × Stmt). next_stmt p n this z.0 z.1 in
        let L = λ (z : Env × Stmt). next_stmt p line this z.0 z.1 in
        inside p code (suc m) L S _ _ _ _ (env, t) (Runs (frame this env [] b) fs base) (λ a'. refl) x
        (λ x'. stmt_follows t line this env fs base l b _ _ x' s h)
    stmt_follows (Make k kind size) n this env fs base l b K rest x s h =
        let S = λ (z : Env × Stmt). next_stmt p n this z.0 z.1 in
        by_instr p code m _ (frame this env [] b) fs n b base (MakeI k kind size) s
        (refl, refl, λ y. (back p code m S K rest x (set env k (first y.values), Empty) _ (shorter p code m _ _ (h.falls _)), tt))
    stmt_follows (Set k kind e) n this env fs base l b K rest x s h =
        let T = next_term p n this env in
        let S = λ (z : Env × Stmt). next_stmt p n this z.0 z.1 in
        let f = frame this env [] b in
        inside p code (suc m) T S _ _ _ _ e (thread f fs b base) (λ a'. refl) x
        (λ x'. term_follows p code stands m good e n f fs b base _ _ x' s.0 (λ v.
        by_instr p code m _ f fs n (end_term b e) (v ∷ base) (SetI k kind) s.1
        (refl, refl, λ y. (back p code m S K rest x (set env k (first y.values), Empty) _ (shorter p code m _ _ (h.falls _)), tt))))
    stmt_follows (Build k c es) n this env fs base l b K rest x s h =
        let M = next_terms p n this env in
        let S = λ (z : Env × Stmt). next_stmt p n this z.0 z.1 in
        let f = frame this env [] b in
        inside p code (suc m) M S _ _ _ _ es (thread f fs b base) (λ a'. refl) x
        (λ x'. terms_follow p code stands m good es n f fs b base _ _ x' s.0 (λ vs e.
        by_instr p code m _ f fs n (end_terms b es) (pushed vs base) (BuildI k c) s.1
        (rw (popped_all vs base (class_shape code.shapes c).params (e ∙ s.2)) (
          refl,
          refl,
          λ y. (
            back p code m S K rest x (set env k (first y.values), Empty) _
                (shorter p code m _ _ (h.falls _)),
            tt,
          ),
        ))))
    stmt_follows (Assign remote a e) n this env fs base l b K rest x s h =
        assign_follows remote a e n (frame this env [] b) fs b base K rest x s.0 s.1 s.2 (h.falls env)
    stmt_follows (Drop e) n this env fs base l b K rest x s h =
        let T = next_term p n this env in
        let S = λ (z : Env × Stmt). next_stmt p n this z.0 z.1 in
        let f = frame this env [] b in
        inside p code (suc m) T S _ _ _ _ e (thread f fs b base) (λ a'. refl) x
        (λ x'. term_follows p code stands m good e n f fs b base _ _ x' s.0 (λ v.
        by_instr p code m _ f fs n (end_term b e) (v ∷ base) DropI s.1 (shorter p code m _ _ (h.falls env))))
    stmt_follows (Print parts es) n this env fs base l b K rest x s h =
        let M = next_terms p n this env in
        let S = λ (z : Env × Stmt). next_stmt p n this z.0 z.1 in
        let f = frame this env [] b in
        inside p code (suc m) M S _ _ _ _ es (thread f fs b base) (λ a'. refl) x
        (λ x'. terms_follow p code stands m good es n f fs b base _ _ x' s.0 (λ vs e.
        by_instr p code m _ f fs n (end_terms b es) (pushed vs base) (PrintI parts) s.1
        (rw (popped_all vs base (values parts) (e ∙ s.2))
        (refl, refl, λ y. (back p code m S K rest x (env, Empty) _ (shorter p code m _ _ (h.falls env)), tt)))))
    stmt_follows (If c t) n this env fs base l b K rest x s h =
        tested c (λ c'. If c' t) Empty t n this env fs base b _ K rest x (λ c'. refl) s.0 s.1
        (h.falls env)
        (stmt_follows t n this env fs base l (suc (end_term b c)) K rest x s.2 h)
    stmt_follows (IfElse c one other) n this env fs base l b K rest x s h =
        let b1 = suc (end_term b c) in
        let b2 = suc (end_stmt b1 one) in
        tested c (λ c'. IfElse c' one other) other one n this env fs base b _ K rest x (λ c'. refl) s.0 s.1
        (stmt_follows other n this env fs base l b2 K rest x s.4 h)
        (stmt_follows one n this env fs base l b1 K rest x s.2
        (record {
          falls =
              λ env'. by_instr p code m _ (frame this env' [] (end_stmt b1 one)) fs n (end_stmt b1 one) base
              (JumpI (end_stmt b2 other)) s.3 (shorter p code m _ _ (h.falls env'));
          returns = h.returns;
          loop = h.loop;
        }))
    stmt_follows (While c t) n this env fs base l b K rest x s h =
        let S = λ (z : Env × Stmt). next_stmt p n this z.0 z.1 in
        let b1 = suc (end_term b c) in
        let b2 = suc (end_stmt b1 t) in
        let again : (env' : Env) → Follows p code m (on_ready (next_stmt p n this env' (While c t)) K rest)
        (Runs (frame this env' [] b) fs base) =
        λ env'. good.stmt n this env' fs base l b (While c t) K rest x s (less p code m this fs base l _ rest h) in
        tested c (λ c'. If c' (Turn t (While c t))) Empty (Turn t (While c t)) n this env fs base b _ K rest x (λ c'. refl) s.0 s.1
        (h.falls env)
        (inside p code (suc m) S S _ _ _ _ (env, t) (Runs (frame this env [] b1) fs base) (λ a'. refl) x
        (λ x''. stmt_follows t n this env fs base (In b2 b) b1 _ _ x'' s.2
        (record {
          falls = λ env'. by_instr p code m _ (frame this env' [] (end_stmt b1 t)) fs n (end_stmt b1 t) base (JumpI b) s.3 (again env');
          returns = h.returns;
          loop = (λ env'. shorter p code m _ _ (h.falls env'), again);
        })))
    stmt_follows (For c step t) n this env fs base l b K rest x s h =
        let S = λ (z : Env × Stmt). next_stmt p n this z.0 z.1 in
        let M = λ (z : Env × Stmts). next_stmts p n this z.0 z.1 in
        let b1 = suc (end_term b c) in
        let b2 = end_stmt b1 t in
        let b3 = suc (end_stmt b2 step) in
        let loop : Stmts = MoreStmts (For c step t) NoStmts in
        let K1 : Env × Stmts → Term = λ z. K (z.0, Block z.1) in
        let stepped : (env' : Env) → Follows p code (suc m) (on_ready (next_stmt p n this env' (Block (MoreStmts step loop))) K rest)
        (Runs (frame this env' [] b2) fs base) =
        λ env'. inside p code (suc m) M S _ _ _ _ (env', MoreStmts step loop) (Runs (frame this env' [] b2) fs base) (λ a'. refl) x (λ x1.
        inside p code (suc m) S M _ _ _ _ (env', step) (Runs (frame this env' [] b2) fs base) (λ a'. refl) x1
        (λ x2. stmt_follows step n this env' fs base NoLoop b2 _ _ x2 s.3
        (record {
          falls = λ env''. by_instr p code m _ (frame this env'' [] (end_stmt b2 step)) fs n (end_stmt b2 step) base (JumpI b) s.4
              (inside p code m S M _ _ _ _ (env'', For c step t) (Runs (frame this env'' [] b) fs base) (λ a'. refl) x1
              (λ x3. good.stmt n this env'' fs base l b (For c step t) _ _ x3 s
              (less p code m this fs base l _ _ (record {
                falls = h.falls;
                returns = h.returns;
                loop = same_loop p code m this fs base
                    rest (λ end. on_ready (and_then end (λ e. next_stmts p n this e NoStmts)) K1 rest) l (λ e. refl)
                    (λ e. refl) h.loop;
              }))));
          returns = h.returns;
          loop = no_loop p code (suc m) this fs base (λ end. on_ready (and_then end (λ e. next_stmts p n this e loop)) K1 rest);
        }))) in
        tested c (λ c'. If c' (for_turn c step t)) Empty (for_turn c step t) n this env fs base b _ K rest x (λ c'. refl) s.0 s.1
        (h.falls env)
        (inside p code (suc m) S S _ _ _ _ (env, t) (Runs (frame this env [] b1) fs base) (λ a'. refl) x
        (λ x''. stmt_follows t n this env fs base (In b3 b2) b1 _ _ x'' s.2
        (record {
          falls = stepped;
          returns = h.returns;
          loop = (λ env'. shorter p code m _ _ (h.falls env'), λ env'. shorter p code m _ _ (stepped env'));
        })))
    stmt_follows Break n this env fs base l b K rest x s h = break_follows l n this env fs base b _ rest s h
    stmt_follows Continue n this env fs base l b K rest x s h = continue_follows l n this env fs base b _ rest s h
    stmt_follows (Par ss) n this env fs base l b K rest x s h =
        let S = λ (z : Env × Stmt). next_stmt p n this z.0 z.1 in
        let bs = suc (suc b) in
        let end = end_branches bs ss in
        by_instr p code m _ (frame this env [] b) fs n b base (ForkI (targets bs ss)) s.0 (
          refl,
          ap ForksAll (how_many_targets p code bs ss),
          λ y. (
            back p code m S K rest x (env, Wait y.made) _ (shorter p code m _ _
                (by_instr p code m _ (frame this env y.made (suc b)) fs n (suc b) base (JumpI end) s.1
                (shorter p code m _ _ (wait_follows n this env y.made fs base end K rest x s.3 (h.falls env))))),
            branches_follow this env bs ss n s.2,
          ),
        )
    stmt_follows (ParFor k start test line e t) n this env fs base l b K rest x s h =
        let T = next_term p n this env in
        let S = λ (z : Env × Stmt). next_stmt p n this z.0 z.1 in
        let f = frame this env [] b in
        let loop = suc (end_term b start) in
        let jump = suc (end_term (suc (suc (suc (end_term loop test)))) e) in
        inside p code (suc m) T S _ _ _ _ start (thread f fs b base) (λ a'. refl) x
        (λ x'. term_follows p code stands m good start n f fs b base _ _ x' s.0 (λ v.
        by_instr p code m _ f fs n (end_term b start) (v ∷ base) (SetI k IntK) s.1 (
          refl,
          refl,
          λ y. (
            back p code m S K rest x (set env k (first y.values), Forks k test line e t [] test) _
                (good.forks n this (set env k (first y.values)) [] fs base loop k test line e t jump K rest x s.2
                (λ env'. shorter p code m _ _ (h.falls env'))),
            tt,
          ),
        )))
    stmt_follows (Spawn how g es) n this env fs base l b K rest x s h =
        let M = next_terms p n this env in
        let S = λ (z : Env × Stmt). next_stmt p n this z.0 z.1 in
        let f = frame this env [] b in
        inside p code (suc m) M S _ _ _ _ es (thread f fs b base) (λ a'. refl) x
        (λ x'. terms_follow p code stands m good es n f fs b base _ _ x' s.0 (λ vs e.
        by_instr p code m _ f fs n (end_terms b es) (pushed vs base) (SpawnI how g) s.1
        (rw (popped_all vs base (operands code.shapes how g) (e ∙ s.2.1)) (
          refl,
          ap (λ w. spawn_ask w how g vs) (sym (stands g s.2.0).shape),
          λ y.
              (back p code m S K rest x (env, Empty) _ (shorter p code m _ _ (h.falls env)), tt),
        ))))
    stmt_follows (Return e) n this env fs base l b K rest x s h =
        let T = next_term p n this env in
        let S = λ (z : Env × Stmt). next_stmt p n this z.0 z.1 in
        let f = frame this env [] b in
        inside p code (suc m) T S _ _ _ _ e (thread f fs b base) (λ a'. refl) x
        (λ x'. term_follows p code stands m good e n f fs b base _ _ x' s.0 (λ v.
        by_instr p code m _ f fs n (end_term b e) (v ∷ base) RetI s.1
        (refl, refl, λ y. (back p code m S K rest x (env, Left v) _ (shorter p code m _ _ (h.returns v)), tt))))
    stmt_follows (Block ss) n this env fs base l b K rest x s h =
        let S = λ (z : Env × Stmt). next_stmt p n this z.0 z.1 in
        let M = λ (z : Env × Stmts). next_stmts p n this z.0 z.1 in
        inside p code (suc m) M S _ _ _ _ (env, ss) (Runs (frame this env [] b) fs base) (λ a'. refl) x
        (λ x'. stmts_follow ss n this env fs base l b _ _ x' s h)
    stmt_follows (Turn t w) n this env fs base l b K rest x s h = absurd s
    stmt_follows (Forks k test line e t made now) n this env fs base l b K rest x s h = absurd s
    stmt_follows (Each k test line e t made) n this env fs base l b K rest x s h = absurd s
    stmt_follows (Wait made) n this env fs base l b K rest x s h = absurd s
    stmt_follows (Left v) n this env fs base l b K rest x s h = absurd s

    pub stmts_follow : (ss : Stmts) (n : ℕ) (this : Value) (env : Env) (fs : List (Frame Name)) (base : List Value) (l : Loop) (b : ℕ)
        (K : Env × Stmts → Term) (rest : Ending → Next Value Term)
        → Context p (λ (z : Env × Stmts). next_stmts p n this z.0 z.1) K rest → StmtsStand code n l b ss
        → Goes p code (suc m) this fs base l (end_stmts b ss) rest
        → Follows p code (suc m) (on_ready (next_stmts p n this env ss) K rest) (Runs (frame this env [] b) fs base)
    stmts_follow NoStmts n this env fs base l b K rest x s h = h.falls env
    stmts_follow (MoreStmts t ss) n this env fs base l b K rest x s h =
        let S = λ (z : Env × Stmt). next_stmt p n this z.0 z.1 in
        let M = λ (z : Env × Stmts). next_stmts p n this z.0 z.1 in
        inside p code (suc m) S M _ _ _ _ (env, t) (Runs (frame this env [] b) fs base) (λ a'. refl) x
        (λ x'. stmt_follows t n this env fs base l b _ _ x' s.0
        (record {
          falls = λ env'. stmts_follow ss n this env' fs base l
              (end_stmt b t) K rest x s.1 h;
          returns = h.returns;
          loop = same_loop p code m this fs base rest
              (λ end. on_ready (and_then end (λ env'. next_stmts p n this env' ss)) K rest) l (λ env'. refl) (λ env'. refl) h.loop;
        }))
