-- The code of expressions follows them.
use Rattle.std.proofs.Common.{◌≡◌, ℕ, zero, suc, ◌<◌, List, [], ◌∷◌, ◌++◌, length, true, false, refl}
use Rattle.std.proofs.Common.{sym, ap, ◌∙◌, subst}
use Rattle.cc_ops.specs.Values.{Void, Null, constant, is_zero, first, resized, moved}
use Rattle.cc_ops.specs.Operators.{takes, truth}
use Rattle.cc_ops.specs.declared.operator.Op.{Op}
use Rattle.cc_ops.specs.declared.operator.Op.TheVariants.{Bool as Bool'}
use Rattle.cc_core.specs.Names.{Name, Value}
use Rattle.cc_core.specs.Core.{Env, How, Alone, On, Remote, Term, Push, This, Variable, Member, Index, At, Load, Unary, Binary, And, Or}
use Rattle.cc_core.specs.Core.{New, NewObject, Call, Val, Body, Branch, Starts, Terms, NoTerms, MoreTerms, MoreCells, Copied, Stmt}
use Rattle.cc_core.specs.Core.{Stmts, Forks, Program, function, class_shape}
use Rattle.cc_core.specs.Asks.{Computes, Leaves}
use Rattle.cc_core.specs.Source.{width, operands}
use Rattle.cc_core.specs.Next.{Next, Asks, on_ready, just, gives, variable, Ending, Falls, Returns, Breaks, Continues}
use Rattle.cc_core.specs.Next.{body_ends, call_ask, entered, called, next_term, next_terms, next_stmt, next_stmts, next}
use Rattle.cc_code.specs.Code.{PushI, ThisI, VariableI, FieldI, IndexI, AtI, LoadI, OpI, AndI, OrI, NewI, NewObjectI, CallI}
use Rattle.cc_code.specs.Code.{CellsI, RetI, Code, entry, Frame, Runs, pushed, at_place}
use Rattle.cc_code.specs.Code.{frame, enter_at, returned, call_left}
use Rattle.cc_code.specs.Layout.{end_call, end_term, end_terms, end_stmt, end_stmts, Loop, NoLoop, In}
use Rattle.cc_code.specs.Stands.{Has, TermStands, TermsStand, StmtStands, StmtsStand, ForksStand, FunctionStands}
use Rattle.cc_code.specs.Agrees.{Follows, ProgramStands}
use Rattle.cc_follows.proofs.Parts.{shorter, Context, within, thread, popped_all, pushed_both, length_cells, back}
use Rattle.cc_follows.proofs.Parts.{by_instr, inside, chosen}

module _ (p : Program) (code : Code) where
  -- one move later, at the places of break and continue: a jump leads there
  abbrev pub LoopGoes : ℕ → Value → List (Frame Name) → List Value → (Ending → Next Value Term) → Loop → Type 0
  LoopGoes zero this fs base rest l = Unit {0}
  LoopGoes (suc n) this fs base rest NoLoop = Unit {0}
  LoopGoes (suc n) this fs base rest (In out again) =
      ((env : Env) → Follows p code n (rest (Breaks env)) (Runs (frame this env [] out) fs base))
      × ((env : Env) → Follows p code n (rest (Continues env)) (Runs (frame this env [] again) fs base))

  -- what holds behind a statement, over the operands base
  pub record Goes (n : ℕ) (this : Value) (fs : List (Frame Name)) (base : List Value) (l : Loop) (end : ℕ)
      (rest : Ending → Next Value Term) : Type 0 where
    pub falls : (env : Env) → Follows p code n (rest (Falls env)) (Runs (frame this env [] end) fs base)
    pub returns : (v : Value) → Follows p code n (rest (Returns v)) (returned v fs base)
    pub loop : LoopGoes n this fs base rest l

  -- for n moves: statements, lists of them, and the loop of a parfor
  pub record Good (n : ℕ) : Type 0 where
    pub stmt : (line : ℕ) (this : Value) (env : Env) (fs : List (Frame Name)) (base : List Value) (l : Loop) (b : ℕ) (s : Stmt)
        (K : Env × Stmt → Term) (rest : Ending → Next Value Term)
        → Context p (λ x. next_stmt p line this x.0 x.1) K rest → StmtStands code line l b s
        → Goes n this fs base l (end_stmt b s) rest
        → Follows p code n (on_ready (next_stmt p line this env s) K rest) (Runs (frame this env [] b) fs base)
    pub stmts : (line : ℕ) (this : Value) (env : Env) (fs : List (Frame Name)) (base : List Value) (l : Loop) (b : ℕ) (ss : Stmts)
        (K : Env × Stmts → Term) (rest : Ending → Next Value Term)
        → Context p (λ x. next_stmts p line this x.0 x.1) K rest → StmtsStand code line l b ss
        → Goes n this fs base l (end_stmts b ss) rest
        → Follows p code n (on_ready (next_stmts p line this env ss) K rest) (Runs (frame this env [] b) fs base)
    pub forks : (line : ℕ) (this : Value) (env : Env) (made : List ℕ) (fs : List (Frame Name)) (base : List Value) (b k : ℕ)
        (test : Term) (at : ℕ) (e : Term) (s : Stmt) (jump : ℕ) (K : Env × Stmt → Term) (rest : Ending → Next Value Term)
        → Context p (λ x. next_stmt p line this x.0 x.1) K rest
        → ForksStand code line b k test at e s jump (StmtStands code 0 NoLoop (suc jump) s)
        → ((env' : Env) → Follows p code n (rest (Falls env'))
        (Runs (frame this env' [] (suc (suc (end_stmt (suc jump) s)))) fs base))
        → Follows p code n (on_ready (next_stmt p line this env (Forks k test at e s made test)) K rest)
        (Runs (frame this env made b) fs base)

  pub no_loop : (n : ℕ) (this : Value) (fs : List (Frame Name)) (base : List Value) (rest : Ending → Next Value Term)
      → LoopGoes n this fs base rest NoLoop
  no_loop zero this fs base rest = tt
  no_loop (suc n) this fs base rest = tt

module _ (p : Program) (code : Code) (stands : ProgramStands p code) (m : ℕ) (good : Good p code m) where
  -- a body behaves at its ends
  body_goes : (f : Frame Name) (fs : List (Frame Name)) (b : ℕ) (ops : List Value) (g : ℕ) → FunctionStands code g (function p g)
      → (this : Value) (K : Term → Term) (n0 : ℕ) (this0 : Value) (env0 : Env) (rest : Value → Next Value Term)
      → Context p (next_term p n0 this0 env0) K rest → ((v : Value) → Follows p code (suc m) (rest v) (thread f fs b (v ∷ ops)))
      → Goes p code m this (at_place f b ∷ fs) ops NoLoop (end_stmts (entry code g) (function p g).body)
      (λ end. on_ready (body_ends p g end) K rest)
  body_goes f fs b ops g st this K n0 this0 env0 rest x h =
      let d = constant (function p g).default in
      let line = (function p g).shape.line in
      let end = end_stmts (entry code g) (function p g).body in
      let left : (env : Env) → Follows p code m (on_ready (Asks line Leaves (λ y. just (Val d))) K rest)
      (thread (frame this env [] (suc end)) (at_place f b ∷ fs) (suc end) (d ∷ ops)) =
      λ env. shorter p code m _ _ (by_instr p code m _ (frame this env [] (suc end)) (at_place f b ∷ fs) line (suc end)
      (d ∷ ops) RetI st.leaves (
        refl,
        refl,
        λ y. (
          back p code m (next_term p n0 this0 env0) K rest x (Val d) _
              (shorter p code m _ _ (h d)),
          tt,
        ),
      )) in
      record {
        falls =
            λ env. shorter p code m _ _ (by_instr p code m _ (frame this env [] end) (at_place f b ∷ fs) line end ops
            (PushI (function p g).default) st.gives (left env));
        returns = λ v. shorter p code m _ _ (h v);
        loop = no_loop p code m _ _ _ _;
      }

  -- a call, after its step
  pub entered_follows : (f : Frame Name) (fs : List (Frame Name)) (b : ℕ) (ops : List Value) (g : ℕ)
      → g < length code.shapes.functions
      → (this : Value) (xs : List Value) (K : Term → Term) (n0 : ℕ) (this0 : Value) (env0 : Env) (rest : Value → Next Value Term)
      → Context p (next_term p n0 this0 env0) K rest → ((v : Value) → Follows p code (suc m) (rest v) (thread f fs b (v ∷ ops)))
      → Follows p code m (next p (K (entered p g this xs))) (Runs (enter_at code g this xs) (at_place f b ∷ fs) ops)
  entered_follows f fs b ops g below this xs K n0 this0 env0 rest x h =
      let st = stands g below in
      let line = (function p g).shape.line in
      let S = λ (l : Env × Stmts). next_stmts p line this l.0 l.1 in
      let body : Env × Stmts → Term = λ l. Body g this l.0 l.1 in
      let inner = within p S (next_term p n0 this0 env0) body (body_ends p g) K rest (λ a. refl) x in
      let env = resized (function p g).shape.vars xs in
      subst (λ w. Follows p code m (next p (K (entered p g this xs)))
      (Runs (frame this (resized w.vars xs) [] (entry code g)) (at_place f b ∷ fs) ops)) (sym st.shape)
      (back p code m S (λ l. K (body l)) (λ end. on_ready (body_ends p g end) K rest) inner (env, (function p g).body) _
      (good.stmts line this env (at_place f b ∷ fs) ops NoLoop (entry code g) (function p g).body (λ l. K (body l))
      (λ end. on_ready (body_ends p g end) K rest) inner st.body (body_goes f fs b ops g st this K n0 this0 env0 rest x h)))

  called_follows : (how : How) (f : Frame Name) (fs : List (Frame Name)) (b : ℕ) (ops : List Value) (g : ℕ)
      → g < length code.shapes.functions
      → (vs xs : List Value) (K : Term → Term) (n0 : ℕ) (this0 : Value) (env0 : Env) (rest : Value → Next Value Term)
      → Context p (next_term p n0 this0 env0) K rest
      → ((v : Value) → Follows p code (suc m) (rest v) (thread f fs (end_call how b) (v ∷ ops)))
      → Follows p code m (next p (K (called p how g vs xs))) (call_left code how g vs xs (at_place f b) fs ops)
  called_follows Alone f fs b ops g below vs xs K n0 this0 env0 rest x h =
      entered_follows f fs (suc b) ops g below Void xs K n0 this0 env0 rest x h
  called_follows On f fs b ops g below vs xs K n0 this0 env0 rest x h =
      entered_follows f fs (suc b) ops g below (first vs) xs K n0 this0 env0 rest x h
  called_follows Remote f fs b ops g below vs xs K n0 this0 env0 rest x h =
      back p code m (next_term p n0 this0 env0) K rest x (Val (first xs)) _ (shorter p code m _ _ (h (first xs)))

  -- behind an ask whose answer is the value
  value_back : (f : Frame Name) (fs : List (Frame Name)) (b : ℕ) (ops : List Value) (K : Term → Term) (n : ℕ) (this : Value)
      (env : Env) (rest : Value → Next Value Term)
      → Context p (next_term p n this env) K rest → ((v : Value) → Follows p code (suc m) (rest v) (thread f fs b (v ∷ ops)))
      → (v : Value) → Follows p code m (next p (K (Val v))) (thread f fs b (v ∷ ops))
  value_back f fs b ops K n this env rest x h v = back p code m (next_term p n this env) K rest x (Val v) _ (shorter p code m _ _ (h v))

  -- an operator on one value
  unary_follows : (op : Op) (n : ℕ) (f : Frame Name) (fs : List (Frame Name)) (b : ℕ) (ops : List Value) (K : Term → Term)
      (rest : Value → Next Value Term)
      → Context p (next_term p n f.this f.vars) K rest → Has code n b (OpI op) → takes op ≡ 1
      → ((v : Value) → Follows p code (suc m) (rest v) (thread f fs (suc b) (v ∷ ops))) → (v : Value)
      → Follows p code (suc m) (on_ready (gives n (Computes op (v ∷ []))) K rest) (thread f fs b (v ∷ ops))
  unary_follows op n f fs b ops K rest x s e h v =
      by_instr p code m _ f fs n b (v ∷ ops) (OpI op) s
      (rw e (refl, refl, λ y. (value_back f fs (suc b) ops K n f.this f.vars rest x h (first y.values), tt)))

  mutual
    pub term_follows : (e : Term) (n : ℕ) (f : Frame Name) (fs : List (Frame Name)) (b : ℕ) (ops : List Value) (K : Term → Term)
        (rest : Value → Next Value Term)
        → Context p (next_term p n f.this f.vars) K rest → TermStands code n b e
        → ((v : Value) → Follows p code (suc m) (rest v) (thread f fs (end_term b e) (v ∷ ops)))
        → Follows p code (suc m) (on_ready (next_term p n f.this f.vars e) K rest) (thread f fs b ops)
    term_follows (Push c) n f fs b ops K rest x s h = by_instr p code m _ f fs n b ops (PushI c) s (shorter p code m _ _ (h (constant c)))
    term_follows This n f fs b ops K rest x s h = by_instr p code m _ f fs n b ops ThisI s (shorter p code m _ _ (h f.this))
    term_follows (Variable k) n f fs b ops K rest x s h =
        by_instr p code m _ f fs n b ops (VariableI k) s (shorter p code m _ _ (h (variable f.vars k Null)))
    term_follows (Member e o) n f fs b ops K rest x s h =
        let T = next_term p n f.this f.vars in
        inside p code (suc m) T T _ _ _ _ e (thread f fs b ops) (λ a'. refl) x
        (λ x'. term_follows e n f fs b ops _ _ x' s.0
        (λ v. by_instr p code m _ f fs n (end_term b e) (v ∷ ops) (FieldI o) s.1 (shorter p code m _ _ (h (moved v o)))))
    term_follows (Index a size i) n f fs b ops K rest x s h =
        let T = next_term p n f.this f.vars in
        inside p code (suc m) T T _ _ _ _ a (thread f fs b ops) (λ a'. refl) x (λ x'. term_follows a n f fs b ops _ _ x' s.0 (λ v.
        inside p code (suc m) T T _ _ _ _ i (thread f fs (end_term b a) (v ∷ ops)) (λ a'. refl) x
        (λ x''. term_follows i n f fs (end_term b a) (v ∷ ops) _ _ x'' s.1 (λ w.
        by_instr p code m _ f fs n (end_term (end_term b a) i) (w ∷ v ∷ ops) (IndexI size) s.2
        (refl, refl, λ y. (value_back f fs _ ops K n f.this f.vars rest x h (first y.values), tt))))))
    term_follows (At a i) n f fs b ops K rest x s h =
        let T = next_term p n f.this f.vars in
        inside p code (suc m) T T _ _ _ _ a (thread f fs b ops) (λ a'. refl) x (λ x'. term_follows a n f fs b ops _ _ x' s.0 (λ v.
        inside p code (suc m) T T _ _ _ _ i (thread f fs (end_term b a) (v ∷ ops)) (λ a'. refl) x
        (λ x''. term_follows i n f fs (end_term b a) (v ∷ ops) _ _ x'' s.1 (λ w.
        by_instr p code m _ f fs n (end_term (end_term b a) i) (w ∷ v ∷ ops) AtI s.2
        (refl, refl, λ y. (value_back f fs _ ops K n f.this f.vars rest x h (first y.values), tt))))))
    term_follows (Load remote e) n f fs b ops K rest x s h =
        let T = next_term p n f.this f.vars in
        inside p code (suc m) T T _ _ _ _ e (thread f fs b ops) (λ a'. refl) x (λ x'. term_follows e n f fs b ops _ _ x' s.0 (λ v.
        by_instr p code m _ f fs n (end_term b e) (v ∷ ops) (LoadI remote) s.1
        (refl, refl, λ y. (value_back f fs _ ops K n f.this f.vars rest x h (first y.values), tt))))
    term_follows (Unary op e) n f fs b ops K rest x s h =
        let T = next_term p n f.this f.vars in
        inside p code (suc m) T T _ _ _ _ e (thread f fs b ops) (λ a'. refl) x
        (λ x'. term_follows e n f fs b ops _ _ x' s.0 (unary_follows op n f fs (end_term b e) ops K rest x s.1 s.2 h))
    term_follows (Binary op a c) n f fs b ops K rest x s h =
        let T = next_term p n f.this f.vars in
        inside p code (suc m) T T _ _ _ _ a (thread f fs b ops) (λ a'. refl) x (λ x'. term_follows a n f fs b ops _ _ x' s.0 (λ v.
        inside p code (suc m) T T _ _ _ _ c (thread f fs (end_term b a) (v ∷ ops)) (λ a'. refl) x
        (λ x''. term_follows c n f fs (end_term b a) (v ∷ ops) _ _ x'' s.1 (λ w.
        by_instr p code m _ f fs n (end_term (end_term b a) c) (w ∷ v ∷ ops) (OpI op) s.2
        (rw s.3 (refl, refl, λ y. (value_back f fs _ ops K n f.this f.vars rest x h (first y.values), tt)))))))
    term_follows (And a c) n f fs b ops K rest x s h =
        let T = next_term p n f.this f.vars in
        inside p code (suc m) T T _ _ _ _ a (thread f fs b ops) (λ a'. refl) x (λ x'. term_follows a n f fs b ops _ _ x' s.0 (λ v.
        by_instr p code m _ f fs n (end_term b a) (v ∷ ops) (AndI (end_term b (And a c))) s.1 (
          refl,
          refl,
          λ y. (
            chosen p code m (is_zero v) K (Val (truth false)) (Unary Bool' c) _ _
                (value_back f fs _ ops K n f.this f.vars rest x h (truth false))
                (back p code m T K rest x (Unary Bool' c) _ (shorter p code m _ _
                (inside p code (suc m) T T _ _ _ _ c (thread f fs (suc (end_term b a)) ops) (λ a'. refl) x
                (λ x''. term_follows c n f fs (suc (end_term b a)) ops _ _ x'' s.2
                (unary_follows Bool' n f fs (end_term (suc (end_term b a)) c) ops K rest x s.3 refl h))))),
            tt,
          ),
        )))
    term_follows (Or a c) n f fs b ops K rest x s h =
        let T = next_term p n f.this f.vars in
        inside p code (suc m) T T _ _ _ _ a (thread f fs b ops) (λ a'. refl) x (λ x'. term_follows a n f fs b ops _ _ x' s.0 (λ v.
        by_instr p code m _ f fs n (end_term b a) (v ∷ ops) (OrI (end_term b (Or a c))) s.1 (
          refl,
          refl,
          λ y. (
            chosen p code m (is_zero v) K (Unary Bool' c) (Val (truth true)) _ _
                (back p code m T K rest x (Unary Bool' c) _ (shorter p code m _ _
                (inside p code (suc m) T T _ _ _ _ c (thread f fs (suc (end_term b a)) ops) (λ a'. refl) x
                (λ x''. term_follows c n f fs (suc (end_term b a)) ops _ _ x'' s.2
                (unary_follows Bool' n f fs (end_term (suc (end_term b a)) c) ops K rest x s.3 refl h)))))
                (value_back f fs _ ops K n f.this f.vars rest x h (truth true)),
            tt,
          ),
        )))
    term_follows (New kind size) n f fs b ops K rest x s h =
        by_instr p code m _ f fs n b ops (NewI kind size) s
        (refl, refl, λ y. (value_back f fs _ ops K n f.this f.vars rest x h (first y.values), tt))
    term_follows (NewObject remote c es) n f fs b ops K rest x s h =
        let T = next_term p n f.this f.vars in
        let M = next_terms p n f.this f.vars in
        inside p code (suc m) M T _ _ _ _ es (thread f fs b ops) (λ a'. refl) x (λ x'. terms_follow es n f fs b ops _ _ x' s.0 (λ vs e.
        by_instr p code m _ f fs n (end_terms b es) (pushed vs ops) (NewObjectI remote c) s.1
        (rw (popped_all vs ops (class_shape code.shapes c).params (e ∙ s.2))
        (refl, refl, λ y. (value_back f fs _ ops K n f.this f.vars rest x h (first y.values), tt)))))
    term_follows (Call how g es) n f fs b ops K rest x s h =
        let T = next_term p n f.this f.vars in
        let M = next_terms p n f.this f.vars in
        inside p code (suc m) M T _ _ _ _ es (thread f fs b ops) (λ a'. refl) x (λ x'. terms_follow es n f fs b ops _ _ x' s.0 (λ vs e.
        by_instr p code m _ f fs n (end_terms b es) (pushed vs ops) (CallI how g) s.1
        (rw (popped_all vs ops (operands code.shapes how g) (e ∙ s.2.1)) (
          refl,
          ap (λ w. call_ask w how g vs) (sym (stands g s.2.0).shape),
          λ y.
              (called_follows how f fs (end_terms b es) ops g s.2.0 vs y.values K n f.this f.vars rest x h, tt),
        ))))
    term_follows (Val v) n f fs b ops K rest x s h = absurd s
    term_follows (Body g t env ss) n f fs b ops K rest x s h = absurd s
    term_follows (Branch t env ss) n f fs b ops K rest x s h = absurd s
    term_follows (Starts g t vs) n f fs b ops K rest x s h = absurd s

    pub terms_follow : (es : Terms) (n : ℕ) (f : Frame Name) (fs : List (Frame Name)) (b : ℕ) (ops : List Value) (K : Terms → Term)
        (rest : List Value → Next Value Term)
        → Context p (next_terms p n f.this f.vars) K rest → TermsStand code n b es
        → ((vs : List Value) → length vs ≡ width es → Follows p code (suc m) (rest vs) (thread f fs (end_terms b es) (pushed vs ops)))
        → Follows p code (suc m) (on_ready (next_terms p n f.this f.vars es) K rest) (thread f fs b ops)
    terms_follow NoTerms n f fs b ops K rest x s h = h [] refl
    terms_follow (MoreTerms e es) n f fs b ops K rest x s h =
        let T = next_term p n f.this f.vars in
        let M = next_terms p n f.this f.vars in
        inside p code (suc m) T M _ _ _ _ e (thread f fs b ops) (λ a'. refl) x (λ x'. term_follows e n f fs b ops _ _ x' s.0 (λ v.
        inside p code (suc m) M M _ _ _ _ es (thread f fs (end_term b e) (v ∷ ops)) (λ a'. refl) x
        (λ x''. terms_follow es n f fs (end_term b e) (v ∷ ops) _ _ x'' s.1 (λ vs l. h (v ∷ vs) (ap suc l)))))
    terms_follow (MoreCells e size es) n f fs b ops K rest x s h =
        let T = next_term p n f.this f.vars in
        let M = next_terms p n f.this f.vars in
        inside p code (suc m) T M _ _ _ _ e (thread f fs b ops) (λ a'. refl) x (λ x'. term_follows e n f fs b ops _ _ x' s.0 (λ v.
        by_instr p code m _ f fs n (end_term b e) (v ∷ ops) (CellsI size) s.1 (
          refl,
          refl,
          λ y. (
            back p code m M K rest x (Copied (resized size y.values) es) _ (shorter p code m _ _
                (inside p code (suc m) M M _ _ _ _ es (thread f fs (suc (end_term b e)) (pushed (resized size y.values) ops))
                (λ a'. refl) x (λ x''. terms_follow es n f fs (suc (end_term b e)) (pushed (resized size y.values) ops) _ _ x'' s.2
                (λ ws l. subst (λ o. Follows p code (suc m) (rest (resized size y.values ++ ws))
                (thread f fs (end_terms (suc (end_term b e)) es) o)) (pushed_both (resized size y.values) ws ops)
                (h (resized size y.values ++ ws) (length_cells size y.values ws (width es) l)))))),
            tt,
          ),
        )))
    terms_follow (Copied vs es) n f fs b ops K rest x s h = absurd s
