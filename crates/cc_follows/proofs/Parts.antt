-- Parts of threads, for any number of moves.
use Rattle.std.proofs.Common.{◌≡◌, ℕ, zero, suc, ◌+◌, List, [], ◌∷◌, ◌++◌, length, append-nil, Some, Bool, true, false}
use Rattle.std.proofs.Common.{refl, sym, ap, ◌∙◌, subst, arith}
use Rattle.std.specs.Prelude.{if◌then◌else◌}
use Rattle.cc_ops.specs.Values.{resized}
use Rattle.cc_core.specs.Names.{Name, Value}
use Rattle.cc_core.specs.Core.{Term, Program}
use Rattle.cc_core.specs.Next.{Next, Ready, Asks, on_ready, next}
use Rattle.cc_code.specs.Code.{Instr, Code, Frame, Thread, Runs, Move, Silent, Does, Ends, Stuck, popped, pushed, at_place, act}
use Rattle.cc_code.specs.Code.{fetched, move}
use Rattle.cc_code.specs.Stands.{Has}
use Rattle.cc_code.specs.Agrees.{Relation, AllAgree, Agrees, Follows}

-- what holds for a longer time holds for a shorter one
all_agree : (p : Program) (R S : Relation) → ((n : Next Value Term) (c : Thread Name) → R n c → S n c)
    → (ts : List Term) (cs : List (Thread Name)) → AllAgree p R ts cs → AllAgree p S ts cs
all_agree p R S f [] [] h = tt
all_agree p R S f [] (c ∷ cs) h = h
all_agree p R S f (t ∷ ts) [] h = h
all_agree p R S f (t ∷ ts) (c ∷ cs) h = (f (next p t) c h.0, all_agree p R S f ts cs h.1)

agrees : (p : Program) (R S : Relation) → ((n : Next Value Term) (c : Thread Name) → R n c → S n c)
    → (n : Next Value Term) (m : Move Name) → Agrees p R n m → Agrees p S n m
agrees p R S f n (Silent c) h = f n c h
agrees p R S f (Ready v) (Ends w) h = h
agrees p R S f (Asks l a k) (Ends w) h = h
agrees p R S f (Ready v) (Does d b j) h = h
agrees p R S f (Asks l a k) (Does d b j) h =
    (h.0, h.1, λ x. let g = h.2 x in (f (next p (k x).left) (j x).left g.0, all_agree p R S f (k x).branches (j x).branches g.1))
agrees p R S f n Stuck h = h

pub shorter : (p : Program) (code : Code) (m : ℕ) (n : Next Value Term) (c : Thread Name) → Follows p code (suc m) n c
    → Follows p code m n c
shorter p code zero n c h = tt
shorter p code (suc m) n c h = agrees p (Follows p code (suc m)) (Follows p code m) (shorter p code m) n (move code c) h

-- parts in parts
pub on_ready_twice : {V A W B X C : Type 0} (n : Next V A) (F : A → B) (g : V → Next W B) (K : B → C) (rest : W → Next X C)
    → on_ready (on_ready n F g) K rest ≡ on_ready n (λ a. K (F a)) (λ v. on_ready (g v) K rest)
on_ready_twice (Ready v) F g K rest = refl
on_ready_twice (Asks l a k) F g K rest = refl

-- K puts a part into the whole thread, which goes on with rest once the part is done
pub record Context {V A : Type 0} (p : Program) (step : A → Next V A) (K : A → Term) (rest : V → Next Value Term) : Type 0 where
  pub same : (a : A) → next p (K a) ≡ on_ready (step a) K rest

-- a part of a part
pub within : {V A W B : Type 0} (p : Program) (step : A → Next V A) (outer : B → Next W B) (F : A → B) (g : V → Next W B)
    (K : B → Term) (rest : W → Next Value Term)
    → ((a : A) → outer (F a) ≡ on_ready (step a) F g) → Context p outer K rest
    → Context p step (λ a. K (F a)) (λ v. on_ready (g v) K rest)
within p step outer F g K rest h x =
    record { same = λ a. x.same (F a) ∙ (ap (λ n. on_ready n K rest) (h a) ∙ on_ready_twice (step a) F g K rest) }

abbrev pub thread : Frame Name → List (Frame Name) → ℕ → List Value → Thread Name
thread f fs b ops = Runs (at_place f b) fs ops

popped_pushed : (vs ops got : List Value) (k : ℕ) → popped (length vs + k) (pushed vs ops) got ≡ popped k ops (vs ++ got)
popped_pushed [] ops got k = let e : 0 + k ≡ k = omega arith in ap (λ n. popped n ops got) e
popped_pushed (v ∷ vs) ops got k =
    let e : length (v ∷ vs) + k ≡ length vs + suc k = omega arith in
    ap (λ n. popped n (pushed vs (v ∷ ops)) got) e ∙ popped_pushed vs (v ∷ ops) got (suc k)

-- n values come back as they were pushed
pub popped_all : (vs ops : List Value) (n : ℕ) → length vs ≡ n → popped n (pushed vs ops) [] ≡ Some (vs, ops)
popped_all vs ops n h =
    let e : n ≡ length vs + 0 = omega arith in
    ap (λ k. popped k (pushed vs ops) []) e ∙ (popped_pushed vs ops [] 0 ∙ ap (λ xs. Some (xs, ops)) (append-nil vs))

pub pushed_both : (vs ws ops : List Value) → pushed (vs ++ ws) ops ≡ pushed ws (pushed vs ops)
pushed_both [] ws ops = refl
pushed_both (v ∷ vs) ws ops = pushed_both vs ws (v ∷ ops)

length_both : (vs ws : List Value) → length (vs ++ ws) ≡ length vs + length ws
length_both [] ws = let e : 0 + length ws ≡ length ws = omega arith in sym e
length_both (v ∷ vs) ws =
    let h = length_both vs ws in
    let e : suc (length vs) + length ws ≡ suc (length vs + length ws) = omega arith in
    ap suc h ∙ sym e

length_fitted : (n : ℕ) (vs : List Value) → length (resized n vs) ≡ n
length_fitted zero vs = refl
length_fitted (suc n) [] = ap suc (length_fitted n [])
length_fitted (suc n) (v ∷ vs) = ap suc (length_fitted n vs)

pub length_cells : (n : ℕ) (vs ws : List Value) (k : ℕ) → length ws ≡ k → length (resized n vs ++ ws) ≡ n + k
length_cells n vs ws k h =
    let e = length_both (resized n vs) ws in
    let d = length_fitted n vs in
    e ∙ (ap (λ a. a + length ws) d ∙ ap (λ a. n + a) h)

module _ (p : Program) (code : Code) where
  -- after an answer
  pub back : {V A : Type 0} (n : ℕ) (step : A → Next V A) (K : A → Term) (rest : V → Next Value Term) → Context p step K rest
      → (a : A) (c : Thread Name) → Follows p code n (on_ready (step a) K rest) c → Follows p code n (next p (K a)) c
  back n step K rest x a c h = subst (λ w. Follows p code n w c) (sym (x.same a)) h

  -- the instruction that stands there
  pub by_instr : (m : ℕ) (n : Next Value Term) (f : Frame Name) (fs : List (Frame Name)) (line b : ℕ) (ops : List Value) (i : Instr)
      → Has code line b i → Agrees p (Follows p code m) n (act code (at_place f b) fs ops line i)
      → Follows p code (suc m) n (thread f fs b ops)
  by_instr m n f fs line b ops i has h = subst (λ o. Agrees p (Follows p code m) n (fetched code (at_place f b) fs ops o)) (sym has) h

  -- a part of a part
  pub inside : {V A W B : Type 0} (n : ℕ) (step : A → Next V A) (outer : B → Next W B) (F : A → B) (g : V → Next W B) (K : B → Term)
      (rest : W → Next Value Term) (a : A) (c : Thread Name)
      → ((a' : A) → outer (F a') ≡ on_ready (step a') F g) → Context p outer K rest
      → (Context p step (λ a'. K (F a')) (λ v. on_ready (g v) K rest)
      → Follows p code n (on_ready (step a) (λ a'. K (F a')) (λ v. on_ready (g v) K rest)) c)
      → Follows p code n (on_ready (on_ready (step a) F g) K rest) c
  inside n step outer F g K rest a c h x go =
      subst (λ w. Follows p code n w c) (sym (on_ready_twice (step a) F g K rest)) (go (within p step outer F g K rest h x))

  -- both ways of a test
  pub chosen : {A : Type 0} (n : ℕ) (z : Bool) (K : A → Term) (x y : A) (c d : Thread Name) → Follows p code n (next p (K x)) c
      → Follows p code n (next p (K y)) d → Follows p code n (next p (K (if z then x else y))) (if z then c else d)
  chosen n true K x y c d h g = h
  chosen n false K x y c d h g = g
