-- The code follows the source, for any number of moves.
use Rattle.std.proofs.Common.{ℕ, zero, suc, ◌<◌, List, [], ◌∷◌, length, refl, sym, ap, subst}
use Rattle.cc_ops.specs.Values.{constant, resized}
use Rattle.cc_core.specs.Names.{Name, Value}
use Rattle.cc_core.specs.Core.{Env, Term, Val, Body, Starts, Program, function}
use Rattle.cc_core.specs.Asks.{Leaves}
use Rattle.cc_core.specs.Next.{Next, Ready, Asks, just, body_ends, entered, next}
use Rattle.cc_code.specs.Code.{PushI, RetI, Code, entry, Thread, Runs, Starting, Move, Silent, Does, Ends, Stuck, frame, enter_at, move}
use Rattle.cc_code.specs.Layout.{end_stmts, NoLoop}
use Rattle.cc_code.specs.Agrees.{Follows, Agrees, AllAgree, Same, ProgramStands}
use Rattle.cc_follows.proofs.Parts.{shorter, thread, by_instr}
use Rattle.cc_follows.proofs.Terms.{Good, no_loop}
use Rattle.cc_follows.proofs.Statements.{stmt_follows, stmts_follow, forks_follow}

module _ (p : Program) (code : Code) (stands : ProgramStands p code) where
  goes_well : (n : ℕ) → Good p code n
  goes_well zero =
      record {
        stmt = λ line this env fs base l b s K rest x h g. tt;
        stmts = λ line this env fs base l b s K rest x h g. tt;
        forks =
            λ line this env made fs base b k test at e s jump K rest x h g. tt;
      }
  goes_well (suc m) =
      record {
        stmt =
            λ line this env fs base l b s K rest x h g. stmt_follows p code stands m
            (goes_well m) s line this env fs base l b K rest x h g;
        stmts =
            λ line this env fs base l b s K rest x h g. stmts_follow p code stands m
            (goes_well m) s line this env fs base l b K rest x h g;
        forks = forks_follow p code stands m (goes_well m);
      }

  -- an entered function as a thread of its own: main, or after the first step of a thread that was started
  pub thread_follows : (n g : ℕ) → g < length code.shapes.functions → (this : Value) (xs : List Value)
      → Follows p code n (next p (entered p g this xs)) (Runs (enter_at code g this xs) [] [])
  thread_follows n g below this xs =
      let st = stands g below in
      let d = constant (function p g).default in
      let line = (function p g).shape.line in
      let end = end_stmts (entry code g) (function p g).body in
      let left : (env : Env) → Follows p code n (Asks line Leaves (λ y. just (Val d)))
      (thread (frame this env [] (suc end)) [] (suc end) (d ∷ [])) =
      λ env. shorter p code n _ _ (by_instr p code n _ (frame this env [] (suc end)) [] line (suc end) (d ∷ []) RetI st.leaves
      (refl, refl, λ y. (shorter p code n _ _ refl, tt))) in
      subst (λ w. Follows p code n (next p (entered p g this xs)) (Runs (frame this (resized w.vars xs) [] (entry code g)) [] []))
      (sym st.shape)
      ((goes_well n).stmts line this (resized (function p g).shape.vars xs) [] [] NoLoop (entry code g) (function p g).body
      (λ l. Body g this l.0 l.1) (body_ends p g) (record { same = λ a. refl }) st.body
      (record {
        falls =
            λ env. shorter p code n _ _ (by_instr p code n _ (frame this env [] end) [] line end []
            (PushI (function p g).default) st.gives (left env));
        returns = λ v. shorter p code n _ _ refl;
        loop = no_loop p code n this [] [] (body_ends p g);
      }))

  -- a thread whose first step is a call
  pub start_follows : (n g : ℕ) → g < length code.shapes.functions → (this : Value) (vs : List Value)
      → Follows p code n (next p (Starts g this vs)) (Starting g this vs)
  start_follows n g below this vs =
      let st = stands g below in
      shorter p code n _ _ (ap (λ w. w.line) (sym st.shape), refl, λ y. (thread_follows n g below this y.values, tt))

-- one move keeps it
always : (p : Program) (code : Code) (ts : List Term) (cs : List (Thread Name)) → ((n : ℕ) → AllAgree p (Follows p code n) ts cs)
    → AllAgree p (λ x c. (n : ℕ) → Follows p code n x c) ts cs
always p code [] [] h = tt
always p code [] (c ∷ cs) h = h 0
always p code (t ∷ ts) [] h = h 0
always p code (t ∷ ts) (c ∷ cs) h = (λ n. (h n).0, always p code ts cs (λ n. (h n).1))

always_agrees : (p : Program) (code : Code) (n : Next Value Term) (w : Move Name) → ((k : ℕ) → Agrees p (Follows p code k) n w)
    → Agrees p (λ x c. (k : ℕ) → Follows p code k x c) n w
always_agrees p code n (Silent c) h = h
always_agrees p code (Ready v) (Ends w) h = h 0
always_agrees p code (Asks l a k) (Ends w) h = h 0
always_agrees p code (Ready v) (Does d b j) h = h 0
always_agrees p code (Asks l a k) (Does d b j) h =
    ((h 0).0, (h 0).1, λ x. (λ n. ((h n).2 x).0, always p code (k x).branches (j x).branches (λ n. ((h n).2 x).1)))
always_agrees p code n Stuck h = h 0

pub one_move : (p : Program) (code : Code) (t : Term) (c : Thread Name) → Same p code t c
    → Agrees p (λ x d. (n : ℕ) → Follows p code n x d) (next p t) (move code c)
one_move p code t c h = always_agrees p code (next p t) (move code c) (λ k. h (suc k))
