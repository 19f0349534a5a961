-- A thread of a layout starts threads of functions that there are.
use Rattle.std.proofs.Common.{◌≡◌, ℕ, zero, suc, ◌<◌, Bool, true, false, List, [], ◌∷◌, ◌++◌, length, get_or, Option, Some, None, subst, arith}
use Rattle.std.specs.Prelude.{slice_get}
use Rattle.cc_ops.specs.Values.{Value}
use Rattle.cc_ops.specs.Machine.{Address}
use Rattle.cc_ops.specs.Operators.{takes}
use Rattle.cc_ops.specs.declared.shape.FunShape.{FunShape}
use Rattle.cc_core.specs.Core.{How, Alone, On, Remote, Term, Push, This, Variable, Member, Index, At, Load, Unary, Binary, And, Or, New}
use Rattle.cc_core.specs.Core.{NewObject, Call, Val, Body, Branch, Starts, Terms, NoTerms, MoreTerms, MoreCells, Copied, Stmt, Empty}
use Rattle.cc_core.specs.Core.{AtLine, Make, Set, Build, Assign, Drop, Print, If, IfElse, While, For, Break, Continue, Par, ParFor}
use Rattle.cc_core.specs.Core.{Spawn, Return, Block, Turn, Forks, Each, Wait, Left, Stmts, NoStmts, MoreStmts, Shapes, Function, Program}
use Rattle.cc_core.specs.Core.{shapes, no_function, function_shape, class_shape}
use Rattle.cc_core.specs.Asks.{Ask, Answer, Computes, Builds, Prints}
use Rattle.cc_core.specs.Next.{call_ask, spawn_ask, object_ask}
use Rattle.cc_core.specs.Source.{operands, values, IsProgram, IsTerm, AreTerms, IsStmt, AreStmts}
use Rattle.cc_code.specs.Code.{Instr, PushI, ThisI, VariableI, FieldI, DropI, JumpI, EndI, IndexI, AtI, LoadI, StoreI, OpI, TestI, AndI}
use Rattle.cc_code.specs.Code.{OrI, MakeI, SetI, BuildI, NewI, NewObjectI, CallI, SpawnI, CellsI, RetI, ForkI, EachI, JoinI, PrintI}
use Rattle.cc_code.specs.Code.{Placed, Code, Frame, Thread, Runs, Starting, Finished, Then, Move, Silent, Does, Ends, Stuck}
use Rattle.cc_code.specs.Code.{popped, with_popped, top_one, only, next_place, gives_value, makes_variable, call_left, act, fetched, move}
use Rattle.cc_code.specs.Layout.{end_term, end_stmt, end_function, Loop, NoLoop, In, code_term, code_terms}
use Rattle.cc_code.specs.Layout.{code_stmt, code_stmts, code_branches, code_function, code_functions, layout, call_code}
use Rattle.cc_follows.proofs.Lays.{looped}
use Rattle.numbered_runs.proofs.Asks.{CallsWithin}

-- ---- the instructions of a layout

module _ (h : Shapes) where
  abbrev CallsOne : Instr → Type 0
  CallsOne (CallI how f) = f < length h.functions
  CallsOne (SpawnI how f) = f < length h.functions
  CallsOne i = Unit {0}

  abbrev Calls : List Placed → Type 0
  Calls [] = Unit {0}
  Calls (i ∷ is) = CallsOne i.instr × Calls is

  both : (is js : List Placed) → Calls is → Calls js → Calls (is ++ js)
  both [] js a b = b
  both (i ∷ is) js a b = (a.0, both is js a.1 b)

  last : (is : List Placed) (n : ℕ) (i : Instr) → Calls is → CallsOne i → Calls (is ++ record { instr = i; line = n } ∷ [])
  last is n i a b = both is (record { instr = i; line = n } ∷ []) a (b, tt)

  call_calls : (n : ℕ) (how : How) (f : ℕ) → f < length h.functions → Calls (call_code n how f)
  call_calls n Alone f below = (below, tt)
  call_calls n On f below = (below, tt)
  call_calls n Remote f below = (below, (tt, tt))

  mutual
    term_calls : (n b : ℕ) (e : Term) → IsTerm h e → Calls (code_term n b e)
    term_calls n b (Push c) s = (tt, tt)
    term_calls n b This s = (tt, tt)
    term_calls n b (Variable k) s = (tt, tt)
    term_calls n b (Member e o) s = last (code_term n b e) n _ (term_calls n b e s) tt
    term_calls n b (Index x size y) s =
        both (code_term n b x) _ (term_calls n b x s.0) (last (code_term n (end_term b x) y) n _ (term_calls n (end_term b x) y s.1) tt)
    term_calls n b (At x y) s =
        both (code_term n b x) _ (term_calls n b x s.0) (last (code_term n (end_term b x) y) n _ (term_calls n (end_term b x) y s.1) tt)
    term_calls n b (Load remote e) s = last (code_term n b e) n _ (term_calls n b e s) tt
    term_calls n b (Unary op e) s = last (code_term n b e) n _ (term_calls n b e s.0) tt
    term_calls n b (Binary op x y) s =
        both (code_term n b x) _ (term_calls n b x s.0) (last (code_term n (end_term b x) y) n _ (term_calls n (end_term b x) y s.1) tt)
    term_calls n b (And x y) s =
        both (code_term n b x) _ (term_calls n b x s.0)
        (tt, last (code_term n (suc (end_term b x)) y) n _ (term_calls n (suc (end_term b x)) y s.1) tt)
    term_calls n b (Or x y) s =
        both (code_term n b x) _ (term_calls n b x s.0)
        (tt, last (code_term n (suc (end_term b x)) y) n _ (term_calls n (suc (end_term b x)) y s.1) tt)
    term_calls n b (New kind size) s = (tt, tt)
    term_calls n b (NewObject remote c es) s = last (code_terms n b es) n _ (terms_call n b es s.0) tt
    term_calls n b (Call how f es) s = both (code_terms n b es) (call_code n how f) (terms_call n b es s.0) (call_calls n how f s.1.0)
    term_calls n b (Val v) s = absurd s
    term_calls n b (Body f this env ss) s = absurd s
    term_calls n b (Branch this env t) s = absurd s
    term_calls n b (Starts f this vs) s = absurd s

    terms_call : (n b : ℕ) (es : Terms) → AreTerms h es → Calls (code_terms n b es)
    terms_call n b NoTerms s = tt
    terms_call n b (MoreTerms e es) s = both (code_term n b e) _ (term_calls n b e s.0) (terms_call n (end_term b e) es s.1)
    terms_call n b (MoreCells e size es) s =
        both (code_term n b e) _ (term_calls n b e s.0) (tt, terms_call n (suc (end_term b e)) es s.1)
    terms_call n b (Copied vs es) s = absurd s

  mutual
    stmt_calls : (n : ℕ) (l : Loop) (b : ℕ) (t : Stmt) → IsStmt h (looped l) t → Calls (code_stmt n l b t)
    stmt_calls n l b Empty s = tt
    stmt_calls n l b (AtLine line t) s = stmt_calls line l b t s
    stmt_calls n l b (Make k kind size) s = (tt, tt)
    stmt_calls n l b (Set k kind e) s = last (code_term n b e) n _ (term_calls n b e s) tt
    stmt_calls n l b (Build k c es) s = last (code_terms n b es) n _ (terms_call n b es s.0) tt
    stmt_calls n l b (Assign remote x y) s =
        both (code_term n b x) _ (term_calls n b x s.0) (last (code_term n (end_term b x) y) n _ (term_calls n (end_term b x) y s.1) tt)
    stmt_calls n l b (Drop e) s = last (code_term n b e) n _ (term_calls n b e s) tt
    stmt_calls n l b (Print parts es) s = last (code_terms n b es) n _ (terms_call n b es s.0) tt
    stmt_calls n l b (If c t) s = both (code_term n b c) _ (term_calls n b c s.0) (tt, stmt_calls n l (suc (end_term b c)) t s.1)
    stmt_calls n l b (IfElse c t u) s =
        let one = suc (end_term b c) in
        let other = suc (end_stmt one t) in
        both (code_term n b c) _ (term_calls n b c s.0)
        (tt, both (code_stmt n l one t) _ (stmt_calls n l one t s.1) (tt, stmt_calls n l other u s.2))
    stmt_calls n l b (While c t) s =
        let turn = suc (end_term b c) in
        let loop = In (suc (end_stmt turn t)) b in
        both (code_term n b c) _ (term_calls n b c s.0) (tt, last (code_stmt n loop turn t) n _ (stmt_calls n loop turn t s.1) tt)
    stmt_calls n l b (For c step t) s =
        let turn = suc (end_term b c) in
        let again = end_stmt turn t in
        let loop = In (suc (end_stmt again step)) again in
        both (code_term n b c) _ (term_calls n b c s.0) (
          tt,
          both (code_stmt n loop turn t) _ (stmt_calls n loop turn t s.2)
              (last (code_stmt n NoLoop again step) n _ (stmt_calls n NoLoop again step s.1) tt),
        )
    stmt_calls n NoLoop b Break s = tt
    stmt_calls n (In out again) b Break s = (tt, tt)
    stmt_calls n NoLoop b Continue s = tt
    stmt_calls n (In out again) b Continue s = (tt, tt)
    stmt_calls n l b (Par ss) s =
        let first = suc (suc b) in (tt, (tt, last (code_branches n first ss) n _ (branches_call n first ss s) tt))
    stmt_calls n l b (ParFor k start test line value t) s =
        let loop = suc (end_term b start) in
        let each = suc (end_term loop test) in
        let stored = suc (suc each) in
        let body = suc (suc (end_term stored value)) in
        both (code_term n b start) _ (term_calls n b start s.0) (
          tt,
          both (code_term n loop test) _ (term_calls n loop test s.1) (
            tt,
            (
              tt,
              (
                tt,
                both (code_term line stored value) _ (term_calls line stored value s.2)
                    (tt, (tt, both (code_stmt 0 NoLoop body t) _ (stmt_calls 0 NoLoop body t s.3) (tt, (tt, tt)))),
              ),
            ),
          ),
        )
    stmt_calls n l b (Spawn how f es) s = last (code_terms n b es) n _ (terms_call n b es s.0) s.1.0
    stmt_calls n l b (Return e) s = last (code_term n b e) n _ (term_calls n b e s) tt
    stmt_calls n l b (Block ss) s = stmts_call n l b ss s
    stmt_calls n l b (Turn t w) s = absurd s
    stmt_calls n l b (Forks k test line value t made now) s = absurd s
    stmt_calls n l b (Each k test line value t made) s = absurd s
    stmt_calls n l b (Wait made) s = absurd s
    stmt_calls n l b (Left v) s = absurd s

    stmts_call : (n : ℕ) (l : Loop) (b : ℕ) (ss : Stmts) → AreStmts h (looped l) ss → Calls (code_stmts n l b ss)
    stmts_call n l b NoStmts s = tt
    stmts_call n l b (MoreStmts t ss) s = both (code_stmt n l b t) _ (stmt_calls n l b t s.0) (stmts_call n l (end_stmt b t) ss s.1)

    branches_call : (n b : ℕ) (ss : Stmts) → AreStmts h false ss → Calls (code_branches n b ss)
    branches_call n b NoStmts s = tt
    branches_call n b (MoreStmts t ss) s =
        both (code_stmt 0 NoLoop b t) _ (stmt_calls 0 NoLoop b t s.0) (tt, branches_call n (suc (end_stmt b t)) ss s.1)

  functions_call : (fs : List Function) (b : ℕ) → ((k : ℕ) → k < length fs → AreStmts h false (get_or fs k no_function).body)
      → Calls (code_functions b fs)
  functions_call [] b s = tt
  functions_call (f ∷ fs) b s =
      let zero_below : 0 < length (f ∷ fs) = omega arith in
      let body : AreStmts h false f.body = s 0 zero_below in
      both (code_function b f) _
      (both (code_stmts f.shape.line NoLoop b f.body) _ (stmts_call f.shape.line NoLoop b f.body body) (tt, (tt, tt)))
      (functions_call fs (end_function b f) (λ k l. s (suc k) (omega (arith, l))))

  -- ---- a move of a thread

  abbrev CallsNext : Move Address → Type 0
  CallsNext (Silent c) = Unit {0}
  CallsNext (Does line q j) = CallsWithin (length h.functions) q
  CallsNext (Ends v) = Unit {0}
  CallsNext Stuck = Unit {0}

  by_top : (ops : List (Value Address)) (go : Value Address → List (Value Address) → Move Address)
      → ((v : Value Address) (rest : List (Value Address)) → CallsNext (go v rest)) → CallsNext (top_one ops go)
  by_top [] go calls = tt
  by_top (v ∷ ops) go calls = calls v ops

  by_popped : (found : Option (List (Value Address) × List (Value Address))) (go : List (Value Address) → List (Value Address) → Move Address)
      → ((vs rest : List (Value Address)) → CallsNext (go vs rest)) → CallsNext (with_popped found go)
  by_popped None go calls = tt
  by_popped (Some found) go calls = calls found.0 found.1

  called : (shape : FunShape) (how : How) (f : ℕ) (vs : List (Value Address)) → f < length h.functions
      → CallsWithin (length h.functions) (call_ask shape how f vs)
  called shape Alone f vs below = tt
  called shape On f vs below = tt
  called shape Remote f vs below = below

  spawned : (shape : FunShape) (how : How) (f : ℕ) (vs : List (Value Address)) → f < length h.functions
      → CallsWithin (length h.functions) (spawn_ask shape how f vs)
  spawned shape Alone f vs below = below
  spawned shape On f vs below = below
  spawned shape Remote f vs below = below

  built : (remote : Bool) (c : ℕ) (vs : List (Value Address)) → CallsWithin (length h.functions) (object_ask remote c vs)
  built false c vs = tt
  built true c vs = tt

  module _ (code : Code) (f : Frame Address) (fs : List (Frame Address)) (ops : List (Value Address)) (line : ℕ) where
    act_calls : (i : Instr) → CallsOne i → CallsNext (act code f fs ops line i)
    act_calls (PushI c) calls = tt
    act_calls ThisI calls = tt
    act_calls (VariableI k) calls = tt
    act_calls (FieldI o) calls = by_top ops _ (λ v rest. tt)
    act_calls DropI calls = by_top ops _ (λ v rest. tt)
    act_calls (JumpI to) calls = tt
    act_calls EndI calls = tt
    act_calls (IndexI size) calls = by_top ops _ (λ v rest. by_top rest _ (λ w more. tt))
    act_calls AtI calls = by_top ops _ (λ v rest. by_top rest _ (λ w more. tt))
    act_calls (LoadI remote) calls = by_top ops _ (λ v rest. tt)
    act_calls (StoreI remote) calls = by_top ops _ (λ v rest. by_top rest _ (λ w more. tt))
    act_calls (OpI op) calls = by_popped (popped (takes op) ops []) (λ vs rest. gives_value f fs rest line (Computes op vs)) (λ vs rest. tt)
    act_calls (TestI to) calls = by_top ops _ (λ v rest. tt)
    act_calls (AndI to) calls = by_top ops _ (λ v rest. tt)
    act_calls (OrI to) calls = by_top ops _ (λ v rest. tt)
    act_calls (MakeI k kind size) calls = tt
    act_calls (SetI k kind) calls = by_top ops _ (λ v rest. tt)
    act_calls (BuildI k c) calls =
        by_popped (popped (class_shape code.shapes c).params ops []) (λ vs rest. makes_variable f fs rest line k (Builds c vs)) (λ vs rest. tt)
    act_calls (NewI kind size) calls = tt
    act_calls (NewObjectI remote c) calls =
        by_popped (popped (class_shape code.shapes c).params ops []) (λ vs rest. gives_value f fs rest line (object_ask remote c vs))
        (λ vs rest. built remote c vs)
    act_calls (CallI how g) calls =
        by_popped (popped (operands code.shapes how g) ops [])
        (λ vs rest. Does line (call_ask (function_shape code.shapes g) how g vs) (λ x. only (call_left code how g vs x.values f fs rest)))
        (λ vs rest. called (function_shape code.shapes g) how g vs calls)
    act_calls (SpawnI how g) calls =
        by_popped (popped (operands code.shapes how g) ops [])
        (λ vs rest. Does line (spawn_ask (function_shape code.shapes g) how g vs) (λ x. only (next_place f fs rest)))
        (λ vs rest. spawned (function_shape code.shapes g) how g vs calls)
    act_calls (CellsI size) calls = by_top ops _ (λ v rest. tt)
    act_calls RetI calls = by_top ops _ (λ v rest. tt)
    act_calls (ForkI targets) calls = tt
    act_calls (EachI to k) calls = tt
    act_calls JoinI calls = tt
    act_calls (PrintI parts) calls =
        by_popped (popped (values parts) ops []) (λ vs rest. Does line (Prints parts vs) (λ x. only (next_place f fs rest))) (λ vs rest. tt)

  fetched_calls : (code : Code) (is : List Placed) (b : ℕ) (f : Frame Address) (fs : List (Frame Address)) (ops : List (Value Address)) → Calls is
      → CallsNext (fetched code f fs ops (slice_get is b))
  fetched_calls code [] b f fs ops calls = tt
  fetched_calls code (i ∷ is) zero f fs ops calls = act_calls code f fs ops i.line i.instr calls.0
  fetched_calls code (i ∷ is) (suc b) f fs ops calls = fetched_calls code is b f fs ops calls.1

move_calls : (p : Program) → IsProgram p → (c : Thread Address) → CallsNext (shapes p) (move (layout p) c)
move_calls p source (Runs f fs ops) =
    fetched_calls (shapes p) (layout p) (layout p).places f.place f fs ops (functions_call (shapes p) p.functions 0 source)
move_calls p source (Starting g this vs) = tt
move_calls p source (Finished v) = tt

pub calls_within : (p : Program) → IsProgram p → (c : Thread Address) (line : ℕ) (q : Ask Address) (j : Answer Address → Then Address)
    → move (layout p) c ≡ Does line q j → CallsWithin (length (layout p).shapes.functions) q
calls_within p source c line q j does = subst (CallsNext (shapes p)) does (move_calls p source c)
