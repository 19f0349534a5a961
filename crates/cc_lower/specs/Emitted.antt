-- The code that the compiler makes: each part behind its own parts. A loop is measured before its body is made, and other targets are filled
-- in once they are known.
use Rattle.std.specs.Prelude.{ℕ, suc, ◌<◌, List, [], ◌∷◌, ◌++◌, false, length, replicate}
use Rattle.cc_ops.specs.declared.kind.Kind.TheVariants.{Int as IntK}
use Rattle.cc_ops.specs.declared.operator.Op.TheVariants.{Bool as Bool'}
use Rattle.cc_ops.specs.Classes.{ClassShape}
use Rattle.cc_core.specs.Core.{How, Alone, On, Remote, Term, Push, This, Variable, Member, Index, At, Load, Unary, Binary, And, Or, New}
use Rattle.cc_core.specs.Core.{NewObject, Call, Val, Body, Branch, Starts, Terms, NoTerms, MoreTerms, MoreCells, Copied, Stmt, Empty}
use Rattle.cc_core.specs.Core.{AtLine, Make, Set, Build, Assign, Drop, Print, If, IfElse, While, For, Break, Continue, Par, ParFor}
use Rattle.cc_core.specs.Core.{Spawn, Return, Block, Turn, Forks, Each, Wait, Left, Stmts, NoStmts, MoreStmts, Function}
use Rattle.cc_code.specs.Code.{Instr, PushI, ThisI, VariableI, FieldI, DropI, JumpI, EndI, IndexI, AtI, LoadI, StoreI, OpI, TestI, AndI}
use Rattle.cc_code.specs.Code.{OrI, MakeI, SetI, BuildI, NewI, NewObjectI, CallI, SpawnI, CellsI, RetI, ForkI, EachI, JoinI, PrintI}
use Rattle.cc_code.specs.Code.{Code}
use Rattle.cc_code.specs.Layout.{end_stmt, Loop, NoLoop, In}
use Rattle.stack_code.specs.View.{with_placed, with_target, with_function}

-- one more instruction at line n
abbrev pub put : Code → ℕ → Instr → Code
put c n i = with_placed c (record { instr = i; line = n })

-- a function was begun
abbrev pub HasFunction : Code → Type 0
HasFunction c = 0 < length c.shapes.functions

-- the place of the next instruction
abbrev pub here : Code → ℕ
here c = length c.places

-- the target of a jump is the next place
abbrev pub aim_here : Code → (jump : ℕ) → Code
aim_here c jump = with_target c jump 0 (here c)

abbrev pub put_call : Code → ℕ → How → ℕ → Code
put_call c n Alone f = put c n (CallI Alone f)
put_call c n On f = put c n (CallI On f)
put_call c n Remote f = put (put c n (CallI Remote f)) n JoinI

abbrev mutual
  pub emitted_term : Code → ℕ → Term → Code
  emitted_term c n (Push k) = put c n (PushI k)
  emitted_term c n This = put c n ThisI
  emitted_term c n (Variable k) = put c n (VariableI k)
  emitted_term c n (Member e o) = put (emitted_term c n e) n (FieldI o)
  emitted_term c n (Index x size y) = put (emitted_term (emitted_term c n x) n y) n (IndexI size)
  emitted_term c n (At x y) = put (emitted_term (emitted_term c n x) n y) n AtI
  emitted_term c n (Load remote e) = put (emitted_term c n e) n (LoadI remote)
  emitted_term c n (Unary op e) = put (emitted_term c n e) n (OpI op)
  emitted_term c n (Binary op x y) = put (emitted_term (emitted_term c n x) n y) n (OpI op)
  emitted_term c n (And x y) =
      let one = emitted_term c n x in
      aim_here (put (emitted_term (put one n (AndI 0)) n y) n (OpI Bool')) (here one)
  emitted_term c n (Or x y) =
      let one = emitted_term c n x in
      aim_here (put (emitted_term (put one n (OrI 0)) n y) n (OpI Bool')) (here one)
  emitted_term c n (New kind size) = put c n (NewI kind size)
  emitted_term c n (NewObject remote class es) = put (emitted_terms c n es) n (NewObjectI remote class)
  emitted_term c n (Call how f es) = put_call (emitted_terms c n es) n how f
  emitted_term c n (Val v) = c
  emitted_term c n (Body f this env ss) = c
  emitted_term c n (Branch this env s) = c
  emitted_term c n (Starts f this vs) = c

  pub emitted_terms : Code → ℕ → Terms → Code
  emitted_terms c n NoTerms = c
  emitted_terms c n (MoreTerms e es) = emitted_terms (emitted_term c n e) n es
  emitted_terms c n (MoreCells e size es) = emitted_terms (put (emitted_term c n e) n (CellsI size)) n es
  emitted_terms c n (Copied vs es) = c

-- a parfor up to its first test; one turn of it, up to the jump back; and all before its body
abbrev pub emitted_start : Code → (n k : ℕ) → (start : Term) → Code
emitted_start c n k start = put (emitted_term c n start) n (SetI k IntK)

abbrev pub emitted_step : Code → (n k line : ℕ) → (value : Term) → (back : ℕ) → Code
emitted_step c n k line value back =
    let step = put (emitted_term (put (put c n (EachI 0 k)) line (VariableI k)) line value) line (StoreI false) in
    aim_here (put step n (JumpI back)) (here c)

abbrev pub emitted_header : Code → (n k : ℕ) → (start test : Term) → (line : ℕ) → (value : Term) → Code
emitted_header c n k start test line value =
    let loop = emitted_start c n k start in
    emitted_step (put (emitted_term loop n test) n (TestI 0)) n k line value (here loop)

-- where the body of a for ends, and where it and a while are left, by the place of the instruction that tests
abbrev pub for_again : (test : ℕ) → (s : Stmt) → ℕ
for_again test s = end_stmt (suc test) s

abbrev pub for_out : (test : ℕ) → (step s : Stmt) → ℕ
for_out test step s = suc (end_stmt (for_again test s) step)

abbrev pub while_out : (test : ℕ) → (s : Stmt) → ℕ
while_out test s = suc (end_stmt (suc test) s)

-- the test of a while, and of a for, with its target
abbrev pub emitted_while_test : Code → (n : ℕ) → (t : Term) → (s : Stmt) → Code
emitted_while_test c n t s = let one = emitted_term c n t in put one n (TestI (while_out (here one) s))

abbrev pub emitted_for_test : Code → (n : ℕ) → (t : Term) → (step s : Stmt) → Code
emitted_for_test c n t step s = let one = emitted_term c n t in put one n (TestI (for_out (here one) step s))

-- what break and continue are in a loop
abbrev pub emitted_break : Code → ℕ → Loop → Code
emitted_break c n NoLoop = c
emitted_break c n (In out again) = put c n (JumpI out)

abbrev pub emitted_continue : Code → ℕ → Loop → Code
emitted_continue c n NoLoop = c
emitted_continue c n (In out again) = put c n (JumpI again)

-- how many branches there are
abbrev pub count : Stmts → ℕ
count NoStmts = 0
count (MoreStmts s ss) = suc (count ss)

abbrev mutual
  -- l: the loop around it
  pub emitted_stmt : Code → ℕ → (l : Loop) → Stmt → Code
  emitted_stmt c n l Empty = c
  emitted_stmt c n l (AtLine line s) = emitted_stmt c line l s
  emitted_stmt c n l (Make k kind size) = put c n (MakeI k kind size)
  emitted_stmt c n l (Set k kind e) = put (emitted_term c n e) n (SetI k kind)
  emitted_stmt c n l (Build k class es) = put (emitted_terms c n es) n (BuildI k class)
  emitted_stmt c n l (Assign remote x y) = put (emitted_term (emitted_term c n x) n y) n (StoreI remote)
  emitted_stmt c n l (Drop e) = put (emitted_term c n e) n DropI
  emitted_stmt c n l (Print parts es) = put (emitted_terms c n es) n (PrintI parts)
  emitted_stmt c n l (If t s) =
      let one = emitted_term c n t in
      aim_here (emitted_stmt (put one n (TestI 0)) n l s) (here one)
  emitted_stmt c n l (IfElse t s u) =
      let one = emitted_term c n t in
      let two = emitted_stmt (put one n (TestI 0)) n l s in
      aim_here (emitted_stmt (aim_here (put two n (JumpI 0)) (here one)) n l u) (here two)
  emitted_stmt c n l (While t s) =
      let one = emitted_term c n t in
      let loop = In (while_out (here one) s) (here c) in
      put (emitted_stmt (emitted_while_test c n t s) n loop s) n (JumpI (here c))
  emitted_stmt c n l (For t step s) =
      let one = emitted_term c n t in
      let loop = In (for_out (here one) step s) (for_again (here one) s) in
      put (emitted_stmt (emitted_stmt (emitted_for_test c n t step s) n loop s) n NoLoop step) n (JumpI (here c))
  emitted_stmt c n l Break = emitted_break c n l
  emitted_stmt c n l Continue = emitted_continue c n l
  emitted_stmt c n l (Par ss) =
      let fork = put c n (ForkI (replicate (count ss) 0)) in
      put (aim_here (emitted_branches (put fork n (JumpI 0)) n (here c) 0 ss) (here fork)) n JoinI
  emitted_stmt c n l (ParFor k start test line value s) =
      let body = emitted_stmt (emitted_header c n k start test line value) 0 NoLoop s in
      put (aim_here (put body n EndI) (here (emitted_term (emitted_start c n k start) n test))) n JoinI
  emitted_stmt c n l (Spawn how f es) = put (emitted_terms c n es) n (SpawnI how f)
  emitted_stmt c n l (Return e) = put (emitted_term c n e) n RetI
  emitted_stmt c n l (Block ss) = emitted_stmts c n l ss
  emitted_stmt c n l (Turn s w) = c
  emitted_stmt c n l (Forks k test line value s made now) = c
  emitted_stmt c n l (Each k test line value s made) = c
  emitted_stmt c n l (Wait made) = c
  emitted_stmt c n l (Left v) = c

  pub emitted_stmts : Code → ℕ → (l : Loop) → Stmts → Code
  emitted_stmts c n l NoStmts = c
  emitted_stmts c n l (MoreStmts s ss) = emitted_stmts (emitted_stmt c n l s) n l ss

  -- the branches of a fork, from the one of that number on
  pub emitted_branches : Code → ℕ → (fork which : ℕ) → Stmts → Code
  emitted_branches c n fork which NoStmts = c
  emitted_branches c n fork which (MoreStmts s ss) =
      emitted_branches (put (emitted_stmt (with_target c fork which (here c)) 0 NoLoop s) n EndI) n fork (suc which) ss

-- a function: its body, and what it returns at its end
abbrev pub emitted_function : Code → Function → Code
emitted_function c f =
    let line = f.shape.line in
    put (put (emitted_stmts (with_function c f.shape) line NoLoop f.body) line (PushI f.default)) line RetI

abbrev pub emitted_functions : Code → List Function → Code
emitted_functions c [] = c
emitted_functions c (f ∷ fs) = emitted_functions (emitted_function c f) fs

abbrev pub with_shape : Code → ClassShape → Code
with_shape c k = record c { shapes = record (c.shapes) { classes = c.shapes.classes ++ k ∷ [] } }

abbrev pub emitted_classes : Code → List ClassShape → Code
emitted_classes c [] = c
emitted_classes c (k ∷ ks) = emitted_classes (with_shape c k) ks
