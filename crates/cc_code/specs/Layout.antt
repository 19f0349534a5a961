-- The layout: where each part of a function stands, and its instructions.
use Rattle.std.specs.Prelude.{ℕ, suc, List, [], ◌∷◌, ◌++◌, false}
use Rattle.cc_ops.specs.declared.kind.Kind.TheVariants.{Int as IntK}
use Rattle.cc_ops.specs.declared.operator.Op.TheVariants.{Bool as Bool'}
use Rattle.cc_core.specs.Core.{How, Alone, On, Remote, Term, Push, This, Variable, Member, Index, At, Load, Unary, Binary, And, Or, New}
use Rattle.cc_core.specs.Core.{NewObject, Call, Val, Body, Branch, Starts, Terms, NoTerms, MoreTerms, MoreCells, Copied, Stmt, Empty}
use Rattle.cc_core.specs.Core.{AtLine, Make, Set, Build, Assign, Drop, Print, If, IfElse, While, For, Break, Continue, Par, ParFor}
use Rattle.cc_core.specs.Core.{Spawn, Return, Block, Turn, Forks, Each, Wait, Left, Stmts, NoStmts, MoreStmts, Function, Program}
use Rattle.cc_core.specs.Core.{shapes}
use Rattle.cc_code.specs.Code.{Instr, PushI, ThisI, VariableI, FieldI, DropI, JumpI, EndI, IndexI, AtI, LoadI, StoreI, OpI, TestI, AndI}
use Rattle.cc_code.specs.Code.{OrI, MakeI, SetI, BuildI, NewI, NewObjectI, CallI, SpawnI, CellsI, RetI, ForkI, EachI, JoinI, PrintI}
use Rattle.cc_code.specs.Code.{Placed, Code}

-- Each part is laid out behind its own parts, in the order of evaluation. b is the place where a part begins.

-- the place behind a call; a remote one has a join behind it
abbrev pub end_call : How → ℕ → ℕ
end_call Alone b = suc b
end_call On b = suc b
end_call Remote b = suc (suc b)

-- the place behind a part that begins at a place
abbrev mutual
  pub end_term : ℕ → Term → ℕ
  end_term b (Push c) = suc b
  end_term b This = suc b
  end_term b (Variable k) = suc b
  end_term b (Member e o) = suc (end_term b e)
  end_term b (Index x n y) = suc (end_term (end_term b x) y)
  end_term b (At x y) = suc (end_term (end_term b x) y)
  end_term b (Load remote e) = suc (end_term b e)
  end_term b (Unary op e) = suc (end_term b e)
  end_term b (Binary op x y) = suc (end_term (end_term b x) y)
  end_term b (And x y) = suc (end_term (suc (end_term b x)) y)
  end_term b (Or x y) = suc (end_term (suc (end_term b x)) y)
  end_term b (New kind n) = suc b
  end_term b (NewObject remote c es) = suc (end_terms b es)
  end_term b (Call how f es) = end_call how (end_terms b es)
  end_term b (Val v) = b
  end_term b (Body f this env ss) = b
  end_term b (Branch this env s) = b
  end_term b (Starts f this vs) = b

  pub end_terms : ℕ → Terms → ℕ
  end_terms b NoTerms = b
  end_terms b (MoreTerms e es) = end_terms (end_term b e) es
  end_terms b (MoreCells e n es) = end_terms (suc (end_term b e)) es
  end_terms b (Copied vs es) = b

abbrev mutual
  pub end_stmt : ℕ → Stmt → ℕ
  end_stmt b Empty = b
  end_stmt b (AtLine line s) = end_stmt b s
  end_stmt b (Make k kind n) = suc b
  end_stmt b (Set k kind e) = suc (end_term b e)
  end_stmt b (Build k c es) = suc (end_terms b es)
  end_stmt b (Assign remote x y) = suc (end_term (end_term b x) y)
  end_stmt b (Drop e) = suc (end_term b e)
  end_stmt b (Print parts es) = suc (end_terms b es)
  end_stmt b (If c s) = end_stmt (suc (end_term b c)) s
  end_stmt b (IfElse c s t) = end_stmt (suc (end_stmt (suc (end_term b c)) s)) t
  end_stmt b (While c s) = suc (end_stmt (suc (end_term b c)) s)
  end_stmt b (For c step s) = suc (end_stmt (end_stmt (suc (end_term b c)) s) step)
  end_stmt b Break = suc b
  end_stmt b Continue = suc b
  end_stmt b (Par ss) = suc (end_branches (suc (suc b)) ss)
  end_stmt b (ParFor k start test line value s) =
      let each = suc (end_term (suc (end_term b start)) test) in
      let jump = suc (end_term (suc (suc each)) value) in
      suc (suc (end_stmt (suc jump) s))
  end_stmt b (Spawn how f es) = suc (end_terms b es)
  end_stmt b (Return e) = suc (end_term b e)
  end_stmt b (Block ss) = end_stmts b ss
  end_stmt b (Turn s w) = b
  end_stmt b (Forks k test line value s made now) = b
  end_stmt b (Each k test line value s made) = b
  end_stmt b (Wait made) = b
  end_stmt b (Left v) = b

  pub end_stmts : ℕ → Stmts → ℕ
  end_stmts b NoStmts = b
  end_stmts b (MoreStmts s ss) = end_stmts (end_stmt b s) ss

  pub end_branches : ℕ → Stmts → ℕ
  end_branches b NoStmts = b
  end_branches b (MoreStmts s ss) = end_branches (suc (end_stmt b s)) ss

-- where the branches of a par begin
abbrev pub targets : ℕ → Stmts → List ℕ
targets b NoStmts = []
targets b (MoreStmts s ss) = b ∷ targets (suc (end_stmt b s)) ss

-- where break and continue go
pub data Loop : Type 0 where
  NoLoop : Loop
  In : (out again : ℕ) → Loop

abbrev pub break_code : ℕ → Loop → List Placed
break_code n NoLoop = []
break_code n (In out again) = record { instr = JumpI out; line = n } ∷ []

abbrev pub continue_code : ℕ → Loop → List Placed
continue_code n NoLoop = []
continue_code n (In out again) = record { instr = JumpI again; line = n } ∷ []

abbrev pub placed : ℕ → Instr → List Placed
placed n i = record { instr = i; line = n } ∷ []

abbrev pub call_code : ℕ → How → ℕ → List Placed
call_code n Alone f = placed n (CallI Alone f)
call_code n On f = placed n (CallI On f)
call_code n Remote f = placed n (CallI Remote f) ++ placed n JoinI

-- the instructions of a part of a statement at line n, from place b on
abbrev mutual
  pub code_term : (n b : ℕ) → Term → List Placed
  code_term n b (Push c) = placed n (PushI c)
  code_term n b This = placed n ThisI
  code_term n b (Variable k) = placed n (VariableI k)
  code_term n b (Member e o) = code_term n b e ++ placed n (FieldI o)
  code_term n b (Index x size y) = code_term n b x ++ (code_term n (end_term b x) y ++ placed n (IndexI size))
  code_term n b (At x y) = code_term n b x ++ (code_term n (end_term b x) y ++ placed n AtI)
  code_term n b (Load remote e) = code_term n b e ++ placed n (LoadI remote)
  code_term n b (Unary op e) = code_term n b e ++ placed n (OpI op)
  code_term n b (Binary op x y) = code_term n b x ++ (code_term n (end_term b x) y ++ placed n (OpI op))
  code_term n b (And x y) =
      let out = end_term b (And x y) in
      code_term n b x ++ (placed n (AndI out) ++ (code_term n (suc (end_term b x)) y ++ placed n (OpI Bool')))
  code_term n b (Or x y) =
      let out = end_term b (Or x y) in
      code_term n b x ++ (placed n (OrI out) ++ (code_term n (suc (end_term b x)) y ++ placed n (OpI Bool')))
  code_term n b (New kind size) = placed n (NewI kind size)
  code_term n b (NewObject remote c es) = code_terms n b es ++ placed n (NewObjectI remote c)
  code_term n b (Call how f es) = code_terms n b es ++ call_code n how f
  code_term n b (Val v) = []
  code_term n b (Body f this env ss) = []
  code_term n b (Branch this env s) = []
  code_term n b (Starts f this vs) = []

  pub code_terms : (n b : ℕ) → Terms → List Placed
  code_terms n b NoTerms = []
  code_terms n b (MoreTerms e es) = code_term n b e ++ code_terms n (end_term b e) es
  code_terms n b (MoreCells e size es) = code_term n b e ++ (placed n (CellsI size) ++ code_terms n (suc (end_term b e)) es)
  code_terms n b (Copied vs es) = []

abbrev mutual
  -- l: the loop around it
  pub code_stmt : (n : ℕ) → (l : Loop) → (b : ℕ) → Stmt → List Placed
  code_stmt n l b Empty = []
  code_stmt n l b (AtLine line s) = code_stmt line l b s
  code_stmt n l b (Make k kind size) = placed n (MakeI k kind size)
  code_stmt n l b (Set k kind e) = code_term n b e ++ placed n (SetI k kind)
  code_stmt n l b (Build k c es) = code_terms n b es ++ placed n (BuildI k c)
  code_stmt n l b (Assign remote x y) = code_term n b x ++ (code_term n (end_term b x) y ++ placed n (StoreI remote))
  code_stmt n l b (Drop e) = code_term n b e ++ placed n DropI
  code_stmt n l b (Print parts es) = code_terms n b es ++ placed n (PrintI parts)
  code_stmt n l b (If c s) =
      code_term n b c ++ (placed n (TestI (end_stmt b (If c s))) ++ code_stmt n l (suc (end_term b c)) s)
  code_stmt n l b (IfElse c s t) =
      let one = suc (end_term b c) in
      let other = suc (end_stmt one s) in
      code_term n b c ++ (placed n (TestI other)
      ++ (code_stmt n l one s ++ (placed n (JumpI (end_stmt other t))
      ++ code_stmt n l other t)))
  code_stmt n l b (While c s) =
      let turn = suc (end_term b c) in
      let out = suc (end_stmt turn s) in
      code_term n b c ++ (placed n (TestI out)
      ++ (code_stmt n (In out b) turn s ++ placed n (JumpI b)))
  code_stmt n l b (For c step s) =
      let turn = suc (end_term b c) in
      let again = end_stmt turn s in
      let out = suc (end_stmt again step) in
      code_term n b c ++ (placed n (TestI out)
      ++ (code_stmt n (In out again) turn s
      ++ (code_stmt n NoLoop again step ++ placed n (JumpI b))))
  code_stmt n l b Break = break_code n l
  code_stmt n l b Continue = continue_code n l
  code_stmt n l b (Par ss) =
      let first = suc (suc b) in
      let out = end_branches first ss in
      placed n (ForkI (targets first ss)) ++ (placed n (JumpI out) ++ (code_branches n first ss ++ placed n JoinI))
  code_stmt n l b (ParFor k start test line value s) =
      let loop = suc (end_term b start) in
      let each = suc (end_term loop test) in
      let jump = suc (end_term (suc (suc each)) value) in
      let body = suc jump in
      let out = suc (end_stmt body s) in
      code_term n b start ++ (placed n (SetI k IntK)
      ++ (code_term n loop test ++ (placed n (TestI out) ++ (placed n (EachI body k)
      ++ (placed line (VariableI k) ++ (code_term line (suc (suc each)) value ++ (placed line (StoreI false) ++ (placed n (JumpI loop)
      ++ (code_stmt 0 NoLoop body s ++ (placed n EndI
      ++ placed n JoinI))))))))))
  code_stmt n l b (Spawn how f es) = code_terms n b es ++ placed n (SpawnI how f)
  code_stmt n l b (Return e) = code_term n b e ++ placed n RetI
  code_stmt n l b (Block ss) = code_stmts n l b ss
  code_stmt n l b (Turn s w) = []
  code_stmt n l b (Forks k test line value s made now) = []
  code_stmt n l b (Each k test line value s made) = []
  code_stmt n l b (Wait made) = []
  code_stmt n l b (Left v) = []

  pub code_stmts : (n : ℕ) → (l : Loop) → (b : ℕ) → Stmts → List Placed
  code_stmts n l b NoStmts = []
  code_stmts n l b (MoreStmts s ss) = code_stmt n l b s ++ code_stmts n l (end_stmt b s) ss

  pub code_branches : (n b : ℕ) → Stmts → List Placed
  code_branches n b NoStmts = []
  code_branches n b (MoreStmts s ss) = code_stmt 0 NoLoop b s ++ (placed n EndI ++ code_branches n (suc (end_stmt b s)) ss)

-- a function: its body, then what it returns at its end
abbrev pub code_function : (b : ℕ) → Function → List Placed
code_function b f =
    code_stmts f.shape.line NoLoop b f.body ++ (placed f.shape.line (PushI f.default) ++ placed f.shape.line RetI)

abbrev pub end_function : ℕ → Function → ℕ
end_function b f = suc (suc (end_stmts b f.body))

-- function after function
abbrev pub code_functions : (b : ℕ) → List Function → List Placed
code_functions b [] = []
code_functions b (f ∷ fs) = code_function b f ++ code_functions (end_function b f) fs

abbrev pub entries : (b : ℕ) → List Function → List ℕ
entries b [] = []
entries b (f ∷ fs) = b ∷ entries (end_function b f) fs

abbrev pub layout : Program → Code
layout p = record { places = code_functions 0 p.functions; entries = entries 0 p.functions; shapes = shapes p }
