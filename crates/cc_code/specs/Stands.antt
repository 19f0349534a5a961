-- The parts of a function stand in the code from a place on, as the layout has them.
use Rattle.std.specs.Prelude.{◌≡◌, ℕ, suc, false, Some, slice_get}
use Rattle.cc_ops.specs.Operators.{takes}
use Rattle.cc_ops.specs.declared.kind.Kind.TheVariants.{Int as IntK}
use Rattle.cc_ops.specs.declared.operator.Op.TheVariants.{Bool as Bool'}
use Rattle.cc_core.specs.Core.{How, Alone, On, Remote, Term, Push, This, Variable, Member, Index, At, Load, Unary, Binary, And, Or, New}
use Rattle.cc_core.specs.Core.{NewObject, Call, Val, Body, Branch, Starts, Terms, NoTerms, MoreTerms, MoreCells, Copied, Stmt, Empty}
use Rattle.cc_core.specs.Core.{AtLine, Make, Set, Build, Assign, Drop, Print, If, IfElse, While, For, Break, Continue, Par, ParFor}
use Rattle.cc_core.specs.Core.{Spawn, Return, Block, Turn, Forks, Each, Wait, Left, Stmts, NoStmts, MoreStmts, Function}
use Rattle.cc_core.specs.Core.{function_shape}
use Rattle.cc_core.specs.Source.{width, values, IsCalled, IsBuilt}
use Rattle.cc_code.specs.Code.{Instr, PushI, ThisI, VariableI, FieldI, DropI, JumpI, EndI, IndexI, AtI, LoadI, StoreI, OpI, TestI, AndI}
use Rattle.cc_code.specs.Code.{OrI, MakeI, SetI, BuildI, NewI, NewObjectI, CallI, SpawnI, CellsI, RetI, ForkI, EachI, JoinI, PrintI}
use Rattle.cc_code.specs.Code.{Code, entry}
use Rattle.cc_code.specs.Layout.{end_term, end_terms, end_stmt, end_stmts, end_branches, targets, Loop, NoLoop, In}

-- the instruction of a statement at line n, at a place
abbrev pub Has : Code → ℕ → ℕ → Instr → Type 0
Has code n b i = slice_get code.places b ≡ Some (record { instr = i; line = n })

abbrev pub BreakStands : Code → ℕ → Loop → ℕ → Type 0
BreakStands code n NoLoop b = ⊥
BreakStands code n (In out again) b = Has code n b (JumpI out)

abbrev pub ContinueStands : Code → ℕ → Loop → ℕ → Type 0
ContinueStands code n NoLoop b = ⊥
ContinueStands code n (In out again) b = Has code n b (JumpI again)

-- a remote call has a join behind it
abbrev pub JoinStands : Code → ℕ → How → ℕ → Type 0
JoinStands code n Alone b = Unit {0}
JoinStands code n On b = Unit {0}
JoinStands code n Remote b = Has code n b JoinI

abbrev mutual
  pub TermStands : Code → ℕ → ℕ → Term → Type 0
  TermStands code n b (Push c) = Has code n b (PushI c)
  TermStands code n b This = Has code n b ThisI
  TermStands code n b (Variable k) = Has code n b (VariableI k)
  TermStands code n b (Member e o) = TermStands code n b e × Has code n (end_term b e) (FieldI o)
  TermStands code n b (Index x size y) =
      TermStands code n b x × TermStands code n (end_term b x) y × Has code n (end_term (end_term b x) y) (IndexI size)
  TermStands code n b (At x y) = TermStands code n b x × TermStands code n (end_term b x) y × Has code n (end_term (end_term b x) y) AtI
  TermStands code n b (Load remote e) = TermStands code n b e × Has code n (end_term b e) (LoadI remote)
  TermStands code n b (Unary op e) = TermStands code n b e × Has code n (end_term b e) (OpI op) × (takes op ≡ 1)
  TermStands code n b (Binary op x y) =
      TermStands code n b x × TermStands code n (end_term b x) y × Has code n (end_term (end_term b x) y) (OpI op) × (takes op ≡ 2)
  TermStands code n b (And x y) =
      TermStands code n b x × Has code n (end_term b x) (AndI (end_term b (And x y))) × TermStands code n (suc (end_term b x)) y
      × Has code n (end_term (suc (end_term b x)) y) (OpI Bool')
  TermStands code n b (Or x y) =
      TermStands code n b x × Has code n (end_term b x) (OrI (end_term b (Or x y))) × TermStands code n (suc (end_term b x)) y
      × Has code n (end_term (suc (end_term b x)) y) (OpI Bool')
  TermStands code n b (New kind size) = Has code n b (NewI kind size)
  TermStands code n b (NewObject remote c es) =
      TermsStand code n b es × Has code n (end_terms b es) (NewObjectI remote c) × IsBuilt code.shapes c es
  TermStands code n b (Call how f es) =
      TermsStand code n b es × Has code n (end_terms b es) (CallI how f) × IsCalled code.shapes how f es
      × JoinStands code n how (suc (end_terms b es))
  TermStands code n b (Val v) = ⊥
  TermStands code n b (Body f this env ss) = ⊥
  TermStands code n b (Branch this env s) = ⊥
  TermStands code n b (Starts f this vs) = ⊥

  pub TermsStand : Code → ℕ → ℕ → Terms → Type 0
  TermsStand code n b NoTerms = Unit {0}
  TermsStand code n b (MoreTerms e es) = TermStands code n b e × TermsStand code n (end_term b e) es
  TermsStand code n b (MoreCells e size es) =
      TermStands code n b e × Has code n (end_term b e) (CellsI size) × TermsStand code n (suc (end_term b e)) es
  TermsStand code n b (Copied vs es) = ⊥

-- the loop of a parfor, from its test at place b on; jump is the place behind the last part of its header
pub record ForksStand (code : Code) (n b k : ℕ) (test : Term) (line : ℕ) (value : Term) (s : Stmt) (jump : ℕ)
    (body : Type 0) : Type 0 where
  pub tests : TermStands code n b test
  pub chooses : Has code n (end_term b test) (TestI (suc (end_stmt (suc jump) s)))
  pub each : Has code n (suc (end_term b test)) (EachI (suc jump) k)
  pub place : Has code line (suc (suc (end_term b test))) (VariableI k)
  pub amount : TermStands code line (suc (suc (suc (end_term b test)))) value
  pub stores : Has code line (end_term (suc (suc (suc (end_term b test)))) value) (StoreI false)
  pub is_jump : jump ≡ suc (end_term (suc (suc (suc (end_term b test)))) value)
  pub jumps : Has code n jump (JumpI b)
  pub branch : body
  pub ends : Has code n (end_stmt (suc jump) s) EndI
  pub joins : Has code n (suc (end_stmt (suc jump) s)) JoinI

abbrev mutual
  pub StmtStands : Code → ℕ → Loop → ℕ → Stmt → Type 0
  StmtStands code n l b Empty = Unit {0}
  StmtStands code n l b (AtLine line s) = StmtStands code line l b s
  StmtStands code n l b (Make k kind size) = Has code n b (MakeI k kind size)
  StmtStands code n l b (Set k kind e) = TermStands code n b e × Has code n (end_term b e) (SetI k kind)
  StmtStands code n l b (Build k c es) = TermsStand code n b es × Has code n (end_terms b es) (BuildI k c) × IsBuilt code.shapes c es
  StmtStands code n l b (Assign remote x y) =
      TermStands code n b x × TermStands code n (end_term b x) y × Has code n (end_term (end_term b x) y) (StoreI remote)
  StmtStands code n l b (Drop e) = TermStands code n b e × Has code n (end_term b e) DropI
  StmtStands code n l b (Print parts es) = TermsStand code n b es × Has code n (end_terms b es) (PrintI parts) × (width es ≡ values parts)
  StmtStands code n l b (If c s) =
      TermStands code n b c × Has code n (end_term b c) (TestI (end_stmt b (If c s))) × StmtStands code n l (suc (end_term b c)) s
  StmtStands code n l b (IfElse c s t) =
      let one = suc (end_term b c) in
      let other = suc (end_stmt one s) in
      TermStands code n b c × Has code n (end_term b c) (TestI other) × StmtStands code n l one s
      × Has code n (end_stmt one s) (JumpI (end_stmt other t)) × StmtStands code n l other t
  StmtStands code n l b (While c s) =
      let turn = suc (end_term b c) in
      let out = suc (end_stmt turn s) in
      TermStands code n b c × Has code n (end_term b c) (TestI out) × StmtStands code n (In out b) turn s
      × Has code n (end_stmt turn s) (JumpI b)
  StmtStands code n l b (For c step s) =
      let turn = suc (end_term b c) in
      let again = end_stmt turn s in
      let out = suc (end_stmt again step) in
      TermStands code n b c × Has code n (end_term b c) (TestI out) × StmtStands code n (In out again) turn s
      × StmtStands code n NoLoop again step × Has code n (end_stmt again step) (JumpI b)
  StmtStands code n l b Break = BreakStands code n l b
  StmtStands code n l b Continue = ContinueStands code n l b
  StmtStands code n l b (Par ss) =
      let out = end_branches (suc (suc b)) ss in
      Has code n b (ForkI (targets (suc (suc b)) ss)) × Has code n (suc b) (JumpI out) × BranchesStand code n (suc (suc b)) ss
      × Has code n out JoinI
  StmtStands code n l b (ParFor k start test line value s) =
      let loop = suc (end_term b start) in
      let jump = suc (end_term (suc (suc (suc (end_term loop test)))) value) in
      TermStands code n b start × Has code n (end_term b start) (SetI k IntK)
      × ForksStand code n loop k test line value s jump (StmtStands code 0 NoLoop (suc jump) s)
  StmtStands code n l b (Spawn how f es) =
      TermsStand code n b es × Has code n (end_terms b es) (SpawnI how f) × IsCalled code.shapes how f es
  StmtStands code n l b (Return e) = TermStands code n b e × Has code n (end_term b e) RetI
  StmtStands code n l b (Block ss) = StmtsStand code n l b ss
  StmtStands code n l b (Turn s w) = ⊥
  StmtStands code n l b (Forks k test line value s made now) = ⊥
  StmtStands code n l b (Each k test line value s made) = ⊥
  StmtStands code n l b (Wait made) = ⊥
  StmtStands code n l b (Left v) = ⊥

  pub StmtsStand : Code → ℕ → Loop → ℕ → Stmts → Type 0
  StmtsStand code n l b NoStmts = Unit {0}
  StmtsStand code n l b (MoreStmts s ss) = StmtStands code n l b s × StmtsStand code n l (end_stmt b s) ss

  pub BranchesStand : Code → ℕ → ℕ → Stmts → Type 0
  BranchesStand code n b NoStmts = Unit {0}
  BranchesStand code n b (MoreStmts s ss) =
      StmtStands code 0 NoLoop b s × Has code n (end_stmt b s) EndI × BranchesStand code n (suc (end_stmt b s)) ss

-- a function: its shape, its body, and what it gives at its end
pub record FunctionStands (code : Code) (f : ℕ) (function : Function) : Type 0 where
  pub shape : function_shape code.shapes f ≡ function.shape
  pub body : StmtsStand code function.shape.line NoLoop (entry code f) function.body
  pub gives : Has code function.shape.line (end_stmts (entry code f) function.body) (PushI function.default)
  pub leaves : Has code function.shape.line (suc (end_stmts (entry code f) function.body)) RetI
