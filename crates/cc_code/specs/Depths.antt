-- How many operands each place finds.
use Rattle.std.specs.Prelude.{◌≡◌, ℕ, suc, ◌+◌, List, [], ◌∷◌}
use Rattle.cc_ops.specs.Operators.{takes}
use Rattle.cc_core.specs.Core.{Alone, On, Remote, Term, Push, This, Variable, Member, Index, At, Load, Unary, Binary, And, Or, New}
use Rattle.cc_core.specs.Core.{NewObject, Call, Terms, NoTerms, MoreTerms, MoreCells, Copied, Stmt, Empty}
use Rattle.cc_core.specs.Core.{AtLine, Make, Set, Build, Assign, Drop, Print, If, IfElse, While, For, Break, Continue, Par, ParFor}
use Rattle.cc_core.specs.Core.{Spawn, Return, Block, Stmts, NoStmts, MoreStmts, Shapes, class_shape}
use Rattle.cc_core.specs.Source.{width, operands, values}
use Rattle.cc_code.specs.Code.{Instr, PushI, ThisI, VariableI, FieldI, DropI, JumpI, EndI, IndexI, AtI, LoadI, StoreI, OpI, TestI, AndI}
use Rattle.cc_code.specs.Code.{OrI, MakeI, SetI, BuildI, NewI, NewObjectI, CallI, SpawnI, CellsI, RetI, ForkI, EachI, JoinI, PrintI}
use Rattle.cc_code.specs.Code.{Placed, Code}
use Rattle.cc_code.specs.Layout.{end_term, end_terms, end_stmt, end_branches, Loop, NoLoop, In}

-- the instruction at place b takes m operands and leaves n in their stead
abbrev pub Takes : (ℕ → ℕ) → ℕ → ℕ → ℕ → Type 0
Takes ds b m n = (d : ℕ) × (ds b ≡ d + m) × (ds (suc b) ≡ d + n)

abbrev pub AllZero : (ℕ → ℕ) → List ℕ → Type 0
AllZero ds [] = Unit {0}
AllZero ds (to ∷ more) = (ds to ≡ 0) × AllZero ds more

-- the depth at a place, at the next one and at targets fit its instruction
abbrev pub Flows : Shapes → (ℕ → ℕ) → ℕ → Instr → Type 0
Flows h ds b (PushI c) = Takes ds b 0 1
Flows h ds b ThisI = Takes ds b 0 1
Flows h ds b (VariableI k) = Takes ds b 0 1
Flows h ds b (FieldI o) = Takes ds b 1 1
Flows h ds b DropI = Takes ds b 1 0
Flows h ds b (JumpI to) = ds to ≡ ds b
Flows h ds b EndI = ds b ≡ 0
Flows h ds b (IndexI n) = Takes ds b 2 1
Flows h ds b AtI = Takes ds b 2 1
Flows h ds b (LoadI remote) = Takes ds b 1 1
Flows h ds b (StoreI remote) = Takes ds b 2 0
Flows h ds b (OpI op) = Takes ds b (takes op) 1
Flows h ds b (TestI to) = Takes ds b 1 0 × (ds to ≡ ds (suc b))
Flows h ds b (AndI to) = Takes ds b 1 0 × (ds to ≡ suc (ds (suc b)))
Flows h ds b (OrI to) = Takes ds b 1 0 × (ds to ≡ suc (ds (suc b)))
Flows h ds b (MakeI k kind n) = Takes ds b 0 0
Flows h ds b (SetI k kind) = Takes ds b 1 0
Flows h ds b (BuildI k c) = Takes ds b (class_shape h c).params 0
Flows h ds b (NewI kind n) = Takes ds b 0 1
Flows h ds b (NewObjectI remote c) = Takes ds b (class_shape h c).params 1
Flows h ds b (CallI how f) = Takes ds b (operands h how f) 1
Flows h ds b (SpawnI how f) = Takes ds b (operands h how f) 0
Flows h ds b (CellsI n) = Takes ds b 1 n
Flows h ds b RetI = ds b ≡ 1
Flows h ds b (ForkI targets) = Takes ds b 0 0 × AllZero ds targets
Flows h ds b (EachI to k) = Takes ds b 0 0 × (ds to ≡ 0)
Flows h ds b JoinI = Takes ds b 0 0
Flows h ds b (PrintI parts) = Takes ds b (values parts) 0

-- each instruction from a place on
abbrev pub AllFlow : Shapes → (ℕ → ℕ) → ℕ → List Placed → Type 0
AllFlow h ds b [] = Unit {0}
AllFlow h ds b (i ∷ is) = Flows h ds b i.instr × AllFlow h ds (suc b) is

-- each place of the code has a depth that fits its instruction, so that an instruction finds the operands that it takes and each place is
-- reached with one depth; a function and a branch begin with none
abbrev pub HaveDepths : Code → Type 0
HaveDepths code = (ds : ℕ → ℕ) × AllFlow code.shapes ds 0 code.places × AllZero ds code.entries

abbrev mutual
  -- the depths of a term that begins at depth d
  pub TermDeep : (ℕ → ℕ) → ℕ → ℕ → Term → Type 0
  TermDeep ds d b (Push c) = ds b ≡ d
  TermDeep ds d b This = ds b ≡ d
  TermDeep ds d b (Variable k) = ds b ≡ d
  TermDeep ds d b (Member e o) = TermDeep ds d b e × (ds (end_term b e) ≡ suc d)
  TermDeep ds d b (Index x n y) =
      TermDeep ds d b x × TermDeep ds (suc d) (end_term b x) y × (ds (end_term (end_term b x) y) ≡ suc (suc d))
  TermDeep ds d b (At x y) = TermDeep ds d b x × TermDeep ds (suc d) (end_term b x) y × (ds (end_term (end_term b x) y) ≡ suc (suc d))
  TermDeep ds d b (Load remote e) = TermDeep ds d b e × (ds (end_term b e) ≡ suc d)
  TermDeep ds d b (Unary op e) = TermDeep ds d b e × (ds (end_term b e) ≡ suc d)
  TermDeep ds d b (Binary op x y) =
      TermDeep ds d b x × TermDeep ds (suc d) (end_term b x) y × (ds (end_term (end_term b x) y) ≡ suc (suc d))
  TermDeep ds d b (And x y) =
      TermDeep ds d b x × (ds (end_term b x) ≡ suc d) × TermDeep ds d (suc (end_term b x)) y
      × (ds (end_term (suc (end_term b x)) y) ≡ suc d)
  TermDeep ds d b (Or x y) =
      TermDeep ds d b x × (ds (end_term b x) ≡ suc d) × TermDeep ds d (suc (end_term b x)) y
      × (ds (end_term (suc (end_term b x)) y) ≡ suc d)
  TermDeep ds d b (New kind n) = ds b ≡ d
  TermDeep ds d b (NewObject remote c es) = TermsDeep ds d b es × (ds (end_terms b es) ≡ d + width es)
  TermDeep ds d b (Call Alone f es) = TermsDeep ds d b es × (ds (end_terms b es) ≡ d + width es)
  TermDeep ds d b (Call On f es) = TermsDeep ds d b es × (ds (end_terms b es) ≡ d + width es)
  TermDeep ds d b (Call Remote f es) = TermsDeep ds d b es × (ds (end_terms b es) ≡ d + width es) × (ds (suc (end_terms b es)) ≡ suc d)
  TermDeep ds d b e = ⊥

  pub TermsDeep : (ℕ → ℕ) → ℕ → ℕ → Terms → Type 0
  TermsDeep ds d b NoTerms = Unit {0}
  TermsDeep ds d b (MoreTerms e es) = TermDeep ds d b e × TermsDeep ds (suc d) (end_term b e) es
  TermsDeep ds d b (MoreCells e n es) = TermDeep ds d b e × (ds (end_term b e) ≡ suc d) × TermsDeep ds (d + n) (suc (end_term b e)) es
  TermsDeep ds d b (Copied vs es) = ⊥

-- where break and continue go
abbrev pub LoopDeep : (ℕ → ℕ) → Loop → Type 0
LoopDeep ds NoLoop = Unit {0}
LoopDeep ds (In out again) = (ds out ≡ 0) × (ds again ≡ 0)

abbrev mutual
  -- the depths of a statement, which begins and ends at depth 0
  pub StmtDeep : (ℕ → ℕ) → ℕ → Stmt → Type 0
  StmtDeep ds b Empty = Unit {0}
  StmtDeep ds b (AtLine line s) = StmtDeep ds b s
  StmtDeep ds b (Make k kind n) = ds b ≡ 0
  StmtDeep ds b (Set k kind e) = TermDeep ds 0 b e × (ds (end_term b e) ≡ 1)
  StmtDeep ds b (Build k c es) = TermsDeep ds 0 b es × (ds (end_terms b es) ≡ width es)
  StmtDeep ds b (Assign remote x y) = TermDeep ds 0 b x × TermDeep ds 1 (end_term b x) y × (ds (end_term (end_term b x) y) ≡ 2)
  StmtDeep ds b (Drop e) = TermDeep ds 0 b e × (ds (end_term b e) ≡ 1)
  StmtDeep ds b (Print parts es) = TermsDeep ds 0 b es × (ds (end_terms b es) ≡ width es)
  StmtDeep ds b (If c s) = TermDeep ds 0 b c × (ds (end_term b c) ≡ 1) × StmtDeep ds (suc (end_term b c)) s
  StmtDeep ds b (IfElse c s t) =
      let one = suc (end_term b c) in
      TermDeep ds 0 b c × (ds (end_term b c) ≡ 1) × StmtDeep ds one s × (ds (end_stmt one s) ≡ 0) × StmtDeep ds (suc (end_stmt one s)) t
  StmtDeep ds b (While c s) =
      let one = suc (end_term b c) in
      TermDeep ds 0 b c × (ds (end_term b c) ≡ 1) × StmtDeep ds one s × (ds (end_stmt one s) ≡ 0)
  StmtDeep ds b (For c step s) =
      let one = suc (end_term b c) in
      let again = end_stmt one s in
      TermDeep ds 0 b c × (ds (end_term b c) ≡ 1) × StmtDeep ds one s × StmtDeep ds again step × (ds (end_stmt again step) ≡ 0)
  StmtDeep ds b Break = ds b ≡ 0
  StmtDeep ds b Continue = ds b ≡ 0
  StmtDeep ds b (Par ss) = (ds b ≡ 0) × (ds (suc b) ≡ 0) × BranchesDeep ds (suc (suc b)) ss × (ds (end_branches (suc (suc b)) ss) ≡ 0)
  StmtDeep ds b (ParFor k start test line value s) =
      let loop = suc (end_term b start) in
      let each = suc (end_term loop test) in
      let jump = suc (end_term (suc (suc each)) value) in
      TermDeep ds 0 b start × (ds (end_term b start) ≡ 1) × TermDeep ds 0 loop test × (ds (end_term loop test) ≡ 1) × (ds each ≡ 0)
      × (ds (suc each) ≡ 0) × TermDeep ds 1 (suc (suc each)) value
      × (ds (end_term (suc (suc each)) value) ≡ 2) × (ds jump ≡ 0) × StmtDeep ds (suc jump) s × (ds (end_stmt (suc jump) s) ≡ 0)
      × (ds (suc (end_stmt (suc jump) s)) ≡ 0)
  StmtDeep ds b (Spawn how f es) = TermsDeep ds 0 b es × (ds (end_terms b es) ≡ width es)
  StmtDeep ds b (Return e) = TermDeep ds 0 b e × (ds (end_term b e) ≡ 1)
  StmtDeep ds b (Block ss) = StmtsDeep ds b ss
  StmtDeep ds b s = ⊥

  pub StmtsDeep : (ℕ → ℕ) → ℕ → Stmts → Type 0
  StmtsDeep ds b NoStmts = Unit {0}
  StmtsDeep ds b (MoreStmts s ss) = StmtDeep ds b s × StmtsDeep ds (end_stmt b s) ss

  pub BranchesDeep : (ℕ → ℕ) → ℕ → Stmts → Type 0
  BranchesDeep ds b NoStmts = Unit {0}
  BranchesDeep ds b (MoreStmts s ss) = StmtDeep ds b s × (ds (end_stmt b s) ≡ 0) × BranchesDeep ds (suc (end_stmt b s)) ss
