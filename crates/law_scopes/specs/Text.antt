-- The text of a function as marks: where scopes open and close, what is declared, and which names are used. What a name means is read
-- from the text backwards, without the checker's list of variables.
use Rattle.std.specs.Prelude.{◌≡◌, ℕ, zero, suc, Bool, true, false, if◌then◌else◌, List, [], ◌∷◌, ◌++◌, length, Option, Some, None, bytes_eq}
use Rattle.cc_names.specs.Table.{Name}
use Rattle.cc_scopes.specs.declared.scope.Found.{Found}
use Rattle.cc_scopes.specs.declared.state.State.{State}
use Rattle.cc_scopes.specs.Scope.{variable}
use Rattle.cc_tree.specs.declared.expressions.Expr.{Expr}
use Rattle.cc_tree.specs.declared.statements.Decl.{Decl}
use Rattle.cc_tree.specs.declared.statements.PrintItem.{PrintItem}
use Rattle.cc_tree.specs.declared.statements.PrintItem.TheVariants as item
use Rattle.cc_tree.specs.declared.statements.Start.{Start}
use Rattle.cc_tree.specs.declared.statements.Start.TheVariants as start
use Rattle.cc_tree.specs.declared.statements.Stmt.{Stmt, out-Stmt}
use Rattle.cc_tree.specs.declared.statements.StmtKind.{StmtKind, out-StmtKind}
use Rattle.cc_tree.specs.declared.statements.StmtKind.TheOpen.{StmtKind-F}
use Rattle.cc_elaboration.specs.Statements.{names}
use Rattle.law_scopes.specs.Uses.{names_to, IsAmong}

pub data Mark : Type 0 where
  Opens : Mark
  Closes : Mark
  Declares : Name → Mark
  -- a branch of a `parfor` has a copy of the loop's variable, which is the k-th that the function declares
  Copies : Name → (k : ℕ) → Mark
  Uses : Name → Mark

-- the latest mark first
abbrev pub Text : Type 0
Text = List Mark

abbrev pub declarations : Text → ℕ
declarations [] = 0
declarations (Declares x ∷ before) = suc (declarations before)
declarations (Opens ∷ before) = declarations before
declarations (Closes ∷ before) = declarations before
declarations (Copies x k ∷ before) = declarations before
declarations (Uses x ∷ before) = declarations before

-- Which declaration a name means at the end of a text: back from there, past whatever lies in scopes that are closed, the first one of the
-- name. Its number is that of the declarations before it in the text.
abbrev pub nearest : Text → (closed : ℕ) → Name → Option ℕ
nearest [] closed name = None
nearest (Closes ∷ before) closed name = nearest before (suc closed) name
nearest (Opens ∷ before) zero name = nearest before zero name
nearest (Opens ∷ before) (suc closed) name = nearest before closed name
nearest (Declares x ∷ before) zero name = if bytes_eq x name then Some (declarations before) else nearest before zero name
nearest (Declares x ∷ before) (suc closed) name = nearest before (suc closed) name
nearest (Copies x k ∷ before) zero name = if bytes_eq x name then Some k else nearest before zero name
nearest (Copies x k ∷ before) (suc closed) name = nearest before (suc closed) name
nearest (Uses x ∷ before) closed name = nearest before closed name

-- ---- the marks of the parts of a statement, behind what is before it

abbrev pub uses : List Name → Text → Text
uses [] before = before
uses (x ∷ xs) before = uses xs (Uses x ∷ before)

abbrev pub in_expr : Expr → Text → Text
in_expr e before = uses (names_to 1000 e) before

abbrev pub in_some : Option Expr → Text → Text
in_some None before = before
in_some (Some e) before = in_expr e before

abbrev pub in_all : List Expr → Text → Text
in_all [] before = before
in_all (e ∷ es) before = in_all es (in_expr e before)

abbrev pub in_start : Start → Text → Text
in_start start.Nothing before = before
in_start (start.Value e) before = in_expr e before
in_start (start.Args es) before = in_all es before

-- a variable is not in scope in its own length and start
abbrev pub declared : Decl → Text → Text
declared d before = Declares d.name ∷ in_start d.start (in_some d.length before)

abbrev pub in_items : List PrintItem → Text → Text
in_items [] before = before
in_items (item.Value e ∷ more) before = in_items more (in_expr e before)
in_items (item.Str bytes ∷ more) before = in_items more before
in_items (item.Endl ∷ more) before = in_items more before

-- ---- the marks of statements

abbrev pub Layer : Type 0
Layer = StmtKind-F StmtKind Stmt

abbrev pub layer : Stmt → Layer
layer b = out-StmtKind (out-Stmt b).kind

module _ (marks : Stmt → Text → Text) where
  abbrev pub in_each : List Stmt → Text → Text
  in_each [] before = before
  in_each (b ∷ bs) before = in_each bs (marks b before)

  abbrev pub in_maybe : Option Stmt → Text → Text
  in_maybe None before = before
  in_maybe (Some b) before = marks b before

  -- the block of a loop with a header shares the header's scope
  abbrev pub in_body_by : Layer → Stmt → Text → Text
  in_body_by (StmtKind-F.Block ss) b before = in_each ss before
  in_body_by _ b before = marks b before

  abbrev pub in_body : Stmt → Text → Text
  in_body b before = in_body_by (layer b) b before

  -- the step of a `parfor` assigns the loop's variable, which its name alone stands for; any other step breaks a rule
  abbrev pub in_step_if : (assigns : Bool) → (target value : Expr) → Stmt → Text → Text
  in_step_if true target e b before = in_expr e (in_expr target before)
  in_step_if false target e b before = marks b before

  abbrev pub in_step_by : Layer → Name → Stmt → Text → Text
  in_step_by (StmtKind-F.Assign target op e) name b before = in_step_if (names target name) target e b before
  in_step_by _ name b before = marks b before

  abbrev pub in_step : Name → Stmt → Text → Text
  in_step name b before = in_step_by (layer b) name b before

  abbrev pub in_counter : Name → (start test : Expr) → (step body : Stmt) → Text → Text
  in_counter name start test step body before =
      in_body body (Copies name (declarations before) ∷ in_step name step (in_expr test (Declares name ∷ in_expr start before)))

  abbrev pub in_kind : Layer → Text → Text
  in_kind (StmtKind-F.Block ss) before = Closes ∷ in_each ss (Opens ∷ before)
  in_kind StmtKind-F.Empty before = before
  in_kind (StmtKind-F.Declare d) before = declared d before
  in_kind (StmtKind-F.Assign target op e) before = in_expr e (in_expr target before)
  in_kind (StmtKind-F.Call e) before = in_expr e before
  in_kind (StmtKind-F.Print xs) before = in_items xs before
  in_kind (StmtKind-F.If c first other) before = in_maybe other (marks first (in_expr c before))
  in_kind (StmtKind-F.While c b) before = marks b (in_expr c before)
  in_kind (StmtKind-F.For first c after b) before = Closes ∷ in_body b (in_maybe after (in_some c (in_each first (Opens ∷ before))))
  in_kind StmtKind-F.Break before = before
  in_kind StmtKind-F.Continue before = before
  in_kind (StmtKind-F.Par bs) before = in_each bs before
  in_kind (StmtKind-F.ParFor name start c after b) before = Closes ∷ in_counter name start c after b (Opens ∷ before)
  in_kind (StmtKind-F.Spawn e) before = in_expr e before
  in_kind (StmtKind-F.Return e) before = in_some e before

-- to a depth
unfoldable pub marks_to : ℕ → Stmt → Text → Text
marks_to zero b before = before
marks_to (suc depth) b before = in_kind (marks_to depth) (layer b) before

-- ---- what the checker has for the names in scope is what the text says

abbrev pub number_of : Option Found → Option ℕ
number_of None = None
number_of (Some found) = Some found.number

pub record Matches (s : State) (text : Text) : Type 0 where
  -- as many variables are made as the text declares
  pub made : length s.made ≡ declarations text
  -- and each name finds the one that the text says
  pub finds : (name : Name) → number_of (variable name s.locals) ≡ nearest text 0 name

-- the number that the text says for one of these names
abbrev pub IsNearest : Text → List Name → ℕ → Type 0
IsNearest text names k = (name : Name) × IsAmong names name × (nearest text 0 name ≡ Some k)

-- a text declares a name behind some other text, as its declaration of this number
abbrev pub IsDeclaration : Text → Name → (before : Text) → (k : ℕ) → Type 0
IsDeclaration text name before k = (later : Text) × (text ≡ later ++ Declares name ∷ before) × (declarations before ≡ k)
