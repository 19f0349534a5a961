-- The rules of sharing that a thing breaks by where it stands: `cout` outside of `main`, or in a branch of it; and an atomic function. They are said
-- of the tree, without variables, types and what is collected.
use Rattle.std.specs.Prelude.{ℕ, zero, suc, Bool, true, false, not, ◌&&◌, if◌then◌else◌, List, [], ◌∷◌, ◌++◌, Option, Some, None, bytes_eq, codes}
use Rattle.cc_scopes.specs.declared.sharing.Share.{Share}
use Rattle.cc_scopes.specs.declared.sharing.ShareRule.{ShareRule}
use Rattle.cc_scopes.specs.declared.sharing.ShareRule.TheVariants.{PlainAddress, PlainThroughPointer, PlainMember, OuterPlainWritten, PrintInBranch}
use Rattle.cc_scopes.specs.declared.sharing.ShareRule.TheVariants.{AtomicUsed}
use Rattle.cc_tree.specs.declared.declarations.Function.{Function}
use Rattle.cc_tree.specs.declared.declarations.Item.{Item}
use Rattle.cc_tree.specs.declared.declarations.Item.TheVariants as item
use Rattle.cc_tree.specs.declared.declarations.Member.{Member}
use Rattle.cc_tree.specs.declared.declarations.Member.TheVariants as member
use Rattle.cc_tree.specs.declared.statements.Stmt.{Stmt, out-Stmt}
use Rattle.cc_tree.specs.declared.statements.StmtKind.{StmtKind, out-StmtKind}
use Rattle.cc_tree.specs.declared.statements.StmtKind.TheOpen.{StmtKind-F}

abbrev pub Layer : Type 0
Layer = StmtKind-F StmtKind Stmt

abbrev pub layer : Stmt → Layer
layer b = out-StmtKind (out-Stmt b).kind

-- ---- those among the rules that are broken

abbrev pub is_placed : ShareRule → Bool
is_placed PlainAddress = false
is_placed PlainThroughPointer = false
is_placed PlainMember = false
is_placed OuterPlainWritten = false
is_placed PrintInBranch = true
is_placed AtomicUsed = true

abbrev pub placed : List Share → List Share
placed [] = []
placed (share ∷ more) = if is_placed share.rule then share ∷ placed more else placed more

-- ---- statements, in the order of the text

abbrev pub print_share : (alone : Bool) → (line : ℕ) → List Share
print_share true line = []
print_share false line = record { rule = PrintInBranch; line = line } ∷ []

-- main: whether they stand in `main`. stmt: those of a statement within, in a branch or not
module _ (main : Bool) (stmt : (branch : Bool) → Stmt → List Share) where
  abbrev pub each : Bool → List Stmt → List Share
  each branch [] = []
  each branch (b ∷ bs) = stmt branch b ++ each branch bs

  abbrev pub body_by : Layer → Bool → Stmt → List Share
  body_by (StmtKind-F.Block ss) branch b = each branch ss
  body_by _ branch b = stmt branch b

  -- the statement of a loop
  abbrev pub body : Bool → Stmt → List Share
  body branch b = body_by (layer b) branch b

  abbrev pub choice : Bool → Stmt → Option Stmt → List Share
  choice branch first None = stmt branch first
  choice branch first (Some other) = stmt branch first ++ stmt branch other

  abbrev pub optional : Bool → Option Stmt → List Share
  optional branch None = []
  optional branch (Some b) = stmt branch b

  -- a statement that may be an assignment, in which nothing is printed
  abbrev pub unless_assigned : Layer → Bool → Stmt → List Share
  unless_assigned (StmtKind-F.Assign target op e) branch b = []
  unless_assigned _ branch b = stmt branch b

  -- a statement of a par, and the body of a parfor, is a branch
  abbrev pub kind : Layer → (line : ℕ) → Bool → List Share
  kind (StmtKind-F.Block ss) line branch = each branch ss
  kind (StmtKind-F.Print xs) line branch = print_share (main && not branch) line
  kind (StmtKind-F.If c first other) line branch = choice branch first other
  kind (StmtKind-F.While c b) line branch = stmt branch b
  kind (StmtKind-F.For first c after b) line branch = each branch first ++ (optional branch after ++ body branch b)
  kind (StmtKind-F.Par bs) line branch = each true bs
  kind (StmtKind-F.ParFor name start c after b) line branch = unless_assigned (layer after) branch after ++ body true b
  kind _ line branch = []

-- to a depth. The parser gives no tree that is deeper than what is read of a function
unfoldable pub statement_to : ℕ → (main branch : Bool) → Stmt → List Share
statement_to zero main branch b = []
statement_to (suc depth) main branch b = kind main (statement_to depth main) (layer b) (out-Stmt b).line branch

abbrev pub statement : (main branch : Bool) → Stmt → List Share
statement = statement_to 1000

-- ---- functions, constructors and items

abbrev pub atomic_share : (atomic : Bool) → (line : ℕ) → List Share
atomic_share true line = record { rule = AtomicUsed; line = line } ∷ []
atomic_share false line = []

abbrev pub function : (main : Bool) → Function → List Share
function main f = atomic_share f.atomic f.line ++ each main (statement main) false f.body

-- a constructor that breaks no static rule has assignments alone
abbrev pub constructor : List Stmt → List Share
constructor [] = []
constructor (b ∷ bs) = unless_assigned false (statement false) (layer b) false b ++ constructor bs

abbrev pub members : List Member → List Share
members [] = []
members (member.Field d ∷ more) = members more
members (member.Func f ∷ more) = function false f ++ members more
members (member.Build name params body line ∷ more) = constructor body ++ members more

abbrev pub items : List Item → List Share
items [] = []
items (item.Const name value line ∷ more) = items more
items (item.Class class ∷ more) = members class.members ++ items more
items (item.Func f ∷ more) = function (bytes_eq f.name (codes "main")) f ++ items more
