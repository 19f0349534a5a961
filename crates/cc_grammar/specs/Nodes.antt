-- The nodes of the tree, from what their symbols stand for. The line of a node is that of its first token.
use Rattle.std.specs.Prelude.{ℕ, ℤ, pos, Bool, true, false, List, [], ◌∷◌, ◌++◌, Option, Some, None}
use Rattle.cc_tree.specs.declared.expressions.UnaryOp.{UnaryOp}
use Rattle.cc_tree.specs.declared.expressions.BinaryOp.{BinaryOp}
use Rattle.cc_tree.specs.declared.expressions.Expr.{Expr, out-Expr, roll-Expr}
use Rattle.cc_tree.specs.declared.expressions.ExprKind.{ExprKind}
use Rattle.cc_tree.specs.declared.expressions.ExprKind.TheVariants as e
use Rattle.cc_tree.specs.declared.expressions.Suffix.{Suffix}
use Rattle.cc_tree.specs.declared.expressions.Suffix.TheVariants as suffix
use Rattle.cc_tree.specs.declared.expressions.Link.{Link, roll-Link}
use Rattle.cc_tree.specs.declared.statements.AssignOp.{AssignOp}
use Rattle.cc_tree.specs.declared.statements.Base.{Base}
use Rattle.cc_tree.specs.declared.statements.TypeName.{TypeName}
use Rattle.cc_tree.specs.declared.statements.Start.{Start}
use Rattle.cc_tree.specs.declared.statements.Start.TheVariants as start
use Rattle.cc_tree.specs.declared.statements.Decl.{Decl}
use Rattle.cc_tree.specs.declared.statements.Stmt.{Stmt, roll-Stmt}
use Rattle.cc_tree.specs.declared.statements.StmtKind.{StmtKind}
use Rattle.cc_tree.specs.declared.statements.StmtKind.TheVariants as s
use Rattle.cc_tree.specs.declared.declarations.Param.{Param}
use Rattle.cc_tree.specs.declared.declarations.Function.{Function}
use Rattle.cc_tree.specs.declared.declarations.Member.{Member}
use Rattle.cc_tree.specs.declared.declarations.Member.TheVariants as member_node
use Rattle.cc_grammar.specs.declared.parts.Name.{Name}
use Rattle.cc_grammar.specs.declared.parts.Pointer.{Pointer}
use Rattle.cc_grammar.specs.declared.parts.Spec.{Spec}
use Rattle.cc_grammar.specs.declared.parts.Slot.{Slot}
use Rattle.cc_grammar.specs.declared.parts.Block.{Block}

-- ---- expressions

abbrev pub node : ExprKind → ℕ → Expr
node kind line = roll-Expr (record { kind = kind; line = line })

abbrev pub line_of : Expr → ℕ
line_of x = (out-Expr x).line

-- operators of one level in a row are one chain
abbrev pub chained : Expr → List Link → Expr
chained first [] = first
chained first (l ∷ ls) = node (e.Chain first (l ∷ ls)) (line_of first)

abbrev pub linked : BinaryOp → Expr → Link
linked op part = roll-Link (record { op = op; part = part })

abbrev pub prefixed : UnaryOp → Expr → ℕ → Expr
prefixed op part line = node (e.Unary op part) line

abbrev pub posted : Expr → List Suffix → Expr
posted first [] = first
posted first (l ∷ ls) = node (e.Post first (l ∷ ls)) (line_of first)

-- a name, alone or with arguments
abbrev pub named : Name → Option (List Expr) → Expr
named t None = node (e.Name t.text) t.line
named t (Some args) = node (e.Call t.text args) t.line

-- a member by `.` or `->`, alone or with arguments
abbrev pub member_of : Bool → Name → Option (List Expr) → Suffix
member_of arrow t None = suffix.Field arrow t.text
member_of arrow t (Some args) = suffix.CallOn arrow t.text args

-- no parentheses are no arguments
abbrev pub args_of : Option (List Expr) → List Expr
args_of None = []
args_of (Some args) = args

-- the literal 1
abbrev pub one : ℕ → Expr
one line = node (e.Int (pos 1)) line

-- ---- declarations

abbrev pub spec_of : Base → ℕ → Spec
spec_of base line = record { base = base; line = line }

abbrev pub no_pointer : Pointer
no_pointer = record { star = false; remote = false; once = false }

abbrev pub pointer : Bool → Bool → Pointer
pointer remote once = record { star = true; remote = remote; once = once }

abbrev pub type_of : Spec → Pointer → TypeName
type_of b p = record { base = b.base; star = p.star; remote = p.remote; once = p.once }

abbrev pub slot_of : Pointer → Name → Option Expr → Slot
slot_of p t length = record { pointer = p; name = t.text; length = length }

abbrev pub decl_of : Spec → Slot → Start → Decl
decl_of b slot start = record { ty = type_of b slot.pointer; name = slot.name; length = slot.length; start = start; line = b.line }

abbrev pub param_of : Spec → Pointer → Name → Param
param_of b p t = record { ty = type_of b p; name = t.text; line = b.line }

-- ---- statements

abbrev pub stated : StmtKind → ℕ → Stmt
stated kind line = roll-Stmt (record { kind = kind; line = line })

abbrev pub declared : Spec → Slot → Start → Stmt
declared b slot start = stated (s.Declare (decl_of b slot start)) b.line

abbrev pub assigned : Expr → AssignOp → Expr → Stmt
assigned place op value = stated (s.Assign place op value) (line_of place)

abbrev pub called : Expr → Stmt
called call = stated (s.Call call) (line_of call)

abbrev pub joined : {A : Type 0} → List (List A) → List A
joined [] = []
joined (xs ∷ xss) = xs ++ joined xss

-- ---- functions and members

abbrev pub function_of : Spec → Pointer → Name → List Param → Block → Function
function_of b p t params block = record { name = t.text; atomic = false; result = type_of b p; params = params; body = block.body; line = b.line }

abbrev pub atomic_of : ℕ → Function → Function
atomic_of line f = record f { atomic = true; line = line }

abbrev pub field_of : Spec → Slot → Member
field_of b slot = member_node.Field (decl_of b slot start.Nothing)

abbrev pub build_of : Name → List Param → Block → Member
build_of t params block = member_node.Build t.text params block.body t.line
