-- Assignments.
use Rattle.std.specs.Prelude.{Option, Some, None}
use Rattle.cc_core.specs.declared.expression.Expression.{Expression}
use Rattle.cc_core.specs.declared.statement.Statement.{Statement}
use Rattle.cc_core.specs.declared.statement.Statement.TheVariants as s
use Rattle.cc_tree.specs.declared.expressions.BinaryOp.{BinaryOp}
use Rattle.cc_tree.specs.declared.expressions.BinaryOp.TheVariants as binary
use Rattle.cc_tree.specs.declared.expressions.Expr.{Expr}
use Rattle.cc_tree.specs.declared.statements.AssignOp.{AssignOp}
use Rattle.cc_tree.specs.declared.statements.AssignOp.TheVariants as assign'
use Rattle.cc_scopes.specs.declared.typed.Operand.{Operand}
use Rattle.cc_scopes.specs.declared.typed.Place.{Place}
use Rattle.cc_scopes.specs.declared.typed.Typed.{Typed}
use Rattle.cc_scopes.specs.declared.types.Ty.{Ty}
use Rattle.cc_scopes.specs.Elab.{Elab, ◌>>=◌, ◌>>◌, pure}
use Rattle.cc_scopes.specs.Scope.{Context}
use Rattle.cc_scopes.specs.Typed.{decay}
use Rattle.cc_typing.specs.Expr.{expr}
use Rattle.cc_operators.specs.Operators.{joined}
use Rattle.cc_typing.specs.Whole.{operand, fitting, place, written}
use Rattle.cc_elaboration.specs.declared.assignments.Assignment.{Assignment}

-- the operator before `=`
abbrev pub operator : AssignOp → Option BinaryOp
operator assign'.Set = None
operator assign'.Add = Some binary.Add
operator assign'.Sub = Some binary.Sub
operator assign'.Mul = Some binary.Mul
operator assign'.Div = Some binary.Div
operator assign'.Rem = Some binary.Rem

-- `p op= e` is `p = p op (e)`
unfoldable pub combined : Context → BinaryOp → (target value : Expr) → Elab Typed
combined cx op p e = expr cx p >>= (λ a. expr cx e >>= (λ b. joined cx op a b))

abbrev pub term_of : Option Operand → Option Expression
term_of None = None
term_of (Some v) = Some v.term

unfoldable pub combined_value : Context → BinaryOp → (target value : Expr) → Elab (Option Expression)
combined_value cx op p e = combined cx op p e >>= (λ t. decay cx t >>= (λ v. pure (term_of v)))

abbrev pub value_by : Option BinaryOp → Context → Ty → (target value : Expr) → Elab (Option Expression)
value_by None cx wanted p e = fitting cx wanted e
value_by (Some op) cx wanted p e = combined_value cx op p e

abbrev pub assigned : Place → Option Expression → Option Assignment
assigned p None = None
assigned p (Some v) = Some (record { place = p; value = v })

unfoldable pub assignment_to : Place → Context → AssignOp → (target value : Expr) → Elab (Option Assignment)
assignment_to p cx op target e = value_by (operator op) cx p.ty target e >>= (λ v. written cx p >> pure (assigned p v))

-- Where the place breaks a rule, the value is read for its own.
unfoldable pub no_assignment : Context → Expr → Elab (Option Assignment)
no_assignment cx e = operand cx e >> pure None

abbrev pub assignment_at : Option Place → Context → AssignOp → (target value : Expr) → Elab (Option Assignment)
assignment_at None cx op target e = no_assignment cx e
assignment_at (Some p) cx op target e = assignment_to p cx op target e

-- what an assignment writes and where to, and none where a rule is broken in it
unfoldable pub assignment : Context → (target : Expr) → AssignOp → (value : Expr) → Elab (Option Assignment)
assignment cx target op e = place cx target >>= (λ p. assignment_at p cx op target e)

abbrev pub stored : Option Assignment → Statement
stored None = s.Empty
stored (Some a) = s.Assign a.place.remote a.place.address a.value

unfoldable pub assign : Context → (target : Expr) → AssignOp → (value : Expr) → Elab Statement
assign cx target op e = assignment cx target op e >>= (λ a. pure (stored a))
