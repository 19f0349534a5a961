-- Operators, and the address of a place.
use Rattle.std.specs.Prelude.{ℤ, Bool, true, false, ◌&&◌, if◌then◌else◌, Option, Some, None}
use Rattle.cc_core.specs.declared.expression.Expression.{Expression}
use Rattle.cc_core.specs.declared.expression.Expression.TheVariants as e
use Rattle.cc_names.specs.declared.declarations.ClassId.{ClassId}
use Rattle.cc_names.specs.declared.rule.StaticRule.{StaticRule}
use Rattle.cc_names.specs.declared.rule.StaticRule.TheVariants as r
use Rattle.cc_ops.specs.declared.operator.Op.{Op}
use Rattle.cc_ops.specs.declared.operator.Op.TheVariants as op
use Rattle.cc_tree.specs.declared.expressions.BinaryOp.{BinaryOp}
use Rattle.cc_tree.specs.declared.expressions.BinaryOp.TheVariants as binary
use Rattle.cc_tree.specs.declared.expressions.UnaryOp.{UnaryOp}
use Rattle.cc_tree.specs.declared.expressions.UnaryOp.TheVariants as prefix
use Rattle.cc_scopes.specs.declared.typed.Root.{Root}
use Rattle.cc_scopes.specs.declared.typed.Root.TheVariants as root
use Rattle.cc_scopes.specs.declared.typed.Object.{Object}
use Rattle.cc_scopes.specs.declared.typed.Operand.{Operand}
use Rattle.cc_scopes.specs.declared.typed.Place.{Place}
use Rattle.cc_scopes.specs.declared.typed.Typed.{Typed}
use Rattle.cc_scopes.specs.declared.typed.Typed.TheVariants as typed
use Rattle.cc_scopes.specs.declared.types.Target.{Target}
use Rattle.cc_scopes.specs.declared.types.Target.TheVariants as target
use Rattle.cc_scopes.specs.declared.types.Ty.{Ty}
use Rattle.cc_scopes.specs.declared.types.Ty.TheVariants as ty
use Rattle.cc_scopes.specs.Types.{is_int, comparable}
use Rattle.cc_operators.specs.Folding.{negated_value, computed}
use Rattle.cc_operators.specs.declared.joint.Joint.{Joint}
use Rattle.cc_operators.specs.declared.joint.Joint.TheVariants as joint'
use Rattle.cc_scopes.specs.Elab.{Elab, ◌>>=◌, ◌>>◌, pure}
use Rattle.cc_scopes.specs.Scope.{Context}
use Rattle.cc_scopes.specs.Typed.{broken, int, decay, share_address, pointer_to, object_pointer}

-- ---- - and !

abbrev pub unary_term : Op → Expression → Expression
unary_term o part = e.Unary o part

abbrev pub operated_by : Context → Op → Option Operand → Elab Typed
operated_by cx o None = pure typed.Spoiled
operated_by cx o (Some v) = if is_int v.ty then pure (typed.Value (int (unary_term o v.term))) else broken cx r.BadType

unfoldable pub operated : Context → Op → Typed → Elab Typed
operated cx o t = decay cx t >>= operated_by cx o

-- `-` of a constant expression is one
abbrev pub negated : Context → Typed → Elab Typed
negated cx (typed.Constant term value) = pure (typed.Constant (unary_term op.Neg term) (negated_value value))
negated cx t = operated cx op.Neg t

-- ---- what a pointer leads to

abbrev pub int_at : Expression → (sync remote : Bool) → Typed
int_at address sync remote =
    typed.Place (record { address = address; ty = ty.Int; sync = sync; remote = remote; root = root.Pointer; is_element = false })

abbrev pub object_at : Expression → ClassId → (remote : Bool) → Typed
object_at address class remote = typed.Object (record { class = class; address = address; remote = remote; is_variable = false })

abbrev pub at_target : Target → (remote : Bool) → Expression → Typed
at_target target.Int remote address = int_at address false remote
at_target target.SyncInt remote address = int_at address true remote
at_target (target.Class class) remote address = object_at address class remote

abbrev pub led_by : Ty → Context → Expression → Elab Typed
led_by (ty.Pointer to remote) cx term = pure (at_target to remote term)
led_by _ cx term = broken cx r.BadType

abbrev pub led : Context → Option Operand → Elab Typed
led cx None = pure typed.Spoiled
led cx (Some v) = led_by v.ty cx v.term

unfoldable pub dereferenced : Context → Typed → Elab Typed
dereferenced cx t = decay cx t >>= led cx

-- ---- &

-- the rule that `&` breaks: it takes an int that is a variable, or an element of one or of what a pointer leads to. A member's address is not
-- taken, nor that of an element of one: a pointer there could be moved on to the members behind it. What `*p` stands for is none of these
abbrev pub address_rule_by : Root → (is_element : Bool) → Option StaticRule
address_rule_by (root.Variable part) is_element = None
address_rule_by root.Member is_element = Some r.MemberAddress
address_rule_by root.Pointer true = None
address_rule_by root.Pointer false = Some r.BadType

abbrev pub address_rule : Ty → Root → (is_element : Bool) → Option StaticRule
address_rule ty.Int root is_element = address_rule_by root is_element
address_rule _ root is_element = Some r.BadType

unfoldable pub address_of : Context → Place → Elab Typed
address_of cx p = share_address p.sync cx >> pure (typed.Value (pointer_to p))

abbrev pub address_unless : Option StaticRule → Context → Place → Elab Typed
address_unless (Some rule) cx p = broken cx rule
address_unless None cx p = address_of cx p

abbrev pub place_address : Context → Place → Elab Typed
place_address cx p = address_unless (address_rule p.ty p.root p.is_element) cx p

abbrev pub object_address : (is_variable : Bool) → Context → Object → Elab Typed
object_address true cx o = pure (typed.Value (object_pointer o))
object_address false cx o = broken cx r.BadType

-- a call of a `void` function is a statement; any other value is no place
abbrev pub value_address : Ty → Context → Elab Typed
value_address ty.Void cx = broken cx r.BadType
value_address _ cx = broken cx r.NotPlace

abbrev pub address : Context → Typed → Elab Typed
address cx typed.Broken = pure typed.Spoiled
address cx typed.Spoiled = pure typed.Spoiled
address cx (typed.Value v) = value_address v.ty cx
address cx (typed.This class remote) = broken cx r.NotPlace
address cx (typed.Constant term value) = broken cx r.NotPlace
address cx (typed.Place p) = place_address cx p
address cx (typed.Array p n) = broken cx r.BadType
address cx (typed.Object o) = object_address o.is_variable cx o

-- an operator before its operand
abbrev pub unary : Context → UnaryOp → Typed → Elab Typed
unary cx prefix.Neg t = negated cx t
unary cx prefix.Not t = operated cx op.Not t
unary cx prefix.Deref t = dereferenced cx t
unary cx prefix.Address t = address cx t

-- ---- operators between two operands

-- what one is in the core
abbrev pub joint : BinaryOp → Joint
joint binary.Or = joint'.Or
joint binary.And = joint'.And
joint binary.Eq = joint'.Compares op.Eq
joint binary.Ne = joint'.Compares op.Ne
joint binary.Lt = joint'.Compares op.Lt
joint binary.Le = joint'.Compares op.Le
joint binary.Gt = joint'.Compares op.Gt
joint binary.Ge = joint'.Compares op.Ge
joint binary.Add = joint'.Computes op.Add
joint binary.Sub = joint'.Computes op.Sub
joint binary.Mul = joint'.Computes op.Mul
joint binary.Div = joint'.Computes op.Div
joint binary.Rem = joint'.Computes op.Rem

abbrev pub computed_by : Joint → Option Op
computed_by (joint'.Computes o) = Some o
computed_by _ = None

-- those that constant expressions are made of
abbrev pub arithmetic : BinaryOp → Option Op
arithmetic o = computed_by (joint o)

abbrev pub takes : BinaryOp → Ty → Ty → Bool
takes binary.Eq a b = comparable a b
takes binary.Ne a b = comparable a b
takes _ a b = is_int a && is_int b

abbrev pub term_by : Joint → Expression → Expression → Expression
term_by joint'.Or a b = e.Or a b
term_by joint'.And a b = e.And a b
term_by (joint'.Compares o) a b = e.Binary o a b
term_by (joint'.Computes o) a b = e.Binary o a b

abbrev pub joined_term : BinaryOp → Expression → Expression → Expression
joined_term o a b = term_by (joint o) a b

abbrev pub joined_operands : Context → BinaryOp → Option Operand → Option Operand → Elab Typed
joined_operands cx o (Some a) (Some b) =
    if takes o a.ty b.ty then pure (typed.Value (int (joined_term o a.term b.term))) else broken cx r.BadType
joined_operands cx o _ _ = pure typed.Spoiled

unfoldable pub joined_values : Context → BinaryOp → Typed → Typed → Elab Typed
joined_values cx o a b = decay cx a >>= (λ x. decay cx b >>= (λ y. joined_operands cx o x y))

-- a constant expression, where both sides are
abbrev pub joined_constant : Context → BinaryOp → Op → Expression → Option ℤ → Typed → Elab Typed
joined_constant cx o sum a v (typed.Constant b w) = pure (typed.Constant (joined_term o a b) (computed sum v w))
joined_constant cx o sum a v b = joined_values cx o (typed.Constant a v) b

abbrev pub joined_numbers : Context → BinaryOp → Op → Typed → Typed → Elab Typed
joined_numbers cx o sum (typed.Constant a v) b = joined_constant cx o sum a v b
joined_numbers cx o sum a b = joined_values cx o a b

abbrev pub joined_as : Option Op → Context → BinaryOp → Typed → Typed → Elab Typed
joined_as None cx o a b = joined_values cx o a b
joined_as (Some sum) cx o a b = joined_numbers cx o sum a b

unfoldable pub joined : Context → BinaryOp → Typed → Typed → Elab Typed
joined cx o a b = joined_as (arithmetic o) cx o a b
