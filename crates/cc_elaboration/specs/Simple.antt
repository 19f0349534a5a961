-- Statements that hold no statement, but for assignments and declarations.
use Rattle.std.specs.Prelude.{ℕ, Bool, true, false, not, ◌&&◌, List, [], ◌∷◌, ◌++◌, Option, Some, None}
use Rattle.cc_core.specs.declared.expression.Constant.TheVariants as constant
use Rattle.cc_core.specs.declared.expression.Expression.{Expression, out-Expression}
use Rattle.cc_core.specs.declared.expression.Expression.TheVariants as e
use Rattle.cc_core.specs.declared.expression.Expression.TheOpen.{Expression-F}
use Rattle.cc_core.specs.declared.expression.PrintPart.{PrintPart}
use Rattle.cc_core.specs.declared.expression.PrintPart.TheVariants as part
use Rattle.cc_core.specs.declared.statement.Statement.{Statement}
use Rattle.cc_core.specs.declared.statement.Statement.TheVariants as s
use Rattle.cc_names.specs.declared.rule.StaticRule.{StaticRule}
use Rattle.cc_names.specs.declared.rule.StaticRule.TheVariants as r
use Rattle.cc_tree.specs.declared.expressions.Expr.{Expr}
use Rattle.cc_tree.specs.declared.statements.PrintItem.{PrintItem}
use Rattle.cc_tree.specs.declared.statements.PrintItem.TheVariants as item'
use Rattle.cc_scopes.specs.declared.sharing.ShareRule.TheVariants.{PrintInBranch}
use Rattle.cc_scopes.specs.declared.typed.Typed.{Typed}
use Rattle.cc_scopes.specs.declared.typed.Typed.TheVariants as typed
use Rattle.cc_scopes.specs.declared.types.Ty.{Ty}
use Rattle.cc_scopes.specs.declared.types.Ty.TheVariants as ty
use Rattle.cc_scopes.specs.Elab.{Elab, ◌>>=◌, ◌>>◌, pure, share, block}
use Rattle.cc_scopes.specs.Scope.{Context}
use Rattle.cc_scopes.specs.Typed.{note_rule}
use Rattle.cc_typing.specs.Expr.{expr}
use Rattle.cc_typing.specs.Whole.{operand, fitting}
use Rattle.cc_elaboration.specs.declared.simple.Printed.{Printed}

-- what stands for a value that breaks a rule
abbrev pub no_value : Expression
no_value = e.Push constant.Null

abbrev pub term_or_none : Option Expression → Expression
term_or_none None = no_value
term_or_none (Some t) = t

-- an int, as a condition or a printed value
unfoldable pub int_value : Context → Expr → Elab Expression
int_value cx e = fitting cx ty.Int e >>= (λ t. pure (term_or_none t))

-- ---- a call whose value is dropped, and one in a thread of its own

abbrev pub dropped : Typed → Statement
dropped (typed.Value v) = s.Drop v.term
dropped _ = s.Empty

unfoldable pub call : Context → Expr → Elab Statement
call cx e = expr cx e >>= (λ t. pure (dropped t))

abbrev pub spawned_by : Expression-F Expression → Statement
spawned_by (Expression-F.Call how f es) = s.Spawn how f es
spawned_by _ = s.Empty

abbrev pub spawned : Typed → Statement
spawned (typed.Value v) = spawned_by (out-Expression v.term)
spawned _ = s.Empty

-- an atomic function spawns nothing
unfoldable pub spawn : Context → Expr → Elab Statement
spawn cx e = block cx.line >> (expr cx e >>= (λ t. pure (spawned t)))

-- ---- `cout`

abbrev pub nothing_printed : Printed
nothing_printed = record { parts = []; values = [] }

abbrev pub with_number : Printed → Expression → Printed
with_number p v = record { parts = p.parts ++ part.Number ∷ []; values = p.values ++ v ∷ [] }

abbrev pub with_part : Printed → PrintPart → Printed
with_part p x = record { parts = p.parts ++ x ∷ []; values = p.values }

unfoldable pub printed_value : Context → Printed → Expr → Elab Printed
printed_value cx p e = int_value cx e >>= (λ v. pure (with_number p v))

abbrev pub printed_item : Context → Printed → PrintItem → Elab Printed
printed_item cx p (item'.Value e) = printed_value cx p e
printed_item cx p (item'.Str bytes) = pure (with_part p (part.Text bytes))
printed_item cx p item'.Endl = pure (with_part p part.Endl)

abbrev pub printed_from : Context → Printed → List PrintItem → Elab Printed
printed_from cx p [] = pure p
printed_from cx p (x ∷ xs) = printed_item cx p x >>= (λ q. printed_from cx q xs)

-- Only `main` prints, outside of branches, where a program is to have one output.
abbrev pub share_print : (alone : Bool) → Context → Elab (Unit {0})
share_print true cx = pure tt
share_print false cx = share PrintInBranch cx.line

abbrev pub prints_alone : Context → Bool
prints_alone cx = cx.in_main && not cx.in_branch

unfoldable pub print : Context → List PrintItem → Elab Statement
print cx xs = share_print (prints_alone cx) cx >> (printed_from cx nothing_printed xs >>= (λ p. pure (s.Print p.parts p.values)))

-- ---- return

abbrev pub note_if : Bool → Context → StaticRule → Elab (Unit {0})
note_if true cx rule = note_rule cx rule
note_if false cx rule = pure tt

abbrev pub is_void : Ty → Bool
is_void ty.Void = true
is_void _ = false

unfoldable pub return_value : Context → Expr → Elab Statement
return_value cx e = fitting cx cx.result e >>= (λ v. pure (s.Return (term_or_none v)))

-- a `void` function returns no value; what it returns is read for its own rules
unfoldable pub return_from_void : Context → Expr → Elab Statement
return_from_void cx e = operand cx e >> (note_rule cx r.ReturnValue >> pure s.Empty)

abbrev pub return_some : (is_void : Bool) → Context → Expr → Elab Statement
return_some true cx e = return_from_void cx e
return_some false cx e = return_value cx e

abbrev pub return_nothing : Context → Elab Statement
return_nothing cx = note_if (not (is_void cx.result)) cx r.ReturnValue >> pure (s.Return (e.Push constant.Void))

abbrev pub returned : Context → Option Expr → Elab Statement
returned cx None = return_nothing cx
returned cx (Some e) = return_some (is_void cx.result) cx e

unfoldable pub give : Context → Option Expr → Elab Statement
give cx e = note_if cx.in_branch cx r.ReturnInBranch >> returned cx e

-- ---- break and continue

-- a statement that leaves a loop or goes on with it stands within one, in the same parallel part
unfoldable pub jump : Context → Statement → Elab Statement
jump cx x = note_if (not cx.in_loop) cx r.LoopOutside >> pure x
