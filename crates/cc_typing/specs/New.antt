-- New objects.
use Rattle.std.specs.Prelude.{ℕ, Bool, false, List, Option, Some, None}
use Rattle.cc_core.specs.declared.expression.Expression.{Expression}
use Rattle.cc_core.specs.declared.expression.Expression.TheVariants as e
use Rattle.cc_names.specs.declared.declarations.ClassId.{ClassId}
use Rattle.cc_names.specs.declared.rule.StaticRule.{StaticRule}
use Rattle.cc_names.specs.declared.rule.StaticRule.TheVariants as r
use Rattle.cc_typing.specs.declared.calls.Args.{Args}
use Rattle.cc_scopes.specs.declared.tables.Class.{Class}
use Rattle.cc_scopes.specs.declared.typed.Operand.{Operand}
use Rattle.cc_scopes.specs.declared.typed.Typed.{Typed}
use Rattle.cc_scopes.specs.declared.typed.Typed.TheVariants as typed
use Rattle.cc_scopes.specs.declared.types.Target.TheVariants as target
use Rattle.cc_scopes.specs.declared.types.Ty.TheVariants as ty
use Rattle.cc_scopes.specs.Types.{int_target, int_kind}
use Rattle.cc_scopes.specs.Elab.{Elab, ◌>>◌, pure, block_if}
use Rattle.cc_scopes.specs.Scope.{Context}
use Rattle.cc_scopes.specs.Typed.{broken}
use Rattle.cc_scopes.specs.Meaning.{class_at}
use Rattle.cc_typing.specs.Calls.{args_rule}

-- ---- ints: a local pointer to the first cell

abbrev pub new_cells : (sync : Bool) → ℕ → Typed
new_cells sync n = typed.Value (record { ty = ty.Pointer (int_target sync) false; term = e.New (int_kind sync) n })

abbrev pub new_array : (sync : Bool) → Option ℕ → Typed
new_array sync None = typed.Spoiled
new_array sync (Some n) = new_cells sync n

-- ---- an object of a class: a global pointer where the class is global, which makes a processor

abbrev pub object_made : ClassId → (remote : Bool) → List Expression → Operand
object_made class remote terms = record { ty = ty.Pointer (target.Class class) remote; term = e.NewObject remote class.0 terms }

unfoldable pub made : Context → ClassId → (remote : Bool) → List Expression → Elab Typed
made cx class remote terms = block_if remote cx.line >> pure (typed.Value (object_made class remote terms))

abbrev pub made_unless : Option StaticRule → Context → ClassId → (remote : Bool) → List Expression → Elab Typed
made_unless (Some rule) cx class remote terms = broken cx rule
made_unless None cx class remote terms = made cx class remote terms

abbrev pub made_of : Option Class → Context → ClassId → Args → Elab Typed
made_of None cx class args = broken cx r.UnknownClass
made_of (Some c) cx class args = made_unless (args_rule c.constructor args.types) cx class c.remote args.terms

abbrev pub new_named : Option ClassId → Context → Args → Elab Typed
new_named None cx args = broken cx r.UnknownClass
new_named (Some class) cx args = made_of (class_at cx class) cx class args

abbrev pub new_object : Context → Option ClassId → Option Args → Elab Typed
new_object cx class None = pure typed.Spoiled
new_object cx class (Some args) = new_named class cx args
