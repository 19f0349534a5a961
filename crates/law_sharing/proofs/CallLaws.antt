-- Arguments and calls.
use Rattle.std.proofs.Common.{Bool, true, false, List, Option, Some, None}
use Rattle.std.specs.Prelude.{slice_get}
use Rattle.std.specs.Prelude.{slice_get}
use Rattle.cc_core.specs.declared.expression.Expression.{Expression}
use Rattle.cc_core.specs.declared.expression.Expression.TheVariants as e
use Rattle.cc_names.specs.declared.declarations.FunId.{FunId}
use Rattle.cc_names.specs.declared.rule.StaticRule.{StaticRule}
use Rattle.cc_typing.specs.declared.calls.Args.{Args}
use Rattle.cc_typing.specs.declared.calls.Callee.{Callee}
use Rattle.cc_typing.specs.declared.calls.Callee.TheVariants as callee
use Rattle.cc_scopes.specs.declared.meaning.Meaning.{Meaning}
use Rattle.cc_scopes.specs.declared.meaning.Meaning.TheVariants as m
use Rattle.cc_scopes.specs.declared.tables.Signature.{Signature}
use Rattle.cc_scopes.specs.declared.typed.Typed.{Typed}
use Rattle.cc_scopes.specs.declared.typed.Typed.TheVariants as typed
use Rattle.cc_scopes.specs.declared.types.Ty.{Ty}
use Rattle.cc_scopes.specs.Scope.{Context}
use Rattle.cc_typing.specs.Calls.{object_passed, passed, call_rule, is_remote, call_term, enter, entered}
use Rattle.cc_typing.specs.Calls.{given as value_given, entered_unless, called_as, called, called_name, call_named}
use Rattle.law_sharing.proofs.Leaves.{Leaves, next, done, block_leaves, call_leaves}
use Rattle.law_sharing.proofs.ScopeLaws.{broken_leaves, decay_leaves}

-- ---- arguments

pub passed_leaves : (cx : Context) (t : Typed) → Leaves cx.line (passed cx t)
passed_leaves cx (typed.Object o) = done (Some (object_passed o))
passed_leaves cx typed.Broken = decay_leaves cx typed.Broken
passed_leaves cx typed.Spoiled = decay_leaves cx typed.Spoiled
passed_leaves cx (typed.Value v) = decay_leaves cx (typed.Value v)
passed_leaves cx (typed.This class remote) = decay_leaves cx (typed.This class remote)
passed_leaves cx (typed.Constant term value) = decay_leaves cx (typed.Constant term value)
passed_leaves cx (typed.Place p) = decay_leaves cx (typed.Place p)
passed_leaves cx (typed.Array p k) = decay_leaves cx (typed.Array p k)

-- ---- a call

module _ (cx : Context) where
  enter_leaves : (f : FunId) (b : Bool) → Leaves cx.line (enter cx f b)
  enter_leaves f true = block_leaves cx.line
  enter_leaves f false = call_leaves f cx.line

  entered_leaves : (f : FunId) (g : Signature) (c : Callee) (types : List Ty) (es : List Expression) → Leaves cx.line (entered cx f g.result c es)
  unfolding entered
  entered_leaves f g c types es = next (enter_leaves f (is_remote c)) (done (value_given g.result (call_term f c es)))

  entered_unless_leaves : (r : Option StaticRule) (f : FunId) (g : Signature) (c : Callee) (types : List Ty) (es : List Expression)
      → Leaves cx.line (entered_unless r cx f g.result c es)
  entered_unless_leaves (Some rule) f g c types es = broken_leaves cx rule
  entered_unless_leaves None f g c types es = entered_leaves f g c types es

  called_as_leaves : (o : Option Signature) (f : FunId) (c : Callee) (a : Args) → Leaves cx.line (called_as o cx f c a)
  called_as_leaves None f c a = broken_leaves cx _
  called_as_leaves (Some g) f c a =
      entered_unless_leaves (call_rule g (is_remote c) a.types) f g c a.types a.terms

  pub called_leaves : (f : FunId) (c : Callee) (a : Args) → Leaves cx.line (called cx f c a)
  called_leaves f c a = called_as_leaves (slice_get cx.tables.functions f.0) f c a

  called_name_leaves : (x : Meaning) (a : Args) → Leaves cx.line (called_name cx x a)
  called_name_leaves (m.Variable found) a = broken_leaves cx _
  called_name_leaves (m.Field declared offset) a = broken_leaves cx _
  called_name_leaves (m.Method f) a = (called_leaves f (callee.On e.This) a)
  called_name_leaves (m.Constant b z) a = broken_leaves cx _
  called_name_leaves (m.Function f) a = (called_leaves f callee.Alone a)
  called_name_leaves m.Nothing a = broken_leaves cx _

  pub call_named_leaves : (x : Meaning) (a : Option Args) → Leaves cx.line (call_named cx x a)
  call_named_leaves x None = done typed.Spoiled
  call_named_leaves x (Some a) = called_name_leaves x a
