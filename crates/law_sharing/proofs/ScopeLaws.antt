-- Rules that are broken, values, names, lengths and constants.
use Rattle.std.proofs.Common.{Bool, true, false, Option, Some, None}
use Rattle.std.specs.Prelude.{ℤ, pos, ◌||◌, int_lt}
use Rattle.std.specs.Prelude.{◌||◌, int_lt}
use Rattle.cc_names.specs.Table.{Name}
use Rattle.cc_names.specs.declared.broken.Broken.{Broken}
use Rattle.cc_names.specs.declared.broken.Broken.TheVariants.{Rule}
use Rattle.cc_names.specs.declared.declarations.ClassId.{ClassId}
use Rattle.cc_names.specs.declared.rule.StaticRule.{StaticRule}
use Rattle.cc_scopes.specs.declared.meaning.Meaning.{Meaning}
use Rattle.cc_scopes.specs.declared.meaning.Meaning.TheVariants as m
use Rattle.cc_scopes.specs.declared.tables.Class.{Class}
use Rattle.cc_scopes.specs.declared.typed.Operand.{Operand}
use Rattle.cc_scopes.specs.declared.typed.Place.{Place}
use Rattle.cc_scopes.specs.declared.typed.Typed.{Typed}
use Rattle.cc_scopes.specs.declared.typed.Typed.TheVariants as typed
use Rattle.cc_scopes.specs.declared.types.Ty.{Ty}
use Rattle.cc_scopes.specs.declared.types.Ty.TheVariants as ty
use Rattle.cc_scopes.specs.Scope.{Context}
use Rattle.cc_scopes.specs.Typed.{note_rule, broken, no_operand, int, is_far_local, loaded, may_wait, load, load_unless}
use Rattle.cc_scopes.specs.Typed.{share_address, pointer_to, pointed, array_rule, first_unless, not_void_by, own, decay}
use Rattle.cc_scopes.specs.Meaning.{class_at, meant}
use Rattle.cc_scopes.specs.Meaning.{of_constant, of_variable, own_field, of_meaning, name, this_in, this_by, this}
use Rattle.cc_scopes.specs.Lengths.{no_length, natural, length_in_range, value_length, length_of, no_value, value_or_fault, constant_of}
use Rattle.law_sharing.proofs.Leaves.{Leaves, next, done, looking, note_leaves, plain_address_leaves, block_if_leaves, either_leaves}

-- ---- rules that are broken

module _ (cx : Context) where
  pub note_rule_leaves : (rule : StaticRule) → Leaves cx.line (note_rule cx rule)
  note_rule_leaves rule = note_leaves (Rule rule cx.line)

  pub broken_leaves : (rule : StaticRule) → Leaves cx.line (broken cx rule)
  broken_leaves rule = next (note_rule_leaves rule) (done typed.Broken)

  pub no_operand_leaves : (rule : StaticRule) → Leaves cx.line (no_operand cx rule)
  no_operand_leaves rule = next (note_rule_leaves rule) (done None)

-- ---- values

module _ (cx : Context) where
  load_leaves : (p : Place) → Leaves cx.line (load cx p)
  unfolding load
  load_leaves p = next (block_if_leaves (may_wait p) cx.line) (done (Some (loaded p)))

  load_unless_leaves : (b : Bool) (p : Place) → Leaves cx.line (load_unless b cx p)
  load_unless_leaves true p = no_operand_leaves cx _
  load_unless_leaves false p = load_leaves p

  pub share_address_leaves : (sync : Bool) → Leaves cx.line (share_address sync cx)
  share_address_leaves true = done tt
  share_address_leaves false = plain_address_leaves

  pointed_leaves : (p : Place) → Leaves cx.line (pointed cx p)
  unfolding pointed
  pointed_leaves p = next (share_address_leaves p.sync) (done (Some (pointer_to p)))

  first_unless_leaves : (o : Option StaticRule) (p : Place) → Leaves cx.line (first_unless o cx p)
  first_unless_leaves (Some rule) p = no_operand_leaves cx rule
  first_unless_leaves None p = pointed_leaves p

  not_void_leaves : (t : Ty) (v : Operand) → Leaves cx.line (not_void_by t cx v)
  not_void_leaves ty.Void v = no_operand_leaves cx _
  not_void_leaves ty.Int v = done (Some v)
  not_void_leaves ty.Null v = done (Some v)
  not_void_leaves ty.Unknown v = done (Some v)
  not_void_leaves (ty.Pointer to remote) v = done (Some v)

  pub decay_leaves : (t : Typed) → Leaves cx.line (decay cx t)
  decay_leaves typed.Broken = done None
  decay_leaves typed.Spoiled = done None
  decay_leaves (typed.Value v) = not_void_leaves v.ty v
  decay_leaves (typed.This class remote) = done (Some (own class remote))
  decay_leaves (typed.Constant term value) = done (Some (int term))
  decay_leaves (typed.Place p) = load_unless_leaves (is_far_local p) p
  decay_leaves (typed.Array p m) = (first_unless_leaves (array_rule p.ty p.root) p)
  decay_leaves (typed.Object o) = no_operand_leaves cx _

  -- ---- names

  pub of_meaning_leaves : (x : Meaning) → Leaves cx.line (of_meaning cx x)
  of_meaning_leaves (m.Variable f) = done (of_variable f)
  of_meaning_leaves (m.Field declared offset) = done (own_field declared offset)
  of_meaning_leaves (m.Method f) = broken_leaves cx _
  of_meaning_leaves (m.Constant b z) = done (of_constant b z)
  of_meaning_leaves (m.Function f) = broken_leaves cx _
  of_meaning_leaves m.Nothing = broken_leaves cx _

  this_in_leaves : (k : Option Class) (class : ClassId) → Leaves cx.line (this_in k cx class)
  this_in_leaves None class = broken_leaves cx _
  this_in_leaves (Some k) class = done (typed.This class k.remote)

  this_by_leaves : (o : Option ClassId) → Leaves cx.line (this_by o cx)
  this_by_leaves None = broken_leaves cx _
  this_by_leaves (Some class) = this_in_leaves (class_at cx class) class

  pub this_leaves : Leaves cx.line (this cx)
  this_leaves = this_by_leaves cx.class

  -- ---- lengths

  no_length_leaves : (b : Broken) → Leaves cx.line (no_length b)
  no_length_leaves b = next (note_leaves b) (done None)

  length_in_range_leaves : (z : ℤ) → Leaves cx.line (length_in_range cx z)
  unfolding length_in_range
  length_in_range_leaves z = either_leaves (int_lt z (pos 1) || int_lt (pos 65536) z) _ _ (no_length_leaves _) (done (Some (natural z)))

  value_length_leaves : (o : Option ℤ) → Leaves cx.line (value_length cx o)
  value_length_leaves None = no_length_leaves _
  value_length_leaves (Some z) = length_in_range_leaves z

  pub length_of_leaves : (t : Typed) → Leaves cx.line (length_of cx t)
  length_of_leaves typed.Broken = no_length_leaves _
  length_of_leaves typed.Spoiled = done None
  length_of_leaves (typed.Value v) = no_length_leaves _
  length_of_leaves (typed.This class remote) = no_length_leaves _
  length_of_leaves (typed.Constant term value) = value_length_leaves value
  length_of_leaves (typed.Place p) = no_length_leaves _
  length_of_leaves (typed.Array p k) = no_length_leaves _
  length_of_leaves (typed.Object o) = no_length_leaves _

  no_value_leaves : Leaves cx.line (no_value cx)
  no_value_leaves = next (note_leaves _) (done None)

  value_or_fault_leaves : (o : Option ℤ) → Leaves cx.line (value_or_fault cx o)
  value_or_fault_leaves None = no_value_leaves
  value_or_fault_leaves (Some z) = done (Some z)

  pub constant_of_leaves : (t : Typed) → Leaves cx.line (constant_of cx t)
  constant_of_leaves typed.Broken = no_value_leaves
  constant_of_leaves typed.Spoiled = done None
  constant_of_leaves (typed.Value v) = no_value_leaves
  constant_of_leaves (typed.This class remote) = no_value_leaves
  constant_of_leaves (typed.Constant term value) = value_or_fault_leaves value
  constant_of_leaves (typed.Place p) = no_value_leaves
  constant_of_leaves (typed.Array p k) = no_value_leaves
  constant_of_leaves (typed.Object o) = no_value_leaves

pub name_leaves : (cx : Context) (text : Name) → Leaves cx.line (name cx text)
name_leaves cx text = looking (λ s. of_meaning cx (meant cx text s)) (λ s. of_meaning_leaves cx (meant cx text s))
