-- Values, names and lengths.
use Rattle.std.proofs.Common.{◌≡◌, ℕ, zero, suc, ◌≤◌, ℤ, pos, negsuc, Bool, true, false, Option, Some, None, refl, arith}
use Rattle.std.specs.Prelude.{slice_get, ◌||◌, int_lt, if◌then◌else◌}
use Rattle.std.proofs.lemmas.Bool.{true≢false, ltb-false}
use Rattle.cc_core.specs.declared.expression.Constant.TheVariants as constant
use Rattle.cc_core.specs.declared.expression.Expression.TheVariants as e
use Rattle.cc_core.specs.Core.{Shapes}
use Rattle.cc_names.specs.Names.{entity_named, member_named}
use Rattle.cc_names.specs.Table.{Name}
use Rattle.cc_names.specs.declared.broken.Broken.{Broken}
use Rattle.cc_names.specs.declared.broken.Broken.TheVariants.{Rule, Limit}
use Rattle.cc_names.specs.declared.declarations.ClassId.{ClassId}
use Rattle.cc_names.specs.declared.declarations.MemberId.{MemberId}
use Rattle.cc_names.specs.declared.declarations.Entity.{Entity}
use Rattle.cc_names.specs.declared.declarations.Entity.TheVariants as entity
use Rattle.cc_names.specs.declared.rule.StaticLimit.TheVariants.{ArrayLength}
use Rattle.cc_names.specs.declared.rule.StaticRule.{StaticRule}
use Rattle.cc_scopes.specs.declared.meaning.Meaning.{Meaning}
use Rattle.cc_scopes.specs.declared.meaning.Meaning.TheVariants as m
use Rattle.cc_scopes.specs.declared.scope.Found.{Found}
use Rattle.cc_scopes.specs.declared.state.State.{State}
use Rattle.cc_scopes.specs.declared.tables.Class.{Class}
use Rattle.cc_scopes.specs.declared.tables.Member.{Member}
use Rattle.cc_scopes.specs.declared.tables.Member.TheVariants as member
use Rattle.cc_scopes.specs.declared.typed.Operand.{Operand}
use Rattle.cc_scopes.specs.declared.typed.Place.{Place}
use Rattle.cc_scopes.specs.declared.typed.Root.{Root}
use Rattle.cc_scopes.specs.declared.typed.Root.TheVariants as root
use Rattle.cc_scopes.specs.declared.typed.Typed.{Typed}
use Rattle.cc_scopes.specs.declared.typed.Typed.TheVariants as typed
use Rattle.cc_scopes.specs.declared.types.Declared.{Declared}
use Rattle.cc_scopes.specs.declared.types.Shape.{Shape}
use Rattle.cc_scopes.specs.declared.types.Shape.TheVariants as shape
use Rattle.cc_scopes.specs.declared.types.Ty.{Ty}
use Rattle.cc_scopes.specs.declared.types.Ty.TheVariants as ty
use Rattle.cc_scopes.specs.Elab.{pure}
use Rattle.cc_scopes.specs.Scope.{Context, variable}
use Rattle.cc_scopes.specs.Typed.{note_rule, broken, no_operand, placed_by, placed_as, place_of, placed, int, literal, is_far_local, loaded, may_wait, load, load_unless}
use Rattle.cc_scopes.specs.Typed.{share_address, pointer_to, pointed, array_rule, first_unless, not_void_by, own, decay}
use Rattle.cc_scopes.specs.Meaning.{class_at, member_in, member_at, member_of, of_member, of_entity, of_file, member_or_file, outside_by, variable_or, meant, meant_in}
use Rattle.cc_scopes.specs.Meaning.{of_constant, of_variable, own_field, of_meaning, name, this_in, this_by, this}
use Rattle.cc_scopes.specs.Lengths.{no_length, natural, length_in_range, value_length, length_of, no_value, value_or_fault, constant_of}
use Rattle.cc_source.proofs.Runs.{IfThere, Anything, given, next, done, looking}
use Rattle.cc_source.proofs.FitLaws.{push_fits, this_fits, variable_fits, member_fits, load_fits}
use Rattle.cc_source.proofs.Fits.{Clean, ExpressionFits}
use Rattle.cc_source.proofs.Sound.{IsLength, HasCells, MemberHasCells, Agree, FoundFits, LocalsFit, MeaningFits, Reads, OperandFits, TypedFits}
use Rattle.cc_source.proofs.StateLaws.{found_fits, note_runs, share_runs, block_if_runs}

-- ---- members and names

pub there : {A : Type 0} (o : Option A) (Q : A → Type 0) → ((a : A) → o ≡ Some a → Q a) → IfThere Q o
there None Q f = tt
there (Some a) Q f = f a refl

module _ (h : Shapes) (cx : Context) (agree : Agree h cx.tables) where
  member_in_class : (c : ℕ) (k : Option Class) → slice_get cx.tables.classes c ≡ k → (id : MemberId) → IfThere MemberHasCells (member_in k id)
  member_in_class c None is id = tt
  member_in_class c (Some k) is id = there (slice_get k.members id.0) MemberHasCells (λ x q. agree.members c k is id.0 x q)

  member_by_id : (class : ClassId) (id : Option MemberId) → IfThere MemberHasCells (member_at cx class id)
  member_by_id class None = tt
  member_by_id class (Some id) = member_in_class class.0 (class_at cx class) refl id

  pub member_fits_cells : (class : ClassId) (text : Name) → IfThere MemberHasCells (member_of cx class text)
  member_fits_cells class text = member_by_id class (member_named cx.names class text)

  module _ (last : State) where
    of_member_fits : (x : Member) → MemberHasCells x → MeaningFits last (of_member x)
    of_member_fits (member.Field declared offset) p = p
    of_member_fits (member.Method f) p = tt

    of_entity_fits : (x : Option Entity) → MeaningFits last (of_entity cx x)
    of_entity_fits None = tt
    of_entity_fits (Some (entity.Constant k)) = tt
    of_entity_fits (Some (entity.Class class)) = tt
    of_entity_fits (Some (entity.Function f)) = tt

    of_file_fits : (text : Name) → MeaningFits last (of_file cx text)
    of_file_fits text = of_entity_fits (entity_named cx.names text)

    member_or_file_fits : (x : Option Member) (text : Name) → IfThere MemberHasCells x → MeaningFits last (member_or_file x cx text)
    member_or_file_fits None text p = of_file_fits text
    member_or_file_fits (Some x) text p = of_member_fits x p

    outside_fits : (class : Option ClassId) (text : Name) → MeaningFits last (outside_by class cx text)
    outside_fits None text = of_file_fits text
    outside_fits (Some class) text = member_or_file_fits (member_of cx class text) text (member_fits_cells class text)

    variable_or_fits : (x : Option Found) (text : Name) → IfThere (FoundFits last) x → MeaningFits last (variable_or x cx text)
    variable_or_fits None text p = outside_fits cx.class text
    variable_or_fits (Some x) text p = p

    pub meant_fits : (text : Name) (s : State) → LocalsFit last s.locals → MeaningFits last (meant cx text s)
    meant_fits text s k = variable_or_fits (variable text s.locals) text (found_fits last text s.locals k)

    meant_in_by : (x : Option Member) → IfThere MemberHasCells x → MeaningFits last (meant_in x)
    meant_in_by None p = tt
    meant_in_by (Some x) p = of_member_fits x p

    pub meant_in_fits : (class : ClassId) (text : Name) → MeaningFits last (meant_in (member_of cx class text))
    meant_in_fits class text = meant_in_by (member_of cx class text) (member_fits_cells class text)

-- ---- rules that are broken

module _ (h : Shapes) (last : State) (cx : Context) {P : Type 0} where
  pub note_rule_runs : (rule : StaticRule) → Reads h last cx P (note_rule cx rule) (λ u. Clean last → ⊥)
  note_rule_runs rule = note_runs h last cx (Rule rule cx.line)

  pub broken_runs : (rule : StaticRule) → Reads h last cx P (broken cx rule) (TypedFits h last)
  broken_runs rule = next (note_rule_runs rule) (done typed.Broken (λ x. tt))

  pub no_operand_runs : (rule : StaticRule) → Reads h last cx P (no_operand cx rule) (IfThere (OperandFits h last))
  no_operand_runs rule = next (note_rule_runs rule) (done None (λ x. tt))

-- ---- what stands at an address

module _ (h : Shapes) (last : State) where
  placed_by_fits : (shape : Shape) (p : Place) → HasCells shape → ExpressionFits h last p.address → TypedFits h last (placed_by shape p)
  placed_by_fits shape.Cell p c f = f
  placed_by_fits (shape.Array m) p c f = (f, c.0)
  placed_by_fits (shape.Object class) p c f = f

  placed_as_fits : (t : Ty) (shape : Shape) (p : Place) → HasCells shape → ExpressionFits h last p.address → TypedFits h last (placed_as t shape p)
  placed_as_fits ty.Unknown shape p c f = tt
  placed_as_fits ty.Int shape p c f = placed_by_fits shape p c f
  placed_as_fits ty.Null shape p c f = placed_by_fits shape p c f
  placed_as_fits ty.Void shape p c f = placed_by_fits shape p c f
  placed_as_fits (ty.Pointer to remote) shape p c f = placed_by_fits shape p c f

  pub placed_fits : (x : _) (d : Declared) (remote : Bool) (root : Root) → HasCells d.shape → ExpressionFits h last x
      → TypedFits h last (placed x d remote root)
  placed_fits x d remote root c f = placed_as_fits d.ty d.shape (place_of x d remote root) c f

  pub literal_fits : (z : ℤ) → TypedFits h last (literal z)
  literal_fits z = push_fits h last (constant.Int z)

-- ---- values

module _ (h : Shapes) (last : State) (cx : Context) where
  load_runs : (p : Place) → Reads h last cx (ExpressionFits h last p.address) (load cx p) (IfThere (OperandFits h last))
  unfolding load
  load_runs p = next (block_if_runs h last cx (may_wait p) cx.line) (done (Some (loaded p)) (λ x. load_fits h last p.remote p.address x))

  load_unless_runs : (b : Bool) (p : Place) → Reads h last cx (ExpressionFits h last p.address) (load_unless b cx p) (IfThere (OperandFits h last))
  load_unless_runs true p = no_operand_runs h last cx _
  load_unless_runs false p = load_runs p

  pub share_address_runs : (sync : Bool) {P : Type 0} → Reads h last cx P (share_address sync cx) Anything
  share_address_runs true = done tt (λ x. tt)
  share_address_runs false = share_runs h last cx _ _

  pointed_runs : (p : Place) → Reads h last cx (ExpressionFits h last p.address) (pointed cx p) (IfThere (OperandFits h last))
  unfolding pointed
  pointed_runs p = next (share_address_runs p.sync) (done (Some (pointer_to p)) (λ x. x))

  first_unless_runs : (o : Option StaticRule) (p : Place)
      → Reads h last cx (ExpressionFits h last p.address) (first_unless o cx p) (IfThere (OperandFits h last))
  first_unless_runs (Some rule) p = no_operand_runs h last cx rule
  first_unless_runs None p = pointed_runs p

  not_void_runs : (t : Ty) (v : Operand) → Reads h last cx (OperandFits h last v) (not_void_by t cx v) (IfThere (OperandFits h last))
  not_void_runs ty.Void v = no_operand_runs h last cx _
  not_void_runs ty.Int v = done (Some v) (λ x. x)
  not_void_runs ty.Null v = done (Some v) (λ x. x)
  not_void_runs ty.Unknown v = done (Some v) (λ x. x)
  not_void_runs (ty.Pointer to remote) v = done (Some v) (λ x. x)

  pub decay_runs : (t : Typed) → Reads h last cx (TypedFits h last t) (decay cx t) (IfThere (OperandFits h last))
  decay_runs typed.Broken = done None (λ x. tt)
  decay_runs typed.Spoiled = done None (λ x. tt)
  decay_runs (typed.Value v) = not_void_runs v.ty v
  decay_runs (typed.This class remote) = done (Some (own class remote)) (λ x. this_fits h last)
  decay_runs (typed.Constant term value) = done (Some (int term)) (λ x. x)
  decay_runs (typed.Place p) = load_unless_runs (is_far_local p) p
  decay_runs (typed.Array p m) = given (λ x. x.0) (first_unless_runs (array_rule p.ty p.root) p)
  decay_runs (typed.Object o) = no_operand_runs h last cx _

  -- ---- names

  of_constant_fits : (b : Bool) (z : Option ℤ) → TypedFits h last (of_constant b z)
  of_constant_fits true None = tt
  of_constant_fits true (Some z) = literal_fits h last z
  of_constant_fits false None = push_fits h last (constant.Int (pos 0))
  of_constant_fits false (Some z) = push_fits h last (constant.Int z)

  of_variable_fits : (f : Found) → FoundFits last f → TypedFits h last (of_variable f)
  of_variable_fits f p = placed_fits h last (e.Variable f.number) f.declared false (root.Variable f.part) p.1 (variable_fits h last f.number p.0)

  own_field_fits : (d : Declared) (o : ℕ) → HasCells d.shape → TypedFits h last (own_field d o)
  own_field_fits d o c = placed_fits h last (e.Member e.This o) d false root.Member c (member_fits h last e.This o (this_fits h last))

  pub of_meaning_runs : (x : Meaning) → Reads h last cx (MeaningFits last x) (of_meaning cx x) (TypedFits h last)
  of_meaning_runs (m.Variable f) = done (of_variable f) (λ x. of_variable_fits f x)
  of_meaning_runs (m.Field declared offset) = done (own_field declared offset) (λ x. own_field_fits declared offset x)
  of_meaning_runs (m.Method f) = broken_runs h last cx _
  of_meaning_runs (m.Constant b z) = done (of_constant b z) (λ x. of_constant_fits b z)
  of_meaning_runs (m.Function f) = broken_runs h last cx _
  of_meaning_runs m.Nothing = broken_runs h last cx _

  this_in_runs : (k : Option Class) (class : ClassId) {P : Type 0} → Reads h last cx P (this_in k cx class) (TypedFits h last)
  this_in_runs None class = broken_runs h last cx _
  this_in_runs (Some k) class = done (typed.This class k.remote) (λ x. tt)

  this_by_runs : (o : Option ClassId) {P : Type 0} → Reads h last cx P (this_by o cx) (TypedFits h last)
  this_by_runs None = broken_runs h last cx _
  this_by_runs (Some class) = this_in_runs (class_at cx class) class

  pub this_runs : {P : Type 0} → Reads h last cx P (this cx) (TypedFits h last)
  this_runs = this_by_runs cx.class

  -- ---- lengths

  no_length_runs : (b : Broken) {P : Type 0} → Reads h last cx P (no_length b) (IfThere IsLength)
  no_length_runs b = next (note_runs h last cx b) (done None (λ x. tt))

  above_zero : (z : ℤ) → int_lt z (pos 1) ≡ false → 1 ≤ natural z
  above_zero (pos zero) is = absurd (true≢false is)
  above_zero (pos (suc k)) is = omega arith
  above_zero (negsuc k) is = absurd (true≢false is)

  few : (z : ℤ) → int_lt (pos 65536) z ≡ false → natural z ≤ 65536
  few (pos k) is = ltb-false 65536 k is
  few (negsuc k) is = omega arith

  left_false : (a b : Bool) → (a || b) ≡ false → a ≡ false
  left_false true b is = is
  left_false false b is = refl

  right_false : (a b : Bool) → (a || b) ≡ false → b ≡ false
  right_false true b is = absurd (true≢false is)
  right_false false b is = is

  in_range_or_not : (b : Bool) (z : ℤ) → (b ≡ false → IsLength (natural z)) → {P : Type 0}
      → Reads h last cx P (if b then no_length (Limit ArrayLength cx.line) else pure (Some (natural z))) (IfThere IsLength)
  in_range_or_not true z f = no_length_runs _
  in_range_or_not false z f = done (Some (natural z)) (λ x. f refl)

  length_in_range_runs : (z : ℤ) {P : Type 0} → Reads h last cx P (length_in_range cx z) (IfThere IsLength)
  unfolding length_in_range
  length_in_range_runs z = in_range_or_not (int_lt z (pos 1) || int_lt (pos 65536) z) z (λ is. (
    above_zero z (left_false (int_lt z (pos 1)) (int_lt (pos 65536) z) is),
    few z (right_false (int_lt z (pos 1)) (int_lt (pos 65536) z) is),
  ))

  value_length_runs : (o : Option ℤ) {P : Type 0} → Reads h last cx P (value_length cx o) (IfThere IsLength)
  value_length_runs None = no_length_runs _
  value_length_runs (Some z) = length_in_range_runs z

  pub length_of_runs : (t : Typed) {P : Type 0} → Reads h last cx P (length_of cx t) (IfThere IsLength)
  length_of_runs typed.Broken = no_length_runs _
  length_of_runs typed.Spoiled = done None (λ x. tt)
  length_of_runs (typed.Value v) = no_length_runs _
  length_of_runs (typed.This class remote) = no_length_runs _
  length_of_runs (typed.Constant term value) = value_length_runs value
  length_of_runs (typed.Place p) = no_length_runs _
  length_of_runs (typed.Array p k) = no_length_runs _
  length_of_runs (typed.Object o) = no_length_runs _

  no_value_runs : {P : Type 0} → Reads h last cx P (no_value cx) Anything
  no_value_runs = next (note_runs h last cx _) (done None (λ x. tt))

  value_or_fault_runs : (o : Option ℤ) {P : Type 0} → Reads h last cx P (value_or_fault cx o) Anything
  value_or_fault_runs None = no_value_runs
  value_or_fault_runs (Some z) = done (Some z) (λ x. tt)

  pub constant_of_runs : (t : Typed) {P : Type 0} → Reads h last cx P (constant_of cx t) Anything
  constant_of_runs typed.Broken = no_value_runs
  constant_of_runs typed.Spoiled = done None (λ x. tt)
  constant_of_runs (typed.Value v) = no_value_runs
  constant_of_runs (typed.This class remote) = no_value_runs
  constant_of_runs (typed.Constant term value) = value_or_fault_runs value
  constant_of_runs (typed.Place p) = no_value_runs
  constant_of_runs (typed.Array p k) = no_value_runs
  constant_of_runs (typed.Object o) = no_value_runs

-- a name
pub name_runs : (h : Shapes) (last : State) (cx : Context) (text : Name) {P : Type 0}
    → Reads h last cx P (name cx text) (TypedFits h last)
name_runs h last cx text = looking (λ s. of_meaning cx (meant cx text s)) (λ s.
    given (λ x. meant_fits h cx x.1.1 last text s x.1.0) (of_meaning_runs h last cx (meant cx text s)))
