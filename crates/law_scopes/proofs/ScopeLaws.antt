-- Values, names and lengths.
use Rattle.std.proofs.Common.{◌≡◌, ℕ, ℤ, pos, Bool, true, false, Option, Some, None, refl, sym, ap, ◌∙◌}
use Rattle.std.specs.Prelude.{◌||◌, int_lt, if◌then◌else◌}
use Rattle.cc_core.specs.declared.expression.Constant.TheVariants as constant
use Rattle.cc_core.specs.declared.expression.Expression.TheVariants as e
use Rattle.cc_names.specs.Names.{entity_named}
use Rattle.cc_names.specs.Table.{Name}
use Rattle.cc_names.specs.declared.broken.Broken.{Broken}
use Rattle.cc_names.specs.declared.broken.Broken.TheVariants.{Rule, Limit}
use Rattle.cc_names.specs.declared.declarations.ClassId.{ClassId}
use Rattle.cc_names.specs.declared.declarations.Entity.{Entity}
use Rattle.cc_names.specs.declared.declarations.Entity.TheVariants as entity
use Rattle.cc_names.specs.declared.rule.StaticLimit.TheVariants.{ArrayLength}
use Rattle.cc_names.specs.declared.rule.StaticRule.{StaticRule}
use Rattle.cc_scopes.specs.declared.meaning.Meaning.{Meaning}
use Rattle.cc_scopes.specs.declared.meaning.Meaning.TheVariants as m
use Rattle.cc_scopes.specs.declared.scope.Found.{Found}
use Rattle.cc_scopes.specs.declared.state.State.{State}
use Rattle.cc_scopes.specs.declared.tables.Class.{Class}
use Rattle.cc_scopes.specs.declared.tables.Member.{Member}
use Rattle.cc_scopes.specs.declared.tables.Member.TheVariants as member
use Rattle.cc_scopes.specs.declared.typed.Operand.{Operand}
use Rattle.cc_scopes.specs.declared.typed.Place.{Place}
use Rattle.cc_scopes.specs.declared.typed.Root.{Root}
use Rattle.cc_scopes.specs.declared.typed.Root.TheVariants as root
use Rattle.cc_scopes.specs.declared.typed.Typed.{Typed}
use Rattle.cc_scopes.specs.declared.typed.Typed.TheVariants as typed
use Rattle.cc_scopes.specs.declared.types.Declared.{Declared}
use Rattle.cc_scopes.specs.declared.types.Shape.{Shape}
use Rattle.cc_scopes.specs.declared.types.Shape.TheVariants as shape
use Rattle.cc_scopes.specs.declared.types.Ty.{Ty}
use Rattle.cc_scopes.specs.declared.types.Ty.TheVariants as ty
use Rattle.cc_scopes.specs.Elab.{pure, note, share, block, block_if, call}
use Rattle.cc_scopes.specs.declared.sharing.ShareRule.{ShareRule}
use Rattle.cc_names.specs.declared.declarations.FunId.{FunId}
use Rattle.cc_scopes.specs.Scope.{Context, variable}
use Rattle.cc_scopes.specs.Typed.{note_rule, broken, no_operand, placed_by, placed_as, place_of, placed, int, literal, is_far_local, loaded, may_wait, load, load_unless}
use Rattle.cc_scopes.specs.Typed.{share_address, pointer_to, pointed, array_rule, first_unless, not_void_by, own, decay}
use Rattle.cc_scopes.specs.Meaning.{class_at, member_of, of_member, of_entity, member_or_file, outside_by, variable_or, meant}
use Rattle.cc_scopes.specs.Meaning.{of_constant, of_variable, own_field, of_meaning, name, this_in, this_by, this}
use Rattle.cc_scopes.specs.Lengths.{no_length, natural, length_in_range, value_length, length_of, no_value, value_or_fault, constant_of}
use Rattle.law_scopes.proofs.Runs.{IfThere, Anything, given, next, done, looking}
use Rattle.law_scopes.proofs.TermLaws.{push_fits, this_fits, variable_fits, member_fits, load_fits}
use Rattle.cc_scopes.specs.declared.state.State.{State}
use Rattle.law_scopes.specs.Variables.{Names, TypedNames}
use Rattle.law_scopes.proofs.Reading.{Reads, OperandFits}

-- ---- what collects

module _ (from : State) {P : Type 0} where
  pub note_runs : (b : Broken) → Reads from P (note b) Anything
  note_runs b = record { run = λ s e. (e, λ x k. (k, tt)) }

  pub share_runs : (rule : ShareRule) (line : ℕ) → Reads from P (share rule line) Anything
  share_runs rule line = record { run = λ s e. (e, λ x k. (k, tt)) }

  pub block_runs : (line : ℕ) → Reads from P (block line) Anything
  block_runs line = record { run = λ s e. (e, λ x k. (k, tt)) }

  pub block_if_runs : (b : Bool) (line : ℕ) → Reads from P (block_if b line) Anything
  block_if_runs true line = record { run = λ s e. (e, λ x k. (k, tt)) }
  block_if_runs false line = record { run = λ s e. (e, λ x k. (k, tt)) }

  pub call_runs : (f : FunId) (line : ℕ) → Reads from P (call f line) Anything
  call_runs f line = record { run = λ s e. (e, λ x k. (k, tt)) }

-- the variable that a name means is among these
abbrev pub MeaningFits : (ℕ → Type 0) → Meaning → Type 0
MeaningFits V (m.Variable found) = V found.number
MeaningFits V (m.Field declared offset) = Unit {0}
MeaningFits V (m.Method f) = Unit {0}
MeaningFits V (m.Constant is_earlier value) = Unit {0}
MeaningFits V (m.Function f) = Unit {0}
MeaningFits V m.Nothing = Unit {0}

-- ---- rules that are broken

module _ (V : ℕ → Type 0) (from : State) (cx : Context) {P : Type 0} where
  pub note_rule_runs : (rule : StaticRule) → Reads from P (note_rule cx rule) Anything
  note_rule_runs rule = note_runs from (Rule rule cx.line)

  pub broken_runs : (rule : StaticRule) → Reads from P (broken cx rule) (TypedNames V)
  broken_runs rule = next (note_rule_runs rule) (done typed.Broken (λ x. tt))

  pub no_operand_runs : (rule : StaticRule) → Reads from P (no_operand cx rule) (IfThere (OperandFits V from))
  no_operand_runs rule = next (note_rule_runs rule) (done None (λ x. tt))

-- ---- what stands at an address

module _ (V : ℕ → Type 0) (from : State) where
  placed_by_fits : (shape : Shape) (p : Place) → Names V p.address → TypedNames V (placed_by shape p)
  placed_by_fits shape.Cell p f = f
  placed_by_fits (shape.Array m) p f = f
  placed_by_fits (shape.Object class) p f = f

  placed_as_fits : (t : Ty) (shape : Shape) (p : Place) → Names V p.address → TypedNames V (placed_as t shape p)
  placed_as_fits ty.Unknown shape p f = tt
  placed_as_fits ty.Int shape p f = placed_by_fits shape p f
  placed_as_fits ty.Null shape p f = placed_by_fits shape p f
  placed_as_fits ty.Void shape p f = placed_by_fits shape p f
  placed_as_fits (ty.Pointer to remote) shape p f = placed_by_fits shape p f

  pub placed_fits : (x : _) (d : Declared) (remote : Bool) (root : Root) → Names V x → TypedNames V (placed x d remote root)
  placed_fits x d remote root f = placed_as_fits d.ty d.shape (place_of x d remote root) f

  pub literal_fits : (z : ℤ) → TypedNames V (literal z)
  literal_fits z = push_fits V (constant.Int z)

-- ---- values

module _ (V : ℕ → Type 0) (from : State) (cx : Context) where
  load_runs : (p : Place) → Reads from (Names V p.address) (load cx p) (IfThere (OperandFits V from))
  unfolding load
  load_runs p = next (block_if_runs from (may_wait p) cx.line) (done (Some (loaded p)) (λ x. load_fits V p.remote p.address x))

  load_unless_runs : (b : Bool) (p : Place) → Reads from (Names V p.address) (load_unless b cx p) (IfThere (OperandFits V from))
  load_unless_runs true p = no_operand_runs V from cx _
  load_unless_runs false p = load_runs p

  pub share_address_runs : (sync : Bool) {P : Type 0} → Reads from P (share_address sync cx) Anything
  share_address_runs true = done tt (λ x. tt)
  share_address_runs false = share_runs from _ _

  pointed_runs : (p : Place) → Reads from (Names V p.address) (pointed cx p) (IfThere (OperandFits V from))
  unfolding pointed
  pointed_runs p = next (share_address_runs p.sync) (done (Some (pointer_to p)) (λ x. x))

  first_unless_runs : (o : Option StaticRule) (p : Place) → Reads from (Names V p.address) (first_unless o cx p) (IfThere (OperandFits V from))
  first_unless_runs (Some rule) p = no_operand_runs V from cx rule
  first_unless_runs None p = pointed_runs p

  not_void_runs : (t : Ty) (v : Operand) → Reads from (OperandFits V from v) (not_void_by t cx v) (IfThere (OperandFits V from))
  not_void_runs ty.Void v = no_operand_runs V from cx _
  not_void_runs ty.Int v = done (Some v) (λ x. x)
  not_void_runs ty.Null v = done (Some v) (λ x. x)
  not_void_runs ty.Unknown v = done (Some v) (λ x. x)
  not_void_runs (ty.Pointer to remote) v = done (Some v) (λ x. x)

  pub decay_runs : (t : Typed) → Reads from (TypedNames V t) (decay cx t) (IfThere (OperandFits V from))
  decay_runs typed.Broken = done None (λ x. tt)
  decay_runs typed.Spoiled = done None (λ x. tt)
  decay_runs (typed.Value v) = not_void_runs v.ty v
  decay_runs (typed.This class remote) = done (Some (own class remote)) (λ x. this_fits V)
  decay_runs (typed.Constant term value) = done (Some (int term)) (λ x. x)
  decay_runs (typed.Place p) = load_unless_runs (is_far_local p) p
  decay_runs (typed.Array p m) = first_unless_runs (array_rule p.ty p.root) p
  decay_runs (typed.Object o) = no_operand_runs V from cx _

  -- ---- names

  of_constant_fits : (b : Bool) (z : Option ℤ) → TypedNames V (of_constant b z)
  of_constant_fits true None = tt
  of_constant_fits true (Some z) = literal_fits V from z
  of_constant_fits false None = push_fits V (constant.Int (pos 0))
  of_constant_fits false (Some z) = push_fits V (constant.Int z)

  of_variable_fits : (f : Found) → V f.number → TypedNames V (of_variable f)
  of_variable_fits f p = placed_fits V from (e.Variable f.number) f.declared false (root.Variable f.part) (variable_fits V f.number p)

  own_field_fits : (d : Declared) (o : ℕ) → TypedNames V (own_field d o)
  own_field_fits d o = placed_fits V from (e.Member e.This o) d false root.Member (member_fits V e.This o (this_fits V))

  pub of_meaning_runs : (x : Meaning) → Reads from (MeaningFits V x) (of_meaning cx x) (TypedNames V)
  of_meaning_runs (m.Variable f) = done (of_variable f) (λ x. of_variable_fits f x)
  of_meaning_runs (m.Field declared offset) = done (own_field declared offset) (λ x. own_field_fits declared offset)
  of_meaning_runs (m.Method f) = broken_runs V from cx _
  of_meaning_runs (m.Constant b z) = done (of_constant b z) (λ x. of_constant_fits b z)
  of_meaning_runs (m.Function f) = broken_runs V from cx _
  of_meaning_runs m.Nothing = broken_runs V from cx _

  this_in_runs : (k : Option Class) (class : ClassId) {P : Type 0} → Reads from P (this_in k cx class) (TypedNames V)
  this_in_runs None class = broken_runs V from cx _
  this_in_runs (Some k) class = done (typed.This class k.remote) (λ x. tt)

  this_by_runs : (o : Option ClassId) {P : Type 0} → Reads from P (this_by o cx) (TypedNames V)
  this_by_runs None = broken_runs V from cx _
  this_by_runs (Some class) = this_in_runs (class_at cx class) class

  pub this_runs : {P : Type 0} → Reads from P (this cx) (TypedNames V)
  this_runs = this_by_runs cx.class

  -- ---- lengths

  no_length_runs : (b : Broken) {P : Type 0} → Reads from P (no_length b) Anything
  no_length_runs b = next (note_runs from b) (done None (λ x. tt))

  length_if_runs : (b : Bool) (z : ℤ) {P : Type 0} → Reads from P (if b then no_length (Limit ArrayLength cx.line) else pure (Some (natural z))) Anything
  length_if_runs true z = no_length_runs _
  length_if_runs false z = done (Some (natural z)) (λ x. tt)

  length_in_range_runs : (z : ℤ) {P : Type 0} → Reads from P (length_in_range cx z) Anything
  unfolding length_in_range
  length_in_range_runs z = length_if_runs (int_lt z (pos 1) || int_lt (pos 65536) z) z

  value_length_runs : (o : Option ℤ) {P : Type 0} → Reads from P (value_length cx o) Anything
  value_length_runs None = no_length_runs _
  value_length_runs (Some z) = length_in_range_runs z

  pub length_of_runs : (t : Typed) {P : Type 0} → Reads from P (length_of cx t) Anything
  length_of_runs typed.Broken = no_length_runs _
  length_of_runs typed.Spoiled = done None (λ x. tt)
  length_of_runs (typed.Value v) = no_length_runs _
  length_of_runs (typed.This class remote) = no_length_runs _
  length_of_runs (typed.Constant term value) = value_length_runs value
  length_of_runs (typed.Place p) = no_length_runs _
  length_of_runs (typed.Array p k) = no_length_runs _
  length_of_runs (typed.Object o) = no_length_runs _

  no_value_runs : {P : Type 0} → Reads from P (no_value cx) Anything
  no_value_runs = next (note_runs from _) (done None (λ x. tt))

  value_or_fault_runs : (o : Option ℤ) {P : Type 0} → Reads from P (value_or_fault cx o) Anything
  value_or_fault_runs None = no_value_runs
  value_or_fault_runs (Some z) = done (Some z) (λ x. tt)

  pub constant_of_runs : (t : Typed) {P : Type 0} → Reads from P (constant_of cx t) Anything
  constant_of_runs typed.Broken = no_value_runs
  constant_of_runs typed.Spoiled = done None (λ x. tt)
  constant_of_runs (typed.Value v) = no_value_runs
  constant_of_runs (typed.This class remote) = no_value_runs
  constant_of_runs (typed.Constant term value) = value_or_fault_runs value
  constant_of_runs (typed.Place p) = no_value_runs
  constant_of_runs (typed.Array p k) = no_value_runs
  constant_of_runs (typed.Object o) = no_value_runs

-- ---- names

-- what a name finds in scope is among these
abbrev pub Finds : (ℕ → Type 0) → State → Name → Type 0
Finds V from text = (found : Found) → variable text from.locals ≡ Some found → V found.number

module _ (V : ℕ → Type 0) (cx : Context) where
  of_member_fits : (x : Member) → MeaningFits V (of_member x)
  of_member_fits (member.Field declared offset) = tt
  of_member_fits (member.Method f) = tt

  of_entity_fits : (x : Option Entity) → MeaningFits V (of_entity cx x)
  of_entity_fits None = tt
  of_entity_fits (Some (entity.Constant k)) = tt
  of_entity_fits (Some (entity.Class class)) = tt
  of_entity_fits (Some (entity.Function f)) = tt

  member_or_file_fits : (x : Option Member) (text : Name) → MeaningFits V (member_or_file x cx text)
  member_or_file_fits None text = of_entity_fits (entity_named cx.names text)
  member_or_file_fits (Some x) text = of_member_fits x

  outside_fits : (class : Option ClassId) (text : Name) → MeaningFits V (outside_by class cx text)
  outside_fits None text = of_entity_fits (entity_named cx.names text)
  outside_fits (Some class) text = member_or_file_fits (member_of cx class text) text

  variable_or_fits : (x : Option Found) (text : Name) → ((found : Found) → x ≡ Some found → V found.number) → MeaningFits V (variable_or x cx text)
  variable_or_fits None text p = outside_fits cx.class text
  variable_or_fits (Some found) text p = p found refl

  pub meant_fits : (from s : State) (text : Name) → Finds V from text → s.locals ≡ from.locals → MeaningFits V (meant cx text s)
  meant_fits from s text p is = variable_or_fits (variable text s.locals) text (λ found found_is.
      p found (ap (λ ls. variable text ls) (sym is) ∙ found_is))

pub name_runs : (V : ℕ → Type 0) (from : State) (cx : Context) (text : Name) → Finds V from text → {P : Type 0} → Reads from P (name cx text) (TypedNames V)
name_runs V from cx text p = looking (λ s. of_meaning cx (meant cx text s)) (λ s.
    given (λ x. meant_fits V cx from s text p x.1.0) (of_meaning_runs V from cx (meant cx text s)))
