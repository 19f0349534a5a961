-- The meaning of a name is the one that the relation gives.
use Rattle.std.proofs.Common.{◌≡◌, Option, Some, None, List, refl, sym, ap, ap₂, ◌∙◌, subst}
use Rattle.std.proofs.lemmas.Option.{none-some}
use Rattle.cc_names.specs.Names.{entity_named}
use Rattle.cc_names.specs.Table.{Name}
use Rattle.cc_names.specs.declared.declarations.ClassId.{ClassId}
use Rattle.cc_names.specs.declared.declarations.Entity.{Entity}
use Rattle.cc_names.specs.declared.declarations.Entity.TheVariants as entity
use Rattle.cc_scopes.specs.declared.meaning.Meaning.{Meaning}
use Rattle.cc_scopes.specs.declared.meaning.Meaning.TheVariants as m
use Rattle.cc_scopes.specs.declared.scope.Found.{Found}
use Rattle.cc_scopes.specs.declared.state.Local.{Local}
use Rattle.cc_scopes.specs.declared.state.State.{State}
use Rattle.cc_scopes.specs.declared.tables.Member.{Member}
use Rattle.cc_scopes.specs.declared.tables.Member.TheVariants as member
use Rattle.cc_scopes.specs.Meaning.{member_of, of_entity, of_file, member_or_file, outside_by, variable_or, meant}
use Rattle.cc_scopes.specs.Scope.{Context, variable}
use Rattle.law_names.specs.Innermost.{NoVariable, OwnMember, NoOwnMember, NoValue, OfFile, OutsideOf, Means}
use Rattle.law_names.proofs.InnermostLaws.{some_inside, found_is_innermost, unknown_has_none, none_is_unknown, innermost_is_found}

module _ (cx : Context) (name : Name) where
  -- ---- the meaning is one of the relation

  file_means : (x : Option Entity) → entity_named cx.names name ≡ x → NoOwnMember cx name → OutsideOf cx name (of_entity cx x)
  file_means None is free = (free, subst NoValue (sym is) tt)
  file_means (Some (entity.Constant k)) is free = (free, (k, is, refl, refl))
  file_means (Some (entity.Class class)) is free = (free, subst NoValue (sym is) tt)
  file_means (Some (entity.Function f)) is free = (free, is)

  no_such_member : (class : ClassId) → cx.class ≡ Some class → member_of cx class name ≡ None → NoOwnMember cx name
  no_such_member class own none = λ other is. subst (λ c. member_of cx c name ≡ None) (some_inside class other (sym own ∙ is)) none

  member_means : (class : ClassId) (x : Option Member) → cx.class ≡ Some class → member_of cx class name ≡ x
      → OutsideOf cx name (member_or_file x cx name)
  member_means class None own is = file_means (entity_named cx.names name) refl (no_such_member class own is)
  member_means class (Some (member.Field declared offset)) own is = (class, own, is)
  member_means class (Some (member.Method f)) own is = (class, own, is)

  outside_means : (x : Option ClassId) → cx.class ≡ x → OutsideOf cx name (outside_by x cx name)
  outside_means None own = file_means (entity_named cx.names name) refl (λ class is. absurd (none-some class (sym own ∙ is)))
  outside_means (Some class) own = member_means class (member_of cx class name) own refl

  no_variable_means : (scope : List Local) (x : Meaning) → NoVariable name scope → OutsideOf cx name x → Means cx scope name x
  no_variable_means scope (m.Variable found) free p = absurd p.1
  no_variable_means scope (m.Field declared offset) free p = (free, p)
  no_variable_means scope (m.Method f) free p = (free, p)
  no_variable_means scope (m.Constant is_earlier value) free p = (free, p)
  no_variable_means scope (m.Function f) free p = (free, p)
  no_variable_means scope m.Nothing free p = (free, p)

  variable_means : (scope : List Local) (x : Option Found) → variable name scope ≡ x → Means cx scope name (variable_or x cx name)
  variable_means scope None is =
      no_variable_means scope (outside_by cx.class cx name) (unknown_has_none name scope is) (outside_means cx.class refl)
  variable_means scope (Some found) is = found_is_innermost name scope found is

  pub meant_means : (s : State) → Means cx s.locals name (meant cx name s)
  meant_means s = variable_means s.locals (variable name s.locals) refl

  -- ---- and there is no other

  no_member_is : (x : Option ClassId) → cx.class ≡ x → NoOwnMember cx name → outside_by x cx name ≡ of_file cx name
  no_member_is None own free = refl
  no_member_is (Some class) own free = ap (λ z. member_or_file z cx name) (free class own)

  nothing_is : (x : Option Entity) → NoValue x → m.Nothing ≡ of_entity cx x
  nothing_is None p = refl
  nothing_is (Some (entity.Constant k)) p = absurd p
  nothing_is (Some (entity.Class class)) p = refl
  nothing_is (Some (entity.Function f)) p = absurd p

  file_is : (x : Meaning) → OfFile cx name x → x ≡ of_file cx name
  file_is (m.Variable found) p = absurd p
  file_is (m.Field declared offset) p = absurd p
  file_is (m.Method f) p = absurd p
  file_is (m.Constant is_earlier value) p = ap₂ m.Constant p.2 p.3 ∙ sym (ap (λ z. of_entity cx z) p.1)
  file_is (m.Function f) p = sym (ap (λ z. of_entity cx z) p)
  file_is m.Nothing p = nothing_is (entity_named cx.names name) p

  member_is : (x : Member) → (p : OwnMember cx name x) → member_or_file (Some x) cx name ≡ outside_by cx.class cx name
  member_is x p = sym (ap (λ z. outside_by z cx name) p.1 ∙ ap (λ z. member_or_file z cx name) p.2)

  not_own : (x : Meaning) → NoOwnMember cx name × OfFile cx name x → x ≡ outside_by cx.class cx name
  not_own x p = file_is x p.1 ∙ sym (no_member_is cx.class refl p.0)

  outside_is : (x : Meaning) → OutsideOf cx name x → x ≡ outside_by cx.class cx name
  outside_is (m.Variable found) p = absurd p.1
  outside_is (m.Field declared offset) p = member_is (member.Field declared offset) p
  outside_is (m.Method f) p = member_is (member.Method f) p
  outside_is (m.Constant is_earlier value) p = not_own (m.Constant is_earlier value) p
  outside_is (m.Function f) p = not_own (m.Function f) p
  outside_is m.Nothing p = not_own m.Nothing p

  found_no_variable : (scope : List Local) (x : Meaning) → NoVariable name scope → OutsideOf cx name x
      → x ≡ variable_or (variable name scope) cx name
  found_no_variable scope x free p = outside_is x p ∙ sym (ap (λ z. variable_or z cx name) (none_is_unknown name scope free))

  means_one : (scope : List Local) (x : Meaning) → Means cx scope name x → x ≡ variable_or (variable name scope) cx name
  means_one scope (m.Variable found) p =
      ap m.Variable p.2 ∙ sym (ap (λ z. variable_or z cx name) (innermost_is_found name scope p.0 p.1))
  means_one scope (m.Field declared offset) p = found_no_variable scope (m.Field declared offset) p.0 p.1
  means_one scope (m.Method f) p = found_no_variable scope (m.Method f) p.0 p.1
  means_one scope (m.Constant is_earlier value) p = found_no_variable scope (m.Constant is_earlier value) p.0 p.1
  means_one scope (m.Function f) p = found_no_variable scope (m.Function f) p.0 p.1
  means_one scope m.Nothing p = found_no_variable scope m.Nothing p.0 p.1

  pub one_meant : (s : State) (x : Meaning) → Means cx s.locals name x → x ≡ meant cx name s
  one_meant s x p = means_one s.locals x p
