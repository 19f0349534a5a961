-- Which declaration a name means: a relation, with no order of search.
use Rattle.std.specs.Prelude.{◌≡◌, ◌≢◌, ℕ, List, ◌∷◌, ◌++◌, Option, Some, None, nat_lt}
use Rattle.std.specs.List.{AllByRecursion}
use Rattle.cc_names.specs.Names.{entity_named}
use Rattle.cc_names.specs.Table.{Name}
use Rattle.cc_names.specs.declared.declarations.ClassId.{ClassId}
use Rattle.cc_names.specs.declared.declarations.Entity.{Entity}
use Rattle.cc_names.specs.declared.declarations.Entity.TheVariants as entity
use Rattle.cc_scopes.specs.declared.meaning.Meaning.{Meaning}
use Rattle.cc_scopes.specs.declared.meaning.Meaning.TheVariants as m
use Rattle.cc_scopes.specs.declared.state.Local.{Local}
use Rattle.cc_scopes.specs.declared.tables.Member.{Member}
use Rattle.cc_scopes.specs.declared.tables.Member.TheVariants as member
use Rattle.cc_scopes.specs.Scope.{Context, found_as}
use Rattle.cc_scopes.specs.Meaning.{member_of, constant_value}

-- ---- variables: those in scope stand in the order of the text, so those of an inner block behind those of the blocks around it

abbrev pub HasOtherName : Name → Local → Type 0
HasOtherName name l = l.name ≢ name

-- the innermost variable of a name: it has the name, and none declared behind it has
pub record IsInnermost (name : Name) (scope : List Local) (l : Local) : Type 0 where
  pub outer : List Local
  pub inner : List Local
  pub stands : scope ≡ outer ++ l ∷ inner
  pub named : l.name ≡ name
  pub hidden_by_none : AllByRecursion (HasOtherName name) inner

abbrev pub NoVariable : Name → List Local → Type 0
NoVariable name scope = AllByRecursion (HasOtherName name) scope

-- ---- members of the own class

abbrev pub OwnMember : Context → Name → Member → Type 0
OwnMember cx name x = (class : ClassId) × (cx.class ≡ Some class) × (member_of cx class name ≡ Some x)

abbrev pub NoOwnMember : Context → Name → Type 0
NoOwnMember cx name = (class : ClassId) → cx.class ≡ Some class → member_of cx class name ≡ None

-- ---- the meaning of a name: the innermost variable, else the own member, else the constant or the function of the file

abbrev pub NoValue : Option Entity → Type 0
NoValue None = Unit {0}
NoValue (Some (entity.Class class)) = Unit {0}
NoValue (Some (entity.Constant k)) = ⊥
NoValue (Some (entity.Function f)) = ⊥

abbrev pub OfFile : Context → Name → Meaning → Type 0
OfFile cx name (m.Variable found) = ⊥
OfFile cx name (m.Field declared offset) = ⊥
OfFile cx name (m.Method f) = ⊥
OfFile cx name (m.Constant is_earlier value) =
    (k : ℕ) × (entity_named cx.names name ≡ Some (entity.Constant k)) × (is_earlier ≡ nat_lt k cx.known) × (value ≡ constant_value cx k)
OfFile cx name (m.Function f) = entity_named cx.names name ≡ Some (entity.Function f)
OfFile cx name m.Nothing = NoValue (entity_named cx.names name)

abbrev pub OutsideOf : Context → Name → Meaning → Type 0
OutsideOf cx name (m.Field declared offset) = OwnMember cx name (member.Field declared offset)
OutsideOf cx name (m.Method f) = OwnMember cx name (member.Method f)
OutsideOf cx name x = NoOwnMember cx name × OfFile cx name x

abbrev pub Means : Context → List Local → Name → Meaning → Type 0
Means cx scope name (m.Variable found) = (l : Local) × IsInnermost name scope l × (found ≡ found_as l)
Means cx scope name x = NoVariable name scope × OutsideOf cx name x
