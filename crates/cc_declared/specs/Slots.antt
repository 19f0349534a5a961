-- What variables, fields, parameters and results are declared as.
use Rattle.std.specs.Prelude.{ℕ, Bool, true, false, Option, Some, None}
use Rattle.cc_names.specs.declared.rule.StaticRule.TheVariants as r
use Rattle.cc_declared.specs.declared.role.Role.{Role}
use Rattle.cc_declared.specs.declared.role.Role.TheVariants as role
use Rattle.cc_tree.specs.declared.expressions.Expr.{Expr}
use Rattle.cc_tree.specs.declared.statements.Decl.{Decl}
use Rattle.cc_tree.specs.declared.statements.TypeName.{TypeName}
use Rattle.cc_scopes.specs.declared.types.Declared.{Declared}
use Rattle.cc_scopes.specs.declared.types.Shape.{Shape}
use Rattle.cc_scopes.specs.declared.types.Shape.TheVariants as shape
use Rattle.cc_scopes.specs.declared.types.Ty.{Ty}
use Rattle.cc_scopes.specs.declared.types.Ty.TheVariants as ty
use Rattle.cc_scopes.specs.Elab.{Elab, ◌>>=◌, ◌>>◌, pure}
use Rattle.cc_scopes.specs.Scope.{Context}
use Rattle.cc_scopes.specs.Typed.{note_rule}
use Rattle.cc_typing.specs.Whole.{array_length}
use Rattle.cc_declared.specs.Written.{unknown, no_type, written}
use Rattle.cc_declared.specs.Allowed.{is_allowed}

-- ---- the type

-- What is not allowed to be of its type keeps it for later uses, but for `void`.
abbrev pub kept_by : Ty → Declared → Declared
kept_by ty.Void d = unknown
kept_by _ d = d

abbrev pub checked : (is_allowed : Bool) → Context → Declared → Elab Declared
checked true cx d = pure d
checked false cx d = note_rule cx r.BadDeclared >> pure (kept_by d.ty d)

unfoldable pub typed_as : Role → Context → TypeName → Elab Declared
typed_as role cx t = written cx t >>= (λ d. checked (is_allowed role cx d) cx d)

-- ---- an array, where a length follows

-- The elements of an array whose length breaks a rule are known all the same.
abbrev pub known_length : Option ℕ → ℕ
known_length None = 1
known_length (Some n) = n

abbrev pub array_of : Option ℕ → Declared → Declared
array_of n d = record d { shape = shape.Array (known_length n) }

-- there are no arrays of objects
abbrev pub arrayed_by : Shape → Context → Declared → Option ℕ → Elab Declared
arrayed_by (shape.Object class) cx d n = no_type cx r.BadDeclared
arrayed_by _ cx d n = pure (array_of n d)

unfoldable pub arrayed : Context → Declared → Expr → Elab Declared
arrayed cx d e = array_length cx e >>= (λ n. arrayed_by d.shape cx d n)

abbrev pub with_length : Context → Declared → Option Expr → Elab Declared
with_length cx d None = pure d
with_length cx d (Some e) = arrayed cx d e

unfoldable pub slot : Role → Context → Decl → Elab Declared
slot role cx d = typed_as role cx d.ty >>= (λ t. with_length cx t d.length)

-- ---- each role

abbrev pub variable : Context → Decl → Elab Declared
variable = slot role.Variable

abbrev pub field : Context → Decl → Elab Declared
field = slot role.Field

abbrev pub parameter : Context → TypeName → Elab Declared
parameter = typed_as role.Parameter

-- what a function returns
abbrev pub returned : Context → TypeName → Elab Declared
returned = typed_as role.Result

-- the type of the values of a parameter or a result
abbrev pub value_type_by : Shape → Declared → Ty
value_type_by (shape.Object class) d = ty.Unknown
value_type_by _ d = d.ty

abbrev pub value_type : Declared → Ty
value_type d = value_type_by d.shape d
