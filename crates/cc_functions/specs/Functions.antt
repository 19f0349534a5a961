-- Functions: their parameters, their core, and what is collected of them.
use Rattle.std.specs.Prelude.{ℕ, pos, Bool, true, false, not, ◌&&◌, List, [], ◌∷◌, ◌++◌, length, map}
use Rattle.cc_core.specs.declared.expression.Constant.{Constant}
use Rattle.cc_core.specs.declared.expression.Constant.TheVariants as constant
use Rattle.cc_names.specs.Table.{Name}
use Rattle.cc_names.specs.declared.rule.StaticRule.TheVariants as r
use Rattle.cc_ops.specs.declared.kind.Kind.{Kind}
use Rattle.cc_ops.specs.declared.shape.FunShape.{FunShape}
use Rattle.cc_tree.specs.declared.declarations.Function.{Function}
use Rattle.cc_tree.specs.declared.declarations.Param.{Param}
use Rattle.cc_tree.specs.declared.statements.TypeName.{TypeName}
use Rattle.cc_scopes.specs.declared.sharing.ShareRule.TheVariants.{AtomicUsed}
use Rattle.cc_scopes.specs.declared.state.State.{State}
use Rattle.cc_scopes.specs.declared.types.Declared.{Declared}
use Rattle.cc_scopes.specs.declared.types.Shape.{Shape}
use Rattle.cc_scopes.specs.declared.types.Shape.TheVariants as shape
use Rattle.cc_scopes.specs.declared.types.Ty.{Ty}
use Rattle.cc_scopes.specs.declared.types.Ty.TheVariants as ty
use Rattle.cc_scopes.specs.Types.{cell_kind}
use Rattle.cc_scopes.specs.Elab.{Elab, ◌>>=◌, ◌>>◌, pure, share}
use Rattle.cc_scopes.specs.Scope.{Context, declare}
use Rattle.cc_declared.specs.Slots.{parameter, returned, value_type}
use Rattle.cc_elaboration.specs.Simple.{note_if}
use Rattle.cc_elaboration.specs.Statements.{at_line, function_body}
use Rattle.cc_blocking.specs.declared.conduct.Conduct.{Conduct}
use Rattle.cc_functions.specs.declared.functions.FunctionParts.{FunctionParts}
use Rattle.cc_functions.specs.declared.functions.Elaborated.{Elaborated}

-- a function, a field or a constant begins: nothing is in scope, and nothing is collected of a function
abbrev pub begin : Elab (Unit {0})
begin = λ t. (tt, record t { locals = []; made = []; blocks = []; calls = [] })

-- ---- parameters and the result; those of `main` are plain ints

abbrev pub is_plain : Ty → (sync : Bool) → Bool
is_plain ty.Int sync = not sync
is_plain _ sync = false

abbrev pub is_int_by : Shape → Declared → Bool
is_int_by shape.Cell d = is_plain d.ty d.sync
is_int_by _ d = false

abbrev pub is_plain_int : Declared → Bool
is_plain_int d = is_int_by d.shape d

unfoldable pub param_at : Context → (is_main : Bool) → Param → Elab Declared
param_at cx is_main p =
    parameter cx p.ty >>= (λ d. note_if (is_main && not (is_plain_int d)) cx r.BadMain >> (declare cx p.name d >> pure d))

abbrev pub param : Context → (is_main : Bool) → Param → Elab Declared
param cx is_main p = param_at (at_line cx p.line) is_main p

abbrev pub params_from : Context → (is_main : Bool) → List Declared → List Param → Elab (List Declared)
params_from cx is_main done [] = pure done
params_from cx is_main done (p ∷ ps) = param cx is_main p >>= (λ d. params_from cx is_main (done ++ d ∷ []) ps)

unfoldable pub result_of : Context → (is_main : Bool) → TypeName → Elab Ty
result_of cx is_main t = returned cx t >>= (λ d. note_if (is_main && not (is_plain_int d)) cx r.BadMain >> pure (value_type d))

-- ---- the function

abbrev pub in_function : Context → Ty → (is_main : Bool) → Context
in_function cx t is_main = record cx {
  result = t;
  in_main = is_main;
  in_constructor = false;
  in_branch = false;
  in_loop = false;
  part = 0;
  start = 0;
}

unfoldable pub parts : Context → (is_main : Bool) → Function → Elab FunctionParts
parts cx is_main f = result_of cx is_main f.result >>= (λ t. params_from (in_function cx t is_main) is_main [] f.params
    >>= (λ ds. function_body (in_function cx t is_main) f.body >>= (λ body. pure (record { result = t; params = ds; body = body }))))

-- what it returns where it ends without `return`
abbrev pub default_of : Ty → Constant
default_of ty.Int = constant.Int (pos 0)
default_of (ty.Pointer to remote) = constant.Null
default_of _ = constant.Void

abbrev pub kinds_of : Declared → List Kind
kinds_of d = cell_kind d.ty d.sync ∷ []

abbrev pub shape_of : Name → Function → List Declared → (vars : ℕ) → FunShape
shape_of name f params vars = record { name = name; line = f.line; params = map kinds_of params; vars = vars; atomic = f.atomic }

abbrev pub conduct_of : Function → State → Conduct
conduct_of f t = record { atomic = f.atomic; blocks = t.blocks; calls = t.calls }

abbrev pub elaborated : Name → Function → FunctionParts → State → Elaborated
elaborated name f p t = record {
  function = record { shape = shape_of name f p.params (length t.made); default = default_of p.result; body = p.body };
  conduct = conduct_of f t;
}

abbrev pub finish : Name → Function → FunctionParts → Elab Elaborated
finish name f p = λ t. (elaborated name f p t, t)

-- the declaration of an atomic function makes a program one of many answers
abbrev pub share_atomic : (atomic : Bool) → Context → Elab (Unit {0})
share_atomic true cx = share AtomicUsed cx.line
share_atomic false cx = pure tt

unfoldable pub function_at : Context → (is_main : Bool) → Name → Function → Elab Elaborated
function_at cx is_main name f = begin >> (share_atomic f.atomic cx >> (parts cx is_main f >>= finish name f))

-- a function, by the name that is listed
abbrev pub function : Context → (is_main : Bool) → Name → Function → Elab Elaborated
function cx is_main name f = function_at (at_line cx f.line) is_main name f
