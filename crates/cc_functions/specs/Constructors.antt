-- Constructors: a list of assignments to the object's own members, from parameters, constants and operators.
use Rattle.std.specs.Prelude.{ℕ, Bool, true, false, not, ◌&&◌, List, [], ◌∷◌, ◌++◌, length, Option, Some, None, bytes_eq}
use Rattle.cc_names.specs.Table.{Name}
use Rattle.cc_names.specs.declared.rule.StaticRule.TheVariants as r
use Rattle.cc_ops.specs.declared.build.BuildSet.{BuildSet}
use Rattle.cc_tree.specs.declared.declarations.ClassDecl.{ClassDecl}
use Rattle.cc_tree.specs.declared.declarations.Param.{Param}
use Rattle.cc_tree.specs.declared.expressions.Expr.{Expr}
use Rattle.cc_tree.specs.declared.statements.AssignOp.{AssignOp}
use Rattle.cc_tree.specs.declared.statements.Stmt.{Stmt, out-Stmt}
use Rattle.cc_tree.specs.declared.statements.StmtKind.{StmtKind, out-StmtKind}
use Rattle.cc_tree.specs.declared.statements.StmtKind.TheOpen.{StmtKind-F}
use Rattle.cc_scopes.specs.declared.types.Ty.TheVariants as ty
use Rattle.cc_scopes.specs.Types.{is_local_pointer}
use Rattle.cc_scopes.specs.Elab.{Elab, ◌>>=◌, ◌>>◌, pure}
use Rattle.cc_scopes.specs.Scope.{Context}
use Rattle.cc_scopes.specs.Typed.{note_rule}
use Rattle.cc_declared.specs.Slots.{value_type}
use Rattle.cc_elaboration.specs.declared.assignments.Assignment.{Assignment}
use Rattle.cc_elaboration.specs.Assignments.{assignment}
use Rattle.cc_elaboration.specs.Simple.{note_if}
use Rattle.cc_elaboration.specs.Statements.{at_line, statement}
use Rattle.cc_functions.specs.declared.constructors.Built.{Built}
use Rattle.cc_functions.specs.Builds.{set_of, names_own}
use Rattle.cc_functions.specs.Functions.{begin, param}

-- ---- a statement

unfoldable pub refused : Context → Elab (Option BuildSet)
refused cx = note_rule cx r.Constructor >> pure None

abbrev pub set_or_refused : Option BuildSet → Context → Elab (Option BuildSet)
set_or_refused None cx = refused cx
set_or_refused (Some x) cx = pure (Some x)

abbrev pub set_if : (is_own : Bool) → Assignment → Option BuildSet
set_if true a = set_of a
set_if false a = None

-- an assignment in which a rule is broken breaks no further one
abbrev pub assigned_set : Option Assignment → (is_own : Bool) → Context → Elab (Option BuildSet)
assigned_set None is_own cx = pure None
assigned_set (Some a) is_own cx = set_or_refused (set_if is_own a) cx

unfoldable pub assigned : Context → (target : Expr) → AssignOp → (value : Expr) → Elab (Option BuildSet)
assigned cx target op e = assignment cx target op e >>= (λ a. assigned_set a (names_own target) cx)

-- any other statement is read for its own rules
unfoldable pub other : Context → Stmt → Elab (Option BuildSet)
other cx b = statement cx b >> refused (at_line cx (out-Stmt b).line)

abbrev pub set_by : StmtKind-F StmtKind Stmt → Context → Stmt → Elab (Option BuildSet)
set_by (StmtKind-F.Assign target op e) cx b = assigned (at_line cx (out-Stmt b).line) target op e
set_by _ cx b = other cx b

unfoldable pub set : Context → Stmt → Elab (Option BuildSet)
set cx b = set_by (out-StmtKind (out-Stmt b).kind) cx b

abbrev pub with_set : List BuildSet → Option BuildSet → List BuildSet
with_set done None = done
with_set done (Some x) = done ++ x ∷ []

abbrev pub sets_from : Context → List BuildSet → List Stmt → Elab (List BuildSet)
sets_from cx done [] = pure done
sets_from cx done (b ∷ bs) = set cx b >>= (λ x. sets_from cx (with_set done x) bs)

-- ---- parameters: no local pointer goes to another processor

unfoldable pub param_in : Context → (remote : Bool) → Param → Elab (Unit {0})
param_in cx remote p = param cx false p >>= (λ d. note_if (remote && is_local_pointer (value_type d)) (at_line cx p.line) r.RemoteLocal)

abbrev pub params_in : Context → (remote : Bool) → List Param → Elab (Unit {0})
params_in cx remote [] = pure tt
params_in cx remote (p ∷ ps) = param_in cx remote p >> params_in cx remote ps

-- ---- the constructor, which has the class's name

abbrev pub in_constructor : Context → Context
in_constructor cx = record cx {
  result = ty.Void;
  in_main = false;
  in_constructor = true;
  in_branch = false;
  in_loop = false;
  part = 0;
  start = 0;
}

unfoldable pub constructor_at : Context → ClassDecl → Name → List Param → List Stmt → Elab Built
constructor_at cx class name params body =
    begin >> (note_if (not (bytes_eq name class.name)) cx r.Constructor >> (params_in cx class.remote params
    >> (sets_from cx [] body >>= (λ sets. pure (record { params = length params; sets = sets })))))

abbrev pub constructor : Context → ClassDecl → Name → List Param → List Stmt → (line : ℕ) → Elab Built
constructor cx class name params body line = constructor_at (at_line (in_constructor cx) line) class name params body
