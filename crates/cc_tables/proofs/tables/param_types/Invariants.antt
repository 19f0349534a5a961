use Rattle.std.proofs.Common.{◌≡◌, ◌++◌, drop}
use Rattle.cc_scopes.specs.Scope.{context}
use Rattle.cc_tables.specs.Tables.{param_types}
use Rattle.cc_tables.proofs.tables.param_types.Given as goal

abbrev pub invariant-loop-param : goal.invariant-loop-param
invariant-loop-param l = l.types ++ param_types (context l.scope) (drop l.param-index l.params) ≡ param_types (context l.scope) l.params
