use Rattle.std.proofs.Common.{◌≡◌, ◌++◌, drop}
use Rattle.cc_scopes.specs.Scope.{context}
use Rattle.cc_tables.specs.Tables.{functions_of}
use Rattle.cc_tables.proofs.tables.functions_of.Given as goal

abbrev pub invariant-loop-item : goal.invariant-loop-item
invariant-loop-item l =
    l.functions ++ functions_of (context l.scope) (drop l.item-index l.items) ≡ functions_of (context l.scope) l.items
