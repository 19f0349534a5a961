use Rattle.std.proofs.Common.{◌≡◌, ◌++◌, drop}
use Rattle.cc_scopes.specs.Scope.{context}
use Rattle.cc_tables.specs.Tables.{methods}
use Rattle.cc_tables.proofs.tables.add_methods.Given as goal

abbrev pub invariant-loop-member : goal.invariant-loop-member
invariant-loop-member l =
    l.functions ++ methods (context l.scope) (drop l.member-index l.members) ≡ l.fn.functions ++ methods (context l.scope) l.members
