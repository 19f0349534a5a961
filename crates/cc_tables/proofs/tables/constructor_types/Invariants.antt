use Rattle.std.proofs.Common.{◌≡◌, drop}
use Rattle.cc_scopes.specs.Scope.{context}
use Rattle.cc_tables.specs.Tables.{constructor_types}
use Rattle.cc_tables.proofs.tables.constructor_types.Given as goal

abbrev pub invariant-loop-member : goal.invariant-loop-member
invariant-loop-member l =
    constructor_types (context l.scope) (drop l.member-index l.members) ≡ constructor_types (context l.scope) l.members
