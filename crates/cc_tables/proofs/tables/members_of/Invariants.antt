use Rattle.std.proofs.Common.{◌≡◌, ◌++◌, drop}
use Rattle.cc_scopes.specs.Scope.{context}
use Rattle.cc_tables.specs.Tables.{members_from}
use Rattle.cc_tables.proofs.tables.members_of.Given as goal

abbrev pub invariant-loop-member : goal.invariant-loop-member
invariant-loop-member l =
    l.entries ++ members_from (context l.scope) l.cells l.next (drop l.member-index l.members)
    ≡ members_from (context l.scope) 0 l.functions l.members
