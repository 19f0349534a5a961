use Rattle.std.proofs.Common.{◌≡◌, length}
use Rattle.cc_scopes.specs.Scope.{context}
use Rattle.cc_elaboration.specs.Statements.{statement_to, parts, parts_from}
use Rattle.cc_elaboration.proofs.statements.Statements.parts.Given as goal

abbrev pub invariant-loop-all : goal.invariant-loop-all
invariant-loop-all g l = parts (statement_to l.self.depth) (context l.scope) l.fn.all l.fn.state ≡ parts_from (statement_to l.self.depth) (context l.scope) l.done l.all l.state

abbrev pub decreases-loop-all : goal.decreases-loop-all
decreases-loop-all g l = length l.all
