use Rattle.std.proofs.Common.{◌≡◌, length}
use Rattle.cc_scopes.specs.Scope.{context}
use Rattle.cc_elaboration.specs.Simple.{nothing_printed, printed_from}
use Rattle.cc_elaboration.proofs.simple.read_items.Given as goal

abbrev pub invariant-loop-items : goal.invariant-loop-items
invariant-loop-items l = printed_from (context l.scope) nothing_printed l.fn.items l.fn.state ≡ printed_from (context l.scope) l.done l.items l.state

abbrev pub decreases-loop-items : goal.decreases-loop-items
decreases-loop-items l = length l.items
