use Rattle.std.proofs.Common.{◌≡◌, [], length}
use Rattle.cc_scopes.specs.Scope.{context}
use Rattle.cc_functions.specs.Constructors.{sets_from}
use Rattle.cc_functions.proofs.constructors.sets.Given as goal

abbrev pub invariant-loop-all : goal.invariant-loop-all
invariant-loop-all l = sets_from (context l.scope) [] l.fn.all l.fn.state ≡ sets_from (context l.scope) l.done l.all l.state

abbrev pub decreases-loop-all : goal.decreases-loop-all
decreases-loop-all l = length l.all
