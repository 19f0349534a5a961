use Rattle.std.proofs.Common.{◌≡◌, [], length}
use Rattle.cc_scopes.specs.Scope.{context}
use Rattle.cc_functions.specs.Functions.{params_from}
use Rattle.cc_functions.proofs.functions.params.Given as goal

abbrev pub invariant-loop-all : goal.invariant-loop-all
invariant-loop-all l = params_from (context l.scope) l.is_main [] l.fn.all l.fn.state ≡ params_from (context l.scope) l.is_main l.done l.all l.state

abbrev pub decreases-loop-all : goal.decreases-loop-all
decreases-loop-all l = length l.all
