use Rattle.std.proofs.Common.{◌≡◌, length}
use Rattle.cc_scopes.specs.Scope.{context}
use Rattle.cc_functions.specs.Constructors.{params_in}
use Rattle.cc_functions.proofs.constructors.params_in.Given as goal

abbrev pub invariant-loop-all : goal.invariant-loop-all
invariant-loop-all l = params_in (context l.scope) l.remote l.fn.all l.fn.state ≡ params_in (context l.scope) l.remote l.all l.state

abbrev pub decreases-loop-all : goal.decreases-loop-all
decreases-loop-all l = length l.all
