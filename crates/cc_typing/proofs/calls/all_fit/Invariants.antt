use Rattle.std.proofs.Common.{◌≡◌, length}
use Rattle.cc_typing.specs.Calls.{all_fit}
use Rattle.cc_typing.proofs.calls.all_fit.Given as goal

abbrev pub invariant-loop-params : goal.invariant-loop-params
invariant-loop-params l = all_fit l.params l.types ≡ all_fit l.fn.params l.fn.types

abbrev pub decreases-loop-params : goal.decreases-loop-params
decreases-loop-params l = length l.params
