use Rattle.std.proofs.Common.{◌≡◌, take, map}
use Rattle.cc_functions.specs.Functions.{kinds_of}
use Rattle.cc_functions.proofs.functions.all_kinds.Given as goal

abbrev pub invariant-loop-param : goal.invariant-loop-param
invariant-loop-param l = l.all ≡ map kinds_of (take l.param-index l.params)
