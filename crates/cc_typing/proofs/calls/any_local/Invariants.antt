use Rattle.std.proofs.Common.{◌≡◌, drop}
use Rattle.cc_typing.specs.Calls.{any_local}
use Rattle.cc_typing.proofs.calls.any_local.Given as goal

abbrev pub invariant-loop-param : goal.invariant-loop-param
invariant-loop-param l = any_local (drop l.param-index l.params) ≡ any_local l.params
