use Rattle.std.proofs.Common.{◌≡◌, drop}
use Rattle.cc_names.specs.Broken.{least, least_from}
use Rattle.cc_names.proofs.broken.least.Given as goal

abbrev pub invariant-loop-next : goal.invariant-loop-next
invariant-loop-next l = least_from l.found (drop l.next-index l.broken) ≡ least l.broken
