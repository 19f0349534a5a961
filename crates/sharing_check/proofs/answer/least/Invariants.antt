use Rattle.std.proofs.Common.{◌≡◌, drop}
use Rattle.sharing_check.specs.Sharing.{least, least_from}
use Rattle.sharing_check.proofs.answer.least.Given as goal

abbrev pub invariant-loop-next : goal.invariant-loop-next
invariant-loop-next l = least_from l.found (drop l.next-index l.shares) ≡ least l.shares
