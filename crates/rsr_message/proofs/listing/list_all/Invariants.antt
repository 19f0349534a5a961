use Rattle.std.proofs.Common.{◌-◌, length}
use Rattle.std.specs.Prelude.{string_bytes}
use Rattle.rsr_message.proofs.ListingLaws.{ListedSoFar}
use Rattle.rsr_message.proofs.listing.list_all.Given as goal

abbrev pub invariant-loop-used : goal.invariant-loop-used
invariant-loop-used l = ListedSoFar l.bytes l.used (string_bytes l.lines) l.messages

abbrev pub decreases-loop-used : goal.decreases-loop-used
decreases-loop-used l = length l.bytes - l.used
