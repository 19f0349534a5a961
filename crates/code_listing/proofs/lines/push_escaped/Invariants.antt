use Rattle.std.proofs.Common.{◌≡◌, ◌++◌, drop}
use Rattle.code_listing.specs.Listing.{all_escaped}
use Rattle.code_listing.proofs.lines.push_escaped.Given as goal

abbrev pub invariant-loop-byte : goal.invariant-loop-byte
invariant-loop-byte l = l.text ++ all_escaped (drop l.byte-index l.bytes) ≡ l.fn.text ++ all_escaped l.bytes
