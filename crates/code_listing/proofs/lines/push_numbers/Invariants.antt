use Rattle.std.proofs.Common.{◌≡◌, ◌++◌, map, drop}
use Rattle.std.specs.Prelude.{decimal}
use Rattle.code_listing.specs.Listing.{spaced}
use Rattle.code_listing.proofs.lines.push_numbers.Given as goal

abbrev pub invariant-loop-n : goal.invariant-loop-n
invariant-loop-n l = l.text ++ spaced (map decimal (drop l.n-index l.numbers)) ≡ l.fn.text ++ spaced (map decimal l.numbers)
