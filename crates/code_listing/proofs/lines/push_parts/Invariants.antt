use Rattle.std.proofs.Common.{◌≡◌, ◌++◌, map, drop}
use Rattle.cc_core.specs.View.{part_of}
use Rattle.code_listing.specs.Listing.{spaced, part_text}
use Rattle.code_listing.proofs.lines.push_parts.Given as goal

abbrev pub invariant-loop-part : goal.invariant-loop-part
invariant-loop-part l =
    l.text ++ spaced (map part_text (map part_of (drop l.part-index l.parts))) ≡ l.fn.text ++ spaced (map part_text (map part_of l.parts))
