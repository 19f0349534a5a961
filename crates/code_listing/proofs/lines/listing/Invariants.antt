use Rattle.std.proofs.Common.{◌≡◌, ◌-◌, ◌++◌, length}
use Rattle.stack_code.specs.View.{code_of}
use Rattle.code_listing.specs.Listing.{all_lines, listing_of}
use Rattle.code_listing.proofs.lines.listing.Given as goal

abbrev pub invariant-loop-function : goal.invariant-loop-function
invariant-loop-function l =
    l.text ++ all_lines (code_of l.code) l.function (length (code_of l.code).shapes.functions - l.function) ≡ listing_of (code_of l.code)
