use Rattle.std.proofs.Common.{◌≡◌, ◌++◌}
use Rattle.stack_code.specs.View.{code_of}
use Rattle.code_listing.proofs.LineLaws.{lines_between}
use Rattle.code_listing.proofs.lines.push_function.Given as goal

abbrev pub invariant-loop-place : goal.invariant-loop-place
invariant-loop-place l =
    l.text ++ lines_between (code_of l.code) l.place l.end ≡ l.initial.text ++ lines_between (code_of l.code) l.entry l.end
