use Rattle.std.proofs.Common.{arith}
use Rattle.stack_code.specs.View.{code_of, instr_of}
use Rattle.code_listing.proofs.LineLaws.{line_done}
use Rattle.code_listing.proofs.lines.push_function.Goals as goal

pub loop-place-preserved : goal.loop-place-preserved
loop-place-preserved c =
    line_done (code_of c.args.code.now) c.loop-place.place c.end-end.result (instr_of c.at.result.now) c.loop-place.text c.push_line.new.text _
    (omega (arith, c.loop-place-test.true, c.end-end.ensures.within)) c.loop-place-test.true c.at.ensures c.in_ok-push_line.ensures
    c.loop-place.invariant
