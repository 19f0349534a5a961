use Rattle.std.proofs.Common.{length, arith}
use Rattle.stack_code.specs.View.{code_of}
use Rattle.code_listing.proofs.LineLaws.{function_done}
use Rattle.code_listing.proofs.lines.listing.Goals as goal

pub loop-function-preserved : goal.loop-function-preserved
loop-function-preserved c =
    function_done (code_of c.args.code.now) c.loop-function.function (length (code_of c.args.code.now).shapes.functions) c.loop-function.text
    c.push_function.new.text _
    (omega (arith, c.loop-function-test.true, c.functions-function-end.ensures)) c.in_ok-push_function.ensures c.loop-function.invariant
