use Rattle.std.proofs.Common.{length}
use Rattle.cc_core.specs.View.{function_of}
use Rattle.stack_code.specs.View.{code_of}
use Rattle.cc_lower.proofs.Kept.{function_counted, function_emitted}
use Rattle.cc_lower.proofs.program.put_functions.Goals as goal

pub loop-function-preserved : goal.loop-function-preserved
loop-function-preserved c = record {
  few = function_counted (code_of c.loop-function.maker) (code_of c.put_function.new.maker) (function_of c.function-item.result)
      (length (code_of c.args.maker.now).shapes.functions) c.loop-function.function-index c.in_ok-put_function.ensures c.loop-function.invariant.few;
  lowered = function_emitted c.args.functions.now c.loop-function.function-index c.function-item.result (code_of c.loop-function.maker)
      (code_of c.put_function.new.maker) _ c.loop-function-test.true c.function-item.is c.in_ok-put_function.ensures
      c.loop-function.invariant.lowered;
}
