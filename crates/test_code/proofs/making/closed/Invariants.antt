use Rattle.std.proofs.Common.{◌<◌, length}
use Rattle.stack_code.specs.View.{code_of}
use Rattle.test_code.proofs.making.closed.Given as goal

abbrev pub invariant-loop-instr : goal.invariant-loop-instr
invariant-loop-instr l = 0 < length (code_of l.maker).shapes.functions
