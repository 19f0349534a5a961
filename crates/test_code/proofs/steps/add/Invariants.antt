use Rattle.std.proofs.Common.{◌≡◌, ◌+◌, length}
use Rattle.stack_code.specs.View.{code_of}
use Rattle.test_code.proofs.steps.add.Given as goal

abbrev pub invariant-loop-line : goal.invariant-loop-line
invariant-loop-line l = length (code_of l.maker).shapes.functions ≡ length (code_of l.fn.maker).shapes.functions + 1
