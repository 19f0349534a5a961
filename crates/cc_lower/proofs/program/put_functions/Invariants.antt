use Rattle.std.proofs.Common.{◌≡◌, ◌+◌, length, map, drop}
use Rattle.cc_core.specs.View.{function_of}
use Rattle.stack_code.specs.View.{code_of}
use Rattle.cc_lower.specs.Emitted.{emitted_functions}
use Rattle.cc_lower.proofs.program.put_functions.Given as goal

abbrev pub invariant-loop-function : goal.invariant-loop-function
invariant-loop-function l = record {
  few : length (code_of l.maker).shapes.functions ≡ length (code_of l.fn.maker).shapes.functions + l.function-index;
  lowered : emitted_functions (code_of l.maker) (map function_of (drop l.function-index l.functions)) ≡ emitted_functions (code_of l.fn.maker) (map function_of l.functions);
}
