use Rattle.std.proofs.Common.{◌≡◌, ◌+◌, length, map, drop}
use Rattle.cc_ops.specs.Shapes.{shape_of}
use Rattle.stack_code.specs.View.{code_of}
use Rattle.cc_lower.specs.Emitted.{emitted_classes}
use Rattle.cc_lower.proofs.program.put_classes.Given as goal

abbrev pub invariant-loop-class : goal.invariant-loop-class
invariant-loop-class l = record {
  few : length (code_of l.maker).shapes.classes ≡ length (code_of l.fn.maker).shapes.classes + l.class-index;
  lowered : emitted_classes (code_of l.maker) (map shape_of (drop l.class-index l.classes)) ≡ emitted_classes (code_of l.fn.maker) (map shape_of l.classes);
}
