-- What the compiler needs of a program: its calls, its loops, its numbers and its shapes are in order, and numbers of 16 bits name what it
-- has.
use Rattle.std.specs.Prelude.{◌≤◌, length}
use Rattle.std.specs.List.{AllByRecursion}
use Rattle.cc_ops.specs.Shapes.{shape_of}
use Rattle.cc_core.specs.declared.program.Program.{Program}
use Rattle.cc_core.specs.Source.{IsProgram}
use Rattle.cc_core.specs.View.{program_of}
use Rattle.cc_valid.specs.Ranges.{InRange}
use Rattle.stack_code.specs.Kept.{IsFunShape, IsClassShape}

pub record IsLowerable (p : Program) : Type 0 where
  pub source : IsProgram (program_of p)
  pub ranges : InRange (program_of p)
  pub functions : AllByRecursion (λ f. IsFunShape f.shape) p.functions
  pub classes : AllByRecursion (λ c. IsClassShape (shape_of c)) p.classes
  pub few_functions : length p.functions ≤ 65536
  pub few_classes : length p.classes ≤ 65536
