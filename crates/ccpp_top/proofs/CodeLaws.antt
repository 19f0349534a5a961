-- The compiler takes the core of every program that breaks no static rule.
use Rattle.std.proofs.Common.{arith}
use Rattle.cc_lower.specs.Lowerable.{IsLowerable}
use Rattle.cc_source.proofs.ProgramLaws.{core_is_a_program}
use Rattle.cc_source.proofs.RangeLaws.{core_is_in_range}
use Rattle.cc_source.proofs.LimitLaws.{core_functions_fit, core_classes_fit, few_functions, few_classes}
use Rattle.cc_tree.specs.declared.declarations.Program.{Program}
use Rattle.cc_types.specs.Program.{IsWellFormed, core_program}

pub lowerable : (p : Program) → IsWellFormed p → IsLowerable (core_program p)
lowerable p formed = record {
  source = core_is_a_program p formed;
  ranges = core_is_in_range p formed;
  functions = core_functions_fit p formed;
  classes = core_classes_fit p formed;
  few_functions = (let h = few_functions p formed in omega arith);
  few_classes = (let h = few_classes p formed in omega arith);
}
