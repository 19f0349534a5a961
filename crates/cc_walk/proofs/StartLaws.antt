-- Where a walk begins.
use Rattle.std.proofs.Common.{◌≡◌, ℕ, zero, suc, List, [], ◌∷◌, map, refl, sym, ap, ap₂, ◌∙◌, subst, arith}
use Rattle.std.specs.Prelude.{ℤ, get_or}
use Rattle.cc_ops.specs.declared.shape.FunShape.{FunShape}
use Rattle.cc_ops.specs.declared.kind.Kind.{Kind}
use Rattle.cc_ops.specs.Shelves.{no_shelf}
use Rattle.cc_ops.specs.Machine.{Values}
use Rattle.cc_core.specs.Core.{Program, Function, no_shape, no_function}
use Rattle.cc_core.specs.View.{program_of}
use Rattle.cc_core.specs.declared.program.Program.{Program as TextProgram}
use Rattle.cc_core.specs.Numbers.{first_numbers}
use Rattle.cc_core.specs.Steps.{start}
use Rattle.cc_code.specs.Code.{Code}
use Rattle.cc_code.specs.Layout.{layout}
use Rattle.cc_lower.specs.Lowerable.{IsLowerable}
use Rattle.cc_source.proofs.ProgramLaws.{core_is_a_program}
use Rattle.cc_source.proofs.RangeLaws.{core_is_in_range}
use Rattle.cc_source.proofs.LimitLaws.{core_functions_fit, core_classes_fit, few_functions, few_classes}
use Rattle.cc_source.proofs.MainThere.{core_main_is_there}
use Rattle.cc_tree.specs.declared.declarations.Program.{Program as Source}
use Rattle.cc_types.specs.Program.{IsWellFormed, core_program}
use Rattle.numbered_runs.specs.Alike.{first_machine, ints}
use Rattle.numbered_runs.specs.Effects.{parameters, put_things, addresses}
use Rattle.numbered_runs.specs.Machine.{Machine}
use Rattle.numbered_runs.specs.Stands.{Stands}
use Rattle.numbered_runs.specs.Steps.{settle}
use Rattle.numbered_runs.proofs.Start.{run_begins}
use Rattle.cc_walk.specs.Begins.{entered_runner, entering}

-- The compiler takes the core of every program that breaks no static rule.
pub lowerable : (p : Source) → IsWellFormed p → IsLowerable (core_program p)
lowerable p formed = record {
  source = core_is_a_program p formed;
  ranges = core_is_in_range p formed;
  functions = core_functions_fit p formed;
  classes = core_classes_fit p formed;
  few_functions = (let h = few_functions p formed in omega arith);
  few_classes = (let h = few_classes p formed in omega arith);
}

-- ---- the machine of the code is that of the program

shape_at : (fs : List Function) (g : ℕ) → get_or (map (λ (f : Function). f.shape) fs) g no_shape ≡ (get_or fs g no_function).shape
shape_at [] g = refl
shape_at (f ∷ fs) zero = refl
shape_at (f ∷ fs) (suc g) = shape_at fs g

-- where its first thread has entered a function with parameters of these kinds
abbrev begun : Code → ℕ → Values → List (List Kind) → Machine
begun code f vs kinds = record {
  code = code;
  shelves = put_things (no_shelf ∷ []) (parameters 0 kinds vs);
  threads = (settle code (entered_runner code f (addresses (no_shelf ∷ []) (parameters 0 kinds vs))) ∷ []) ∷ [];
  output = [];
}

pub begins_first : (p : Program) (is : List ℤ) → entering (layout p) p.main (ints is) ≡ first_machine p is
begins_first p is = ap (λ (f : FunShape). begun (layout p) p.main (ints is) f.params) (shape_at p.functions p.main)

-- ---- the machine at the beginning stands for the start of the run

pub begins : (p : Source) → IsWellFormed p → (is : List ℤ) (w : Machine) → w ≡ first_machine (program_of (core_program p)) is
    → let c = program_of (core_program p) in Stands c w (start c is) (first_numbers c is)
begins p formed is w first =
    let c : Program = program_of (core_program p) in
    subst (λ (m : Machine). Stands c m (start c is) (first_numbers c is)) (sym first)
    (run_begins c (core_is_a_program p formed) (core_main_is_there p formed) is)

-- of code that is the layout of a program's core, with ints as values
pub begins_as : (p : Source) (core : TextProgram) (code : Code) (vs : Values) (is : List ℤ) → core ≡ core_program p
    → code ≡ layout (program_of core) → vs ≡ ints is → entering code core.main vs ≡ first_machine (program_of (core_program p)) is
begins_as p core code vs is left laid values =
    ap₂ (λ (c : Code) (us : Values). entering c core.main us) laid values
    ∙ begins_first (program_of core) is
    ∙ ap (λ (c : TextProgram). first_machine (program_of c) is) left
