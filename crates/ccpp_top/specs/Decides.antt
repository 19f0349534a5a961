-- The runs that decide every run.
use Rattle.std.specs.Prelude.{◌≡◌, ℕ, ℤ, List, length}
use Rattle.global_ptr.specs.declared.ends.Standing.{Standing}
use Rattle.cc_core.specs.Names.{Name}
use Rattle.cc_core.specs.Core.{Program as Core}
use Rattle.cc_core.specs.Config.{Config}
use Rattle.cc_core.specs.Report.{report, Determinate}
use Rattle.cc_core.specs.Steps.{start, Run, Stands}
use Rattle.cc_engine.specs.Report.{sharing_of}
use Rattle.cc_one_answer.specs.Answer.{HasOneAnswer}
use Rattle.cc_shared.specs.OneAnswer.{core_of}
use Rattle.cc_tree.specs.declared.declarations.Program.{Program}
use Rattle.ccpp_source.specs.Source.{IsSource}
use Rattle.ccpp_top.specs.declared.status.Status.{Status}
use Rattle.ccpp_top.specs.declared.status.Status.TheVariants.{Done, Blocked}
use Rattle.ccpp_top.specs.Status.{status_of}

-- Some run of the program from these ints has this output and this standing at its end, and decides every run from them: each comes to
-- rest after as many steps in the same configuration, and none meets a fault.
pub record Decides (p : Core) (ints : List ℤ) (limit : ℕ) (output : List ℕ) (standing : Standing) : Type 0 where
  pub steps : List Name
  pub last : Config
  pub run : Run p steps (start p ints) last
  pub written : last.output ≡ output
  pub stands : Stands p limit (length steps) last standing
  pub every_run : HasOneAnswer p (start p ints) (length steps) last

-- The text is the report of a run of the program of this source. Where that breaks no rule of sharing, the run decides every run.
pub record ReportsDecided (source : List ℕ) (ints : List ℤ) (limit : ℕ) (text : List ℕ) (end : Status) : Type 0 where
  pub program : Program
  pub is_source : IsSource source program
  pub output : List ℕ
  pub standing : Standing
  pub text_is : text ≡ report output standing (sharing_of program)
  pub end_is : end ≡ status_of standing
  pub decides : sharing_of program ≡ Determinate → Decides (core_of program) ints limit output standing

-- a run that comes to rest ends with this status
abbrev pub IsRest : Status → Type 0
IsRest Done = Unit {0}
IsRest Blocked = Unit {0}
IsRest _ = ⊥
