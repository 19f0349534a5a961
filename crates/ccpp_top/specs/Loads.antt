-- What `load` answers.
use Rattle.std.specs.Prelude.{ℕ, List, [], ◌++◌, codes, decimal}
use Rattle.global_ptr.specs.declared.ends.Standing.{Standing}
use Rattle.cc_core.specs.Report.{report, line}
use Rattle.cc_core.specs.Steps.{RunsTo}
use Rattle.cc_engine.specs.Report.{sharing_of}
use Rattle.cc_shared.specs.OneAnswer.{core_of}
use Rattle.cc_tree.specs.declared.declarations.Program.{Program}
use Rattle.ccpp_gen.specs.LoadSource.{load_source}
use Rattle.ccpp_source.specs.Source.{IsSource}
use Rattle.ccpp_top.specs.declared.status.Status.{Status}
use Rattle.ccpp_top.specs.declared.status.Status.TheVariants.{Done, ProgramFault, Blocked, Limit, WriteFault, Memory}
use Rattle.ccpp_top.specs.Status.{status_of}

-- What is answered to `load` of this size: a line that says so, and the report of a run of the load program within ten million steps.
pub data Loads (n : ℕ) : (text : List ℕ) → Status → Type 0 where
  loaded : (program : Program) {output : List ℕ} {end : Standing} → IsSource (load_source n) program → RunsTo (core_of program) [] 10000000 output end → Loads n (line (codes "load " ++ decimal n) ++ report output end (sharing_of program)) (status_of end)

-- the statuses with which `load` ends: no file is read, and the load program is a source whose `main` takes no ints
abbrev pub IsOfLoad : Status → Type 0
IsOfLoad Done = Unit {0}
IsOfLoad ProgramFault = Unit {0}
IsOfLoad Blocked = Unit {0}
IsOfLoad Limit = Unit {0}
IsOfLoad WriteFault = Unit {0}
IsOfLoad Memory = Unit {0}
IsOfLoad _ = ⊥
