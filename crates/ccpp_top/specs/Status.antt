-- How a call of `ccpp` ended.
use Rattle.std.specs.Prelude.{ℕ}
use Rattle.global_ptr.specs.declared.ends.Standing.{Standing}
use Rattle.global_ptr.specs.declared.ends.Standing.TheVariants as standing
use Rattle.ccpp_top.specs.declared.status.Status.{Status}
use Rattle.ccpp_top.specs.declared.status.Status.TheVariants.{Done, ProgramFault, Blocked, Limit, SourceRefused, WordsRefused, ReadFault, WriteFault, Memory, No, NoFile, IntCount}

-- the exit status of the program
abbrev pub number_of : Status → ℕ
number_of Done = 0
number_of ProgramFault = 1
number_of Blocked = 2
number_of Limit = 3
number_of SourceRefused = 4
number_of WordsRefused = 5
number_of ReadFault = 6
number_of WriteFault = 7
number_of Memory = 8
number_of No = 9
number_of NoFile = 10
number_of IntCount = 11

-- of a run that ended so
abbrev pub status_of : Standing → Status
status_of (standing.Done v) = Done
status_of (standing.Blocked k) = Blocked
status_of (standing.Fault fault) = ProgramFault
status_of (standing.Limit n) = Limit
