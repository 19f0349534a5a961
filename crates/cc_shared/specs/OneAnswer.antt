-- What one run of a source says of every run.
use Rattle.std.specs.Prelude.{ℤ, List, length}
use Rattle.cc_core.specs.Config.{Config}
use Rattle.cc_core.specs.Core as core
use Rattle.cc_core.specs.Names.{Name}
use Rattle.cc_core.specs.Steps.{Run, IsAtRest, start}
use Rattle.cc_core.specs.View.{program_of}
use Rattle.cc_one_answer.specs.Answer.{HasOneAnswer}
use Rattle.cc_tree.specs.declared.declarations.Program.{Program}
use Rattle.cc_types.specs.Program.{core_program}

-- what the front end leaves of a source
abbrev pub core_of : Program → core.Program
core_of p = program_of (core_program p)

-- Where one run from some ints comes to rest, every run from them comes to rest after as many steps in the same configuration, and none
-- meets a fault. Nothing is said of ints from which no run comes to rest.
abbrev pub OneRunDecides : Program → Type 0
OneRunDecides p = (ns : List ℤ) (ts : List Name) (r : Config) → Run (core_of p) ts (start (core_of p) ns) r → IsAtRest (core_of p) r
    → HasOneAnswer (core_of p) (start (core_of p) ns) (length ts) r
