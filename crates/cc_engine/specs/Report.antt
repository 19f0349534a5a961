-- The answer of the rules of sharing, as a report prints it.
use Rattle.cc_core.specs.Report.{Sharing, Determinate, Shared}
use Rattle.cc_scopes.specs.Sharing.{share_name}
use Rattle.cc_tree.specs.declared.declarations.Program.{Program}
use Rattle.sharing_check.specs.declared.answer.Sharing.{Sharing as Found}
use Rattle.sharing_check.specs.declared.answer.Sharing.TheVariants as found
use Rattle.sharing_check.specs.Sharing as rules

-- the broken rule that is named
abbrev pub shown : Found → Sharing
shown found.Determinate = Determinate
shown (found.Shared rule line) = Shared (share_name rule) line

-- whether a program breaks a rule of sharing: the one with the least line, and at one line with the least number
abbrev pub sharing_of : Program → Sharing
sharing_of program = shown (rules.sharing program)
