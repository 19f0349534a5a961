-- One run decides every run of a source that breaks no rule of sharing.
use Rattle.std.proofs.Common.{◌≡◌, []}
use Rattle.cc_one_answer.proofs.Final as one
use Rattle.cc_tree.specs.declared.declarations.Program.{Program}
use Rattle.cc_types.specs.Program.{IsSpelled, IsWellFormed, rules_shared}
use Rattle.cc_shared.specs.OneAnswer.{OneRunDecides}
use Rattle.cc_shared.proofs.SetsAll.{determinate}

pub one_run_decides : (p : Program) → IsSpelled p → IsWellFormed p → rules_shared p ≡ [] → OneRunDecides p
one_run_decides p spelled well none = let d = determinate p spelled well none in one.determinate _ d.0 d.1
