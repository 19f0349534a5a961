use Rattle.std.proofs.lemmas.Result.{IfOk-weaker}
use Rattle.trace_check.proofs.Steps.{of_version_1, line_migrates}
use Rattle.trace_check.proofs.entries.migrated.Goals as goal

pub returns-in_default : goal.returns-in_default
returns-in_default c = let none = rw c.in_default.is at c.in_ok-entry.ensures in λ e of. none e (of_version_1 e of)

pub returns : goal.returns
returns c =
    let read = rw c.in-Some.is at c.in_ok-entry.ensures in
    IfOk-weaker _ _ _ (λ found is. line_migrates c.args.text.now c.in-Some.entry found read.0 read.1 is) c.rewritten.ensures
