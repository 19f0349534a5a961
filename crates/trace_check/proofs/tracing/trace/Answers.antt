use Rattle.std.proofs.lemmas.Result.{IfOk-weaker}
use Rattle.cc_core.specs.View.{program_of}
use Rattle.cc_types.specs.Program.{core_program}
use Rattle.trace_check.proofs.VerdictLaws.{one_verdict}
use Rattle.trace_check.proofs.tracing.trace.Goals as goal

pub returns-clause-exact : goal.returns-clause-exact
returns-clause-exact c verdict is =
    IfOk-weaker c.verdict.result _ _
    (λ found other.
    one_verdict (program_of (core_program c.args.checked.now)) c.args.args.now c.args.entries.now found verdict other is)
    c.verdict.ensures
