use Rattle.std.proofs.lemmas.Result.{IfOk-weaker}
use Rattle.ccpp_top.specs.Traces.{TracesProgram}
use Rattle.ccpp_top.proofs.AnswerLaws.{was_refused, was_said}
use Rattle.ccpp_top.proofs.trace.source_traced.Goals as goal

pub returns-in-Ok-clause-says : goal.returns-in-Ok-clause-says
returns-in-Ok-clause-says g c = λ before less.
    IfOk-weaker c.program_traced.result _ _ (was_said (TracesProgram _ before _ c.args.journal.now c.args.ints.now) c.args.source.now c.in-Ok.checked c.in-Ok.ensures.source) (c.program_traced.ensures.says before less)

pub returns-in-Err-clause-says : goal.returns-in-Err-clause-says
returns-in-Err-clause-says g c = λ before less.
    IfOk-weaker c.refused.result _ _ (was_refused (TracesProgram _ before _ c.args.journal.now c.args.ints.now) c.args.source.now c.in-Err.why c.in-Err.ensures.refused) c.refused.ensures
