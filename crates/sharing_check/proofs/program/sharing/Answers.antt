use Rattle.std.proofs.Common.{ap, sym, ◌∙◌}
use Rattle.cc_shared.proofs.OneAnswerLaws.{one_run_decides}
use Rattle.sharing_check.specs.Sharing.{sharing_of}
use Rattle.sharing_check.proofs.LeastLaws.{none_shared}
use Rattle.sharing_check.proofs.program.sharing.Goals as goal

pub returns-clause-answer : goal.returns-clause-answer
returns-clause-answer c = c.sharing_of.ensures ∙ ap sharing_of c.shared.ensures.value

pub returns-clause-one_answer : goal.returns-clause-one_answer
returns-clause-one_answer c = λ is.
    one_run_decides c.args.checked.now c.shared.ensures.spelled c.shared.ensures.well_formed
    (sym c.shared.ensures.value ∙ none_shared c.shared.result.now (sym c.sharing_of.ensures ∙ is))
