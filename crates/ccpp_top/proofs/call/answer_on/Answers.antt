use Rattle.std.proofs.Common.{sym, subst, IfOk}
use Rattle.ccpp_words.specs.Words.{AskFor}
use Rattle.ccpp_words.proofs.CommandLaws.{run_steps}
use Rattle.ccpp_top.specs.Answers.{Answers, AnswersTo}
use Rattle.ccpp_top.proofs.call.answer_on.Goals as goal

pub run_answer-requires-clause-some : goal.run_answer-requires-clause-some
run_answer-requires-clause-some g c =
    λ _ _. (run_steps c.requires.0 c.in-Run.file c.in-Run.steps c.in-Run.seed c.in-Run.ints (subst (AskFor c.requires.0) c.in-Run.is c.requires.1)).0

pub run_answer-requires-clause-limit : goal.run_answer-requires-clause-limit
run_answer-requires-clause-limit g c =
    λ _ _. (run_steps c.requires.0 c.in-Run.file c.in-Run.steps c.in-Run.seed c.in-Run.ints (subst (AskFor c.requires.0) c.in-Run.is c.requires.1)).1

pub returns-in-Run : goal.returns-in-Run
returns-in-Run g c =
    let run = subst (λ ints. IfOk c.run_answer.result (λ answer. Answers ints c.in-Run.steps c.args.bytes.now answer.text answer.status)) c.as_slice.ensures c.run_answer.ensures in
    subst (λ command. IfOk c.run_answer.result (λ answer. AnswersTo command c.args.bytes.now answer.text answer.status)) (sym c.in-Run.is) run

pub returns-in-Check : goal.returns-in-Check
returns-in-Check g c = subst (λ command. IfOk c.check_answer.result (λ answer. AnswersTo command c.args.bytes.now answer.text answer.status)) (sym c.in-Check.is) c.check_answer.ensures

pub returns-in-Share : goal.returns-in-Share
returns-in-Share g c = subst (λ command. IfOk c.share_answer.result (λ answer. AnswersTo command c.args.bytes.now answer.text answer.status)) (sym c.in-Share.is) c.share_answer.ensures

pub returns-in-Code : goal.returns-in-Code
returns-in-Code g c = subst (λ command. IfOk c.code_answer.result (λ answer. AnswersTo command c.args.bytes.now answer.text answer.status)) (sym c.in-Code.is) c.code_answer.ensures

pub returns-in-Message : goal.returns-in-Message
returns-in-Message g c = subst (λ command. IfOk c.messages_of.result (λ answer. AnswersTo command c.args.bytes.now answer.text answer.status)) (sym c.in-Message.is) c.messages_of.ensures

pub returns-in-Migrate : goal.returns-in-Migrate
returns-in-Migrate g c = subst (λ command. IfOk c.migration_of.result (λ answer. AnswersTo command c.args.bytes.now answer.text answer.status)) (sym c.in-Migrate.is) c.migration_of.ensures
