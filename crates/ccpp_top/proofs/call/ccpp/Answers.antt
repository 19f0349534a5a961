use Rattle.ccpp_words.specs.declared.command.Command.TheVariants.{Run}
use Rattle.ccpp_top.proofs.AnswerLaws.{says_answers, says_cause, says_end, says_load, end_of_load, says_trace}
use Rattle.ccpp_top.proofs.DecideLaws.{rests_decided}
use Rattle.ccpp_top.proofs.call.ccpp.Goals as goal

pub returns-in-Ok-write_all-clause-headline : goal.returns-in-Ok-write_all-clause-headline
returns-in-Ok-write_all-clause-headline g c =
    λ file source steps seed ints asked holds shelf_calm sink_calm memory. (
      c.as_slice.result.now,
      rw c.as_slice.ensures (says_answers c.args.words.now _ _ _ (Run file steps seed ints) source asked holds shelf_calm c.in-Ok.answer.text c.in-Ok.answer.status c.in-Ok.ensures.says),
      c.in-Ok-write_all.ensures.ok,
    )

pub returns-in-Ok-write_all-clause-completeness : goal.returns-in-Ok-write_all-clause-completeness
returns-in-Ok-write_all-clause-completeness g c =
    λ command bytes asked holds shelf_calm sink_calm memory. (
      c.as_slice.result.now,
      rw c.as_slice.ensures (says_answers c.args.words.now _ _ _ command bytes asked holds shelf_calm c.in-Ok.answer.text c.in-Ok.answer.status c.in-Ok.ensures.says),
      c.in-Ok-write_all.ensures.ok,
    )

pub returns-in-Ok-write_all-clause-memory : goal.returns-in-Ok-write_all-clause-memory
returns-in-Ok-write_all-clause-memory g c = λ is. absurd (says_end c.args.words.now _ _ _ c.in-Ok.answer.text c.in-Ok.answer.status c.in-Ok.ensures.says is)

pub returns-in-Ok-write_all-clause-cause : goal.returns-in-Ok-write_all-clause-cause
returns-in-Ok-write_all-clause-cause g c = says_cause c.args.words.now _ _ _ _ _ c.in-Ok.answer.text c.in-Ok.answer.status c.in-Ok.ensures.says

pub returns-in-Ok-write_all-clause-one_answer : goal.returns-in-Ok-write_all-clause-one_answer
returns-in-Ok-write_all-clause-one_answer g c =
    λ file source steps seed ints asked holds shelf_calm sink_calm rest.
    let answers = says_answers c.args.words.now _ _ _ (Run file steps seed ints) source asked holds shelf_calm c.in-Ok.answer.text c.in-Ok.answer.status c.in-Ok.ensures.says in (
      c.as_slice.result.now,
      rw c.as_slice.ensures (rests_decided source ints steps c.in-Ok.answer.text c.in-Ok.answer.status answers rest),
      c.in-Ok-write_all.ensures.ok,
    )

pub returns-in-Ok-write_all-clause-load : goal.returns-in-Ok-write_all-clause-load
returns-in-Ok-write_all-clause-load g c =
    λ n asked calm memory. (
      c.as_slice.result.now,
      rw c.as_slice.ensures (says_load c.args.words.now _ _ _ n asked c.in-Ok.answer.text c.in-Ok.answer.status c.in-Ok.ensures.says),
      c.in-Ok-write_all.ensures.ok,
    )

pub returns-in-Ok-write_all-clause-load_status : goal.returns-in-Ok-write_all-clause-load_status
returns-in-Ok-write_all-clause-load_status g c =
    λ n asked. end_of_load n _ _ (says_load c.args.words.now _ _ _ n asked c.in-Ok.answer.text c.in-Ok.answer.status c.in-Ok.ensures.says)

pub returns-in-Ok-write_all-clause-trace : goal.returns-in-Ok-write_all-clause-trace
returns-in-Ok-write_all-clause-trace g c =
    λ file name source bytes ints asked first second shelf_calm sink_calm memory. (
      c.as_slice.result.now,
      rw c.as_slice.ensures (says_trace c.args.words.now _ _ _ file name source bytes ints asked first second shelf_calm c.in-Ok.answer.text c.in-Ok.answer.status c.in-Ok.ensures.says),
      c.in-Ok-write_all.ensures.ok,
    )
