use Rattle.std.proofs.Common.{Some, sym, ap, ◌∙◌, rules}
use Rattle.std.specs.Int.{w64}
use Rattle.std.proofs.lemmas.Int.{to_z-of_z}
use mir.Val.{SFits}
use Rattle.cc_core.specs.Config.{Ended}
use Rattle.cc_ops.specs.Values.{Int}
use Rattle.cc_walk.specs.Views.{machine_of}
use Rattle.cc_engine.proofs.RunLaws.{is_blocked}
use Rattle.cc_engine.proofs.execution.Execution.at_rest.Goals as goal

pub returns-in-Some : goal.returns-in-Some
returns-in-Some c = λ p ns limit steps typed a rest.
    let fits : SFits w64 c.in-Some.result = search rules in (
      rest,
      sym (c.threads_left-left.ensures p a.last a.numbers a.stands) ∙ c.if-left-eq0.true,
      c.in-Some.ensures p a.last a.numbers a.stands ∙ ap (λ i. Some (Ended (Int i))) (sym (to_z-of_z w64 c.in-Some.result fits)),
    )

pub returns-in_default : goal.returns-in_default
returns-in_default c = λ p ns limit steps typed a rest.
    is_blocked p ns typed steps (machine_of c.args.self.now.walk) a rest limit c.threads_left-left.result
    (c.threads_left-left.ensures p a.last a.numbers a.stands) (λ v none ended. c.if-left-eq0.false none)

pub returns-in_default-2 : goal.returns-in_default-2
returns-in_default-2 c = λ p ns limit steps typed a rest.
    is_blocked p ns typed steps (machine_of c.args.self.now.walk) a rest limit c.threads_left-left.result
    (c.threads_left-left.ensures p a.last a.numbers a.stands) (λ v none ended. c.in_default.ensures p a.last a.numbers a.stands v ended)
