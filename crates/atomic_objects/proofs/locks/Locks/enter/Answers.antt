use Rattle.std.proofs.Common.{ap, sym, ◌∙◌}
use Rattle.std.proofs.lemmas.Result.{IfOk-weaker, on_ok_weaker, on_err_weaker}
use Rattle.atomic_objects.specs.HeldObjects.{answer, after_enter}
use Rattle.atomic_objects.proofs.HeldLaws.{get_shown, shown_same, shown_changed}
use Rattle.atomic_objects.proofs.locks.Locks.enter.Goals as goal

pub returns-clause-answer : goal.returns-clause-answer
returns-clause-answer c =
    IfOk-weaker c.enter.result _ _
    (λ entered is. is ∙ ap (λ entry. answer entry c.args.thread) (sym (get_shown c.self.inside.held _ c.self.view_is c.args.object)))
    c.enter.ensures.answer

pub returns-clause-err : goal.returns-clause-err
returns-clause-err c = on_err_weaker c.enter.result (λ same. shown_same c.self.inside.held _ c.self.view_is c.enter.new.locks same) c.enter.ensures.err

pub returns-clause-locks : goal.returns-clause-locks
returns-clause-locks c =
    on_ok_weaker c.enter.result
    (λ sets. shown_changed c.self.inside.held _ c.self.view_is c.enter.new.locks c.args.object (λ entry. after_enter entry c.args.thread) sets)
    c.enter.ensures.ok
