use Rattle.std.proofs.lemmas.Result.{on_ok_weaker, on_err_weaker}
use Rattle.atomic_objects.specs.HeldObjects.{after_wait}
use Rattle.atomic_objects.proofs.HeldLaws.{get_shown, shown_same, shown_changed}
use Rattle.atomic_objects.proofs.locks.Locks.wait.Goals as goal

pub wait-requires : goal.wait-requires
wait-requires c =
    let same = get_shown c.self.inside.held _ c.self.view_is c.args.object in
    rw (← same) c.requires

pub returns-clause-err : goal.returns-clause-err
returns-clause-err c = on_err_weaker c.wait.result (λ same. shown_same c.self.inside.held _ c.self.view_is c.wait.new.locks same) c.wait.ensures.err

pub returns-clause-ok : goal.returns-clause-ok
returns-clause-ok c =
    on_ok_weaker c.wait.result
    (λ sets. shown_changed c.self.inside.held _ c.self.view_is c.wait.new.locks c.args.object (λ entry. after_wait entry c.args.thread) sets)
    c.wait.ensures.ok
