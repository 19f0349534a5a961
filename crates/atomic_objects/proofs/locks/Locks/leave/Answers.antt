use Rattle.std.proofs.Common.{ap, sym, ◌∙◌}
use Rattle.atomic_objects.specs.HeldObjects.{after_leave, next}
use Rattle.atomic_objects.proofs.HeldLaws.{get_shown, shown_changed}
use Rattle.atomic_objects.proofs.locks.Locks.leave.Goals as goal

pub leave-requires : goal.leave-requires
leave-requires c =
    let same = get_shown c.self.inside.held _ c.self.view_is c.args.object in
    rw (← same) c.requires

pub returns-clause-next : goal.returns-clause-next
returns-clause-next c = c.leave.ensures.next ∙ ap next (sym (get_shown c.self.inside.held _ c.self.view_is c.args.object))

pub returns-clause-locks : goal.returns-clause-locks
returns-clause-locks c = shown_changed c.self.inside.held _ c.self.view_is c.leave.new.locks c.args.object after_leave c.leave.ensures.locks
