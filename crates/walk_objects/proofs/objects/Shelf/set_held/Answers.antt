use Rattle.std.proofs.Common.{refl, ap, ◌∙◌, arith}
use Rattle.numbered_runs.specs.Changes.{with_held, with_thing}
use Rattle.walk_objects.specs.contracts.objects.Object.{the_view as shown}
use Rattle.walk_objects.specs.contracts.objects.Shelf.{the_view}
use Rattle.walk_objects.proofs.Changed.{set_changed, changed_past}
use Rattle.walk_objects.proofs.objects.Shelf.set_held.Goals as goal
use Rattle.walk_objects.proofs.objects.Shelf.set_held.Goals.{in-Some, in_default}

pub returns : goal.returns
returns c =
    let s = the_view c.self.inside in
    let k = c.args.at.object in
    let f = with_held c.args.held in
    elim c.match-get_mut.branch [
      | in-Some w ↦
          ap the_view w.self-inside-is
          ∙ ap (λ v. record s { things = v }) (set_changed f s.things k w.in-Some.object.now (f (shown w.object.inside)) (omega (arith, w.in-Some.ensures.variant.0 refl)) w.in-Some.ensures.value (ap f w.object.view_is))
          ∙ ap (with_thing k f) c.self.view_is
      | in_default w ↦
          ap the_view w.self-inside-is
          ∙ ap (λ v. record s { things = v }) (changed_past f s.things k (grind (arith, w.in_default.ensures.variant)))
          ∙ ap (with_thing k f) c.self.view_is
    ]
