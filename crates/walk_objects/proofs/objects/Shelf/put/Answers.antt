use Rattle.std.proofs.Common.{refl, ap, ◌∙◌, arith}
use Rattle.cc_ops.specs.Machine.{cell_of}
use Rattle.walk_objects.proofs.objects.Shelf.put.Goals as goal
use Rattle.walk_objects.proofs.objects.Shelf.put.Goals.{in-Some, in_default}
use Rattle.numbered_runs.specs.Changes.{with_cell, with_thing}
use Rattle.walk_objects.specs.contracts.objects.Shelf.{the_view}
use Rattle.walk_objects.proofs.Changed.{set_changed, changed_past}

pub returns : goal.returns
returns c =
    let s = the_view c.self.inside in
    let f = with_cell c.args.at.offset (cell_of c.args.cell) in
    elim c.match-get_mut.branch [
      | in-Some w ↦
          ap the_view w.self-inside-is
          ∙ ap (λ v. record s { things = v })
          (set_changed f s.things c.args.at.object w.in-Some.object.now w.put.new.self (omega (arith, w.in-Some.ensures.variant.0 refl)) w.in-Some.ensures.value w.put.ensures)
          ∙ ap (with_thing c.args.at.object f) c.self.view_is
      | in_default w ↦
          ap the_view w.self-inside-is
          ∙ ap (λ v. record s { things = v }) (changed_past f s.things c.args.at.object (grind (arith, w.in_default.ensures.variant)))
          ∙ ap (with_thing c.args.at.object f) c.self.view_is
    ]
