use Rattle.std.proofs.Common.{refl, ap, ◌∙◌, arith}
use Rattle.cc_ops.specs.Machine.{cell_of}
use Rattle.cc_ops.specs.Shelves.{changed}
use Rattle.numbered_runs.specs.Changes.{with_cell, with_thing}
use Rattle.walk_objects.specs.contracts.objects.Objects.{the_view}
use Rattle.walk_objects.proofs.Changed.{set_changed, changed_past}
use Rattle.walk_objects.proofs.objects.Objects.put.Goals as goal
use Rattle.walk_objects.proofs.objects.Objects.put.Goals.{in-Some, in_default}

pub returns : goal.returns
returns c =
    let shelves = c.self.inside.shelves.items in
    let k = c.args.at.processor in
    let f = with_thing c.args.at.object (with_cell c.args.at.offset (cell_of c.args.cell)) in
    elim c.match-get_mut.branch [
      | in-Some w ↦
          ap the_view w.self-inside-is
          ∙ set_changed f shelves k w.in-Some.shelf.now w.put.new.self (omega (arith, w.in-Some.ensures.variant.0 refl)) w.in-Some.ensures.value w.put.ensures
          ∙ ap (λ v. changed v k f) c.self.view_is
      | in_default w ↦
          ap the_view w.self-inside-is
          ∙ changed_past f shelves k (grind (arith, w.in_default.ensures.variant))
          ∙ ap (λ v. changed v k f) c.self.view_is
    ]
