use Rattle.std.proofs.Common.{map, refl, ap, ◌∙◌, arith}
use Rattle.cc_ops.specs.Machine.{cell_of}
use Rattle.cc_ops.specs.Shelves.{changed}
use Rattle.numbered_runs.specs.Changes.{with_new}
use Rattle.walk_objects.proofs.Changed.{set_changed}
use Rattle.walk_objects.proofs.objects.Objects.make.Goals as goal

pub returns-clause-object : goal.returns-clause-object
returns-clause-object c =
    let f = with_new (map cell_of c.args.cells) in
    let k = c.args.processor in
    set_changed f c.self.inside.shelves.items k c.in-Some.shelf.now c.make.new.self (omega (arith, c.in-Some.ensures.variant.0 refl)) c.in-Some.ensures.value (c.in_ok-object.ensures.object)
    ∙ ap (λ v. changed v k f) c.self.view_is
