use Rattle.std.proofs.Common.{◌∙◌, map, ap, sym}
use Rattle.cc_ops.specs.Values.{Gives}
use Rattle.cc_ops.specs.Machine.{value_of, cell_of}
use Rattle.cc_ops.proofs.Writes.{write_cell-map}
use Rattle.cc_ops.proofs.build.write.Goals as goal

pub returns-clause-does : goal.returns-clause-does
returns-clause-does c =
    let there = sym c.in-Some.ensures in
    ap (λ cells. Gives (map cell_of cells)) c.set.ensures
    ∙ sym (write_cell-map c.args.cells.now c.args.at (value_of c.args.value) c.in-Some.cell.now c.in_ok-cell.cell there c.in_ok-cell.ensures)
