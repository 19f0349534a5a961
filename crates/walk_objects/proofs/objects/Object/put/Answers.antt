use Rattle.std.proofs.Common.{◌≤◌, List, length, map, ap, ◌∙◌, arith}
use Rattle.std.proofs.Math.ListN.{length-map}
use Rattle.cc_ops.specs.Values.{Cell as CellOf}
use Rattle.cc_ops.specs.Machine.{Address, cell_of}
use Rattle.cc_ops.specs.declared.cell.Cell.{Cell}
use Rattle.cc_ops.specs.Shelves.{Thing}
use Rattle.numbered_runs.specs.Changes.{with_cell}
use Rattle.walk_objects.proofs.Changed.{set_mapped, changed_past}
use Rattle.walk_objects.proofs.objects.Object.put.Goals as goal

pub returns-then-offset-len : goal.returns-then-offset-len
returns-then-offset-len c =
    let shown : List (CellOf Address) → Thing = λ v. record { cells = v; held = c.self.inside.held } in
    ap (λ (v : List Cell). shown (map cell_of v)) c.set.ensures
    ∙ ap shown (set_mapped cell_of c.self.inside.cells c.args.offset c.args.cell (omega arith))
    ∙ ap (with_cell c.args.offset (cell_of c.args.cell)) c.self.view_is

pub returns-else-offset-len : goal.returns-else-offset-len
returns-else-offset-len c =
    let e = ap (λ (t : Thing). length t.cells) c.self.view_is in
    let past : length c.args.self.now.cells ≤ c.args.offset = omega (arith, e, length-map c.self.inside.cells cell_of) in
    ap (λ v. record c.args.self.now { cells = v }) (changed_past (λ d. cell_of c.args.cell) c.args.self.now.cells c.args.offset past)
