-- A write into Rust's cells is the write into the cells that the definitions see.
use Rattle.std.specs.Prelude.{◌≡◌, ℕ, List, map, slice_get, slice_set, Some}
use Rattle.std.proofs.Common.{◌∙◌, ap, sym}
use Rattle.std.proofs.lemmas.List.{map-set}
use Rattle.std.proofs.lemmas.Option.{slice_get-map}
use Rattle.std.specs.Option.{option_map}
use Rattle.cc_ops.specs.declared.cell.Cell.{Cell}
use Rattle.cc_ops.specs.Values as values
use Rattle.cc_ops.specs.Values.{Gives, on_gives}
use Rattle.cc_ops.specs.Cells.{written, write_at, write_cell}
use Rattle.cc_ops.specs.Machine.{Address, cell_of}

pub write_cell-map : (cells : List Cell) (at : ℕ) (v : values.Value Address) (cell new : Cell)
    → slice_get cells at ≡ Some cell → Gives (cell_of new) ≡ written (cell_of cell) v
    → write_cell (map cell_of cells) at v ≡ Gives (map cell_of (slice_set cells at new))
write_cell-map cells at v cell new there wrote =
    ap (write_at (map cell_of cells) at v) (slice_get-map cell_of cells at ∙ ap (option_map cell_of) there)
    ∙ ap (λ r. on_gives r (λ d. Gives (slice_set (map cell_of cells) at d))) (sym wrote)
    ∙ ap Gives (sym (map-set cell_of cells at new))
