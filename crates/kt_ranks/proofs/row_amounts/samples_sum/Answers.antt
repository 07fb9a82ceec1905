-- The sum over the cells of a row.
use Rattle.std.proofs.Common.{◌≤◌, List, false, length, ap, sym, ◌∙◌}
use Rattle.std.specs.Prelude.{sum}
use Rattle.std.proofs.lemmas.List.{take_rest}
use Rattle.kt_cell.specs.declared.cell.Cell.{Cell}
use Rattle.kt_period_cells.specs.RowCells.{placed}
use Rattle.kt_period_cells.specs.SummaryRows.{cell_amounts}
use Rattle.kt_period_cells.proofs.PlacedCells.{placed_cells}
use Rattle.kt_ranks.proofs.RowAmounts.{samples_placed}
use Rattle.kt_ranks.proofs.row_amounts.samples_sum.Goals as goal

pub returns : goal.returns
returns c =
    let some : 1 ≤ length c.args.row.now.places.items = rw c.places.ensures.value at c.in-len1-up.len_at_least in
    record {
      value = rw (take_rest c.places.result.now 1) at c.placed_sum.ensures.value
          ∙ ap sum (sym (samples_placed c.args.maxima c.places.result.now c.in-len1-up.len_at_least) ∙ ap (λ (cs : List Cell). cell_amounts c.args.maxima false (placed 0 cs)) c.places.ensures.value ∙ ap (cell_amounts c.args.maxima false) (sym (placed_cells c.args.row.now some)));
    }
