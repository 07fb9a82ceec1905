-- One loss put into rows: what is known of its row, and the entries and their number after it.
use Rattle.std.proofs.Common.{◌≡◌, ℕ, ◌+◌, ◌<◌, ◌≤◌, List, length, get_or, set, arith, refl, ap, ◌∙◌}
use Rattle.std.specs.Prelude.{true, Option, Some, None}
use Rattle.kt_cell.specs.Amounts.{sample_of}
use Rattle.kt_cell.specs.Standing.{cell_at, most_total, total_in, maximum_in, sidx_in_range, one_of}
use Rattle.kt_rec.specs.declared.perspective.CellKey.{CellKey}
use Rattle.kt_cell.specs.declared.cell.Cell.{Cell}
use Rattle.kt_period_cells.specs.declared.row_key.IndexKey.{IndexKey}
use Rattle.kt_period_cells.specs.declared.row.Row.{Row}
use Rattle.kt_period_cells.specs.RowCells.{cells_of, cell_in, RowFits, Changes}
use Rattle.kt_period_cells.specs.Rows.{entries_of, row_keys, row_of, place_of, IsTable}
use Rattle.kt_period_cells.proofs.Steps.{extra}
use Rattle.kt_period_cells.proofs.Places.{placed_within}
use Rattle.kt_period_cells.proofs.Tables.{length_set, cell_is}
use Rattle.kt_period_cells.proofs.RowBounds.{table_row, found_bounds}

-- what is known of the row to which a key belongs: its bounds, and what it has for the key
pub record IsRowOf (periods samples s : ℕ) (rows : List Row) (key : CellKey) (i : ℕ) (row : Row) : Type 0 where
  pub within : i < length rows
  pub fits : RowFits periods samples row
  pub has : cell_in (cells_of row) s ≡ cell_at (entries_of rows) key
  pub total : total_in (cell_in (cells_of row) s) ≤ most_total
  pub greatest : maximum_in (cell_in (cells_of row) s) ≤ most_total

-- a row that is found by its key
pub row_of_key : (periods samples held s : ℕ) (index : List (IndexKey × ℕ)) (rows : List Row) (key : CellKey) (i : ℕ) (row : Row) → IsTable periods samples held index rows → place_of (row_of key) (row_keys rows) ≡ Some i →
    sidx_in_range samples key.sidx ≡ true → s ≡ sample_of key.sidx → row ≡ get_or rows i row → IsRowOf periods samples s rows key i row
row_of_key periods samples held s index rows key i row table found sidx sample_is is =
    let within = placed_within (row_of key) rows i found in
    let fits = table_row periods samples held index rows i row table within is in
    let bounds = found_bounds samples s (cells_of row) fits.cells in
    record {
      within = within;
      fits = fits;
      has = ap (cell_in (cells_of row)) sample_is ∙ cell_is samples rows key i row table.apart found is sidx;
      total = bounds.0;
      greatest = bounds.1;
    }

-- a cell that is there, or one more
pub one_or_extra : (o : Option Cell) → one_of o + extra o ≡ 1
one_or_extra (Some cell) = refl
one_or_extra None = refl

-- how many entries there are with a cell of a sample
pub count_put : (rows : List Row) (i s : ℕ) (old new : Row) (cell : Cell) (was : Option Cell) → i < length rows → old ≡ get_or rows i old → Changes old new s (Some cell) → was ≡ cell_in (cells_of old) s →
    length (entries_of (set rows i new)) ≡ length (entries_of rows) + extra was
count_put rows i s old new cell was within is changes was_is =
    omega (arith, length_set rows i old new within is, changes.count, one_or_extra was, ap one_of was_is)

-- how many cells are held with it
pub held_put : (held new_held s : ℕ) (old new : Row) (cell : Cell) (was : Option Cell) → Changes old new s (Some cell) → was ≡ cell_in (cells_of old) s → new_held + one_of was ≡ held + 1 →
    new_held + length (cells_of old) ≡ held + length (cells_of new)
held_put held new_held s old new cell was changes was_is count = omega (arith, changes.count, ap one_of was_is, count)
