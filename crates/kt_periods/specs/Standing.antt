-- Where the stage of the period tables stands.
-- The rules: docs/CALCULATION.md, "Periods".
use Rattle.std.specs.Prelude.{◌≡◌, ℕ, true, List, [], Option, Some, None}
use Rattle.kt_cell.specs.Losses.{Added}
use Rattle.kt_cell.specs.Standing.{KeptCells, StandsFor}
use Rattle.kt_cell.specs.declared.cell.CellStop.{CellStop}
use Rattle.kt_cell.specs.declared.cell.CellStop.TheVariants as cell_stop
use Rattle.kt_ends.specs.declared.status.Refusal.TheVariants as refusal
use Rattle.kt_ends.specs.declared.tool_stop.ToolStop.{ToolStop}
use Rattle.kt_ends.specs.declared.tool_stop.ToolStop.TheVariants as tool_stop
use Rattle.kt_keys.specs.Refusals.{is_loaded}
use Rattle.kt_periods.specs.PeriodTables.{PeriodSums}
use Rattle.kt_periods.specs.declared.table.PeriodTable.{PeriodTable}
use Rattle.kt_rec.specs.Rows.{Rows}
use Rattle.kt_rec.specs.declared.table.Table.TheVariants.{Occurrence}
use Rattle.kt_stream.specs.declared.kind.Head.{Head}
use Rattle.kt_tables.specs.Portfolio.{PortfolioRows}

-- the cells of these records; before the header there are neither
abbrev pub HoldsLosses : List Added → Option KeptCells → Type 0
HoldsLosses history None = history ≡ []
HoldsLosses history (Some cells) = StandsFor history cells

-- the stage makes this table of these rows, and its cells are those of the records
pub record StandsAt (sums : PeriodSums) (table : PeriodTable) (portfolio_rows : Rows) (cells : Option KeptCells) : Type 0 where
  pub same_kind : table ≡ sums.kind
  pub same_rows : portfolio_rows ≡ sums.rows
  pub holds : HoldsLosses sums.history cells

-- before the header there are no cells; behind it there are, of the samples of the stream and so many periods
abbrev pub AreCells : ℕ → Option Head → Option KeptCells → Type 0
AreCells periods None None = Unit {0}
AreCells periods None (Some cells) = ⊥
AreCells periods (Some head) None = ⊥
AreCells periods (Some head) (Some cells) = (cells.periods ≡ periods) × (cells.samples ≡ head.samples)

-- the stage is ready: the occurrences are loaded
pub record IsReady (seen : Option Head) (portfolio : PortfolioRows) (cells : Option KeptCells) : Type 0 where
  pub loaded : is_loaded portfolio.need 0 Occurrence ≡ true
  pub are : AreCells portfolio.rows.periods seen cells

-- how a tool ends where the cells refuse a record of an event
abbrev pub cell_tool_stop : ℕ → CellStop → ToolStop
cell_tool_stop event (cell_stop.Cells held) = tool_stop.Refused (refusal.Cells event held)
cell_tool_stop event (cell_stop.Period key held more) = tool_stop.Refused (refusal.Period event key held more)
cell_tool_stop event cell_stop.OutOfMemory = tool_stop.NoMemory
