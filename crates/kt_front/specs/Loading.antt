-- How a refusal of the tables ends a tool, and what a portfolio is of.
-- The rules: docs/REFUSALS.md, "Order".
use Rattle.std.specs.Prelude.{◌≡◌, List, ℕ, IfSome, Result, Ok, Err}
use Rattle.kt_out.specs.InputFiles.{InputsState}
use Rattle.kt_cells.specs.declared.stop.TableStop.{TableStop}
use Rattle.kt_cells.specs.declared.stop.TableStop.TheVariants as table
use Rattle.kt_ends.specs.Endings.{nothing}
use Rattle.kt_ends.specs.Outcome.{Outcome}
use Rattle.kt_ends.specs.Stops.{stop_status}
use Rattle.kt_ends.specs.declared.status.Refusal.TheVariants as refusal
use Rattle.kt_ends.specs.declared.tool_stop.ToolStop.{ToolStop}
use Rattle.kt_ends.specs.declared.tool_stop.ToolStop.TheVariants.{Refused, ReadFault, NoMemory}
use Rattle.kt_load.specs.Loaded.{loaded}
use Rattle.kt_load.specs.declared.stop.LoadStop.{LoadStop}
use Rattle.kt_load.specs.declared.stop.LoadStop.TheVariants as load
use Rattle.kt_rec.specs.Rows.{Rows}
use Rattle.kt_tables.specs.Portfolio.{PortfolioRows}

-- how a table's refusal ends a tool, by the name of its file
abbrev pub table_stop : List ℕ → TableStop → ToolStop
table_stop name table.NotProfile = Refused (refusal.NotProfile name)
table_stop name (table.WrongTable found) = Refused (refusal.WrongTable name found)
table_stop name (table.WrongVersion found) = Refused (refusal.WrongVersion name found)
table_stop name (table.CutRecord row) = Refused (refusal.CutRecord name row)
table_stop name (table.Bad row column cause) = Refused (refusal.Bad name row column cause)
table_stop name table.OutOfMemory = NoMemory

-- how a refusal of the tables ends a tool
abbrev pub load_stop : LoadStop → ToolStop
load_stop (load.Missing name) = Refused (refusal.Missing name)
load_stop (load.TooLarge name) = Refused (refusal.TooLarge name)
load_stop (load.Table name why) = table_stop name why
load_stop (load.Check number name row) = Refused (refusal.Check number name row)
load_stop load.ReadFault = ReadFault
load_stop load.OutOfMemory = NoMemory

-- what is done with the rows of loaded tables, or why there are none
abbrev pub with_tables : Result Rows LoadStop → (Rows → Outcome) → Outcome
with_tables (Ok rows) made = made rows
with_tables (Err why) made = nothing (stop_status (load_stop why))

-- a portfolio has the rows of the tables that it needs, where files are told
abbrev pub IsOfFiles : InputsState → PortfolioRows → Type 0
IsOfFiles inputs portfolio = IfSome inputs.held (λ files. loaded files portfolio.need ≡ Ok portfolio.rows)
