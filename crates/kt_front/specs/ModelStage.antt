-- What the tool of damage distributions stands on while it reads events.
-- The rules: docs/COMMANDS.md, "getmodel".
use Rattle.std.specs.Prelude.{◌≡◌, ℕ, List, true, Option, Some}
use Rattle.kt_ends.specs.declared.status.Refusal.TheVariants.{Row}
use Rattle.kt_ends.specs.declared.status.Refusal.{Refusal}
use Rattle.kt_ends.specs.declared.tool_stop.ToolStop.{ToolStop}
use Rattle.kt_ends.specs.declared.tool_stop.ToolStop.TheVariants.{Refused, ReadFault, WriteFault, NoMemory}
use Rattle.kt_keys.specs.Refusals.{is_loaded}
use Rattle.kt_rec.specs.declared.foot_rows.ModelStop.{ModelStop}
use Rattle.kt_rec.specs.declared.foot_rows.ModelStop.TheVariants as model
use Rattle.kt_load.specs.EventRows.{HasFootprint, footprint_name}
use Rattle.kt_out.specs.NamedFiles.{FileMap}
use Rattle.kt_rec.specs.declared.table.Table.TheVariants as table
use Rattle.kt_tables.specs.Portfolio.{PortfolioRows}

-- the files are known, and the footprint's has these bytes
pub record HoldsFootprint (held : Option FileMap) (footprint : List ℕ) : Type 0 where
  pub files : FileMap
  pub known : held ≡ Some files
  pub bytes : files footprint_name ≡ Some footprint

-- the tables of the hazard are loaded, and the footprint's file is as long as it was then
pub record IsModelReady (portfolio : PortfolioRows) (held : Option FileMap) : Type 0 where
  pub bins : is_loaded portfolio.need 0 table.DamageBinDict ≡ true
  pub footprint : is_loaded portfolio.need 0 table.Footprint ≡ true
  pub index : is_loaded portfolio.need 0 table.FootprintIdx ≡ true
  pub file : HasFootprint held portfolio.rows.footprint_size

-- a refusal of a row, or none
abbrev pub IsRow : Refusal → Type 0
IsRow (Row event row why) = Unit {0}
IsRow other = ⊥

-- a stop for a row that is refused, or for want of memory
abbrev pub IsRowStop : ToolStop → Type 0
IsRowStop (Refused why) = IsRow why
IsRowStop ReadFault = ⊥
IsRowStop WriteFault = ⊥
IsRowStop NoMemory = Unit {0}

-- the distributions of an event were not made
abbrev pub model_stop : ℕ → ModelStop → ToolStop
model_stop event (model.Row row why) = Refused (Row event row why)
model_stop event model.OutOfMemory = NoMemory
