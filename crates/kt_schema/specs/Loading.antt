-- What reading a file puts into the tables.
-- The rule: docs/TABLES.md, "Files of tables".
use Rattle.std.specs.Prelude.{◌≡◌, ℕ, List, [], map, Result, Ok, slice_index_or, slice_set, Vec}
use Rattle.std.specs.declared.alloc.Global.{Global}
use Rattle.kt_rec.specs.declared.financial.FmProgramme.{FmProgramme}
use Rattle.kt_rec.specs.declared.financial.FmPolicytc.{FmPolicytc}
use Rattle.kt_rec.specs.declared.financial.FmProfile.{FmProfile}
use Rattle.kt_rec.specs.declared.table.Table.{Table}
use Rattle.kt_rec.specs.declared.table.Table.TheVariants as table
use Rattle.kt_rec.specs.declared.table.TableId.{TableId}
use Rattle.kt_rec.specs.declared.tables.FinancialTables.{FinancialTables}
use Rattle.kt_rec.specs.declared.tables.Tables.{Tables}
use Rattle.kt_cells.specs.Header.{header_extra}
use Rattle.kt_cells.specs.Reading.{and_then}
use Rattle.kt_cells.specs.declared.stop.TableStop.{TableStop}
use Rattle.kt_rec.specs.declared.kind.Kind.{Kind}
use Rattle.kt_cells.specs.Ranges.{AreRows}
use Rattle.kt_schema.specs.Conversions.{bin_rows}
use Rattle.kt_schema.specs.Tables.{kinds_of}
use Rattle.kt_schema.specs.Rows.{event_values, item_values, coverage_values, footprint_idx_values, vulnerability_values, damage_bin_values, random_values, fm_programme_values, fm_policytc_values, fm_profile_values, fm_xref_values, gul_summary_xref_values, fm_summary_xref_values, occurrence_values, return_period_values}

-- the rows that are loaded of a file, and the number that its header ends with. Of the footprint the header alone is read
abbrev pub loaded_rows : Table → List ℕ → Result (ℕ × List (List ℕ)) TableStop
loaded_rows table.Footprint bytes = and_then (header_extra 4 0 0 bytes) (λ extra. Ok (extra, []))
loaded_rows t bytes = bin_rows t bytes

-- the rows alone
abbrev pub rows_loaded : Table → List ℕ → Result (List (List ℕ)) TableStop
rows_loaded t bytes = and_then (loaded_rows t bytes) (λ file. Ok file.1)

-- rows in the ranges of the kinds of their table
abbrev pub RowsInRange : Table → List (List ℕ) → Type 0
RowsInRange t rows = AreRows (kinds_of t) rows

-- rows that were read, and are in the ranges of their kinds
pub record HasRowsOf (read : Result (ℕ × List (List ℕ)) TableStop) (kinds : List Kind) (rows : List (List ℕ)) : Type 0 where
  pub loaded : and_then read (λ file. Ok file.1) ≡ Ok rows
  pub in_range : AreRows kinds rows

-- the rows of the file of a table, which are in range
abbrev pub HasRows : Table → List ℕ → List (List ℕ) → Type 0
HasRows t bytes rows = HasRowsOf (loaded_rows t bytes) (kinds_of t) rows

-- of the financial tables of one stage, what was before gives way to what is after, and nothing else changes
pub record ChangesStage (stage : ℕ) (old new : Tables) (before after : FinancialTables) : Type 0 where
  pub was : before ≡ slice_index_or old.financial stage before
  pub becomes : new ≡ record old { financial = slice_set old.financial stage after }

-- the list of a table has the rows of its file, and nothing else changes
abbrev pub LoadsTable : Table → ℕ → List ℕ → Tables → Tables → Type 0
LoadsTable table.Footprint stage bytes old new = (rows_loaded table.Footprint bytes ≡ Ok []) × (new ≡ old)
LoadsTable table.Occurrence stage bytes old new =
    RowsInRange table.Occurrence (map occurrence_values new.occurrence.items) × (loaded_rows table.Occurrence bytes ≡ Ok (new.periods, map occurrence_values new.occurrence.items)) × (new ≡ record old { occurrence = new.occurrence; periods = new.periods })
LoadsTable table.FmProgramme stage bytes old new =
    (before : FinancialTables) × ((list : Vec FmProgramme Global) × (HasRows table.FmProgramme bytes (map fm_programme_values list.items) × ChangesStage stage old new before (record before { programme = list })))
LoadsTable table.FmPolicytc stage bytes old new =
    (before : FinancialTables) × ((list : Vec FmPolicytc Global) × (HasRows table.FmPolicytc bytes (map fm_policytc_values list.items) × ChangesStage stage old new before (record before { policytc = list })))
LoadsTable table.FmProfile stage bytes old new =
    (before : FinancialTables) × ((list : Vec FmProfile Global) × (HasRows table.FmProfile bytes (map fm_profile_values list.items) × ChangesStage stage old new before (record before { profile = list })))
LoadsTable table.Events stage bytes old new = HasRows table.Events bytes (map event_values new.events.items) × (new ≡ record old { events = new.events })
LoadsTable table.Items stage bytes old new = HasRows table.Items bytes (map item_values new.items.items) × (new ≡ record old { items = new.items })
LoadsTable table.Coverages stage bytes old new = HasRows table.Coverages bytes (map coverage_values new.coverages.items) × (new ≡ record old { coverages = new.coverages })
LoadsTable table.FootprintIdx stage bytes old new = HasRows table.FootprintIdx bytes (map footprint_idx_values new.footprint_idx.items) × (new ≡ record old { footprint_idx = new.footprint_idx })
LoadsTable table.Vulnerability stage bytes old new = HasRows table.Vulnerability bytes (map vulnerability_values new.vulnerability.items) × (new ≡ record old { vulnerability = new.vulnerability })
LoadsTable table.DamageBinDict stage bytes old new = HasRows table.DamageBinDict bytes (map damage_bin_values new.damage_bin_dict.items) × (new ≡ record old { damage_bin_dict = new.damage_bin_dict })
LoadsTable table.Random stage bytes old new = HasRows table.Random bytes (map random_values new.random.items) × (new ≡ record old { random = new.random })
LoadsTable table.FmXref stage bytes old new = HasRows table.FmXref bytes (map fm_xref_values new.fm_xref.items) × (new ≡ record old { fm_xref = new.fm_xref })
LoadsTable table.GulSummaryXref stage bytes old new = HasRows table.GulSummaryXref bytes (map gul_summary_xref_values new.gulsummaryxref.items) × (new ≡ record old { gulsummaryxref = new.gulsummaryxref })
LoadsTable table.FmSummaryXref stage bytes old new = HasRows table.FmSummaryXref bytes (map fm_summary_xref_values new.fmsummaryxref.items) × (new ≡ record old { fmsummaryxref = new.fmsummaryxref })
LoadsTable table.ReturnPeriods stage bytes old new = HasRows table.ReturnPeriods bytes (map return_period_values new.returnperiods.items) × (new ≡ record old { returnperiods = new.returnperiods })

-- the list of a table of the base or of a stage has the rows of its file, and nothing else changes
abbrev pub Loads : TableId → List ℕ → Tables → Tables → Type 0
Loads id bytes old new = LoadsTable id.table id.stage bytes old new
