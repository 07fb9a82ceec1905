-- The parts of a generated set, one behind the other.
-- The rules: docs/GENERATOR.md, "Files".
use Rattle.std.specs.Prelude.{List, [], ◌∷◌}
use Rattle.kt_out.specs.NamedFiles.{File, with_file}
use Rattle.kt_rec.specs.declared.table.Table.TheVariants as table
use Rattle.kt_rec.specs.declared.table.TableId.{TableId}
use Rattle.kt_load.specs.FileNames.{table_at}

-- files after others were added, one after the other
abbrev pub with_files : List File → List File → List File
with_files files [] = files
with_files files (file ∷ more) = with_files (with_file files file.name file.bytes) more

-- the events and what is insured
abbrev pub exposure_tables : List TableId
exposure_tables = table_at 0 table.Events ∷ table_at 0 table.Items ∷ table_at 0 table.Coverages ∷ []

-- how hard the events strike, and with what damage
abbrev pub hazard_tables : List TableId
hazard_tables =
    table_at 0 table.Footprint
    ∷ table_at 0 table.FootprintIdx
    ∷ table_at 0 table.Vulnerability
    ∷ table_at 0 table.DamageBinDict
    ∷ table_at 0 table.Random
    ∷ []

-- the footprint alone
abbrev pub footprint_tables : List TableId
footprint_tables = table_at 0 table.Footprint ∷ []

-- the insurance
abbrev pub insurance_tables : List TableId
insurance_tables = table_at 0 table.FmProgramme ∷ table_at 0 table.FmPolicytc ∷ table_at 0 table.FmProfile ∷ table_at 0 table.FmXref ∷ []

-- the summary sets
abbrev pub summary_tables : List TableId
summary_tables = table_at 0 table.GulSummaryXref ∷ table_at 0 table.FmSummaryXref ∷ []

-- when the events occur
abbrev pub period_tables : List TableId
period_tables = table_at 0 table.Occurrence ∷ table_at 0 table.ReturnPeriods ∷ []
