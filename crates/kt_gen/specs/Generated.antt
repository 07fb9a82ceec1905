-- A generated set: its tables as files.
-- The rules: docs/GENERATOR.md.
use Rattle.std.specs.Prelude.{ℕ, ◌+◌, ◌*◌, ◌==◌, List, [], ◌++◌, map, if◌then◌else◌}
use Rattle.kt_out.specs.NamedFiles.{File}
use Rattle.kt_rec.specs.declared.table.Table.{Table}
use Rattle.kt_rec.specs.declared.table.Table.TheVariants as table
use Rattle.kt_rec.specs.declared.table.TableId.{TableId}
use Rattle.kt_schema.specs.Conversions.{bin}
use Rattle.kt_schema.specs.Index.{index_of}
use Rattle.kt_load.specs.FileNames.{base_tables, file_name_of, stage_tables}
use Rattle.kt_gen.specs.Exposure.{coverage_count, coverage_rows, event_rows, item_rows}
use Rattle.kt_gen.specs.Hazard.{footprint_rows, random_rows}
use Rattle.kt_gen.specs.Damage.{damage_bin_rows, vulnerability_rows}
use Rattle.kt_gen.specs.Financial.{fm_policytc_rows, fm_profile_rows, fm_programme_rows, fm_xref_rows}
use Rattle.kt_gen.specs.Stage.{stage_policytc_rows, stage_profile_rows, stage_programme_rows}
use Rattle.kt_gen.specs.Summaries.{fm_summary_rows, gul_summary_rows}
use Rattle.kt_gen.specs.Periods.{occurrence_rows, period_count, return_period_rows}

-- how many random numbers there are
abbrev pub random_count : ℕ
random_count = 10000

-- the draws before the footprint's: one for each coverage
abbrev pub draws_before_footprint : ℕ → ℕ
draws_before_footprint items = coverage_count items

-- those before the random numbers': ten for each event
abbrev pub draws_before_random : ℕ → ℕ → ℕ
draws_before_random items events = draws_before_footprint items + events * 10

-- those before the occurrences'
abbrev pub draws_before_occurrences : ℕ → ℕ → ℕ
draws_before_occurrences items events = draws_before_random items events + random_count

-- the rows of a table of the base
abbrev pub base_rows : ℕ → ℕ → ℕ → Table → List (List ℕ)
base_rows seed items events table.Events = event_rows events
base_rows seed items events table.Items = item_rows items
base_rows seed items events table.Coverages = coverage_rows seed items
base_rows seed items events table.Footprint = footprint_rows seed (draws_before_footprint items) events
base_rows seed items events table.FootprintIdx = index_of (footprint_rows seed (draws_before_footprint items) events)
base_rows seed items events table.Vulnerability = vulnerability_rows
base_rows seed items events table.DamageBinDict = damage_bin_rows
base_rows seed items events table.Random = random_rows seed (draws_before_random items events) random_count
base_rows seed items events table.FmProgramme = fm_programme_rows items
base_rows seed items events table.FmPolicytc = fm_policytc_rows items
base_rows seed items events table.FmProfile = fm_profile_rows
base_rows seed items events table.FmXref = fm_xref_rows items
base_rows seed items events table.GulSummaryXref = gul_summary_rows items
base_rows seed items events table.FmSummaryXref = fm_summary_rows items
base_rows seed items events table.Occurrence = occurrence_rows seed (draws_before_occurrences items events) events
base_rows seed items events table.ReturnPeriods = return_period_rows

-- the rows of a table of the reinsurance stage
abbrev pub stage_rows : ℕ → Table → List (List ℕ)
stage_rows items table.FmProgramme = stage_programme_rows items
stage_rows items table.FmPolicytc = stage_policytc_rows
stage_rows items table.FmProfile = stage_profile_rows
stage_rows items t = []

-- the rows of a table
abbrev pub generated_rows : ℕ → ℕ → ℕ → TableId → List (List ℕ)
generated_rows seed items events id = if id.stage == 0 then base_rows seed items events id.table else stage_rows items id.table

-- the number that the header of a table's file ends with: how many periods there are
abbrev pub generated_extra : Table → ℕ
generated_extra table.Occurrence = period_count
generated_extra t = 0

-- a table of these rows as a file
abbrev pub table_file : TableId → List (List ℕ) → File
table_file id rows = record { name = file_name_of id; bytes = bin id.table (generated_extra id.table) rows }

-- the files of some of its tables
abbrev pub files_of : ℕ → ℕ → ℕ → List TableId → List File
files_of seed items events ids = map (λ id. table_file id (generated_rows seed items events id)) ids

-- its tables in the order of loading: those of the base, then those of its one reinsurance stage
abbrev pub generated_tables : List TableId
generated_tables = base_tables ++ stage_tables 1

-- the files of a generated set
abbrev pub generated_files : ℕ → ℕ → ℕ → List File
generated_files seed items events = files_of seed items events generated_tables
