-- Rows of numbers as the rows of their tables.
-- The rules: docs/TABLES.md.
use Rattle.std.specs.Prelude.{ℕ, List, map, slice_index_or}
use Rattle.kt_rec.specs.Places.{RowOf, part_read, with_part}
use Rattle.kt_rec.specs.Rows.{Rows}
use Rattle.kt_rec.specs.declared.table.Table.{Table}
use Rattle.kt_rec.specs.declared.table.Table.TheVariants as table

-- the number in a column, counted from 0
abbrev pub column : ℕ → List ℕ → ℕ
column place values = slice_index_or values place 0

-- the row of a table with these values
abbrev pub row_from : (t : Table) → List ℕ → RowOf t
row_from table.Events values = record { event_id = column 0 values }
row_from table.Items values = record { item_id = column 0 values; coverage_id = column 1 values; areaperil_id = column 2 values; vulnerability_id = column 3 values; group_id = column 4 values }
row_from table.Coverages values = record { coverage_id = column 0 values; tiv = column 1 values }
row_from table.Footprint values = record { areaperil = column 0 values; intensity = column 1 values; prob = column 2 values }
row_from table.FootprintIdx values = record { event_id = column 0 values; offset = column 1 values; size = column 2 values }
row_from table.Vulnerability values = record { vulnerability_id = column 0 values; intensity_bin_id = column 1 values; damage_bin_id = column 2 values; prob = column 3 values }
row_from table.DamageBinDict values = record { bin_index = column 0 values; bin_from = column 1 values; bin_to = column 2 values; interpolation = column 3 values; interval_type = column 4 values }
row_from table.Random values = record { random = column 0 values }
row_from table.FmProgramme values = record { from_agg_id = column 0 values; level_id = column 1 values; to_agg_id = column 2 values }
row_from table.FmPolicytc values = record { layer_id = column 0 values; level_id = column 1 values; agg_id = column 2 values; policytc_id = column 3 values }
row_from table.FmProfile values = record { policytc_id = column 0 values; calcrule_id = column 1 values; deductible1 = column 2 values; deductible2 = column 3 values; deductible3 = column 4 values; attachment1 = column 5 values; limit1 = column 6 values; share1 = column 7 values; share2 = column 8 values; share3 = column 9 values }
row_from table.FmXref values = record { output_id = column 0 values; agg_id = column 1 values; layer_id = column 2 values }
row_from table.GulSummaryXref values = record { item_id = column 0 values; summary_id = column 1 values; summaryset_id = column 2 values }
row_from table.FmSummaryXref values = record { output_id = column 0 values; summary_id = column 1 values; summaryset_id = column 2 values }
row_from table.Occurrence values = record { event_id = column 0 values; period_no = column 1 values; occ_year = column 2 values; occ_month = column 3 values; occ_day = column 4 values }
row_from table.ReturnPeriods values = record { return_period = column 0 values }

-- the rows with those of the file of one table, of the base, at 0, or of a stage: of a file whose header ends with this number, and that
-- has so many bytes
abbrev pub with_rows : Rows → ℕ → Table → ℕ → List (List ℕ) → ℕ → Rows
with_rows rows stage t extra values size = with_part t stage (part_read t (map (row_from t) values) extra size) rows

-- the rows with the size of a table's file, which is kept of the footprint
abbrev pub with_size : Rows → Table → ℕ → Rows
with_size rows table.Footprint size = record rows { footprint_size = size }
with_size rows t size = rows
