-- A footprint comes back from the two files that are made of its text.
-- The rules: docs/TABLES.md, "Footprint".
use Rattle.std.specs.Prelude.{◌≡◌, ◌≤◌, ◌==◌, ℕ, false, List, length, map, All, None, Some, Ok}
use Rattle.std.specs.List.{filter}
use Rattle.kt_out.specs.NamedFiles.{FileMap}
use Rattle.kt_rec.specs.Ranges.{IsFootprintIdx}
use Rattle.kt_rec.specs.Rows.{no_rows}
use Rattle.kt_rec.specs.TableSet.{no_tables, with_table}
use Rattle.kt_rec.specs.declared.hazard.FootprintIdx.{FootprintIdx}
use Rattle.kt_rec.specs.declared.table.Table.TheVariants as table
use Rattle.kt_keys.specs.FirstRow.{first_where}
use Rattle.kt_keys.specs.declared.need.Need.{Need}
use Rattle.kt_checks.specs.TableChecks.{is_misplaced}
use Rattle.kt_schema.specs.Conversions.{bin_rows, canon, csv_bin, csv_rows}
use Rattle.kt_schema.specs.Footprint.{footprint_csv}
use Rattle.kt_schema.specs.Index.{event_of, index_of}
use Rattle.kt_schema.specs.Rows.{footprint_idx_values}
use Rattle.kt_load.specs.FileNames.{file_name_of, table_at}
use Rattle.kt_load.specs.Loaded.{loaded}
use Rattle.kt_load.specs.Reading.{file_limit}

-- how many rows a footprint has of an event
abbrev pub rows_of_event : ℕ → List (List ℕ) → ℕ
rows_of_event event rows = length (filter (λ row. event_of row == event) rows)

-- an event has at most 100,000 rows, there are at most 1,000,000 events, and the footprint's file has at most 2^30 bytes
pub record IsWithinLimits (rows : List (List ℕ)) (file : List ℕ) : Type 0 where
  pub rows_each : (event : ℕ) → rows_of_event event rows ≤ 100000
  pub events : length (index_of rows) ≤ 1000000
  pub bytes : length file ≤ file_limit

-- what the text of a footprint needs of the tables: the index
abbrev pub index_need : Need
index_need = record { loaded = with_table no_tables (table_at 0 table.FootprintIdx); samples = 0; rule = 0; net = false }

-- the index file is read back to the rows of the text's index, which are in range; loaded, the checks 1 and 2 refuse none of them; by
-- the size of the footprint's file check 9 refuses none either; and both files together give the canonical text
pub record ComesBack (rows : List (List ℕ)) (file index_file : List ℕ) (files : FileMap) : Type 0 where
  pub index : List FootprintIdx
  pub is_read : bin_rows table.FootprintIdx index_file ≡ Ok (0, index_of rows)
  pub is_index : map footprint_idx_values index ≡ index_of rows
  pub in_range : All IsFootprintIdx index
  pub loads : loaded files index_need ≡ Ok (record no_rows { footprint_idx = index })
  pub placed : first_where (is_misplaced (length file)) index ≡ None
  pub text_is : footprint_csv file index ≡ Ok (canon table.Footprint rows)

-- of an accepted text within the limits, the two files that are made of it give it back
abbrev pub FootprintFilesGoRound : Type 0
FootprintFilesGoRound = (text file index_file : List ℕ) (rows : List (List ℕ)) (files : FileMap) → csv_rows table.Footprint text ≡ Ok rows → csv_bin table.Footprint 0 text ≡ Ok file → csv_bin table.FootprintIdx 0 text ≡ Ok index_file
    → IsWithinLimits rows file → files (file_name_of (table_at 0 table.FootprintIdx)) ≡ Some index_file → ComesBack rows file index_file files
