-- The two files of a footprint load as its index, and give its text.
use Rattle.std.proofs.Common.{◌≡◌, ◌≢◌, ℕ, ◌*◌, ◌≤◌, true, List, length, map, refl, sym, ap, subst, ◌∙◌, arith, None, Some, Result, Ok}
use Rattle.std.specs.List.{AllByRecursion}
use Rattle.std.proofs.lemmas.Bool.{le-ltb}
use Rattle.std.proofs.lemmas.List.{length-map}
use Rattle.std.proofs.lemmas.List.Elements.{All-from_recursion}
use Rattle.kt_out.specs.NamedFiles.{FileMap}
use Rattle.kt_rec.specs.Ranges.{IsFootprintIdx}
use Rattle.kt_rec.specs.Rows.{no_rows}
use Rattle.kt_rec.specs.declared.table.Table.TheVariants as table
use Rattle.kt_cells.specs.Laws.{TextsAreInRange}
use Rattle.kt_cells.specs.Ranges.{AreRows}
use Rattle.kt_cells.specs.Reading.{and_then}
use Rattle.kt_cells.specs.declared.stop.TableStop.{TableStop}
use Rattle.kt_checks.specs.Checks.{first_refusal}
use Rattle.kt_schema.specs.Conversions.{bin, bin_rows, canon}
use Rattle.kt_schema.specs.Footprint.{IsEntryOf, footprint_csv}
use Rattle.kt_schema.specs.Index.{index_of}
use Rattle.kt_schema.specs.Laws.{FilesAreReadBack}
use Rattle.kt_schema.specs.Tables.{kinds_of}
use Rattle.kt_footprint.specs.RoundTrip.{FootprintsGoRound}
use Rattle.kt_load.specs.FileNames.{file_name_of, table_at}
use Rattle.kt_load.specs.Loaded.{loaded}
use Rattle.kt_load.specs.Reading.{file_limit, with_table_files}
use Rattle.kt_load.specs.Typed.{row_from}
use Rattle.kt_footprint.specs.GoRound.{FootprintFilesGoRound, index_need}
use Rattle.kt_footprint.proofs.CheckLemmas.{none-misplaced, none-refused}
use Rattle.kt_footprint.proofs.IndexLemmas.{entries-in_range, entries-ranged, index-is, index-long}

-- a result that is Ok of bytes
abbrev good : List ℕ → Result (List ℕ) TableStop
good bytes = Ok bytes

same-bytes : (one other : List ℕ) → good one ≡ good other → one ≡ other
same-bytes one other is = cc

-- a file of an index that is read to these rows, of few bytes, loads as they are
loads-index : (files : FileMap) (bytes : List ℕ) (values : List (List ℕ)) → files (file_name_of (table_at 0 table.FootprintIdx)) ≡ Some bytes → length bytes ≤ file_limit → bin_rows table.FootprintIdx bytes ≡ Ok (0, values) → first_refusal (record no_rows { footprint_idx = map (row_from table.FootprintIdx) values }) index_need ≡ None → loaded files index_need ≡ Ok (record no_rows { footprint_idx = map (row_from table.FootprintIdx) values })
unfolding with_table_files
loads-index files bytes values holds few read none = rw (holds, le-ltb file_limit (length bytes) few, read, none) refl

-- the index is another table than the footprint
other-table : table.FootprintIdx ≢ table.Footprint
other-table is = cc

-- both files of a footprint
pub go_round : FilesAreReadBack → TextsAreInRange → FootprintsGoRound → FootprintFilesGoRound
go_round read_back ranges round text file index_file rows files accepted made made_index limits holds =
    let in_range = ranges true (kinds_of table.Footprint) text rows (omega arith) accepted in
    let file_is : bin table.Footprint 0 rows ≡ file = same-bytes (bin table.Footprint 0 rows) file (sym (ap (λ found. and_then found (λ r. Ok (bin table.Footprint 0 r))) accepted) ∙ made) in
    let index_is : bin table.FootprintIdx 0 (index_of rows) ≡ index_file = same-bytes (bin table.FootprintIdx 0 (index_of rows)) index_file (sym (ap (λ found. and_then (and_then found (λ r. Ok (index_of r))) (λ r. Ok (bin table.FootprintIdx 0 r))) accepted) ∙ made_index) in
    let is = index-is rows in_range.0 in_range.1 limits.rows_each in
    let index = map (row_from table.FootprintIdx) (index_of rows) in
    let both = round text rows index accepted is.values is.few in
    let placed = subst (λ (bytes : List ℕ). AllByRecursion (IsEntryOf (length bytes)) index) file_is both.0 in
    let ranged = entries-in_range (length file) index limits.bytes is.ids placed in
    let value_ranges = subst (AreRows (kinds_of table.FootprintIdx)) is.values (entries-ranged index ranged) in
    let read : bin_rows table.FootprintIdx index_file ≡ Ok (0, index_of rows) = subst (λ bytes. bin_rows table.FootprintIdx bytes ≡ Ok (0, index_of rows)) index_is (read_back table.FootprintIdx 0 (index_of rows) other-table value_ranges (omega arith) (omega arith)) in
    let long : length index_file ≡ 20 * length index = ap length (sym index_is) ∙ (ap (λ (all : List (List ℕ)). length (bin table.FootprintIdx 0 all)) (sym is.values) ∙ index-long index) in
    let number : length index ≡ length (index_of rows) = length-map (index_of rows) (row_from table.FootprintIdx) in
    record {
      index = index;
      is_read = read;
      is_index = is.values;
      in_range = All-from_recursion IsFootprintIdx index ranged;
      loads = loads-index files index_file (index_of rows) holds (omega (arith, long, number, limits.events)) read (none-refused index (omega (arith, number, limits.events)) is.distinct);
      placed = none-misplaced (length file) index placed;
      text_is = subst (λ bytes. footprint_csv bytes index ≡ Ok (canon table.Footprint rows)) file_is both.1;
    }
