-- A footprint comes back from its file and its index.
use Rattle.std.proofs.Common.{◌≡◌, ℕ, ◌*◌, true, List, [], ◌∷◌, length, drop, Ok, refl, sym, ap, arith}
use Rattle.std.specs.Prelude.{map}
use Rattle.std.proofs.lemmas.List.{length-append, length-map}
use Rattle.kt_rec.specs.declared.hazard.FootprintIdx.{FootprintIdx}
use Rattle.kt_rec.specs.declared.table.Table.TheVariants.{Footprint}
use Rattle.kt_cells.specs.Laws.{HeadersAreReadBack, RecordsAreReadBack, TextsAreInRange}
use Rattle.kt_cells.specs.Ranges.{IsRow, AreRows}
use Rattle.kt_cells.specs.Records.{record_bytes, records_bytes}
use Rattle.kt_schema.specs.Conversions.{bin, bin_rows, canon, footprint_bytes}
use Rattle.kt_schema.specs.Footprint.{footprint_csv, indexed_rows}
use Rattle.kt_schema.specs.Index.{event_of, index_of}
use Rattle.kt_schema.specs.Rows.{footprint_idx_values}
use Rattle.kt_schema.specs.Tables.{kinds_of}
use Rattle.kt_footprint.specs.RoundTrip.{AreFew, FootprintsGoRound}
use Rattle.kt_footprint.proofs.Gathering.{AreWhole, Gathers, gathers_none, gather}

-- ---- rows in range

rows_whole : (rows : List (List ℕ)) → AreRows (kinds_of Footprint) rows → AreWhole rows
unfolding AreRows IsRow
rows_whole [] range = tt
rows_whole ([] ∷ rows) range = absurd range.0
rows_whole ((event ∷ row) ∷ rows) range = (refl, rows_whole rows range.1)

rows_behind : (rows : List (List ℕ)) → AreRows (kinds_of Footprint) rows → AreRows (drop 1 (kinds_of Footprint)) (map (drop 1) rows)
unfolding AreRows IsRow
rows_behind [] range = tt
rows_behind ([] ∷ rows) range = absurd range.0
rows_behind ((event ∷ row) ∷ rows) range = (range.0.1, rows_behind rows range.1)

-- ---- the file

-- a record of the footprint takes twelve bytes
record_long : (row : List ℕ) → IsRow 0 (drop 1 (kinds_of Footprint)) row → length (record_bytes (drop 1 (kinds_of Footprint)) row) ≡ 12
unfolding IsRow record_bytes
record_long [] range = absurd range
record_long (areaperil ∷ []) range = absurd range.1
record_long (areaperil ∷ intensity ∷ []) range = absurd range.1.1
record_long (areaperil ∷ intensity ∷ prob ∷ []) range = refl
record_long (areaperil ∷ intensity ∷ prob ∷ more ∷ row) range = absurd range.1.1.1

file_long : (rows : List (List ℕ)) → AreRows (drop 1 (kinds_of Footprint)) rows → length (records_bytes (drop 1 (kinds_of Footprint)) rows) ≡ 12 * length rows
unfolding AreRows records_bytes
file_long [] range = refl
file_long (row ∷ rows) range = omega (arith, length-append (record_bytes (drop 1 (kinds_of Footprint)) row) (records_bytes (drop 1 (kinds_of Footprint)) rows), record_long row range.0, file_long rows range.1)

module _ (headers : HeadersAreReadBack) (records : RecordsAreReadBack) where
  -- the records of the file
  file_rows : (rows : List (List ℕ)) → AreRows (kinds_of Footprint) rows → bin_rows Footprint (footprint_bytes rows) ≡ Ok (0, map (drop 1) rows)
  file_rows rows range = rw (headers 4 0 0 0 (records_bytes (drop 1 (kinds_of Footprint)) (map (drop 1) rows)) (omega arith) (omega arith) (omega arith) (omega arith), records 2 (drop 1 (kinds_of Footprint)) (map (drop 1) rows) (omega arith) (rows_behind rows range)) refl

  -- the index gives all rows
  gathered : (rows : List (List ℕ)) (index : List FootprintIdx) → AreRows (kinds_of Footprint) rows → map footprint_idx_values index ≡ index_of rows → AreFew index → Gathers (map (drop 1) rows) index rows (length (footprint_bytes rows))
  unfolding index_of
  gathered [] [] range is few = gathers_none [] (length (footprint_bytes []))
  gathered [] (entry ∷ index) range is few = absurd (cc)
  gathered (row ∷ rows) index range is few =
      let whole : AreWhole (row ∷ rows) = rows_whole (row ∷ rows) range in
      let total = file_long (map (drop 1) (row ∷ rows)) (rows_behind (row ∷ rows) range) in
      gather (map (drop 1) (row ∷ rows)) rows (event_of row) 16 12 0 (length (footprint_bytes (row ∷ rows))) (row ∷ []) index (omega arith) (omega arith) (omega (arith, total, length-map rows (drop 1))) (ap (λ (r : List ℕ). r ∷ []) (sym whole.0)) whole.1 refl is few

  text_of : (rows : List (List ℕ)) (index : List FootprintIdx) → AreRows (kinds_of Footprint) rows → indexed_rows (map (drop 1) rows) index ≡ rows → footprint_csv (bin Footprint 0 rows) index ≡ Ok (canon Footprint rows)
  text_of rows index range all = rw (file_rows rows range, all) refl

  pub go_round : TextsAreInRange → FootprintsGoRound
  go_round in_range text rows index accepted is few =
      let range : AreRows (kinds_of Footprint) rows = (in_range true (kinds_of Footprint) text rows (omega arith) accepted).0 in
      let gathers = gathered rows index range is few in
      (gathers.entries, text_of rows index range gathers.rows_are)
