-- The lines of the footprint, event by event.
use Rattle.std.proofs.Common.{◌≡◌, ℕ, ◌+◌, ◌*◌, ◌/◌, ◌<◌, List, ◌∷◌, ◌++◌, length, take, drop, get_or, refl, arith, append_assoc}
use Rattle.std.specs.Prelude.{Result, Ok}
use Rattle.std.proofs.Math.Nat.{div-mul-le_self}
use Rattle.kt_rec.specs.declared.hazard.FootprintIdx.{FootprintIdx}
use Rattle.kt_rec.specs.declared.table.Table.TheVariants.{Footprint}
use Rattle.kt_cells.specs.Lines.{rows_lines, lines_behind}
use Rattle.kt_cells.specs.Laws.{SlicesGiveSlices}
use Rattle.kt_cells.specs.Ranges.{AreRows}
use Rattle.kt_cells.specs.Reading.{and_then}
use Rattle.kt_cells.specs.Records.{record_rows, record_width}
use Rattle.kt_cells.specs.Stops.{Tells}
use Rattle.kt_cells.specs.declared.stop.TableStop.{TableStop}
use Rattle.kt_cells.specs.declared.stop.TableStop.TheVariants as stop
use Rattle.kt_schema.specs.FootprintLaws.{AreRows-drop, AreRows-take, event_lines, rows_lines-append}
use Rattle.kt_schema.specs.Footprint.{AreRecords, HasRecords, first_record, record_number, entry_rows, indexed_rows}
use Rattle.kt_schema.specs.Index.{footprint_width}
use Rattle.kt_schema.specs.Tables.{kinds_of}
use Rattle.kt_schema.proofs.IndexLemmas.{drop-step}

-- an event more of the index
pub indexed-more : (start out more : List ℕ) (rows : List (List ℕ)) (index : List FootprintIdx) (done : ℕ) (d : FootprintIdx) → done < length index
    → out ++ rows_lines (kinds_of Footprint) (indexed_rows rows (drop done index)) ≡ start ++ rows_lines (kinds_of Footprint) (indexed_rows rows index)
    → more ≡ out ++ rows_lines (kinds_of Footprint) (entry_rows rows (get_or index done d))
    → more ++ rows_lines (kinds_of Footprint) (indexed_rows rows (drop (done + 1) index)) ≡ start ++ rows_lines (kinds_of Footprint) (indexed_rows rows index)
unfolding indexed_rows
indexed-more start out more rows index done d within now written =
    let step : drop done index ≡ get_or index done d ∷ drop (done + 1) index = drop-step index done d within in
    rw (written, append_assoc) (rw (step, rows_lines-append) at now)

-- the rows that are read, as many as there are records
pub records-are : (bytes : List ℕ) (rows : List (List ℕ)) → record_rows 2 (drop 1 (kinds_of Footprint)) bytes ≡ Ok rows → AreRows (drop 1 (kinds_of Footprint)) rows → length rows ≡ length bytes / footprint_width → AreRecords bytes rows
records-are bytes rows read range count = record { are_read = read; in_range = range; room = omega (arith, count, div-mul-le_self (length bytes) footprint_width) }

-- the records that an entry names
abbrev pub part_of : List ℕ → FootprintIdx → List ℕ
part_of records entry = take (record_number entry * footprint_width) (drop (first_record entry * footprint_width) records)

module _ (records : List ℕ) (rows : List (List ℕ)) (entry : FootprintIdx) (are : AreRecords records rows) (has : HasRecords (length rows) entry) where
  -- they give its rows
  pub part-read : SlicesGiveSlices → record_rows 2 (drop 1 (kinds_of Footprint)) (part_of records entry) ≡ Ok (take (record_number entry) (drop (first_record entry) rows))
  unfolding record_width
  part-read law = law 2 (drop 1 (kinds_of Footprint)) records rows (first_record entry) (record_number entry) (omega arith) are.are_read has.within

  -- and the lines of these are those of the event
  pub part-written : SlicesGiveSlices → (out after : List ℕ) → and_then (record_rows 2 (drop 1 (kinds_of Footprint)) (part_of records entry)) (λ part. Ok (out ++ lines_behind entry.event_id (drop 1 (kinds_of Footprint)) part)) ≡ Ok after
      → after ≡ out ++ rows_lines (kinds_of Footprint) (entry_rows rows entry)
  part-written law out after written =
      let range = AreRows-take (drop 1 (kinds_of Footprint)) (drop (first_record entry) rows) (record_number entry) (AreRows-drop (drop 1 (kinds_of Footprint)) rows (first_record entry) are.in_range) in
      let all = rw (part-read law) at written in
      let same : after ≡ out ++ lines_behind entry.event_id (drop 1 (kinds_of Footprint)) (take (record_number entry) (drop (first_record entry) rows)) = cc (all) in
      rw (same, event_lines entry.event_id _ range) refl

-- what is right is refused for want of memory alone
pub memory-alone : {A : Type 0} (read : Result A TableStop) (x : A) (why : TableStop) → read ≡ Ok x → Tells read why → why ≡ stop.OutOfMemory
memory-alone read x stop.OutOfMemory good told = refl
memory-alone read x why good told = absurd (cc)
