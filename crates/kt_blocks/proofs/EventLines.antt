-- The lines of the footprint, event by event.
use Rattle.std.proofs.Common.{◌≡◌, ℕ, ◌+◌, ◌-◌, ◌*◌, ◌/◌, ◌<◌, List, [], ◌∷◌, ◌++◌, length, take, drop, get_or, Ok, sym, ap, subst, ◌∙◌, arith, add-one, length-drop}
use Rattle.std.specs.Prelude.{All, Result}
use Rattle.std.proofs.Math.Nat.{div-mul-le_self}
use Rattle.std.proofs.Math.Seq.{drop-cons, drop-length}
use Rattle.kt_blocks.specs.Footprint.{AreEvents, IsJudgedFootprint}
use Rattle.kt_blocks.specs.Tables.{rows_or_none}
use Rattle.kt_cells.specs.Header.{header_extra}
use Rattle.kt_cells.specs.Laws.{SlicesGiveSlices}
use Rattle.kt_rec.specs.Lines.{line}
use Rattle.kt_cells.specs.Lines.{rows_lines, lines_behind}
use Rattle.kt_cells.specs.Ranges.{AreRows}
use Rattle.kt_cells.specs.Reading.{and_then}
use Rattle.kt_cells.specs.Records.{record_rows, record_width}
use Rattle.kt_rec.specs.declared.kind.Kind.{Kind}
use Rattle.kt_cells.specs.declared.stop.TableStop.{TableStop}
use Rattle.kt_rec.specs.declared.hazard.FootprintIdx.{FootprintIdx}
use Rattle.kt_rec.specs.declared.table.Table.TheVariants.{Footprint}
use Rattle.kt_schema.specs.Conversions.{canon}
use Rattle.kt_schema.specs.Footprint.{footprint_csv, AreRecords, IsEntryOf, first_record, record_number, entry_rows, indexed_rows}
use Rattle.kt_schema.specs.FootprintLaws.{AreRows-drop, AreRows-take, entry-within, event_lines, rows_lines-append}
use Rattle.kt_schema.specs.Tables.{kinds_of, heading_of}

-- the kinds of a record of the file, which leaves the event out
abbrev pub record_kinds : List Kind
record_kinds = drop 1 (kinds_of Footprint)

-- the lines of an event and of those behind it
index-split : (rows : List (List ℕ)) (index : List FootprintIdx) (n : ℕ) (d : FootprintIdx) → n < length index
    → rows_lines (kinds_of Footprint) (indexed_rows rows (drop n index)) ≡ rows_lines (kinds_of Footprint) (entry_rows rows (get_or index n d)) ++ rows_lines (kinds_of Footprint) (indexed_rows rows (drop (n + 1) index))
unfolding indexed_rows
index-split rows index n d within =
    let step : drop n index ≡ get_or index n d ∷ drop (n + 1) index = rw add-one (drop-cons index n d within) in
    ap (λ left. rows_lines (kinds_of Footprint) (indexed_rows rows left)) step ∙ rows_lines-append (kinds_of Footprint) (entry_rows rows (get_or index n d)) (indexed_rows rows (drop (n + 1) index))

-- no event is left
pub index-end : (rows : List (List ℕ)) (index : List FootprintIdx) → rows_lines (kinds_of Footprint) (indexed_rows rows (drop (length index) index)) ≡ []
unfolding indexed_rows rows_lines
index-end rows index = ap (λ left. rows_lines (kinds_of Footprint) (indexed_rows rows left)) (drop-length index)

module _ (records : List ℕ) (index : List FootprintIdx) (are : AreEvents records index) where
  -- the lines of an event are made of its records
  pub event-made : SlicesGiveSlices → (n : ℕ) (d : FootprintIdx) (part out after : List ℕ) → n < length index → part ≡ take (record_number (get_or index n d) * 12) (drop (first_record (get_or index n d) * 12) records)
      → and_then (record_rows 2 record_kinds part) (λ rows. Ok (out ++ lines_behind (get_or index n d).event_id record_kinds rows)) ≡ Ok after
      → (more : List ℕ) × (after ≡ out ++ more) × (rows_lines (kinds_of Footprint) (indexed_rows (rows_or_none (record_rows 2 record_kinds records)) (drop n index)) ≡ more ++ rows_lines (kinds_of Footprint) (indexed_rows (rows_or_none (record_rows 2 record_kinds records)) (drop (n + 1) index)))
  unfolding record_width
  event-made law n d part out after within part_is written =
      let entry : FootprintIdx = get_or index n d in
      let first : ℕ = first_record entry in
      let count : ℕ = record_number entry in
      let rows : List (List ℕ) = are.rows in
      let event : List (List ℕ) = take count (drop first rows) in
      let read : record_rows 2 record_kinds part ≡ Ok event = ap (record_rows 2 record_kinds) part_is ∙ law 2 record_kinds records rows first count (omega arith) are.are.are_read (are.have n d within).within in
      let made : Ok (out ++ lines_behind entry.event_id record_kinds event) ≡ Ok after = sym (ap (λ found. and_then found (λ rows. Ok (out ++ lines_behind entry.event_id record_kinds rows))) read) ∙ written in
      let text : out ++ lines_behind entry.event_id record_kinds event ≡ after = cc (made) in
      let range : AreRows record_kinds event = AreRows-take record_kinds (drop first rows) count (AreRows-drop record_kinds rows first are.are.in_range) in
      let is : rows_or_none (record_rows 2 record_kinds records) ≡ rows = ap rows_or_none are.are.are_read in
      rw is (
        rows_lines (kinds_of Footprint) (entry_rows rows entry),
        sym text ∙ ap (λ lines. out ++ lines) (sym (event_lines entry.event_id event range)),
        index-split rows index n d within,
      )

-- a footprint file whose header and records are good is judged
pub footprint-judged : (bytes records : List ℕ) (extra : ℕ) (rows : List (List ℕ)) → header_extra 4 0 0 bytes ≡ Ok extra → records ≡ drop 16 bytes → record_rows 2 record_kinds records ≡ Ok rows → AreRows record_kinds rows → length rows ≡ length records / 12 → IsJudgedFootprint bytes
footprint-judged bytes records extra rows header is read range counted =
    let behind : Result ℕ TableStop → Result (ℕ × List (List ℕ)) TableStop = λ found. and_then found (λ extra. and_then (record_rows 2 record_kinds (drop 16 bytes)) (λ rows. Ok (extra, rows))) in
    let beside : Result (List (List ℕ)) TableStop → Result (ℕ × List (List ℕ)) TableStop = λ found. and_then found (λ rows. Ok (extra, rows)) in
    let here : record_rows 2 record_kinds (drop 16 bytes) ≡ Ok rows = ap (record_rows 2 record_kinds) (sym is) ∙ read in
    let size : length records ≡ length bytes - 16 = ap length is ∙ length-drop 16 bytes in
    let many : length rows ≡ (length bytes - 16) / 12 = counted ∙ ap (λ n. n / 12) size in
    record {
      extra = extra;
      rows = rows;
      are_read = ap behind header ∙ ap beside here;
      are = record { are_read = here; in_range = range; room = omega (arith, many, length-drop 16 bytes, div-mul-le_self (length bytes - 16) 12) };
      counted = many;
    }

module _ (bytes records : List ℕ) (index : List FootprintIdx) (judged : IsJudgedFootprint bytes) (is : records ≡ drop 16 bytes) where
  -- its events can be written
  pub events-ready : All (IsEntryOf (length bytes)) index → AreEvents records index
  events-ready entries = record {
    rows = judged.rows;
    are = subst (λ b. AreRecords b judged.rows) (sym is) judged.are;
    counted = judged.counted ∙ ap (λ n. n / 12) (sym (ap length is ∙ length-drop 16 bytes));
    have = λ k d within. entry-within (length bytes) (length judged.rows) (get_or index k d) (entries k d within) judged.counted;
  }

  -- and its text is the heading and their lines
  pub footprint-text : (start : List ℕ) → start ≡ line (heading_of Footprint) → footprint_csv bytes index ≡ Ok (start ++ rows_lines (kinds_of Footprint) (indexed_rows (rows_or_none (record_rows 2 record_kinds records)) (drop 0 index)))
  unfolding rows_lines
  footprint-text start head_is =
      let rows : rows_or_none (record_rows 2 record_kinds records) ≡ judged.rows = ap (λ b. rows_or_none (record_rows 2 record_kinds b)) is ∙ ap rows_or_none judged.are.are_read in
      ap (λ found. and_then found (λ file. Ok (canon Footprint (indexed_rows file.1 index)))) judged.are_read
      ∙ ap (λ (read : List (List ℕ)). Ok (line (heading_of Footprint) ++ rows_lines (kinds_of Footprint) (indexed_rows read index))) (sym rows)
      ∙ ap (λ (text : List ℕ). Ok (text ++ rows_lines (kinds_of Footprint) (indexed_rows (rows_or_none (record_rows 2 record_kinds records)) index))) (sym head_is)
