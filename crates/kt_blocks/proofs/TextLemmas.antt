-- The files and texts of all tables but the footprint.
use Rattle.std.proofs.Common.{◌≡◌, ◌*◌, ℕ, Bool, List, ◌++◌, Ok, drop, sym, ap, ◌∙◌}
use Rattle.kt_blocks.specs.Tables.{IsJudged, rows_or_none}
use Rattle.kt_rec.specs.Lines.{line}
use Rattle.kt_cells.specs.Lines.{rows_lines}
use Rattle.kt_cells.specs.Reading.{and_then, Tells-and_then}
use Rattle.kt_cells.specs.Records.{record_rows}
use Rattle.kt_cells.specs.Stops.{Tells}
use Rattle.kt_cells.specs.declared.stop.TableStop.{TableStop}
use Rattle.kt_rec.specs.declared.kind.Kind.{Kind}
use Rattle.kt_rec.specs.declared.table.Table.{Table}
use Rattle.kt_schema.specs.Conversions.{bin_csv, bin_rows, body_rows, canon}
use Rattle.kt_schema.specs.Tables.{heading_of, kinds_of}

module _ (t : Table) (header : Bool) (number least most : ℕ) (kinds : List Kind) (bytes : List ℕ) (kinds_are : kinds_of t ≡ kinds) (rows_are : bin_rows t bytes ≡ body_rows header number least most 1 kinds bytes) where
  -- a file that is refused has no text
  pub tells_text : (stop : TableStop) → Tells (body_rows header number least most 1 kinds bytes) stop → Tells (bin_csv t bytes) stop
  tells_text stop tells = Tells-and_then (bin_rows t bytes) (λ file. Ok (canon t file.1)) stop (rw rows_are tells)

  -- the text of a file that is judged: its heading, and all lines
  pub text_is : (records start : List ℕ) → IsJudged kinds records (body_rows header number least most 1 kinds bytes) → start ≡ line (heading_of t) → bin_csv t bytes ≡ Ok (start ++ rows_lines kinds (drop (0 * 256) (rows_or_none (record_rows 1 kinds records))))
  unfolding rows_lines
  text_is records start judged is =
      let read : bin_rows t bytes ≡ Ok (judged.extra, judged.rows) = rows_are ∙ judged.are_read in
      let rows : rows_or_none (record_rows 1 kinds records) ≡ judged.rows = ap rows_or_none judged.are_rows in
      ap (λ found. and_then found (λ file. Ok (canon t file.1))) read
      ∙ ap (λ (text : List ℕ). Ok (line (heading_of t) ++ text)) (ap (λ k. rows_lines k judged.rows) kinds_are ∙ ap (rows_lines kinds) (sym rows))
      ∙ ap (λ (text : List ℕ). Ok (text ++ rows_lines kinds (rows_or_none (record_rows 1 kinds records)))) (sym is)
