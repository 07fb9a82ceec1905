-- The lines of some records behind others.
use Rattle.std.proofs.Common.{◌≡◌, ℕ, ◌+◌, ◌-◌, ◌*◌, ◌/◌, ◌≤◌, List, [], ◌++◌, length, take, drop, Ok, sym, ap, ◌∙◌, arith, length-drop, drop-drop}
use Rattle.std.specs.Prelude.{min}
use Rattle.std.proofs.lemmas.List.{take_min, take-append-drop}
use Rattle.std.proofs.Math.ListN.{drop_of_length-le}
use Rattle.kt_blocks.specs.Tables.{AreLines, rows_or_none}
use Rattle.kt_cells.specs.Laws.{SlicesGiveSlices}
use Rattle.kt_cells.specs.Lines.{rows_lines}
use Rattle.kt_cells.specs.Reading.{and_then}
use Rattle.kt_cells.specs.Records.{record_rows}
use Rattle.kt_rec.specs.declared.kind.Kind.{Kind}
use Rattle.kt_schema.specs.FootprintLaws.{rows_lines-append}

-- the lines from a row on: so many, and those behind them
lines-split : (kinds : List Kind) (rows : List (List ℕ)) (from count : ℕ) → rows_lines kinds (drop from rows) ≡ rows_lines kinds (take count (drop from rows)) ++ rows_lines kinds (drop (from + count) rows)
lines-split kinds rows from count =
    ap (rows_lines kinds) (sym (take-append-drop count (drop from rows)))
    ∙ rows_lines-append kinds (take count (drop from rows)) (drop count (drop from rows))
    ∙ ap (λ left. rows_lines kinds (take count (drop from rows)) ++ rows_lines kinds left) (drop-drop count from rows)

-- no line is left
pub lines-end : (kinds : List Kind) (rows : List (List ℕ)) (from : ℕ) → length rows ≤ from → rows_lines kinds (drop from rows) ≡ []
unfolding rows_lines
lines-end kinds rows from all = ap (rows_lines kinds) (drop_of_length-le rows all)

module _ (columns : ℕ) (kinds : List Kind) (width : ℕ) (records : List ℕ) (are : AreLines columns kinds width records) where
  -- the rows that are read
  rows-are : rows_or_none (record_rows 1 kinds records) ≡ are.rows
  rows-are = ap rows_or_none are.are_read

  -- behind the last piece is none
  pub pieces-end : rows_lines kinds (drop ((length records / width / 256 + 1) * 256) (rows_or_none (record_rows 1 kinds records))) ≡ []
  pieces-end = rw rows-are (lines-end kinds are.rows ((length records / width / 256 + 1) * 256) (omega (arith, are.counted)))

  -- the lines of a piece, and those behind it
  pub piece-made : SlicesGiveSlices → (index count : ℕ) (part out after : List ℕ) → index * 256 ≤ length records / width → count ≡ min 256 (length records / width - index * 256) → part ≡ take (count * width) (drop (index * 256 * width) records)
      → and_then (record_rows 1 kinds part) (λ rows. Ok (out ++ rows_lines kinds rows)) ≡ Ok after
      → (more : List ℕ) × (after ≡ out ++ more) × (rows_lines kinds (drop (index * 256) (rows_or_none (record_rows 1 kinds records))) ≡ more ++ rows_lines kinds (drop ((index + 1) * 256) (rows_or_none (record_rows 1 kinds records))))
  piece-made law index count part out after within is part_is written =
      let from : ℕ = index * 256 in
      let left : length (drop from are.rows) ≡ length records / width - from = length-drop from are.rows ∙ ap (λ n. n - from) are.counted in
      let few : count ≡ min 256 (length (drop from are.rows)) = is ∙ ap (min 256) (sym left) in
      let some : from + count ≤ length are.rows = omega (arith, within, is, are.counted) in
      let read : record_rows 1 kinds part ≡ Ok (take count (drop from are.rows)) =
      ap (record_rows 1 kinds) (part_is ∙ ap (λ w. take (count * w) (drop (from * w) records)) are.is_width)
      ∙ law 1 kinds records are.rows from count (omega (arith, are.some, are.columns_are)) are.are_read some in
      let made : Ok (out ++ rows_lines kinds (take count (drop from are.rows))) ≡ Ok after = sym (ap (λ found. and_then found (λ rows. Ok (out ++ rows_lines kinds rows))) read) ∙ written in
      let text : out ++ rows_lines kinds (take count (drop from are.rows)) ≡ after = cc (made) in
      let whole : take count (drop from are.rows) ≡ take 256 (drop from are.rows) = ap (λ n. take n (drop from are.rows)) few ∙ take_min 256 (drop from are.rows) in
      let next : from + 256 ≡ (index + 1) * 256 = omega arith in
      rw rows-are (
        rows_lines kinds (take 256 (drop from are.rows)),
        sym text ∙ ap (λ rows. out ++ rows_lines kinds rows) whole,
        lines-split kinds are.rows from 256 ∙ ap (λ n. rows_lines kinds (take 256 (drop from are.rows)) ++ rows_lines kinds (drop n are.rows)) next,
      )
