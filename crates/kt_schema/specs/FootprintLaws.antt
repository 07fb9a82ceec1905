-- Laws of the lines of the footprint, event by event.
-- The rule: docs/TABLES.md, "Footprint".
use Rattle.std.proofs.Common.{◌≡◌, ℕ, zero, suc, ◌-◌, ◌/◌, List, [], ◌∷◌, ◌++◌, take, drop, refl, ap, arith, append_assoc}
use Rattle.std.specs.Prelude.{map}
use Rattle.kt_rec.specs.declared.hazard.FootprintIdx.{FootprintIdx}
use Rattle.kt_rec.specs.declared.table.Table.TheVariants.{Footprint}
use Rattle.kt_rec.specs.Lines.{line, fields_behind}
use Rattle.kt_cells.specs.Lines.{rows_lines, lines_behind}
use Rattle.kt_cells.specs.Ranges.{IsRow, AreRows}
use Rattle.kt_cells.specs.Texts.{row_texts}
use Rattle.kt_rec.specs.declared.kind.Kind.{Kind}
use Rattle.kt_money.specs.NumberText.{count_text}
use Rattle.kt_schema.specs.Footprint.{IsEntryOf, HasRecords}
use Rattle.kt_schema.specs.Tables.{kinds_of}

-- each line of an event begins with the event
pub event_lines : (event : ℕ) (rows : List (List ℕ)) → AreRows (drop 1 (kinds_of Footprint)) rows
    → rows_lines (kinds_of Footprint) (map (λ row. event ∷ row) rows) ≡ lines_behind event (drop 1 (kinds_of Footprint)) rows
unfolding rows_lines lines_behind line fields_behind row_texts AreRows IsRow
event_lines event [] range = refl
event_lines event ([] ∷ rows) range = absurd range.0
event_lines event ((first ∷ rest) ∷ rows) range =
    ap (λ lines. (count_text event ++ 44 ∷ line (row_texts 0 (drop 1 (kinds_of Footprint)) (first ∷ rest))) ++ lines) (event_lines event rows range.1)

-- rows in range are so from a place on
pub AreRows-drop : (kinds : List Kind) (rows : List (List ℕ)) (first : ℕ) → AreRows kinds rows → AreRows kinds (drop first rows)
unfolding AreRows
AreRows-drop kinds rows zero range = range
AreRows-drop kinds [] (suc first) range = tt
AreRows-drop kinds (row ∷ rows) (suc first) range = AreRows-drop kinds rows first range.1

-- and up to a place
pub AreRows-take : (kinds : List Kind) (rows : List (List ℕ)) (count : ℕ) → AreRows kinds rows → AreRows kinds (take count rows)
unfolding AreRows
AreRows-take kinds rows zero range = tt
AreRows-take kinds [] (suc count) range = tt
AreRows-take kinds (row ∷ rows) (suc count) range = (range.0, AreRows-take kinds rows count range.1)

-- the lines of some rows and more are the lines of both
pub rows_lines-append : (kinds : List Kind) (xs ys : List (List ℕ)) → rows_lines kinds (xs ++ ys) ≡ rows_lines kinds xs ++ rows_lines kinds ys
unfolding rows_lines
rows_lines-append kinds [] ys = refl
rows_lines-append kinds (row ∷ xs) ys = rw (rows_lines-append kinds xs ys, append_assoc) refl

-- the records of an entry are among those of the file
pub entry-within : (bytes rows : ℕ) (entry : FootprintIdx) → IsEntryOf bytes entry → rows ≡ (bytes - 16) / 12 → HasRecords rows entry
entry-within bytes rows entry names count = record {
  behind_header = names.behind_header;
  within = omega (arith, names.behind_header, names.whole_place, names.whole_size, names.within);
}
