-- What is written plainly is read back.
-- The rule: docs/TABLES.md, "Back again".
use Rattle.std.specs.Prelude.{◌≡◌, ℕ, ◌^◌, ◌<◌, ◌≤◌, ◌⊎◌, Ok, List, ◌∷◌, ◌++◌, length, map}
use Rattle.std.specs.Fmt.{decimal}
use Rattle.csv.specs.Reading.{strip_bom}
use Rattle.csv.specs.Writing.{read_back}
use Rattle.kt_money.specs.NumberText.{plain}
use Rattle.kt_text.specs.Numbers.{count_value, decimal_value}
use Rattle.kt_text.specs.PlainText.{IsField}
use Rattle.kt_text.specs.Rows.{csv_rows, rows_text}

-- a count in plain digits is read as that count
abbrev pub CountsAreReadBack : Type 0
CountsAreReadBack = (n : ℕ) → n < 10 ^ 18 → count_value (decimal n) ≡ Ok n

-- an amount with all the decimals of its scale, two or six, is read as that amount
abbrev pub AmountsAreReadBack : Type 0
AmountsAreReadBack = (scale n : ℕ) → (scale ≡ 2) ⊎ (scale ≡ 6) → n ≤ 10 ^ 17 → decimal_value scale (plain scale n) ≡ Ok n

-- rows behind a heading, written with the default settings of csv, are read as those rows; a byte order mark in front
-- would be taken off
abbrev pub RowsAreReadBack : Type 0
RowsAreReadBack = (heading : List (List ℕ)) (rows : List (List (List ℕ)))
    → strip_bom (rows_text (heading ∷ rows)) ≡ rows_text (heading ∷ rows) → csv_rows (rows_text (heading ∷ rows)) ≡ map read_back rows

-- bytes at the front of a text that are a field are one whatever follows the text
abbrev pub FieldsStayFields : Type 0
FieldsStayFields = (text more : List ℕ) (size : ℕ) → IsField text size → size ≤ length text → IsField (text ++ more) size
