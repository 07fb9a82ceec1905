-- Lines of text: fields with commas between them and a line feed behind them.
-- The rule: docs/TABLES.md, "Texts of tables".
use Rattle.std.specs.Prelude.{◌≡◌, ℕ, zero, suc, ◌+◌, ◌-◌, ◌*◌, ◌≤◌, Option, None, Some, List, [], ◌∷◌, ◌++◌, ◌==◌, drop, length, if◌then◌else◌}
use Rattle.kt_money.specs.NumberText.{count_text}
use Rattle.kt_rec.specs.Kinds.{under}
use Rattle.kt_rec.specs.Lines.{fields_behind, line}
use Rattle.kt_cells.specs.Reading.{rule_after}
use Rattle.kt_cells.specs.Texts.{row_texts}
use Rattle.kt_rec.specs.declared.kind.Kind.{Kind}
use Rattle.kt_cells.specs.declared.lines.Front.{Front}

-- what stands before a field, by its column
abbrev pub separator : ℕ → List ℕ
separator column = if column == 0 then [] else 44 ∷ []

-- lines, one after the other
unfoldable pub lines_of : List (List (List ℕ)) → List ℕ
lines_of [] = []
lines_of (row ∷ rows) = line row ++ lines_of rows

-- the lines of rows
unfoldable pub rows_lines : List Kind → List (List ℕ) → List ℕ
rows_lines kinds [] = []
rows_lines kinds (row ∷ rows) = line (row_texts 0 kinds row) ++ rows_lines kinds rows

-- the lines of rows, each with the same count as its first field
unfoldable pub lines_behind : ℕ → List Kind → List (List ℕ) → List ℕ
lines_behind count kinds [] = []
lines_behind count kinds (row ∷ rows) = (count_text count ++ 44 ∷ line (row_texts 0 kinds row)) ++ lines_behind count kinds rows

-- the line of a row, behind a count as its first field where there is one
abbrev pub line_with : Option ℕ → List Kind → List ℕ → List ℕ
line_with None kinds row = line (row_texts 0 kinds row)
line_with (Some count) kinds row = count_text count ++ 44 ∷ line (row_texts 0 kinds row)

-- the lines of rows, behind a count as the first field of each where there is one
abbrev pub lines_with : Option ℕ → List Kind → List (List ℕ) → List ℕ
lines_with None kinds rows = rows_lines kinds rows
lines_with (Some count) kinds rows = lines_behind count kinds rows

-- what stands in front of each line: a count as its first field, where there is one
abbrev pub front_text : Option ℕ → List ℕ
front_text None = []
front_text (Some count) = count_text count ++ 44 ∷ []

-- a front ends with this text
pub record IsFront (before : Option ℕ) (front : Front) : Type 0 where
  pub short : front.size ≤ 21
  pub is : drop (21 - front.size) front.text ≡ front_text before

-- the kinds of a row, a term by the rule before it
unfoldable pub units_under : ℕ → List Kind → List ℕ → List Kind
units_under rule [] values = []
units_under rule (kind ∷ kinds) [] = []
units_under rule (kind ∷ kinds) (value ∷ values) = under rule kind ∷ units_under (rule_after rule kind value) kinds values

-- what is left of a line, from a column on
abbrev pub line_rest : ℕ → List (List ℕ) → List ℕ
line_rest zero fields = line fields
line_rest (suc column) fields = fields_behind fields

-- the fields of a line from a column on stand in a buffer of 2,400 bytes in front of what is at its end, with room for those before
pub record LineFrom (kinds : List Kind) (values : List ℕ) (end : ℕ) (after text : List ℕ) (at column : ℕ) : Type 0 where
  pub line_is : drop at text ≡ line_rest column (drop column (row_texts 0 kinds values)) ++ after
  pub room : end + column * 24 ≤ at + 1 + length kinds * 24
  pub inside : at ≤ 2400
  pub long : length text ≡ 2400
  pub within : column ≤ length kinds
