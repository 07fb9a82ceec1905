-- The value of a row and a column.
-- The rule: docs/ARCHITECTURE.md, "One form for each thing".
use Rattle.std.specs.Prelude.{ℕ, List, [], slice_index_or}

-- the row of a table, counted from 0
abbrev pub row_at : {C : Type 0} → List (List C) → ℕ → List C
row_at rows row = slice_index_or rows row []

-- the value of a row and a column, both counted from 0
abbrev pub value_at : List (List ℕ) → ℕ → ℕ → ℕ
value_at rows row column = slice_index_or (row_at rows row) column 0
