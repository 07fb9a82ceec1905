-- A line of text: fields with commas between them and a line feed behind them.
-- The rule: docs/TABLES.md, "Texts of tables".
use Rattle.std.specs.Prelude.{ℕ, List, [], ◌∷◌, ◌++◌}

-- the fields behind the first, each with a comma in front, and the line feed
unfoldable pub fields_behind : List (List ℕ) → List ℕ
fields_behind [] = 10 ∷ []
fields_behind (field ∷ fields) = 44 ∷ field ++ fields_behind fields

-- a line
unfoldable pub line : List (List ℕ) → List ℕ
line [] = 10 ∷ []
line (field ∷ fields) = field ++ fields_behind fields
