-- How far a row is read, field by field.
-- The rule: docs/TABLES.md, "The first bad place".
use Rattle.std.specs.Prelude.{◌≡◌, ℕ, ◌+◌, ◌≤◌, Bool, List, ◌++◌, length, take, drop, Result, Ok}
use Rattle.kt_text.specs.PlainText.{EndsField, IsField, StandsBehind}
use Rattle.kt_cells.specs.Reading.{behind, row_values}
use Rattle.kt_cells.specs.Texts.{text_value}
use Rattle.kt_rec.specs.declared.kind.Kind.{Kind}
use Rattle.kt_rec.specs.declared.cause.Cause.{Cause}
use Rattle.kt_cells.specs.declared.stop.TableStop.{TableStop}

-- a row is read as far as its first values, and these cells are left, with this rule and floor for them
pub record RowRead (read : Kind → List ℕ → Result ℕ Cause) (row first : ℕ) (kinds : List Kind) (all : Result (List ℕ) TableStop) (values : List ℕ) (done rule least : ℕ) (left : List (List ℕ)) : Type 0 where
  pub so_far : all ≡ behind (take done values) (row_values read rule least row (first + done) (drop done kinds) left)
  pub width : length values ≡ length kinds

-- a field at the front of a text has this value, and this stands behind it, whatever follows
pub record ReadsField (kind : Kind) (at_end : Bool) (text rest : List ℕ) (value : ℕ) : Type 0 where
  pub size : ℕ
  pub within : size ≤ length text
  pub field : IsField text size
  pub good : text_value kind (take size text) ≡ Ok value
  pub behind : (more start : List ℕ) (fields : List (List ℕ)) → EndsField start fields (drop size text ++ more) → StandsBehind at_end start fields (rest ++ more)

-- a row of a text is read as far as its first fields, whatever fields follow and whatever its number is
pub record PlainRead (kinds : List Kind) (floor : ℕ) (text values : List ℕ) (done rule least : ℕ) (at_end : Bool) (rest : List ℕ) : Type 0 where
  pub fields : List (List ℕ)
  pub stands : StandsBehind at_end text fields rest
  pub counted : length fields ≡ done
  pub read : (number : ℕ) (more : List (List ℕ)) → RowRead text_value number 1 kinds (row_values text_value 0 floor number 1 kinds (fields ++ more)) values done rule least more
