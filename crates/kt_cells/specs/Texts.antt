-- The texts of fields: how one is read by its kind, and how it is written.
-- The rules: docs/TABLES.md, "Texts of tables", "Numbers in a text".
use Rattle.std.specs.Prelude.{ℕ, ◌==◌, Bool, List, [], ◌∷◌, Result, Ok, Err, if◌then◌else◌}
use Rattle.kt_money.specs.NumberText.{count_text, plain}
use Rattle.kt_text.specs.Numbers.{count_value, decimal_value}
use Rattle.kt_text.specs.declared.bad_text.BadText.{BadText}
use Rattle.kt_rec.specs.Kinds.{decimals, in_range, under}
use Rattle.kt_text.specs.Rows.{csv_rows}
use Rattle.kt_cells.specs.Reading.{and_then, rule_after, table_rows}
use Rattle.kt_cells.specs.Stops.{cause_of}
use Rattle.kt_rec.specs.declared.kind.Kind.{Kind}
use Rattle.kt_rec.specs.declared.kind.Kind.TheVariants as kind
use Rattle.kt_rec.specs.declared.cause.Cause.{Cause}
use Rattle.kt_cells.specs.declared.stop.TableStop.{TableStop}

-- a number, or the cause why a text stands for none
abbrev pub or_cause : Result ℕ BadText → Result ℕ Cause
or_cause (Ok value) = Ok value
or_cause (Err text) = Err (cause_of text)

-- the number that a text with so many decimals stands for
abbrev pub number_in : ℕ → List ℕ → Result ℕ BadText
number_in scale text = if scale == 0 then count_value text else decimal_value scale text

-- the value that the text of a field gives
unfoldable pub text_value : Kind → List ℕ → Result ℕ Cause
text_value kind text = and_then (or_cause (number_in (decimals kind) text)) (in_range kind)

-- the text of a value
abbrev pub value_text : Kind → ℕ → List ℕ
value_text kind value = if decimals kind == 0 then count_text value else plain (decimals kind) value

-- the texts of a row, a term by the rule before it
unfoldable pub row_texts : ℕ → List Kind → List ℕ → List (List ℕ)
row_texts rule [] values = []
row_texts rule (kind ∷ kinds) [] = []
row_texts rule (kind ∷ kinds) (value ∷ values) =
    value_text (under rule kind) value ∷ row_texts (rule_after rule kind value) kinds values

-- the rows of a text, its heading left out
unfoldable pub text_rows : Bool → List Kind → List ℕ → Result (List (List ℕ)) TableStop
text_rows ordered kinds text = table_rows text_value ordered 1 kinds 0 1 (csv_rows text)
