-- Fields that stand in a text as they are, and the ends of lines.
-- The rule: docs/TABLES.md, "Texts of tables".
use Rattle.std.specs.Prelude.{◌≡◌, ℕ, ◌+◌, ◌<◌, ◌==◌, ◌&&◌, ◌||◌, ◌⊎◌, nat_lt, Bool, true, false, not, List, [], ◌∷◌, ◌++◌, take, drop}
use Rattle.std.specs.Char.{is_ascii_digit}
use Rattle.std.specs.List.{prefix_len, position_or_len}
use Rattle.csv.specs.Writing.{default_writer, needs_quotes}
use Rattle.csv.specs.Reading.{records, default_config, is_bom, strip_bom}
use Rattle.csv.specs.Machine.{next_record}
use Rattle.csv.specs.declared.parser.State.TheVariants as st

-- all records of a text, its heading with them
abbrev pub csv_records : List ℕ → List (List (List ℕ))
csv_records text = records default_config (strip_bom text)

-- a field without commas, quotes and ends of lines
abbrev pub IsPlainField : List ℕ → Type 0
IsPlainField field = needs_quotes default_writer field ≡ false

-- a carriage return or a line feed
abbrev pub is_line_end : ℕ → Bool
is_line_end b = (b == 13) || (b == 10)

-- a text that begins with a comma
abbrev pub begins_with_comma : List ℕ → Bool
begins_with_comma [] = false
begins_with_comma (b ∷ rest) = b == 44

-- a text that begins with the end of a line
abbrev pub begins_with_line_end : List ℕ → Bool
begins_with_line_end [] = false
begins_with_line_end (b ∷ rest) = is_line_end b

-- a text that begins with a byte of a row
abbrev pub begins_with_row : List ℕ → Bool
begins_with_row [] = false
begins_with_row (b ∷ rest) = not (is_line_end b)

-- a text that begins with a byte order mark
abbrev pub begins_with_mark : List ℕ → Bool
begins_with_mark [] = false
begins_with_mark (a ∷ []) = false
begins_with_mark (a ∷ b ∷ []) = false
begins_with_mark (a ∷ b ∷ c ∷ rest) = is_bom a b c

-- a quote or the end of a line
abbrev pub ends_heading : ℕ → Bool
ends_heading b = (b == 34) || is_line_end b

-- a text that begins with a point
abbrev pub begins_with_point : List ℕ → Bool
begins_with_point [] = false
begins_with_point (b ∷ rest) = b == 46

-- how many digits stand at the front of a text
abbrev pub digits_before : List ℕ → ℕ
digits_before text = prefix_len is_ascii_digit text

-- behind the digits at the front of a text stands a point, and behind it no digit, or more than so many
abbrev pub LacksDecimals : ℕ → List ℕ → Type 0
LacksDecimals most text =
    let whole = digits_before text in
    (begins_with_point (drop whole text) ≡ true) × ((digits_before (drop (whole + 1) text) ≡ 0) ⊎ (most < digits_before (drop (whole + 1) text)))

-- the first line of a text has a byte or more, no quote, and an end
abbrev pub has_plain_heading : List ℕ → Bool
has_plain_heading text =
    let size = position_or_len ends_heading text in
    nat_lt 0 size && begins_with_line_end (drop size text)

-- these fields of the first record of a text are read, and the next one begins at the rest
pub record BeginsField (text : List ℕ) (fields : List (List ℕ)) (rest : List ℕ) : Type 0 where
  pub line : List ℕ
  pub same : csv_records text ≡ records default_config line
  pub read : next_record default_config st.StartRecord [] [] line ≡ next_record default_config st.StartField fields [] rest

-- these fields of the first record of a text are read, the last of them one without quotes, and the rest stands behind it
pub record EndsField (text : List ℕ) (fields : List (List ℕ)) (rest : List ℕ) : Type 0 where
  pub before : List (List ℕ)
  pub last : List ℕ
  pub fields_are : fields ≡ before ++ last ∷ []
  pub plain : IsPlainField last
  pub begins : BeginsField text before (last ++ rest)

-- where a field begins, so many bytes are one that ends there
abbrev pub IsField : List ℕ → ℕ → Type 0
IsField rest size = (text : List ℕ) (fields : List (List ℕ)) → BeginsField text fields rest → EndsField text (fields ++ take size rest ∷ []) (drop size rest)

-- behind a field the next one begins; behind the last the first record of the text is read, and the others stand in the rest
abbrev pub StandsBehind : Bool → List ℕ → List (List ℕ) → List ℕ → Type 0
StandsBehind false text fields rest = BeginsField text fields rest
StandsBehind true text fields rest = csv_records text ≡ fields ∷ csv_records rest
