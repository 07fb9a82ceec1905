-- What a word says, by its form.
-- The rules: docs/COMMANDS.md, "Words".
use Rattle.std.specs.Prelude.{ℕ, ◌-◌, List, Option, Some, None, Result, Ok, Err, Bool, length, take, find, nat_le, ◌==◌, ◌&&◌, codes, if◌then◌else◌, slice_index}
use Rattle.std.specs.Char.{is_ascii_digit}
use Rattle.std.specs.List.{list_all}
use Rattle.std.specs.Str.{bytes_eq}
use Rattle.kt_text.specs.Numbers.{count_value}
use Rattle.kt_text.specs.declared.bad_text.BadText.{BadText}
use Rattle.kt_rec.specs.Descriptions.{tables}
use Rattle.kt_rec.specs.TableNames.{name_of}
use Rattle.kt_rec.specs.declared.perspective.Perspective.TheVariants.{Gul, Il, Ri}
use Rattle.kt_rec.specs.declared.table.Table.{Table}
use Rattle.kt_words.specs.declared.rows.Form.{Form}
use Rattle.kt_words.specs.declared.rows.Form.TheVariants as form
use Rattle.kt_words.specs.declared.value.Value.{Value}
use Rattle.kt_words.specs.declared.value.Value.TheVariants as value

-- a number that was read without a fault
abbrev pub read_number : Result ℕ BadText → Option ℕ
read_number (Ok number) = Some number
read_number (Err bad) = None

-- a word is at most 10 digits
abbrev pub has_number_form : List ℕ → Bool
has_number_form word = nat_le (length word) 10 && list_all is_ascii_digit word

-- the number that a word is: 1 to 10 digits
abbrev pub number_of_word : List ℕ → Option ℕ
number_of_word word = if has_number_form word then read_number (count_value word) else None

-- a number from the least to the most
abbrev pub in_range : ℕ → ℕ → Option ℕ → Option Value
in_range least most None = None
in_range least most (Some number) = if (nat_le least number && nat_le number most) then Some (value.Number number) else None

-- the number that a word is, from the least to the most
abbrev pub number_within : ℕ → ℕ → List ℕ → Option Value
number_within least most word = in_range least most (number_of_word word)

-- the perspective that a word names
abbrev pub losses_named : List ℕ → Option Value
losses_named word =
    if bytes_eq word (codes "gul") then Some (value.Losses Gul)
    else (if bytes_eq word (codes "il") then Some (value.Losses Il)
    else (if bytes_eq word (codes "ri") then Some (value.Losses Ri) else None))

-- a digit from 1 to 9
abbrev pub stage_digit : ℕ → Option Value
stage_digit digit = if (nat_le 49 digit && nat_le digit 57) then Some (value.Number (digit - 48)) else None

-- the stage that a word names: `RI_` and a digit from 1 to 9
abbrev pub stage_named : List ℕ → Option Value
stage_named word = if (length word == 4 && bytes_eq (take 3 word) (codes "RI_")) then stage_digit (slice_index word 3) else None

-- a table as what a word says
abbrev pub table_value : Option Table → Option Value
table_value None = None
table_value (Some t) = Some (value.Table t)

-- the table of this name
abbrev pub table_named : List ℕ → Option Value
table_named word = table_value (find (λ t. bytes_eq (name_of t) word) tables)

-- what a word of this form says; none where it has not the form
abbrev pub value_of : Form → List ℕ → Option Value
value_of form.Flag word = None
value_of (form.Number least most) word = number_within least most word
value_of form.Dash word = if bytes_eq word (codes "-") then Some value.Bare else None
value_of form.Losses word = losses_named word
value_of form.Stage word = stage_named word
value_of form.TableName word = table_named word
value_of form.FileName word = Some value.Bare
