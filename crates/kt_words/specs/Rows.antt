-- What a row of the table of words says.
-- The rules: docs/COMMANDS.md, "Words".
use Rattle.std.specs.Prelude.{ℕ, Bool, false, Option, Some, None, is_some, ◌==◌, if◌then◌else◌}
use Rattle.kt_words.specs.declared.rows.Form.{Form}
use Rattle.kt_words.specs.declared.rows.OptionRow.{OptionRow}
use Rattle.kt_words.specs.declared.rows.OptionRow.TheVariants.{Free, Needed, OneOf}
use Rattle.kt_words.specs.declared.rows.PlainRow.{PlainRow}
use Rattle.kt_words.specs.declared.rows.PlainRow.TheVariants.{Nothing, One, Two, Three, Many}
use Rattle.kt_words.specs.declared.rows.Rule.{Rule}
use Rattle.kt_words.specs.declared.rows.Rule.TheVariants.{NeededWhere, RefusedWhere}

-- an option's letter
abbrev pub letter_of : OptionRow → ℕ
letter_of (Free letter form) = letter
letter_of (Needed letter form) = letter
letter_of (OneOf choice letter form) = letter

-- the form of an option's value
abbrev pub form_of : OptionRow → Form
form_of (Free letter form) = form
form_of (Needed letter form) = form
form_of (OneOf choice letter form) = form

-- an option is one of this choice
abbrev pub is_of_choice : ℕ → OptionRow → Bool
is_of_choice choice (Free letter form) = false
is_of_choice choice (Needed letter form) = false
is_of_choice choice (OneOf own letter form) = own == choice

-- the letter of the option that a rule speaks of
abbrev pub option_of_rule : Rule → ℕ
option_of_rule (NeededWhere letter condition) = letter
option_of_rule (RefusedWhere letter one other) = letter

-- the form of the plain word behind so many others; of three and more alike
abbrev pub form_at : PlainRow → ℕ → Option Form
form_at Nothing place = None
form_at (One first) place = if place == 0 then Some first else None
form_at (Two first second) place = if place == 0 then Some first else (if place == 1 then Some second else None)
form_at (Three first second third) place = if place == 0 then Some first else (if place == 1 then Some second else (if place == 2 then Some third else None))
form_at (Many form) place = Some form

-- a plain word is needed behind so many others: each that has a place, and of many the first
abbrev pub wants_at : PlainRow → ℕ → Bool
wants_at (Many form) place = place == 0
wants_at plain place = is_some (form_at plain place)
