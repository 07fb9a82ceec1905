-- What the words of a tool promise once they were read.
-- The rules: docs/COMMANDS.md, "Words".
use Rattle.std.specs.Prelude.{◌≡◌, ◌≤◌, ℕ, Option, Some, None, Ok, IfSome}
use Rattle.kt_words.specs.Given.{given_at, option_named}
use Rattle.kt_words.specs.Judging.{finished}
use Rattle.kt_words.specs.Rows.{letter_of, form_of, form_at}
use Rattle.kt_words.specs.Table.{plain_of}
use Rattle.kt_words.specs.declared.given.Given.{Given}
use Rattle.kt_words.specs.declared.given.GivenWord.{GivenWord}
use Rattle.kt_words.specs.declared.rows.Form.{Form}
use Rattle.kt_words.specs.declared.rows.Form.TheVariants as form
use Rattle.kt_words.specs.declared.rows.OptionRow.{OptionRow}
use Rattle.kt_words.specs.declared.tool.Tool.{Tool}
use Rattle.kt_words.specs.declared.value.Value.{Value}
use Rattle.kt_words.specs.declared.value.Value.TheVariants as value

-- a value is a number from the least to the most
abbrev pub IsNumber : ℕ → ℕ → Value → Type 0
IsNumber least most (value.Number number) = (least ≤ number) × (number ≤ most)
IsNumber least most other = ⊥

-- a value is one of its form: a number is within its bounds, and a stage is from 1 to 9
abbrev pub Fits : Form → Value → Type 0
Fits (form.Number least most) said = IsNumber least most said
Fits form.Stage said = IsNumber 1 9 said
Fits other said = Unit {0}

-- a word that gave an option fits its form
abbrev pub FitsWord : Form → Option GivenWord → Type 0
FitsWord form None = Unit {0}
FitsWord form (Some given) = Fits form given.value

-- a plain word that was given behind so many others fits the form of its place
abbrev pub FitsPlace : Tool → ℕ → Option GivenWord → Type 0
FitsPlace tool place found = IfSome (form_at (plain_of tool) place) (λ form. FitsWord form found)

-- each option of the tool that was given has a value of its form, an option that waits for its value is one of the tool, and the first
-- three plain words have the forms of their places
pub record FitsTable (tool : Tool) (given : Given) : Type 0 where
  pub options : (letter : ℕ) (row : OptionRow) → option_named tool letter ≡ Some row → FitsWord (form_of row) (given_at given letter)
  pub awaited : IfSome given.awaited (λ awaited. option_named tool (letter_of awaited.option) ≡ Some awaited.option)
  pub first : FitsPlace tool 0 given.first
  pub second : FitsPlace tool 1 given.second
  pub third : FitsPlace tool 2 given.third

-- all words of a tool were read: they fit, and nothing is wrong with them together
pub record IsRead (tool : Tool) (given : Given) : Type 0 where
  pub fits : FitsTable tool given
  pub count : ℕ
  pub finished : finished given tool count ≡ Ok tt
