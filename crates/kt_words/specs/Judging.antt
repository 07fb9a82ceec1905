-- Whether the words of a tool go together, once all were read.
-- The rules: docs/COMMANDS.md, "Words".
use Rattle.std.specs.Prelude.{ℕ, ◌+◌, Bool, true, false, Option, Some, None, Result, Ok, Err, find, not, ◌==◌, ◌&&◌, ◌||◌, if◌then◌else◌}
use Rattle.std.specs.List.{list_any}
use Rattle.kt_rec.specs.declared.perspective.Perspective.{Perspective}
use Rattle.kt_rec.specs.declared.perspective.Perspective.TheVariants.{Ri}
use Rattle.kt_rec.specs.declared.table.Table.{Table}
use Rattle.kt_rec.specs.declared.table.Table.TheVariants.{Occurrence}
use Rattle.kt_words.specs.Given.{given_at, given_word, is_given, has_choice, place_of}
use Rattle.kt_words.specs.Rows.{option_of_rule, wants_at}
use Rattle.kt_words.specs.Table.{options_of, plain_of, rules_of}
use Rattle.kt_words.specs.declared.given.Given.{Given}
use Rattle.kt_words.specs.declared.given.Awaited.{Awaited}
use Rattle.kt_words.specs.declared.given.GivenWord.{GivenWord}
use Rattle.kt_words.specs.declared.rows.Condition.{Condition}
use Rattle.kt_words.specs.declared.rows.Condition.TheVariants.{Always, Absent, Zero, Net, NotNet, Periods, NoPeriods}
use Rattle.kt_words.specs.declared.rows.OptionRow.{OptionRow}
use Rattle.kt_words.specs.declared.rows.OptionRow.TheVariants.{Free, Needed, OneOf}
use Rattle.kt_words.specs.declared.rows.Rule.{Rule}
use Rattle.kt_words.specs.declared.rows.Rule.TheVariants.{NeededWhere, RefusedWhere}
use Rattle.kt_words.specs.declared.stop.WordCause.{WordCause}
use Rattle.kt_words.specs.declared.stop.WordCause.TheVariants.{Missing, NeedsValue, NotTogether}
use Rattle.kt_words.specs.declared.stop.WordStop.{WordStop}
use Rattle.kt_words.specs.declared.tool.Tool.{Tool}
use Rattle.kt_words.specs.declared.value.Value.{Value}
use Rattle.kt_words.specs.declared.value.Value.TheVariants as value

-- the word of this number is refused
abbrev pub refused_word : {A : Type 0} → ℕ → WordCause → Result A WordStop
refused_word word cause = Err (record { word = word; cause = cause })

-- the number 0
abbrev pub is_nought : Value → Bool
is_nought (value.Number number) = number == 0
is_nought other = false

-- a word said the number 0
abbrev pub is_zero : Option GivenWord → Bool
is_zero None = false
is_zero (Some given) = is_nought given.value

abbrev pub is_ri : Perspective → Bool
is_ri Ri = true
is_ri other = false

-- losses net of reinsurance
abbrev pub is_net_losses : Value → Bool
is_net_losses (value.Losses losses) = is_ri losses
is_net_losses other = false

-- a word said `ri`
abbrev pub is_net : Option GivenWord → Bool
is_net None = false
is_net (Some given) = is_net_losses given.value

abbrev pub is_occurrence : Table → Bool
is_occurrence Occurrence = true
is_occurrence other = false

-- the table whose file says how many periods there are
abbrev pub is_with_periods : Value → Bool
is_with_periods (value.Table table) = is_occurrence table
is_with_periods other = false

-- a word said `occurrence`
abbrev pub has_periods : Option GivenWord → Bool
has_periods None = false
has_periods (Some given) = is_with_periods given.value

-- the words said this
abbrev pub holds : Given → Condition → Bool
holds given Always = true
holds given (Absent letter) = not (is_given given letter)
holds given (Zero letter) = is_zero (given_at given letter)
holds given (Net letter) = is_net (given_at given letter)
holds given (NotNet letter) = not (is_net (given_at given letter))
holds given Periods = has_periods given.first
holds given NoPeriods = not (has_periods given.first)

-- an option is needed and was not given
abbrev pub lacks_option : Given → Tool → OptionRow → Bool
lacks_option given tool (Free letter form) = false
lacks_option given tool (Needed letter form) = not (is_given given letter)
lacks_option given tool (OneOf choice letter form) = not (has_choice given tool choice)

-- an option is needed by a rule and was not given
abbrev pub lacks_by_rule : Given → Rule → Bool
lacks_by_rule given (NeededWhere letter condition) = holds given condition && not (is_given given letter)
lacks_by_rule given (RefusedWhere letter one other) = false

-- an option of the tool is needed and was not given
abbrev pub lacks_some : Given → Tool → Bool
lacks_some given tool = list_any (λ row. lacks_option given tool row) (options_of tool)

-- a rule of the tool needs an option that was not given
abbrev pub lacks_by_some_rule : Given → Tool → Bool
lacks_by_some_rule given tool = list_any (λ rule. lacks_by_rule given rule) (rules_of tool)

-- a word is needed and was not given
abbrev pub is_missing : Given → Tool → Bool
is_missing given tool =
    wants_at (plain_of tool) (place_of given)
    || (lacks_some given tool || lacks_by_some_rule given tool)

-- a rule refuses an option that was given
abbrev pub refuses : Given → Rule → Bool
refuses given (NeededWhere letter condition) = false
refuses given (RefusedWhere letter one other) = is_given given letter && (holds given one && holds given other)

-- the first rule of a tool that refuses an option that was given
abbrev pub broken_rule : Given → Tool → Option Rule
broken_rule given tool = find (λ rule. refuses given rule) (rules_of tool)

-- the number of the option's word that a rule speaks of
abbrev pub word_by_rule : Given → Option Rule → Option ℕ
word_by_rule given None = None
word_by_rule given (Some rule) = given_word given (option_of_rule rule)

-- one number, or else another
abbrev pub or_else : Option ℕ → Option ℕ → Option ℕ
or_else None other = other
or_else (Some word) other = Some word

-- the number of the option's word that does not go with the others: a second one of its choice, or one that a rule refuses.
-- Of the rules of one tool no words break two.
abbrev pub clash : Given → Tool → Option ℕ
clash given tool = or_else given.doubled (word_by_rule given (broken_rule given tool))

abbrev pub unless_clash : Option ℕ → Result Unit WordStop
unless_clash None = Ok tt
unless_clash (Some word) = refused_word word NotTogether

-- what is wrong with words that are right one by one: so many with that of the tool
abbrev pub judged : Given → Tool → ℕ → Result Unit WordStop
judged given tool count = if is_missing given tool then refused_word (count + 1) Missing else unless_clash (clash given tool)

abbrev pub unless_awaited : Option Awaited → Given → Tool → ℕ → Result Unit WordStop
unless_awaited (Some awaited) given tool count = refused_word count NeedsValue
unless_awaited None given tool count = judged given tool count

-- what is wrong with words that are right one by one: an option whose value is wanted is no last word
abbrev pub finished : Given → Tool → ℕ → Result Unit WordStop
finished given tool count = unless_awaited given.awaited given tool count
