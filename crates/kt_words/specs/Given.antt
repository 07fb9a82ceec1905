-- What the words of a tool have said so far, word by word.
-- The rules: docs/COMMANDS.md, "Words".
use Rattle.std.specs.Prelude.{ℕ, List, Bool, false, Option, Some, None, Result, Ok, Err, is_some, length, drop, find, nat_lt, ◌==◌, ◌&&◌, ◌||◌, not, if◌then◌else◌, slice_index, slice_index_or, slice_set, replicate}
use Rattle.std.specs.List.{list_any}
use Rattle.kt_words.specs.Rows.{letter_of, form_of, is_of_choice, form_at}
use Rattle.kt_words.specs.Table.{options_of, plain_of}
use Rattle.kt_words.specs.Values.{value_of}
use Rattle.kt_words.specs.declared.given.Awaited.{Awaited}
use Rattle.kt_words.specs.declared.given.Given.{Given}
use Rattle.kt_words.specs.declared.given.GivenWord.{GivenWord}
use Rattle.kt_words.specs.declared.rows.Form.{Form}
use Rattle.kt_words.specs.declared.rows.Form.TheVariants as form
use Rattle.kt_words.specs.declared.rows.OptionRow.{OptionRow}
use Rattle.kt_words.specs.declared.rows.OptionRow.TheVariants.{Free, Needed, OneOf}
use Rattle.kt_words.specs.declared.stop.WordCause.{WordCause}
use Rattle.kt_words.specs.declared.stop.WordCause.TheVariants.{UnknownOption, Repeated, BadValue, Unexpected}
use Rattle.kt_words.specs.declared.tool.Tool.{Tool}
use Rattle.kt_words.specs.declared.value.Value.{Value}
use Rattle.kt_words.specs.declared.value.Value.TheVariants.{Bare}

-- no word was read
abbrev pub none_given : Given
none_given = record { options = replicate 256 None; first = None; second = None; third = None; doubled = None; awaited = None }

-- the word that gave the option of this letter
abbrev pub given_at : Given → ℕ → Option GivenWord
given_at given letter = slice_index_or given.options letter None

abbrev pub word_of : Option GivenWord → Option ℕ
word_of None = None
word_of (Some given) = Some given.word

-- the number of the word that gave the option of this letter
abbrev pub given_word : Given → ℕ → Option ℕ
given_word given letter = word_of (given_at given letter)

-- the option of this letter was given
abbrev pub is_given : Given → ℕ → Bool
is_given given letter = is_some (given_at given letter)

-- an option of this choice was given
abbrev pub has_choice : Given → Tool → ℕ → Bool
has_choice given tool choice = list_any (λ row. is_of_choice choice row && is_given given (letter_of row)) (options_of tool)

-- an option would be a second one of its choice
abbrev pub doubles : Given → Tool → OptionRow → Bool
doubles given tool (OneOf choice letter form) = has_choice given tool choice
doubles given tool (Free letter form) = false
doubles given tool (Needed letter form) = false

-- the number of the first word that is a second option of its choice, with an option more
abbrev pub doubled_by : Given → Tool → OptionRow → ℕ → Option ℕ
doubled_by given tool row word = if is_some given.doubled then given.doubled else (if doubles given tool row then Some word else None)

-- with the option of this letter
abbrev pub with_entry : Given → ℕ → GivenWord → List (Option GivenWord)
with_entry given letter entry = slice_set given.options letter (Some entry)

-- with an option, by what its value says
abbrev pub with_value : Given → Tool → OptionRow → ℕ → Value → Given
with_value given tool row word value = record given { options = with_entry given (letter_of row) (record { word = word; value = value }); doubled = doubled_by given tool row word; awaited = None }

abbrev pub value_or_bad : Given → Tool → OptionRow → ℕ → Option Value → Result Given WordCause
value_or_bad given tool row word None = Err BadValue
value_or_bad given tool row word (Some value) = Ok (with_value given tool row word value)

-- with an option whose word has that number, by the text of its value
abbrev pub with_text : Given → Tool → OptionRow → ℕ → List ℕ → Result Given WordCause
with_text given tool row word text = value_or_bad given tool row word (value_of (form_of row) text)

-- with a flag, to which nothing may be attached
abbrev pub with_flag : Given → Tool → OptionRow → ℕ → List ℕ → Result Given WordCause
with_flag given tool row word attached =
    if not (length attached == 0) then Err UnknownOption
    else (if is_given given (letter_of row) then Err Repeated else Ok (with_value given tool row word Bare))

-- with an option that has a value: what is attached to it, or else the next word
abbrev pub with_valued : Given → Tool → OptionRow → ℕ → List ℕ → Result Given WordCause
with_valued given tool row word attached =
    if is_given given (letter_of row) then Err Repeated
    else (if length attached == 0 then Ok (record given { awaited = Some (record { option = row; word = word }) }) else with_text given tool row word attached)

abbrev pub by_form : Form → Given → Tool → OptionRow → ℕ → List ℕ → Result Given WordCause
by_form form.Flag given tool row word attached = with_flag given tool row word attached
by_form form given tool row word attached = with_valued given tool row word attached

-- with an option of the tool, to which so much is attached
abbrev pub with_row : Given → Tool → OptionRow → ℕ → List ℕ → Result Given WordCause
with_row given tool row word attached = by_form (form_of row) given tool row word attached

-- the option of a tool with this letter
abbrev pub option_named : Tool → ℕ → Option OptionRow
option_named tool letter = find (λ row. letter_of row == letter) (options_of tool)

abbrev pub row_or_unknown : Option OptionRow → Given → Tool → ℕ → List ℕ → Result Given WordCause
row_or_unknown None given tool word attached = Err UnknownOption
row_or_unknown (Some row) given tool word attached = with_row given tool row word attached

-- with an option by its letter, to which so much is attached
abbrev pub with_option : Given → Tool → ℕ → ℕ → List ℕ → Result Given WordCause
with_option given tool word letter attached = row_or_unknown (option_named tool letter) given tool word attached

abbrev pub place_by : Option GivenWord → Option GivenWord → Option GivenWord → ℕ
place_by None second third = 0
place_by (Some one) None third = 1
place_by (Some one) (Some two) None = 2
place_by (Some one) (Some two) (Some three) = 3

-- how many plain words were given, of three and more three
abbrev pub place_of : Given → ℕ
place_of given = place_by given.first given.second given.third

-- with a plain word more, of which the first three are kept
abbrev pub with_place : Given → GivenWord → Given
with_place given entry =
    if place_of given == 0 then record given { first = Some entry }
    else (if place_of given == 1 then record given { second = Some entry }
    else (if place_of given == 2 then record given { third = Some entry } else given))

abbrev pub place_or_bad : Given → ℕ → Option Value → Result Given WordCause
place_or_bad given word None = Err BadValue
place_or_bad given word (Some value) = Ok (with_place given (record { word = word; value = value }))

abbrev pub plain_by : Option Form → Given → ℕ → List ℕ → Result Given WordCause
plain_by None given word text = Err Unexpected
plain_by (Some form) given word text = place_or_bad given word (value_of form text)

-- with a plain word of that number
abbrev pub with_plain : Given → Tool → ℕ → List ℕ → Result Given WordCause
with_plain given tool word text = plain_by (form_at (plain_of tool) (place_of given)) given word text

-- with a word that is an option or a plain word
abbrev pub with_own : Given → Tool → ℕ → List ℕ → Result Given WordCause
with_own given tool word text =
    if (length text == 0 || not (slice_index text 0 == 45)) then with_plain given tool word text
    else (if length text == 1 then Err UnknownOption else with_option given tool word (slice_index text 1) (drop 2 text))

-- with a word that is the value of the option before it, or a word of its own
abbrev pub with_next : Option Awaited → Given → Tool → ℕ → List ℕ → Result Given WordCause
with_next (Some awaited) given tool word text = with_text given tool awaited.option awaited.word text
with_next None given tool word text = with_own given tool word text

-- with one word more, of this number, or what is wrong with it
abbrev pub with_word : Given → Tool → ℕ → List ℕ → Result Given WordCause
with_word given tool word text = if nat_lt 255 (length text) then Err BadValue else with_next given.awaited given tool word text
