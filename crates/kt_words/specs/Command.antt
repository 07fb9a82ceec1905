-- What the words of a call ask for, and the first faulty word.
-- The rules: docs/COMMANDS.md, "Words".
use Rattle.std.specs.Prelude.{◌≡◌, ◌≤◌, ◌==◌, ℕ, List, [], ◌∷◌, true, Option, Some, None, Result, Ok, Err, not, if◌then◌else◌}
use Rattle.kt_eve.specs.Parts.{has_part}
use Rattle.kt_rec.specs.declared.table.Table.{Table}
use Rattle.kt_rec.specs.declared.table.Table.TheVariants as table
use Rattle.kt_words.specs.Given.{given_at, is_given}
use Rattle.kt_words.specs.Judging.{refused_word}
use Rattle.kt_words.specs.Reading.{given_by}
use Rattle.kt_words.specs.Tools.{known_tool}
use Rattle.kt_words.specs.declared.command.Command.{Command}
use Rattle.kt_words.specs.declared.command.Command.TheVariants as command
use Rattle.kt_rec.specs.declared.curve.Curve.{Curve}
use Rattle.kt_rec.specs.declared.perspective.Perspective.{Perspective}
use Rattle.kt_rec.specs.declared.perspective.Perspective.TheVariants.{Gul, Il, Ri}
use Rattle.kt_rec.specs.declared.curve.Curve.TheVariants.{FullAep, FullOep, SampleAep, SampleOep, WheatAep, WheatOep, WheatmeanAep, WheatmeanOep}
use Rattle.kt_words.specs.declared.command.Conversion.{Conversion}
use Rattle.kt_words.specs.declared.command.Conversion.TheVariants.{ToFile, ToText}
use Rattle.kt_words.specs.declared.given.Given.{Given}
use Rattle.kt_words.specs.declared.given.GivenWord.{GivenWord}
use Rattle.kt_words.specs.declared.stop.WordCause.{WordCause}
use Rattle.kt_words.specs.declared.stop.WordCause.TheVariants.{Missing, BadPart}
use Rattle.kt_words.specs.declared.stop.WordStop.{WordStop}
use Rattle.kt_words.specs.declared.tool.Tool.{Tool}
use Rattle.kt_words.specs.declared.tool.Tool.TheVariants as tool
use Rattle.kt_words.specs.declared.value.Value.{Value}
use Rattle.kt_words.specs.declared.value.Value.TheVariants as value

-- no text is made of the footprint without its index
abbrev pub IsConversion : Conversion → Type 0
IsConversion (ToFile t periods) = Unit {0}
IsConversion (ToText t) = t ≡ table.Footprint → ⊥

-- a summary set is from 1 to 9
abbrev pub IsSet : ℕ → Type 0
IsSet set = (1 ≤ set) × (set ≤ 9)

-- net losses are those of items, behind one reinsurance stage or more
abbrev pub AreNet : Perspective → ℕ → ℕ → Type 0
AreNet Gul rule stages = Unit {0}
AreNet Il rule stages = Unit {0}
AreNet Ri rule stages = (1 ≤ rule) × (1 ≤ stages)

-- a run of all stages: 1 to 1,000 samples, an allocation rule, at most nine reinsurance stages, 1 to 16 workers, and parts of 1 to 4 events
pub record IsChain (samples rule : ℕ) (last : Perspective) (stages workers batch : ℕ) : Type 0 where
  pub some_samples : 1 ≤ samples
  pub few_samples : samples ≤ 1000
  pub known_rule : rule ≤ 2
  pub few_stages : stages ≤ 9
  pub net : AreNet last rule stages
  pub some_workers : 1 ≤ workers
  pub few_workers : workers ≤ 16
  pub some_events : 1 ≤ batch
  pub few_events : batch ≤ 4

-- a run over a made-up set: 1 to 9,000 items, 1 to 10,000 events, and 1 to 16 workers
pub record IsGen (items events workers : ℕ) : Type 0 where
  pub some_items : 1 ≤ items
  pub few_items : items ≤ 9000
  pub some_events : 1 ≤ events
  pub few_events : events ≤ 10000
  pub some_workers : 1 ≤ workers
  pub few_workers : workers ≤ 16

-- what every command keeps: an allocation rule, of net losses 1 or 2, and a stage, a summary set, a conversion and a part that there is, and 1 to 1,000 samples
abbrev pub IsCommand : Command → Type 0
IsCommand (command.Fmcalc rule) = rule ≤ 2
IsCommand (command.FmcalcNet rule stage) = (1 ≤ rule) × (rule ≤ 2) × (stage ≤ 9)
IsCommand (command.Summarycalc items set rule) = IsSet set
IsCommand (command.Eltcalc heading) = Unit {0}
IsCommand (command.Pltcalc heading) = Unit {0}
IsCommand command.Aalcalc = Unit {0}
IsCommand (command.Leccalc curve) = Unit {0}
IsCommand command.Kat = Unit {0}
IsCommand command.Getmodel = Unit {0}
IsCommand (command.Gulcalc samples cut) = (1 ≤ samples) × (samples ≤ 1000)
IsCommand (command.Convert conversion) = IsConversion conversion
IsCommand command.FootprintText = Unit {0}
IsCommand (command.Eve part parts) = has_part part parts ≡ true
IsCommand (command.Chain samples cut rule last stages workers batch) = IsChain samples rule last stages workers batch
IsCommand (command.Gen seed items events workers) = IsGen items events workers

abbrev pub number_in : Value → ℕ
number_in (value.Number number) = number
number_in other = 0

-- the number that a word said; 0 where there is none
abbrev pub number_or_0 : Option GivenWord → ℕ
number_or_0 None = 0
number_or_0 (Some given) = number_in given.value

-- the number that a word said; the other number where there is none
abbrev pub number_or : Option GivenWord → ℕ → ℕ
number_or None other = other
number_or (Some given) other = number_in given.value

-- the summary set whose option was given: of -1 to -9 one is, and 9 is left where it is none of the others
abbrev pub set_given : Given → ℕ
set_given given =
    if is_given given 49 then 1 else (if is_given given 50 then 2 else (if is_given given 51 then 3 else (if is_given given 52 then 4
    else (if is_given given 53 then 5 else (if is_given given 54 then 6 else (if is_given given 55 then 7 else (if is_given given 56 then 8 else 9)))))))

-- the curve whose letter was given: of F f S s W w M m one was, and m is left where it is none of the others
abbrev pub curve_given : Given → Curve
curve_given given =
    if is_given given 70 then FullAep else (if is_given given 102 then FullOep else (if is_given given 83 then SampleAep else (if is_given given 115 then SampleOep
    else (if is_given given 87 then WheatAep else (if is_given given 119 then WheatOep else (if is_given given 77 then WheatmeanAep else WheatmeanOep))))))

abbrev pub table_in : Value → Table
table_in (value.Table t) = t
table_in other = table.Events

-- the table that a word said; the first where there is none
abbrev pub table_or_first : Option GivenWord → Table
table_or_first None = table.Events
table_or_first (Some given) = table_in given.value

abbrev pub losses_in : Value → Perspective
losses_in (value.Losses perspective) = perspective
losses_in other = Gul

-- the losses that a word said; ground-up losses where there is none
abbrev pub losses_or_first : Option GivenWord → Perspective
losses_or_first None = Gul
losses_or_first (Some given) = losses_in given.value

-- the number of a word; 0 where there is none
abbrev pub word_or_0 : Option GivenWord → ℕ
word_or_0 None = 0
word_or_0 (Some given) = given.word

-- the text of a table: that of the footprint needs its index too
abbrev pub to_text : Table → Command
to_text table.Footprint = command.FootprintText
to_text t = command.Convert (ToText t)

-- part `part` of `parts`, where there is one; else the first plain word, of this number, is refused
abbrev pub part_command : ℕ → ℕ → ℕ → Result Command WordStop
part_command part parts word = if has_part part parts then Ok (command.Eve part parts) else refused_word word BadPart

-- the part of the event list by its number and how many there are
abbrev pub eve_command : Given → Result Command WordStop
eve_command given = part_command (number_or_0 given.first) (number_or_0 given.second) (word_or_0 given.first)

-- insured losses by the value of -a, or with -n losses net of the base, or with -p too net of the stage that it names
abbrev pub financial_command : Given → Command
financial_command given =
    if is_given given 110 then command.FmcalcNet (number_or_0 (given_at given 97)) (number_or_0 (given_at given 112))
    else command.Fmcalc (number_or_0 (given_at given 97))

-- the summaries of a set: of items where -i was given, by rule 2 where -a was left out
abbrev pub summary_command : Given → Command
summary_command given = command.Summarycalc (is_given given 105) (set_given given) (number_or (given_at given 97) 2)

-- a run of all stages by the values of -S, -g, -a, -l, -r, -w and -b: where -g is left out the losses of a coverage are cut, and where -a,
-- -w or -b is, rule 2, one worker or parts of four events
abbrev pub chain_command : Given → Command
chain_command given =
    command.Chain (number_or_0 (given_at given 83)) (number_or (given_at given 103) 1 == 1) (number_or (given_at given 97) 2) (losses_or_first (given_at given 108))
    (number_or_0 (given_at given 114)) (number_or (given_at given 119) 1) (number_or (given_at given 98) 4)

-- a run over a made-up set by its seed, its items and its events, and the value of -w: where it is left out, one worker
abbrev pub gen_command : Given → Command
gen_command given = command.Gen (number_or_0 given.first) (number_or_0 given.second) (number_or_0 given.third) (number_or (given_at given 119) 1)

-- the command of a tool by what its words said: of `eltcalc` and `pltcalc` whether -s was left out, of `gulcalc` the values of -S and
-- of -a, of `tobin` the value of -P
abbrev pub command_from : Tool → Given → Result Command WordStop
command_from tool.Fmcalc given = Ok (financial_command given)
command_from tool.Summarycalc given = Ok (summary_command given)
command_from tool.Eltcalc given = Ok (command.Eltcalc (not (is_given given 115)))
command_from tool.Pltcalc given = Ok (command.Pltcalc (not (is_given given 115)))
command_from tool.Aalcalc given = Ok command.Aalcalc
command_from tool.Leccalc given = Ok (command.Leccalc (curve_given given))
command_from tool.Kat given = Ok command.Kat
command_from tool.Getmodel given = Ok command.Getmodel
command_from tool.Gulcalc given = Ok (command.Gulcalc (number_or_0 (given_at given 83)) (number_or_0 (given_at given 97) == 1))
command_from tool.Tobin given = Ok (command.Convert (ToFile (table_or_first given.first) (number_or_0 (given_at given 80))))
command_from tool.Tocsv given = Ok (to_text (table_or_first given.first))
command_from tool.Eve given = eve_command given
command_from tool.Chain given = Ok (chain_command given)
command_from tool.Gen given = Ok (gen_command given)

abbrev pub command_by : Tool → Result Given WordStop → Result Command WordStop
command_by tool (Ok given) = command_from tool given
command_by tool (Err stop) = Err stop

abbrev pub by_tool : Result Tool WordCause → List (List ℕ) → Result Command WordStop
by_tool (Ok tool) words = command_by tool (given_by tool words)
by_tool (Err cause) words = refused_word 1 cause

-- the command that the words are, or the first faulty word
abbrev pub command_of : List (List ℕ) → Result Command WordStop
command_of [] = refused_word 1 Missing
command_of (word ∷ words) = by_tool (known_tool word) (word ∷ words)
