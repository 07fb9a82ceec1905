-- The line on standard error that says why a run was refused.
-- The rules: docs/REFUSALS.md, "Texts".
use Rattle.std.specs.Prelude.{ℕ, List, [], ◌++◌, codes}
use Rattle.kt_money.specs.NumberText.{count_text, money_text}
use Rattle.kt_stream.specs.declared.stop.RecordCause.{RecordCause}
use Rattle.kt_stream.specs.declared.stop.RecordCause.TheVariants as record_cause
use Rattle.kt_stream.specs.declared.stop.StreamStop.{StreamStop}
use Rattle.kt_stream.specs.declared.stop.StreamStop.TheVariants.{NotProfile, WrongStream, BadSamples, BadSet, BadRecord, Cut, TooLong}
use Rattle.kt_words.specs.declared.stop.WordCause.{WordCause}
use Rattle.kt_words.specs.declared.stop.WordCause.TheVariants.{Missing, UnknownTool, UnknownOption, Repeated, NeedsValue, BadValue, Unexpected, NotTogether, BadPart}
use Rattle.kt_rec.specs.declared.cause.Cause.{Cause}
use Rattle.kt_rec.specs.declared.cause.Cause.TheVariants as cause
use Rattle.kt_rec.specs.declared.foot_rows.RowCause.{RowCause}
use Rattle.kt_rec.specs.declared.foot_rows.RowCause.TheVariants as row_cause
use Rattle.kt_ends.specs.declared.status.Refusal.{Refusal}
use Rattle.kt_ends.specs.declared.status.Refusal.TheVariants as refusal
use Rattle.kt_ends.specs.declared.status.Status.{Status}
use Rattle.kt_ends.specs.declared.status.Status.TheVariants.{Done, Words, Refused, ReadFault, WriteFault}
use Rattle.kt_ends.specs.declared.status.Status.TheVariants as status

-- why a word is refused
abbrev pub cause_text : WordCause → List ℕ
cause_text Missing = codes "missing"
cause_text UnknownTool = codes "unknown tool"
cause_text UnknownOption = codes "unknown option"
cause_text Repeated = codes "repeated"
cause_text NeedsValue = codes "needs a value"
cause_text BadValue = codes "bad value"
cause_text Unexpected = codes "unexpected"
cause_text NotTogether = codes "not together"
cause_text BadPart = codes "bad part"

-- a byte of the stream, and what is wrong there
abbrev pub place_text : ℕ → List ℕ → List ℕ
place_text byte text = codes "byte " ++ (count_text byte ++ (codes ": " ++ text))

-- what is wrong with a field of a record
abbrev pub record_text : RecordCause → List ℕ
record_text record_cause.Id = codes "id"
record_text record_cause.Exposure = codes "exposure"
record_text record_cause.Empty = codes "empty"
record_text record_cause.Sidx = codes "sidx"
record_text record_cause.Loss = codes "loss"
record_text record_cause.End = codes "end"
record_text record_cause.Bins = codes "bins"
record_text record_cause.Prob = codes "prob"
record_text record_cause.Mean = codes "mean"

-- why a stream is refused
abbrev pub stream_text : StreamStop → List ℕ
stream_text NotProfile = codes "not of this profile"
stream_text (WrongStream found) = codes "wrong stream " ++ count_text found
stream_text (BadSamples found) = codes "bad samples " ++ count_text found
stream_text (BadSet found) = codes "bad set " ++ count_text found
stream_text (BadRecord byte why) = place_text byte (record_text why)
stream_text (Cut byte) = place_text byte (codes "cut")
stream_text TooLong = codes "too long"

-- what is wrong with a row or a field of a table
abbrev pub field_text : Cause → List ℕ
field_text cause.Columns = codes "columns"
field_text cause.NotANumber = codes "notanumber"
field_text cause.TooManyDigits = codes "toomanydigits"
field_text cause.ExponentRange = codes "exponentrange"
field_text cause.TooLarge = codes "toolarge"
field_text cause.Zero = codes "zero"
field_text cause.Rule = codes "rule"
field_text cause.Order = codes "order"

-- what is wrong with a row of an event's footprint
abbrev pub row_text : RowCause → List ℕ
row_text row_cause.Areaperil = codes "areaperil"
row_text row_cause.Intensity = codes "intensity"
row_text row_cause.Prob = codes "prob"
row_text row_cause.Twice = codes "twice"
row_text row_cause.Sum = codes "sum"

-- a file, and what is wrong with it
abbrev pub file_text : List ℕ → List ℕ → List ℕ
file_text name text = name ++ (codes ": " ++ text)

-- an event, and what is wrong with it
abbrev pub event_text : ℕ → List ℕ → List ℕ
event_text event text = codes "event " ++ (count_text event ++ (codes ": " ++ text))

-- why a run is refused
abbrev pub refusal_text : Refusal → List ℕ
refusal_text (refusal.Stream stop) = stream_text stop
refusal_text (refusal.UnknownId byte) = place_text byte (codes "unknown id")
refusal_text (refusal.LossSum byte) = place_text byte (codes "loss sum")
refusal_text (refusal.Row event row why) = codes "event " ++ (count_text event ++ (codes " row " ++ (count_text row ++ (codes ": " ++ row_text why))))
refusal_text (refusal.Cells event held) = event_text event (codes "cell limit")
refusal_text (refusal.Period event key held more) = event_text event (codes "period limit: " ++ (money_text held ++ (codes " + " ++ money_text more)))
refusal_text (refusal.File file stop) = codes "file " ++ (count_text file ++ (codes ": " ++ stream_text stop))
refusal_text (refusal.HeaderDiffers file) = codes "file " ++ (count_text file ++ (codes ": " ++ codes "header differs"))
refusal_text (refusal.Missing name) = file_text name (codes "missing")
refusal_text (refusal.TooLarge name) = file_text name (codes "too large")
refusal_text (refusal.NotProfile name) = file_text name (codes "not of this profile")
refusal_text (refusal.WrongTable name found) = file_text name (codes "wrong table " ++ count_text found)
refusal_text (refusal.WrongVersion name found) = file_text name (codes "wrong version " ++ count_text found)
refusal_text (refusal.CutRecord name row) = file_text name (codes "row " ++ (count_text row ++ codes ": cut record"))
refusal_text (refusal.Bad name row column why) =
    file_text name (codes "row " ++ (count_text row ++ (codes " column " ++ (count_text column ++ (codes ": " ++ field_text why)))))
refusal_text (refusal.Check number name row) = file_text name (codes "row " ++ (count_text row ++ (codes ": check " ++ count_text number)))

-- what a status says: nothing, unless the words or the input are refused
abbrev pub status_text : Status → List ℕ
status_text Done = []
status_text (Words stop) = codes "word " ++ (count_text stop.word ++ (codes ": " ++ cause_text stop.cause))
status_text (Refused why) = refusal_text why
status_text ReadFault = []
status_text WriteFault = []
status_text status.NoMemory = []

-- the line of a text
abbrev pub line : List ℕ → List ℕ
line text = codes "ktools: " ++ (text ++ codes "\n")

-- the line that a status has on standard error: none, unless the words or the input are refused
abbrev pub status_line : Status → List ℕ
status_line Done = []
status_line (Words stop) = line (status_text (Words stop))
status_line (Refused refusal) = line (status_text (Refused refusal))
status_line ReadFault = []
status_line WriteFault = []
status_line status.NoMemory = []

-- a status that has a line
abbrev pub IsRefused : Status → Type 0
IsRefused Done = ⊥
IsRefused (Words stop) = Unit {0}
IsRefused (Refused refusal) = Unit {0}
IsRefused ReadFault = ⊥
IsRefused WriteFault = ⊥
IsRefused status.NoMemory = ⊥
