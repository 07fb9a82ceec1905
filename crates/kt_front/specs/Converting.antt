-- What a conversion of a table from the source gives.
-- The rules: docs/COMMANDS.md, "tobin and tocsv".
use Rattle.std.specs.Prelude.{◌≡◌, Bool, true, false, ◌⊎◌, ◌≤◌, ◌<◌, ◌^◌, ℕ, List, [], length, codes, nat_le, Some, Result, Ok, Err, IfSome, if◌then◌else◌}
use Rattle.kt_out.specs.Counts.{Rose}
use Rattle.kt_out.specs.Reading.{SourceState}
use Rattle.kt_blocks.specs.declared.stop.TextStop.{TextStop}
use Rattle.kt_blocks.specs.declared.stop.TextStop.TheVariants as text
use Rattle.kt_cells.specs.declared.stop.TableStop.{TableStop}
use Rattle.kt_schema.specs.Conversions.{csv_bin, bin_csv}
use Rattle.kt_words.specs.declared.command.Conversion.{Conversion}
use Rattle.kt_words.specs.declared.command.Conversion.TheVariants.{ToFile, ToText}
use Rattle.kt_ends.specs.declared.status.Refusal.TheVariants as refusal
use Rattle.kt_ends.specs.Ending.{IsMissing}
use Rattle.kt_ends.specs.Endings.{nothing, writes_text}
use Rattle.kt_ends.specs.Outcome.{Outcome}
use Rattle.kt_ends.specs.Stops.{fault_stop, stop_status}
use Rattle.kt_ends.specs.World.{Uses}
use Rattle.kt_ends.specs.declared.status.Status.TheVariants as status
use Rattle.kt_ends.specs.declared.tool_stop.ToolStop.{ToolStop}
use Rattle.kt_ends.specs.declared.tool_stop.ToolStop.TheVariants.{Refused, ReadFault, WriteFault, NoMemory}
use Rattle.kt_front.specs.Loading.{table_stop}

-- a conversion uses the source, which it reads to its end before it judges it, and the sink, and the input files where it asks them
abbrev pub conversion_uses : Bool → Uses
conversion_uses asks = record { inputs = asks; outputs = false; source = true; whole = true; sink = true }

-- a source has at most so many bytes
abbrev pub source_limit : ℕ
source_limit = 2 ^ 30

-- the name of the source in a refusal
abbrev pub source_name : List ℕ
source_name = codes "source"

-- the other form of these bytes, or the first that is wrong in them
abbrev pub other_form : Conversion → List ℕ → Result (List ℕ) TableStop
other_form (ToFile t periods) bytes = csv_bin t periods bytes
other_form (ToText t) bytes = bin_csv t bytes

-- the whole source was read, or it is too large, or a read failed: a fault was counted exactly there
abbrev pub ReadsWhole : SourceState → SourceState → Result (List ℕ) ToolStop → Type 0
ReadsWhole before after (Ok bytes) = (after.faults ≡ before.faults) × (length bytes ≤ source_limit) × IfSome before.left (λ source. (source ≡ bytes) × (after.left ≡ Some []))
ReadsWhole before after (Err (Refused why)) = (after.faults ≡ before.faults) × (why ≡ refusal.TooLarge source_name) × IfSome before.left (λ source. source_limit < length source)
ReadsWhole before after (Err ReadFault) = Rose before.faults after.faults
ReadsWhole before after (Err WriteFault) = ⊥
ReadsWhole before after (Err NoMemory) = after.faults ≡ before.faults

-- the stop for a source that is too large, or want of memory for its name
abbrev pub IsTooLarge : ToolStop → Type 0
IsTooLarge (Refused why) = why ≡ refusal.TooLarge source_name
IsTooLarge ReadFault = ⊥
IsTooLarge WriteFault = ⊥
IsTooLarge NoMemory = Unit {0}

-- there is no text: it is refused, and not for a missing file, or memory is wanting
abbrev pub StopsText : Outcome → ToolStop → Type 0
StopsText outcome (Refused why) = (outcome ≡ nothing (status.Refused why)) × (IsMissing (status.Refused why) → ⊥)
StopsText outcome NoMemory = Unit {0}
StopsText outcome ReadFault = ⊥
StopsText outcome WriteFault = ⊥

-- the other form of a table, or its refusal
abbrev pub converted : Result (List ℕ) TableStop → Outcome
converted (Ok bytes) = writes_text bytes
converted (Err stop) = nothing (stop_status (table_stop source_name stop))

-- what is made of the source: one that is too large is refused, whatever else is wrong with it
abbrev pub within_limit : (List ℕ → Outcome) → List ℕ → Outcome
within_limit made source = if nat_le (length source) source_limit then made source else nothing (status.Refused (refusal.TooLarge source_name))

-- the conversion of the source
abbrev pub convert_outcome : Conversion → List ℕ → Outcome
convert_outcome conversion source = within_limit (λ bytes. converted (other_form conversion bytes)) source

-- the stop of a table of the source, or want of memory for its name
abbrev pub IsTableStop : TableStop → ToolStop → Type 0
IsTableStop why end = (end ≡ table_stop source_name why) ⊎ (end ≡ NoMemory)

-- how the tool ends by how the writing of a text of the source did
abbrev pub EndsText : {T U : Type 0} → Result T TextStop → Result U ToolStop → Type 0
EndsText (Ok written) (Ok done) = Unit {0}
EndsText (Ok written) (Err end) = ⊥
EndsText (Err stop) (Ok done) = ⊥
EndsText (Err (text.Refused why)) (Err end) = IsTableStop why end
EndsText (Err (text.Unwritten fault)) (Err end) = end ≡ fault_stop fault
