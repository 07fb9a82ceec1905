-- Which faults the calls of a stage and of the loop count, by how they end.
-- The rules: docs/REFUSALS.md, "Statuses".
use Rattle.std.specs.Prelude.{◌≡◌, ◌⊎◌, ℕ, Result, Ok, Err}
use Rattle.kt_out.specs.Counts.{Rose}
use Rattle.kt_out.specs.InputFiles.{InputsState, CountsFault}
use Rattle.kt_ends.specs.declared.status.Refusal.TheVariants as refusal
use Rattle.kt_ends.specs.declared.tool_stop.ToolStop.{ToolStop}
use Rattle.kt_ends.specs.declared.tool_stop.ToolStop.TheVariants as stop

-- what a call of a stage leaves of the input files: a fault was counted exactly where it is answered; a missing file is none of its answers
abbrev pub Consults : {T : Type 0} → InputsState → InputsState → Result T ToolStop → Type 0
Consults before after (Ok done) = after ≡ before
Consults before after (Err (stop.Refused (refusal.Missing name))) = ⊥
Consults before after (Err stop.ReadFault) = CountsFault before after
Consults before after (Err stop.WriteFault) = ⊥
Consults before after (Err other) = after ≡ before

-- what writing leaves of the sink's count of faults
abbrev pub CountsWrite : {T : Type 0} → ℕ → ℕ → Result T ToolStop → Type 0
CountsWrite before after (Ok done) = after ≡ before
CountsWrite before after (Err stop.WriteFault) = Rose before after
CountsWrite before after (Err stop.NoMemory) = after ≡ before
CountsWrite before after (Err other) = ⊥

-- the same of both for calls that write too, by a stop
abbrev pub CountsStop : InputsState → InputsState → ℕ → ℕ → ToolStop → Type 0
CountsStop inputs inputs_now faults faults_now (stop.Refused (refusal.Missing name)) = ⊥
CountsStop inputs inputs_now faults faults_now stop.ReadFault = CountsFault inputs inputs_now × (faults_now ≡ faults)
CountsStop inputs inputs_now faults faults_now stop.WriteFault = (inputs_now ≡ inputs) × Rose faults faults_now
CountsStop inputs inputs_now faults faults_now other = (inputs_now ≡ inputs) × (faults_now ≡ faults)

-- and by an answer
abbrev pub Counts : {T : Type 0} → InputsState → InputsState → ℕ → ℕ → Result T ToolStop → Type 0
Counts inputs inputs_now faults faults_now (Ok done) = (inputs_now ≡ inputs) × (faults_now ≡ faults)
Counts inputs inputs_now faults faults_now (Err why) = CountsStop inputs inputs_now faults faults_now why

-- what reading leaves of the source's count of faults, beside the input files and the sink
abbrev pub CountsRead : {T : Type 0} → InputsState → InputsState → ℕ → ℕ → ℕ → ℕ → Result T ToolStop → Type 0
CountsRead inputs inputs_now reads reads_now faults faults_now (Ok done) = (inputs_now ≡ inputs) × (reads_now ≡ reads) × (faults_now ≡ faults)
CountsRead inputs inputs_now reads reads_now faults faults_now (Err (stop.Refused (refusal.Missing name))) = ⊥
CountsRead inputs inputs_now reads reads_now faults faults_now (Err stop.ReadFault) = ((CountsFault inputs inputs_now × (reads_now ≡ reads)) ⊎ ((inputs_now ≡ inputs) × Rose reads reads_now)) × (faults_now ≡ faults)
CountsRead inputs inputs_now reads reads_now faults faults_now (Err stop.WriteFault) = (inputs_now ≡ inputs) × (reads_now ≡ reads) × Rose faults faults_now
CountsRead inputs inputs_now reads reads_now faults faults_now (Err other) = (inputs_now ≡ inputs) × (reads_now ≡ reads) × (faults_now ≡ faults)

-- the same of a stop
abbrev pub StopCounts : InputsState → InputsState → ℕ → ℕ → ℕ → ℕ → ToolStop → Type 0
StopCounts inputs inputs_now reads reads_now faults faults_now why = CountsRead {T = Unit {0}} inputs inputs_now reads reads_now faults faults_now (Err why)
