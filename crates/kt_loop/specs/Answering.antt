-- What holds of an answer by what it is.
-- The rules: docs/REFUSALS.md, "Statuses".
use Rattle.std.specs.Prelude.{Result, Ok, Err}
use Rattle.kt_ends.specs.declared.status.Refusal.{Refusal}
use Rattle.kt_ends.specs.declared.tool_stop.ToolStop.{ToolStop}
use Rattle.kt_ends.specs.declared.tool_stop.ToolStop.TheVariants as stop

-- what holds of a stop: of a refusal, and of a fault or want of memory
abbrev pub ByStop : ToolStop → (Refusal → Type 0) → Type 0 → Type 0
ByStop (stop.Refused why) refused faulted = refused why
ByStop other refused faulted = faulted

-- what holds of an answer: of a value, of a refusal, and of a fault or want of memory
abbrev pub ByAnswer : {T : Type 0} → Result T ToolStop → Type 0 → (Refusal → Type 0) → Type 0 → Type 0
ByAnswer (Ok done) made refused faulted = made
ByAnswer (Err why) made refused faulted = ByStop why refused faulted
