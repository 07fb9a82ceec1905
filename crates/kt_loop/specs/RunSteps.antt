-- What a stage run by run does at a record, and with a closed run.
-- The rules: docs/STREAMS.md, "Runs".
use Rattle.std.specs.Prelude.{◌≡◌, List, [], ◌++◌, ℕ, Option, None, Some, Result}
use Rattle.std.specs.List.{AllByRecursion}
use Rattle.kt_stream.specs.declared.entry.Placed.{Placed}
use Rattle.kt_ends.specs.declared.status.Refusal.{Refusal}
use Rattle.kt_ends.specs.declared.tool_stop.ToolStop.{ToolStop}
use Rattle.kt_loop.specs.Answering.{ByAnswer}
use Rattle.kt_loop.specs.Calculation.{Step}

-- a record was judged: its refusal, if it has one; nothing is said of a fault or of want of memory
abbrev pub JudgesBy : {T : Type 0} → Option Refusal → Type 0 → Result T ToolStop → Type 0
JudgesBy refusal stands answer = ByAnswer answer ((refusal ≡ None) × stands) (λ why. refusal ≡ Some why) (Unit {0})

-- a run was closed: its text is appended, and nothing is refused
abbrev pub ClosesBy : {T : Type 0} → List ℕ → Type 0 → List ℕ → List ℕ → Result T ToolStop → Type 0
ClosesBy closed stands text text_now answer = ByAnswer answer ((text_now ≡ text ++ closed) × stands) (λ why. ⊥) (Unit {0})

-- a step that writes nothing
abbrev pub unwritten : {S R : Type 0} → Result S R → Step S R
unwritten next = record { text = []; next = next }

-- no run is open before the header, and behind it the records of the open run are good
abbrev pub IsReady : {H E : Type 0} → (H → Placed E → Type 0) → Option H → List (Placed E) → Type 0
IsReady is_good None run = run ≡ []
IsReady is_good (Some head) run = AllByRecursion (is_good head) run
