-- Where the stage over losses stands.
-- The rules: docs/STREAMS.md, "Tools over losses".
use Rattle.std.specs.Prelude.{◌≡◌, ◌⊎◌, ℕ, true, Bool, List, Option, None, Some}
use Rattle.std.specs.List.{AllByRecursion}
use Rattle.kt_ends.specs.declared.status.Refusal.TheVariants as refusal
use Rattle.kt_ends.specs.declared.tool_stop.ToolStop.{ToolStop}
use Rattle.kt_ends.specs.declared.tool_stop.ToolStop.TheVariants.{Refused, NoMemory}
use Rattle.kt_keys.specs.declared.need.CheckStop.{CheckStop}
use Rattle.kt_keys.specs.declared.need.CheckStop.TheVariants.{Check, OutOfMemory}
use Rattle.kt_load.specs.FileNames.{file_name_of}
use Rattle.kt_losses.specs.Judged.{is_known}
use Rattle.kt_loop.specs.Runs.{bare}
use Rattle.kt_rec.specs.Rows.{Rows}
use Rattle.kt_runs.specs.RunSums.{AreRunSums}
use Rattle.kt_stream.specs.declared.entry.LossRecord.{LossRecord}
use Rattle.kt_stream.specs.declared.entry.Placed.{Placed}
use Rattle.kt_stream.specs.declared.kind.Head.{Head}

-- behind a header the sums are those of the open run
abbrev pub HoldsSums : Option Head → List (Placed LossRecord) → List ℕ → Type 0
HoldsSums None run sums = Unit {0}
HoldsSums (Some head) run sums = AreRunSums head.samples (bare run) sums

-- the ids of records are known
abbrev pub AreKnown : Bool → Rows → List (Placed LossRecord) → Type 0
AreKnown items rows run = AllByRecursion (λ placed. is_known items rows placed.entry.id ≡ true) run

-- the stop for tables that a check refuses, or want of memory for the name
abbrev pub IsCheckStop : CheckStop → ToolStop → Type 0
IsCheckStop (Check number table row) end = (end ≡ Refused (refusal.Check number (file_name_of table) row)) ⊎ (end ≡ NoMemory)
IsCheckStop OutOfMemory end = end ≡ NoMemory
