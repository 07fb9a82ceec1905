-- How a run ends, as the program's exit status says it.
-- The rules: docs/REFUSALS.md, "Statuses".
use Rattle.std.specs.Prelude.{ℕ}
use Rattle.kt_ends.specs.declared.status.Status.{Status}
use Rattle.kt_ends.specs.declared.status.Status.TheVariants.{Done, Words, Refused, ReadFault, WriteFault, NoMemory}

-- the exit status
abbrev pub status_code : Status → ℕ
status_code Done = 0
status_code (Words stop) = 2
status_code (Refused refusal) = 3
status_code ReadFault = 4
status_code WriteFault = 5
status_code NoMemory = 6
