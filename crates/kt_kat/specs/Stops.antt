-- How a file that is not taken ends the tool.
-- The rules: docs/COMMANDS.md, "kat"; docs/REFUSALS.md, "Order".
use Rattle.std.specs.Prelude.{ℕ, List, nat_le, Result, Ok, Err, if◌then◌else◌}
use Rattle.kt_out.specs.declared.fault.Absent.{Absent}
use Rattle.kt_out.specs.declared.fault.Absent.TheVariants as absent
use Rattle.kt_out.specs.declared.fault.Fault.{Fault}
use Rattle.kt_out.specs.declared.fault.Fault.TheVariants as fault
use Rattle.kt_stream.specs.declared.stop.StreamStop.{StreamStop}
use Rattle.kt_ends.specs.declared.status.Refusal.TheVariants as refusal
use Rattle.kt_ends.specs.declared.tool_stop.ToolStop.{ToolStop}
use Rattle.kt_ends.specs.declared.tool_stop.ToolStop.TheVariants as stop
use Rattle.kt_kat.specs.Files.{file_limit}

-- the size of a file of this name was not told
abbrev pub absent_stop : List ℕ → Absent → ToolStop
absent_stop name absent.Missing = stop.Refused (refusal.Missing name)
absent_stop name absent.Failed = stop.ReadFault
absent_stop name absent.OutOfMemory = stop.NoMemory

-- the size of a file of this name, which is refused where it is above the limit
abbrev pub size_within : List ℕ → ℕ → Result ℕ ToolStop
size_within name size = if nat_le size file_limit then Ok size else Err (stop.Refused (refusal.TooLarge name))

-- the bytes of a file were not read
abbrev pub unread_stop : Fault → ToolStop
unread_stop fault.Failed = stop.ReadFault
unread_stop fault.OutOfMemory = stop.NoMemory

-- the stream of the file of this number is refused so
abbrev pub file_stop : ℕ → StreamStop → ToolStop
file_stop number why = stop.Refused (refusal.File number why)
