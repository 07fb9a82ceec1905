-- The status of a run by how its tool ended.
-- The rules: docs/REFUSALS.md, "Statuses".
use Rattle.std.specs.Prelude.{Result, Ok, Err}
use Rattle.kt_out.specs.declared.fault.Fault.{Fault}
use Rattle.kt_out.specs.declared.fault.Fault.TheVariants.{Failed, OutOfMemory}
use Rattle.kt_ends.specs.declared.status.Status.{Status}
use Rattle.kt_ends.specs.declared.status.Status.TheVariants as status
use Rattle.kt_ends.specs.declared.tool_stop.ToolStop.{ToolStop}
use Rattle.kt_ends.specs.declared.tool_stop.ToolStop.TheVariants as stop

-- the status of a run whose tool stopped so
abbrev pub stop_status : ToolStop → Status
stop_status (stop.Refused refusal) = status.Refused refusal
stop_status stop.ReadFault = status.ReadFault
stop_status stop.WriteFault = status.WriteFault
stop_status stop.NoMemory = status.NoMemory

-- the status of a run whose tool ended so
abbrev pub end_status : Result (Unit {0}) ToolStop → Status
end_status (Ok done) = status.Done
end_status (Err stop) = stop_status stop

-- how a fault in writing ends a tool
abbrev pub fault_stop : Fault → ToolStop
fault_stop Failed = stop.WriteFault
fault_stop OutOfMemory = stop.NoMemory
