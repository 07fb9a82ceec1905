use Rattle.std.proofs.Common.{length, slice_index}
use Rattle.kt_lanes.specs.LaneLaws.{IsWritten}
use Rattle.kt_levels.specs.ByLanes.{amounts_at}
use Rattle.kt_levels.proofs.by_rows.take_amounts.Given as goal

abbrev pub invariant-loop-place : goal.invariant-loop-place
invariant-loop-place l = IsWritten (length l.rows) l.place (slice_index (amounts_at l.at l.rows)) (slice_index l.fn.lane) l.lane
