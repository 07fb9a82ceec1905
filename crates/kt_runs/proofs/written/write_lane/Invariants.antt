-- The pairs of the rows so far are in the room.
use Rattle.std.proofs.Common.{◌≡◌, ◌*◌, ◌≤◌, length, slice_index}
use Rattle.kt_runs.specs.PairRoom.{AreIn}
use Rattle.kt_runs.specs.LaneRows.{pairs_by_row}
use Rattle.kt_runs.proofs.written.write_lane.Given as goal

abbrev pub invariant-loop-row : goal.invariant-loop-row
invariant-loop-row l = record {
  room : length l.room ≡ length l.fn.room;
  few : l.used ≤ 12 * l.row;
  are : AreIn (pairs_by_row (slice_index l.lane) l.row) l.used l.room;
}
