use Rattle.std.proofs.Common.{◌≡◌, length, take}
use Rattle.kt_lanes.specs.Lanes.{AreLanes}
use Rattle.kt_levels.specs.ByLanes.{row_in}
use Rattle.kt_levels.proofs.by_rows.turned.Given as goal

abbrev pub invariant-loop-place : goal.invariant-loop-place
invariant-loop-place l = record {
  lane : length l.lane.items ≡ length l.rows;
  lanes : AreLanes (length l.rows) l.place (λ k. take l.place (row_in l.rows k)) l.lanes;
}
