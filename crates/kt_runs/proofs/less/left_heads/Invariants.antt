-- The heads so far that have a loss.
use Rattle.std.proofs.Common.{◌≡◌, take}
use Rattle.std.specs.List.{filter_map}
use Rattle.kt_runs.specs.Less.{left_record}
use Rattle.kt_runs.specs.LossLanes.{HaveLanes, lane_records}
use Rattle.kt_runs.proofs.less.left_heads.Given as goal

abbrev pub invariant-loop-head : goal.invariant-loop-head
invariant-loop-head l = record {
  have : HaveLanes l.lanes l.left.items;
  records : lane_records l.left.items l.lanes ≡ filter_map (left_record l.lanes) (take l.head-index l.heads);
}
