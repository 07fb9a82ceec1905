use Rattle.std.proofs.Common.{◌≡◌, length, map, take}
use Rattle.kt_lanes.specs.Lanes.{column, AreLanes}
use Rattle.kt_levels.specs.Units.{unit_loss}
use Rattle.kt_levels.proofs.climbing.unit_lanes.Given as goal

abbrev pub invariant-loop-node : goal.invariant-loop-node
invariant-loop-node l = record {
  lane : length l.lane.items ≡ l.width;
  lanes : AreLanes l.width l.node-index (λ k. map (unit_loss (column k l.below)) (take l.node-index l.nodes)) l.lanes;
}
