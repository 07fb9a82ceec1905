use Rattle.std.proofs.Common.{take}
use Rattle.kt_levels.specs.ByLanes.{AreLayers, HasLayerRoom}
use Rattle.kt_levels.proofs.by_lanes.layer_lanes.Given as goal

abbrev pub invariant-loop-one : goal.invariant-loop-one
invariant-loop-one l = record {
  room : HasLayerRoom l.programme l.lanes l.climbed.width l.room;
  layers : AreLayers l.programme l.lanes l.climbed.width l.rule (take l.one-index l.layers) l.made;
}
