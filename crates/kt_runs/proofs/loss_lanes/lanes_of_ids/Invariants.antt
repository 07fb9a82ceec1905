-- The losses of the ids so far are added.
use Rattle.std.proofs.Common.{take}
use Rattle.kt_runs.specs.Taken.{AreIdLanes}
use Rattle.kt_runs.proofs.loss_lanes.lanes_of_ids.Given as goal

abbrev pub invariant-loop-near : goal.invariant-loop-near
invariant-loop-near l = AreIdLanes l.ids l.samples (take l.near l.losses.records) l.lanes
