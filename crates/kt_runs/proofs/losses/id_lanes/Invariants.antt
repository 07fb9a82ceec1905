use Rattle.std.proofs.Common.{map, take}
use Rattle.kt_runs.specs.Taken.{AreIdLanes}
use Rattle.kt_runs.proofs.losses.id_lanes.Given as goal

abbrev pub invariant-loop-near : goal.invariant-loop-near
invariant-loop-near g l = AreIdLanes l.ids l.samples (take l.near (map g.T.RunEntry.entry_of l.records)) l.lanes
