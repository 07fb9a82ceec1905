-- The ids so far.
use Rattle.std.proofs.Common.{◌≡◌, take}
use Rattle.kt_runs.specs.Records.{ids_of}
use Rattle.kt_runs.proofs.loss_lanes.LossLanes.ids.Given as goal

abbrev pub invariant-loop-place : goal.invariant-loop-place
invariant-loop-place l = l.ids.items ≡ ids_of (take l.place l.self.records)
