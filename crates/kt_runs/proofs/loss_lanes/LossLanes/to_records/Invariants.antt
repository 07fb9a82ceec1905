-- The records so far.
use Rattle.std.proofs.Common.{◌≡◌, take}
use Rattle.kt_runs.proofs.loss_lanes.LossLanes.to_records.Given as goal

abbrev pub invariant-loop-place : goal.invariant-loop-place
invariant-loop-place l = l.made.items ≡ take l.place l.self.records
