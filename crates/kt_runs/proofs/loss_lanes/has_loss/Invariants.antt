-- No loss so far.
use Rattle.std.proofs.Common.{◌≡◌, [], slice_index}
use Rattle.kt_runs.specs.LaneRows.{pairs_by_row}
use Rattle.kt_runs.proofs.loss_lanes.has_loss.Given as goal

abbrev pub invariant-loop-row : goal.invariant-loop-row
invariant-loop-row l = pairs_by_row (slice_index l.lane) l.row ≡ []
