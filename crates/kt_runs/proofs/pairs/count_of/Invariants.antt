use Rattle.std.proofs.Common.{◌≡◌, length, slice_index}
use Rattle.kt_runs.specs.LaneRows.{pairs_by_row}
use Rattle.kt_runs.proofs.pairs.count_of.Given as goal

abbrev pub invariant-loop-row : goal.invariant-loop-row
invariant-loop-row l = l.count ≡ length (pairs_by_row (slice_index l.lane) l.row)
