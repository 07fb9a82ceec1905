use Rattle.std.proofs.Common.{◌≡◌, ◌-◌, slice_index}
use Rattle.std.specs.List.{range_with_len, sum_by}
use Rattle.kt_levels.proofs.table.sum_of.Given as goal

abbrev pub invariant-loop-row : goal.invariant-loop-row
invariant-loop-row l = l.sum ≡ sum_by (slice_index l.lane) (range_with_len 1 (l.row - 1))
