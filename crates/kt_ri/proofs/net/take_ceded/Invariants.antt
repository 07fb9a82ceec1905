use Rattle.std.proofs.Common.{length, slice_index}
use Rattle.kt_lanes.specs.LaneLaws.{IsWritten}
use Rattle.kt_ri.specs.Ceded.{part_behind}
use Rattle.kt_ri.proofs.net.take_ceded.Given as goal

abbrev pub invariant-loop-row : goal.invariant-loop-row
invariant-loop-row l = IsWritten (length l.fn.losses) l.row (λ j. part_behind l.left (slice_index l.fn.losses j) (slice_index l.ceded j)) (slice_index l.fn.losses) l.losses
