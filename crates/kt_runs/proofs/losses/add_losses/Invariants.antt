use Rattle.std.proofs.Common.{◌+◌, slice_index, take}
use Rattle.kt_runs.specs.RunLosses.{loss_of}
use Rattle.kt_runs.specs.Sidx.{sidx_at}
use Rattle.kt_lanes.specs.Lanes.{IsLane}
use Rattle.kt_runs.specs.LaneRows.{row_place}
use Rattle.kt_runs.proofs.losses.add_losses.Given as goal

abbrev pub invariant-loop-pair : goal.invariant-loop-pair
invariant-loop-pair l = IsLane (l.samples + 1) (λ row. slice_index l.fn.lane row + loss_of (sidx_at (row_place row)) (take l.pair-index l.pairs)) l.lane
