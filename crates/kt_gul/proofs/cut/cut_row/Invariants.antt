-- The losses below the place are written.
use Rattle.std.proofs.Common.{◌≡◌, ℕ, ◌<◌, length, slice_index}
use Rattle.kt_gul.specs.GroundUp.{final_loss}
use Rattle.kt_gul.proofs.cut.cut_row.Given as goal

abbrev pub invariant-loop-place : goal.invariant-loop-place
invariant-loop-place l = record {
  width : length l.row ≡ length l.fn.row;
  made : (k : ℕ) → k < l.place → slice_index l.row k ≡ final_loss l.fn.draw.cut l.tiv (slice_index l.totals k) (slice_index l.before k) (slice_index l.losses k) k;
}
