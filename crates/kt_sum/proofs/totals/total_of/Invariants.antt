-- The sums of the summaries so far are added, where those of all fit.
use Rattle.std.proofs.Common.{◌≡◌, ◌<◌, ◌^◌, ℕ, length, take}
use Rattle.kt_runs.specs.Adding.{Holds}
use Rattle.kt_sum.specs.Totals.{total_at}
use Rattle.kt_sum.proofs.totals.total_of.Given as goal

abbrev pub invariant-loop-row : goal.invariant-loop-row
invariant-loop-row l = record {
  width : length l.total.items ≡ l.width;
  value : ((k : ℕ) → k < l.width → total_at l.rows k < 2 ^ 64) → Holds l.width (total_at (take l.row-index l.rows)) l.total.items;
}
