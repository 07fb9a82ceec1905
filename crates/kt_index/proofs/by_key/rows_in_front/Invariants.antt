-- The rows so far have keys up to the greatest, and the last of them tells it.
use Rattle.std.proofs.Common.{◌-◌, ◌<◌, ◌≤◌, length, get_or}
use Rattle.kt_index.proofs.by_key.rows_in_front.Given as goal

abbrev pub invariant-loop-count : goal.invariant-loop-count
invariant-loop-count g l = record {
  within : l.count ≤ length l.rows;
  upto : (d : g.row.T.Denot) → 0 < l.count → g.T.Keyed.key_of (get_or l.rows (l.count - 1) d) ≤ l.top;
}

abbrev pub decreases-loop-count : goal.decreases-loop-count
decreases-loop-count g l = length l.rows - l.count
