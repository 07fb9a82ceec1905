-- The losses of the pairs so far are added, and none of the sums passes the limit.
use Rattle.std.proofs.Common.{ℕ, ◌≤◌, slice_index, take}
use Rattle.kt_runs.specs.Adding.{IsAdded}
use Rattle.kt_runs.proofs.run_sums.add_to_run.Given as goal

abbrev pub invariant-loop-pair : goal.invariant-loop-pair
invariant-loop-pair l = record {
  added : IsAdded 2147483646 l.fn.sums (take l.pair-index l.pair-items) l.sums;
  few : (k : ℕ) → slice_index l.sums k ≤ 10000000000000000;
}
