-- The pairs so far stand no farther.
use Rattle.std.proofs.Common.{ℕ, ◌<◌, ◌≤◌, slice_index_or}
use Rattle.kt_stream.specs.declared.entry.Pair.{Pair}
use Rattle.kt_runs.specs.Sidx.{place_of}
use Rattle.kt_sum.specs.Adding.{IsNoFarther}
use Rattle.kt_sum.proofs.span.farthest.Given as goal

abbrev pub invariant-loop-pair : goal.invariant-loop-pair
invariant-loop-pair l = record {
  kept : l.so_far ≤ l.most;
  all : (k : ℕ) (d : Pair) → k < l.pair-index → IsNoFarther l.from l.most (place_of (slice_index_or l.pairs k d).sidx);
}
