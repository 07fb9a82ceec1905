-- The pairs so far stand no lower.
use Rattle.std.proofs.Common.{ℕ, ◌<◌, ◌≤◌, slice_index_or}
use Rattle.kt_stream.specs.declared.entry.Pair.{Pair}
use Rattle.kt_runs.specs.Sidx.{place_of}
use Rattle.kt_sum.proofs.span.lowest.Given as goal

abbrev pub invariant-loop-pair : goal.invariant-loop-pair
invariant-loop-pair l = record {
  kept : l.least ≤ l.so_far;
  all : (k : ℕ) (d : Pair) → k < l.pair-index → l.least ≤ place_of (slice_index_or l.pairs k d).sidx;
}
