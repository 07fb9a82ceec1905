-- The pairs so far are the first of the bytes, the last of them has sidx -1 or above, and there is room for the others.
use Rattle.std.proofs.Common.{◌+◌, ◌-◌, ◌≤◌, vec_len, vec_capacity}
use Rattle.kt_stream.specs.Pairs.{AreFirst}
use Rattle.kt_stream.proofs.pairs.pairs_behind.Given as goal

abbrev pub invariant-loop-used : goal.invariant-loop-used
invariant-loop-used l = record {
  first : AreFirst l.samples l.bytes l.pairs.items (l.after + 2) l.used;
  after : 1 ≤ l.after;
  few : vec_len l.pairs ≤ l.after + 2;
  room : l.samples + 3 ≤ vec_capacity l.pairs;
}

abbrev pub decreases-loop-used : goal.decreases-loop-used
decreases-loop-used l = l.end - l.used
