-- The pairs so far are the first of the bytes, and there is room for the others.
use Rattle.std.proofs.Common.{◌+◌, ◌-◌, ◌≤◌, vec_len, vec_capacity}
use Rattle.kt_stream.specs.Pairs.{AreFirst}
use Rattle.kt_stream.proofs.pairs.first_pairs.Given as goal

abbrev pub invariant-loop-least : goal.invariant-loop-least
invariant-loop-least l = record {
  first : AreFirst l.samples l.bytes l.pairs.items l.least l.used;
  few : vec_len l.pairs ≤ l.least;
  room : l.samples + 3 ≤ vec_capacity l.pairs;
}

abbrev pub decreases-loop-least : goal.decreases-loop-least
decreases-loop-least l = 3 - l.least
