-- Where no high bit is set so far, all shares so far are those of the totals.
use Rattle.std.proofs.Common.{◌≡◌, ◌<◌, ◌^◌, length}
use Rattle.kt_lanes.specs.SplitLaws.{IsTestedTo}
use Rattle.kt_lanes.proofs.split.test_split.Given as goal

abbrev pub invariant-loop-k : goal.invariant-loop-k
invariant-loop-k l = record {
  wide : length l.rests ≡ length l.totals;
  right : l.wrong < 2 ^ 32 → IsTestedTo l.totals l.first l.second l.k l.fn.rests l.parts l.rests;
}
