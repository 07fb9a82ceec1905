-- The pairs of the sums so far are in the room.
use Rattle.std.proofs.Common.{◌≡◌, ◌*◌, ◌≤◌, length}
use Rattle.kt_runs.specs.PairRoom.{AreIn}
use Rattle.kt_runs.specs.PairSums.{pairs_upto}
use Rattle.kt_runs.proofs.pair_sums.write_pairs.Given as goal

abbrev pub invariant-loop-place : goal.invariant-loop-place
invariant-loop-place l = record {
  room : length l.room ≡ length l.fn.room;
  few : l.used ≤ 12 * l.place;
  are : AreIn (pairs_upto l.least l.sums l.place) l.used l.room;
}
