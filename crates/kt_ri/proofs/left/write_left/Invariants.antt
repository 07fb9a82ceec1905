-- What is left of the pairs so far is in the room.
use Rattle.std.proofs.Common.{◌≡◌, ◌*◌, ◌≤◌, length, slice_index, take}
use Rattle.kt_runs.specs.PairRoom.{AreIn}
use Rattle.kt_ri.specs.Left.{pairs_left}
use Rattle.kt_ri.proofs.left.write_left.Given as goal

abbrev pub invariant-loop-pair : goal.invariant-loop-pair
invariant-loop-pair l = record {
  room : length l.room ≡ length l.fn.room;
  few : l.used ≤ 12 * l.pair-index;
  are : AreIn (pairs_left (slice_index l.ceded) (take l.pair-index l.pairs)) l.used l.room;
}
