use Rattle.kt_lanes.specs.Shares.{HasRoom}
use Rattle.kt_levels.specs.Down.{AreGivenBehind}
use Rattle.kt_levels.proofs.down.push_given.Given as goal

abbrev pub invariant-loop-at : goal.invariant-loop-at
invariant-loop-at l = record {
  room : HasRoom l.width l.room;
  out : AreGivenBehind l.width l.nodes l.below l.parts l.at l.fn.out l.out;
}
