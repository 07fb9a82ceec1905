-- The lane is added to the sums of the sets so far.
use Rattle.std.proofs.Common.{◌≡◌, ◌+◌, ℕ, Option, map, take, drop}
use Rattle.std.specs.Prelude.{All}
use Rattle.kt_sum.specs.SetSums.{AreReady, HoldLanes}
use Rattle.kt_sum.proofs.lanes.add_lane_to_each.Given as goal

abbrev pub invariant-loop-at : goal.invariant-loop-at
invariant-loop-at l = record {
  sets : map (λ one. one.set) l.sums ≡ map (λ one. one.set) l.fn.sums;
  ready : All (AreReady l.losses) l.sums;
  more : (find : ℕ → ℕ → Option ℕ) → All (HoldLanes find l.losses l.place) l.fn.sums → All (HoldLanes find l.losses (l.place + 1)) (take l.at l.sums) × All (HoldLanes find l.losses l.place) (drop l.at l.sums);
}
