-- The lanes so far are added to the sums of each set.
use Rattle.std.proofs.Common.{◌≡◌, ℕ, Option, map}
use Rattle.std.specs.Prelude.{All}
use Rattle.kt_sum.specs.SetSums.{AreReady, HoldLanes}
use Rattle.kt_sum.proofs.lanes.add_lanes.Given as goal

abbrev pub invariant-loop-place : goal.invariant-loop-place
invariant-loop-place l = record {
  sets : map (λ one. one.set) l.sums ≡ map (λ one. one.set) l.fn.sums;
  ready : All (AreReady l.losses) l.sums;
  all : (find : ℕ → ℕ → Option ℕ) → All (HoldLanes find l.losses 0) l.fn.sums → All (HoldLanes find l.losses l.place) l.sums;
}
