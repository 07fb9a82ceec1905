-- No sums so far wait, and those of all lanes are such still.
use Rattle.std.proofs.Common.{◌≡◌, false, ℕ, Option, length, map, take}
use Rattle.std.specs.Prelude.{All}
use Rattle.kt_sum.specs.SetSums.{AreReady, HoldLanes}
use Rattle.kt_sum.proofs.lanes.finish_sums.Given as goal

abbrev pub invariant-loop-at : goal.invariant-loop-at
invariant-loop-at l = record {
  sets : map (λ one. one.set) l.sums ≡ map (λ one. one.set) l.fn.sums;
  ready : All (AreReady l.losses) l.sums;
  done : All (λ one. one.waits ≡ false) (take l.at l.sums);
  all : (find : ℕ → ℕ → Option ℕ) → All (HoldLanes find l.losses (length l.losses.records)) l.fn.sums → All (HoldLanes find l.losses (length l.losses.records)) l.sums;
}
