-- The lanes so far are added.
use Rattle.std.proofs.Common.{◌≡◌, false, ℕ, Option, length}
use Rattle.kt_sum.specs.SetSums.{AreReady, HoldLanes}
use Rattle.kt_sum.proofs.set_sums.SetSums.add_all.Given as goal

abbrev pub invariant-loop-place : goal.invariant-loop-place
invariant-loop-place l = record {
  set : l.self.set ≡ l.fn.self.set;
  done : l.self.waits ≡ false;
  ready : AreReady l.losses l.self;
  all : (find : ℕ → ℕ → Option ℕ) → HoldLanes find l.losses (length l.losses.records) l.fn.self → HoldLanes find l.losses l.place l.self;
}
