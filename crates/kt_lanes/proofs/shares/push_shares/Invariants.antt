use Rattle.std.proofs.Common.{◌≡◌, drop, length, take}
use Rattle.std.specs.List.{sum}
use Rattle.kt_lanes.specs.Lanes.{column, IsLane}
use Rattle.kt_lanes.specs.Shares.{AreSharingBehind}
use Rattle.kt_lanes.proofs.shares.push_shares.Given as goal

abbrev pub invariant-loop-at : goal.invariant-loop-at
invariant-loop-at l = record {
  upto : IsLane (length l.totals) (λ k. sum (column k (take l.at (take l.count (drop l.start l.lanes))))) l.upto;
  due_wide : length l.due.items ≡ length l.totals;
  sharing : AreSharingBehind l.totals (take l.count (drop l.start l.lanes)) l.at l.paid.items l.fn.out l.out;
}
