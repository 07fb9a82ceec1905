-- There are sums for the sets so far.
use Rattle.std.proofs.Common.{◌≡◌, map, take}
use Rattle.std.specs.Prelude.{All}
use Rattle.kt_sum.specs.SetSums.{AreReady, HoldLanes}
use Rattle.kt_tables.specs.Lookups.{summary_in}
use Rattle.kt_sum.proofs.lanes.no_set_sums.Given as goal

abbrev pub invariant-loop-set : goal.invariant-loop-set
invariant-loop-set l = record {
  sets : map (λ one. one.set) l.sums.items ≡ take l.set-index l.sets;
  ready : All (AreReady l.losses) l.sums.items;
  none : All (HoldLanes (summary_in l.perspective l.portfolio.rows) l.losses 0) l.sums.items;
}
