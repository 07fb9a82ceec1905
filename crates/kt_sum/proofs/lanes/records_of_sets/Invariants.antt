-- The records of the sets so far are made.
use Rattle.std.proofs.Common.{◌≡◌, map, take}
use Rattle.std.specs.Prelude.{All}
use Rattle.kt_stream.specs.Summary.{IsSummary}
use Rattle.kt_sum.specs.SetSums.{set_records}
use Rattle.kt_sum.proofs.lanes.records_of_sets.Given as goal

abbrev pub invariant-loop-one : goal.invariant-loop-one
invariant-loop-one l = record {
  made : l.made.items ≡ map (set_records l.perspective l.portfolio.rows l.portfolio.need.rule l.losses.records) (map (λ one. one.set) (take l.one-index l.sums));
  good : All (λ one. All (IsSummary l.samples) one.records) l.made.items;
}
