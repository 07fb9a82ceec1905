-- There are sums for the summaries so far.
use Rattle.std.proofs.Common.{◌≡◌, map, take}
use Rattle.std.specs.Prelude.{All}
use Rattle.kt_sum.specs.RunSummaries.{IsZeroRow}
use Rattle.kt_sum.proofs.summary_sums.no_sums.Given as goal

abbrev pub invariant-loop-summary : goal.invariant-loop-summary
invariant-loop-summary l = record {
  summaries : map (λ row. row.summary) l.rows.items ≡ take l.summary-index l.summaries;
  zeros : All (IsZeroRow l.width) l.rows.items;
}
