-- The losses of the records so far are added.
use Rattle.std.proofs.Common.{◌≡◌, ℕ, Option, map, take}
use Rattle.std.specs.Prelude.{All}
use Rattle.kt_sum.specs.RunSummaries.{IsReadyRow, IsSumOf}
use Rattle.kt_sum.proofs.run.add_records.Given as goal

abbrev pub invariant-loop-place : goal.invariant-loop-place
invariant-loop-place l = record {
  rows : map (λ row. row.summary) l.rows ≡ l.summaries;
  ready : All (IsReadyRow l.span.width) l.rows;
  sums : (find : ℕ → Option ℕ) → l.found ≡ map (λ entry. find entry.id) l.records → All (IsSumOf l.span.least l.span.width find (take l.place l.records)) l.rows;
}
