-- The sums so far are 0, and all are ready for the same summaries.
use Rattle.std.proofs.Common.{◌≡◌, ℕ, map, take}
use Rattle.std.specs.Prelude.{All}
use Rattle.kt_sum.specs.RunSummaries.{IsIdle, IsReadyRow, IsZeroRow}
use Rattle.kt_sum.proofs.summary_sums.clear_rows.Given as goal

abbrev pub invariant-loop-place : goal.invariant-loop-place
invariant-loop-place l = record {
  idle : All IsIdle l.rows;
  summaries : map (λ row. row.summary) l.rows ≡ map (λ row. row.summary) l.fn.rows;
  ready : (width : ℕ) → All (IsReadyRow width) l.fn.rows → All (IsReadyRow width) l.rows;
  zeros : (width : ℕ) → All (IsReadyRow width) l.fn.rows → All (IsZeroRow width) (take l.place l.rows);
}
