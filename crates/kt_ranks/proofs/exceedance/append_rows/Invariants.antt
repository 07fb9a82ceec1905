-- The rows of the first return periods are there.
use Rattle.std.proofs.Common.{◌≡◌, ◌≤◌, ℕ, List, ◌++◌, take, All}
use Rattle.kt_ranks.specs.Ranks.{HasLosses}
use Rattle.kt_ranks.specs.RankedLosses.{curve_rows}
use Rattle.kt_stream.specs.Write.{BeginsWith}
use Rattle.kt_ranks.proofs.exceedance.append_rows.Given as goal

abbrev pub invariant-loop-period : goal.invariant-loop-period
invariant-loop-period l = record {
  rows : (values : List ℕ) → All (λ period. period ≤ l.count → HasLosses l.ranked values l.count period) l.returns → l.out ≡ l.fn.out ++ curve_rows l.summary l.column l.count values (take l.period-index l.returns);
  begins : BeginsWith l.fn.out l.out;
}
