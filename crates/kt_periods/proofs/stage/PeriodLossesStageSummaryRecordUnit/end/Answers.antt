use Rattle.std.proofs.Common.{ℕ, ◌≤◌, List, subst, sym}
use Rattle.std.specs.Prelude.{All}
use Rattle.kt_periods.specs.Fitting.{fits_returns}
use Rattle.kt_periods.proofs.stage.PeriodLossesStageSummaryRecordUnit.end.Goals as goal

pub append_table-requires : goal.append_table-requires
append_table-requires c =
    subst (λ (returns : List ℕ). All (λ (period : ℕ). 1 ≤ period) returns) (sym c.return_periods-returns.ensures.value) (fits_returns c.args.self.now.portfolio.now.rows c.is_valid.ensures.valid.in_range)
