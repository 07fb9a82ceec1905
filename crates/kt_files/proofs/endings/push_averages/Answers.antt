use Rattle.std.proofs.Common.{ℕ, ◌≤◌, List, subst, sym}
use Rattle.std.specs.Prelude.{All}
use Rattle.kt_files.proofs.endings.push_averages.Goals as goal
use Rattle.kt_periods.specs.Fitting.{fits_returns}

pub append_table-requires : goal.append_table-requires
append_table-requires c =
    subst (λ (returns : List ℕ). All (λ (period : ℕ). 1 ≤ period) returns) (sym c.return_periods-returns.ensures.value) (fits_returns c.args.portfolio.now.rows c.is_valid.ensures.valid.in_range)
