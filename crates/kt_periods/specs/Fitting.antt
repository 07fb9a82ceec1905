-- The occurrences of an event, and the return periods, are such as the cells and the curves take.
-- The rules: docs/CALCULATION.md, "Periods"; docs/CHECKS.md.
use Rattle.std.specs.Prelude.{ℕ, ◌≤◌, nat_eq, All}
use Rattle.std.proofs.lemmas.List.Elements.{All-filter, All-map}
use Rattle.kt_rec.specs.Ranges.{AreInRange}
use Rattle.kt_rec.specs.Rows.{Rows}
use Rattle.kt_rec.specs.declared.periods.Occurrence.{Occurrence}
use Rattle.kt_rec.specs.declared.periods.ReturnPeriod.{ReturnPeriod}
use Rattle.kt_tables.specs.Lookups.{occurrences_of, return_periods_of}
use Rattle.kt_tables.specs.Portfolio.{KeepsPeriods}

-- each occurrence is in a period
pub fits_periods : (rows : Rows) → KeepsPeriods rows → (event : ℕ) → All (λ (row : Occurrence). (1 ≤ row.period_no) × (row.period_no ≤ rows.periods)) (occurrences_of rows event)
fits_periods rows keeps event = All-filter (λ (row : Occurrence). nat_eq row.event_id event) (λ (row : Occurrence). (1 ≤ row.period_no) × (row.period_no ≤ rows.periods)) rows.occurrence keeps.each

-- each return period is above 0
pub fits_returns : (rows : Rows) → AreInRange rows → All (λ (period : ℕ). 1 ≤ period) (return_periods_of rows)
fits_returns rows range = All-map (λ (period : ℕ). 1 ≤ period) (λ (row : ReturnPeriod). row.return_period) rows.returnperiods (λ k d below. (range.returnperiods k d below).least)
