-- What contracts see of a portfolio: the rows of its tables, and what they are needed for.
-- The rules: docs/CHECKS.md.
use Rattle.std.specs.Prelude.{◌≡◌, ◌≤◌, All, true}
use Rattle.kt_rec.specs.Ranges.{AreInRange, ArePeriods}
use Rattle.kt_rec.specs.Rows.{Rows}
use Rattle.kt_rec.specs.declared.table.Table.TheVariants as table
use Rattle.kt_checks.specs.Checks.{IsValid}
pub use Rattle.kt_checks.specs.Checks.{HasOnlyNeeded}
use Rattle.kt_keys.specs.Refusals.{is_loaded}
use Rattle.kt_keys.specs.declared.need.Need.{Need}

-- the rows of a portfolio, and what they are needed for
pub record PortfolioRows : Type 0 where
  pub rows : Rows
  pub need : Need

-- where the occurrences are loaded, the number of periods is in its range
abbrev pub HasPeriods : Rows → Need → Type 0
HasPeriods rows need = is_loaded need 0 table.Occurrence ≡ true → ArePeriods rows.periods

-- what every portfolio keeps: its rows are in the ranges of their fields, only what is needed has rows, and no check refuses it
pub record IsPortfolio (portfolio : PortfolioRows) : Type 0 where
  pub in_range : AreInRange portfolio.rows
  pub only_needed : HasOnlyNeeded portfolio.rows portfolio.need
  pub periods : HasPeriods portfolio.rows portfolio.need
  pub valid : IsValid portfolio.rows portfolio.need

-- there are 1 to 100,000 periods, and each occurrence is in one of them
pub record KeepsPeriods (rows : Rows) : Type 0 where
  pub least : 1 ≤ rows.periods
  pub most : rows.periods ≤ 100000
  pub each : All (λ row. (1 ≤ row.period_no) × (row.period_no ≤ rows.periods)) rows.occurrence
