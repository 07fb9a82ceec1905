-- What the occurrences of every portfolio keep, where they are loaded.
-- The rules: docs/CHECKS.md.
use Rattle.std.specs.Prelude.{◌≡◌, true, nat_lt}
use Rattle.std.proofs.lemmas.Bool.{ltb-false}
use Rattle.kt_rec.specs.declared.table.Table.TheVariants.{Occurrence}
use Rattle.kt_keys.specs.Refusals.{at_stage, is_loaded}
use Rattle.kt_checks.specs.CheckLaws.{keeps-from_valid, no_row, none_passes}
use Rattle.kt_checks.specs.Checks.{KeepsCheck, table_checks, programme_checks, size_checks}
use Rattle.kt_tables.specs.Portfolio.{PortfolioRows, IsPortfolio, KeepsPeriods}

-- the number of periods is in its range, and no occurrence is behind them
pub keeps_periods : (portfolio : PortfolioRows) → IsPortfolio portfolio → is_loaded portfolio.need 0 Occurrence ≡ true → KeepsPeriods portfolio.rows
unfolding table_checks programme_checks size_checks
keeps_periods portfolio valid loaded =
    let keeps : KeepsCheck 20 portfolio.rows portfolio.need = keeps-from_valid 20 portfolio.rows portfolio.need valid.valid in
    let within = none_passes (λ row. nat_lt portfolio.rows.periods row.period_no) portfolio.rows.occurrence (no_row 20 (at_stage 0 Occurrence) _ _ keeps.none loaded) in
    let range = valid.periods loaded in
    record {
      least = range.least;
      most = range.most;
      each = λ k d below. ((valid.in_range.occurrence k d below).period_no.least, ltb-false _ _ (within k d below));
    }
