-- What the summaries of every portfolio keep.
-- The rules: docs/CALCULATION.md, "Summary"; docs/CHECKS.md.
use Rattle.std.specs.Prelude.{◌≡◌, ℕ, ◌≤◌, Some}
use Rattle.kt_rec.specs.Ranges.{IsId}
use Rattle.kt_rec.specs.declared.perspective.Perspective.{Perspective}
use Rattle.kt_tables.specs.Lookups.{exposure_of, summary_in}
use Rattle.kt_tables.specs.Portfolio.{PortfolioRows}

-- what a set has for an id is an id, and each exposure is at most 10^14 cents
pub record KeepsSummaries (portfolio : PortfolioRows) : Type 0 where
  pub known : (perspective : Perspective) (set id summary : ℕ) → summary_in perspective portfolio.rows set id ≡ Some summary → IsId summary
  pub exposures : (perspective : Perspective) (set summary : ℕ) → exposure_of perspective portfolio.rows portfolio.need.rule set summary ≤ 100000000000000
