-- A portfolio that has the tables of insured losses.
-- The rule: docs/FINANCIAL_MODULE.md, "Insured losses".
use Rattle.std.specs.Prelude.{◌≡◌, true}
use Rattle.kt_keys.specs.Refusals.{is_loaded}
use Rattle.kt_rec.specs.declared.table.Table.TheVariants as table
use Rattle.kt_tables.specs.Portfolio.{IsPortfolio, PortfolioRows}

-- a portfolio of which the base's programme, its terms and the outputs are loaded
pub record HasInsuredTables (portfolio : PortfolioRows) : Type 0 where
  pub valid : IsPortfolio portfolio
  pub programme : is_loaded portfolio.need 0 table.FmProgramme ≡ true
  pub terms : is_loaded portfolio.need 0 table.FmPolicytc ≡ true
  pub outputs : is_loaded portfolio.need 0 table.FmXref ≡ true
