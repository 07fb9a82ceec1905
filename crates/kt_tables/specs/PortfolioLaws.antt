-- What the rows of every portfolio keep, whatever tables are loaded, by the checks that refuse none of them.
-- The rules: docs/CHECKS.md.
use Rattle.std.specs.Prelude.{◌≡◌, ℕ, ◌≤◌, ◌<◌, [], ◌∷◌, true, nat_eq, length, map, refl, Option, None, Some, Result, Ok, Err, IfOk}
use Rattle.std.specs.List.{IsDistinct}
use Rattle.std.proofs.Common.{arith, inl}
use Rattle.kt_rec.specs.declared.table.Table.TheVariants as table
use Rattle.kt_keys.specs.Refusals.{at_stage, is_loaded}
use Rattle.kt_keys.specs.declared.need.CheckStop.{CheckStop}
use Rattle.kt_keys.specs.declared.need.Refusal.{Refusal}
use Rattle.kt_checks.specs.CheckLaws.{each_none}
use Rattle.kt_checks.specs.Checks.{answer_of, samples_refusal}
use Rattle.kt_checks.specs.FinancialRanges.{financial_ranges}
use Rattle.kt_checks.specs.KeptChecks.{FitsSamples, KeepsKeys, KeepsNames, KeepsOutputs, KeepsProgramme, KeepsSizes}
use Rattle.kt_checks.specs.KeptNames.{keeps_names}
use Rattle.kt_checks.specs.KeptOutputs.{keeps_outputs}
use Rattle.kt_checks.specs.KeptProgrammes.{keeps_programme}
use Rattle.kt_checks.specs.KeptTables.{fits_samples, keeps_keys, keeps_sizes}
use Rattle.kt_checks.specs.SummaryChecks.{sample_checks, summary_size_check}
use Rattle.kt_tables.specs.Portfolio.{PortfolioRows, IsPortfolio}

module _ (portfolio : PortfolioRows) (valid : IsPortfolio portfolio) where
  -- its sizes are kept
  pub sizes_kept : KeepsSizes portfolio.rows portfolio.need
  sizes_kept = keeps_sizes portfolio.rows portfolio.need valid.valid valid.only_needed

  -- its keys are distinct
  pub keys_kept : KeepsKeys portfolio.rows
  keys_kept = keeps_keys portfolio.rows portfolio.need valid.valid valid.only_needed

  -- what its rows name is there
  pub names_kept : KeepsNames portfolio.rows portfolio.need
  names_kept = keeps_names portfolio.rows portfolio.need valid.valid valid.only_needed

  -- its programmes are trees
  pub programmes_kept : (stage : ℕ) → stage < 10 → KeepsProgramme portfolio.rows portfolio.need stage
  programmes_kept = keeps_programme portfolio.rows portfolio.need valid.valid valid.only_needed

  -- an output stands for each layer
  pub outputs_kept : is_loaded portfolio.need 0 table.FmProgramme ≡ true → is_loaded portfolio.need 0 table.FmPolicytc ≡ true → is_loaded portfolio.need 0 table.FmXref ≡ true → KeepsOutputs portfolio.rows portfolio.need.rule
  outputs_kept = keeps_outputs portfolio.rows portfolio.need valid.valid (financial_ranges portfolio.rows valid.in_range.financial 0).policytc

  -- the items are distinct
  pub items_distinct : IsDistinct nat_eq (map (λ row. row.item_id) portfolio.rows.items)
  items_distinct = keys_kept.items

  -- the coverages are distinct
  pub coverages_distinct : IsDistinct nat_eq (map (λ row. row.coverage_id) portfolio.rows.coverages)
  coverages_distinct = keys_kept.coverages

  -- there are at most 100,000 items
  pub items_within : length portfolio.rows.items ≤ 100000
  items_within = sizes_kept.limits (at_stage 0 table.Items) (record { stages = omega arith; financial = inl refl })

  -- there are at most 100,000 coverages
  pub coverages_within : length portfolio.rows.coverages ≤ 100000
  coverages_within = sizes_kept.limits (at_stage 0 table.Coverages) (record { stages = omega arith; financial = inl refl })

  -- where random numbers are loaded, there is one
  pub has_random : is_loaded portfolio.need 0 table.Random ≡ true → 1 ≤ length portfolio.rows.random
  has_random = sizes_kept.random

  -- where the checks 18 and 19 answer Ok for so many samples, these fit
  pub samples_kept : (samples : ℕ) (answer : Result (Unit {0}) CheckStop) → answer ≡ answer_of (samples_refusal portfolio.rows portfolio.need samples) → IfOk answer (λ _. FitsSamples portfolio.rows portfolio.need samples)
  unfolding samples_refusal
  samples_kept samples answer is = by (samples_refusal portfolio.rows portfolio.need samples) refl answer is
    where
      by : (found : Option Refusal) → samples_refusal portfolio.rows portfolio.need samples ≡ found → (result : Result (Unit {0}) CheckStop) → result ≡ answer_of found → IfOk result (λ _. FitsSamples portfolio.rows portfolio.need samples)
      by found none (Err stop) e = tt
      by (Some refusal) none (Ok tt) e = cc
      by None none (Ok tt) e =
          let each = each_none (sample_checks portfolio.rows portfolio.need samples ∷ summary_size_check portfolio.rows portfolio.need samples ∷ []) none in
          fits_samples portfolio.rows portfolio.need valid.only_needed samples (each 0) (each 1)
