-- The summaries of a portfolio: they are ids, and an exposure is at most what the coverages of all items are worth, one for each item.
use Rattle.std.proofs.Common.{◌≡◌, ℕ, ◌≤◌, Bool, true, false, cond, List, [], ◌∷◌, map, refl, ap, ◌∙◌, subst, nat_eq, Some, arith}
use Rattle.std.specs.Prelude.{◌&&◌}
use Rattle.std.specs.List.{AllByRecursion, list_any, sum_by}
use Rattle.std.specs.Map.{lookup}
use Rattle.std.proofs.lemmas.Bool.{and_parts}
use Rattle.std.proofs.lemmas.List.Elements.{recursion_from_All}
use Rattle.std.proofs.lemmas.List.Folds.{Any-from_list_any, list_any_at}
use Rattle.std.proofs.lemmas.List.Sums.{sum_by-le-sum_by}
use Rattle.kt_rec.specs.Ranges.{IsFmSummaryXref, IsGulSummaryXref, IsId}
use Rattle.kt_rec.specs.Rows.{Rows}
use Rattle.kt_rec.specs.declared.summary.FmSummaryXref.{FmSummaryXref}
use Rattle.kt_rec.specs.declared.summary.GulSummaryXref.{GulSummaryXref}
use Rattle.kt_keys.specs.Keys.{same_pair}
use Rattle.kt_rec.specs.declared.exposure.Coverage.{Coverage}
use Rattle.kt_rec.specs.declared.exposure.Item.{Item}
use Rattle.kt_rec.specs.declared.perspective.Perspective.{Perspective}
use Rattle.kt_rec.specs.declared.perspective.Perspective.TheVariants.{Gul, Il, Ri}
use Rattle.kt_checks.specs.TableChecks.{tiv_of}
use Rattle.kt_checks.specs.Worth.{covered_le}
use Rattle.kt_tables.specs.SummaryLaws.{KeepsSummaries}
use Rattle.kt_exposure.specs.declared.exposure.SummaryUnit.{SummaryUnit}
use Rattle.kt_tables.specs.Lookups.{exposure_of, id_has, is_unit, item_has, item_summary_rows, lies_beneath, output_has, output_summary_rows, summary_has, summary_in, summary_rows, top_unit, unit_has}
use Rattle.kt_tables.specs.Portfolio.{PortfolioRows, IsPortfolio}
use Rattle.kt_tables.specs.PortfolioLaws.{coverages_distinct, sizes_kept}

-- ---- summaries are ids

-- a summary that is found is that of a row
found_each : (rows : List SummaryUnit) → AllByRecursion (λ row. IsId row.summary) rows → (key : ℕ × ℕ) (summary : ℕ) → lookup (same_pair key) (map (λ row. ((row.unit, row.set), row.summary)) rows) ≡ Some summary → IsId summary
found_each [] each key summary is = cc
found_each (row ∷ rows) each key summary is = by (same_pair key (row.unit, row.set)) (found_each rows each.1 key summary) is
  where
    same : (a b : ℕ) → Some a ≡ Some b → a ≡ b
    same a b is = cc

    by : (b : Bool) → (lookup (same_pair key) (map (λ row. ((row.unit, row.set), row.summary)) rows) ≡ Some summary → IsId summary) → cond b (Some row.summary) (lookup (same_pair key) (map (λ row. ((row.unit, row.set), row.summary)) rows)) ≡ Some summary → IsId summary
    by true later is = subst IsId (same row.summary summary is) each.0
    by false later is = later is

-- the summaries of items
item_each : (rows : List GulSummaryXref) → AllByRecursion IsGulSummaryXref rows → AllByRecursion (λ (row : SummaryUnit). IsId row.summary) (map (λ row. record { set = row.summaryset_id; summary = row.summary_id; unit = row.item_id }) rows)
item_each [] each = tt
item_each (row ∷ rows) each = (each.0.summary_id, item_each rows each.1)

-- the summaries of outputs
output_each : (rows : List FmSummaryXref) → AllByRecursion IsFmSummaryXref rows → AllByRecursion (λ (row : SummaryUnit). IsId row.summary) (map (λ row. record { set = row.summaryset_id; summary = row.summary_id; unit = row.output_id }) rows)
output_each [] each = tt
output_each (row ∷ rows) each = (each.0.summary_id, output_each rows each.1)

-- ---- what a summary is of, some item is of

-- what follows from each row that passes follows from one that does
any_gives : {X : Type 0} (test : X → Bool) (b : Bool) → ((row : X) → test row ≡ true → b ≡ true) → (rows : List X) → list_any test rows ≡ true → b ≡ true
any_gives test b implies rows some = let found = Any-from_list_any test rows some in implies found.1 found.4

-- a weaker test passes where a stronger one does
any_weaker : {X : Type 0} (test other : X → Bool) → ((row : X) → test row ≡ true → other row ≡ true) → (rows : List X) → list_any test rows ≡ true → list_any other rows ≡ true
any_weaker test other implies rows some =
    let found = Any-from_list_any test rows some in
    list_any_at other rows found.0 found.1 found.2 (ap other found.3 ∙ implies found.1 found.4)

-- whether some item is of a coverage
abbrev is_covered : List Item → ℕ → Bool
is_covered items coverage = list_any (λ row. nat_eq row.coverage_id coverage) items

-- what an item is of, some item is of
item_covered : (items : List Item) (item coverage : ℕ) → item_has items item coverage ≡ true → is_covered items coverage ≡ true
item_covered items item coverage has = any_weaker (λ row. nat_eq row.item_id item && nat_eq row.coverage_id coverage) (λ row. nat_eq row.coverage_id coverage) (λ row both. (and_parts _ _ both).1) items has

-- what a unit is of, some item is of
unit_covered : (rows : Rows) (rule unit coverage : ℕ) → unit_has rows rule unit coverage ≡ true → is_covered rows.items coverage ≡ true
unit_covered rows rule unit coverage has = by (nat_eq rule 0) has
  where
    by : (b : Bool) → cond b (lies_beneath rows unit coverage) (item_has rows.items unit coverage) ≡ true → is_covered rows.items coverage ≡ true
    by true has = any_weaker (λ row. is_unit unit (top_unit rows row.item_id) && nat_eq row.coverage_id coverage) (λ row. nat_eq row.coverage_id coverage) (λ row both. (and_parts _ _ both).1) rows.items has
    by false has = item_covered rows.items unit coverage has

-- what an output is of, some item is of
output_covered : (rows : Rows) (rule output coverage : ℕ) → output_has rows rule output coverage ≡ true → is_covered rows.items coverage ≡ true
output_covered rows rule output coverage has =
    any_gives (λ row. nat_eq row.output_id output && unit_has rows rule row.agg_id coverage) (is_covered rows.items coverage) (λ row both. unit_covered rows rule row.agg_id coverage ((and_parts _ _ both).1)) rows.fm_xref has

-- what an id is of, some item is of
id_covered : (perspective : Perspective) (rows : Rows) (rule id coverage : ℕ) → id_has perspective rows rule id coverage ≡ true → is_covered rows.items coverage ≡ true
id_covered Gul rows rule id coverage has = item_covered rows.items id coverage has
id_covered Il rows rule id coverage has = output_covered rows rule id coverage has
id_covered Ri rows rule id coverage has = output_covered rows rule id coverage has

-- what a summary is of, some item is of
summary_covered : (perspective : Perspective) (rows : Rows) (rule set summary coverage : ℕ) → summary_has perspective rows rule set summary coverage ≡ true → is_covered rows.items coverage ≡ true
summary_covered perspective rows rule set summary coverage has =
    any_gives (λ row. nat_eq row.set set && nat_eq row.summary summary && id_has perspective rows rule row.unit coverage) (is_covered rows.items coverage) (λ row both. id_covered perspective rows rule row.unit coverage ((and_parts _ _ both).1)) (summary_rows perspective rows) has

-- ---- sums of values

-- a value that a stronger test lets through is let through by a weaker one
cond_le : (a b : Bool) (n : ℕ) → (a ≡ true → b ≡ true) → cond a n 0 ≤ cond b n 0
cond_le true true n implies = omega arith
cond_le true false n implies = let clash : false ≡ true = implies refl in cc
cond_le false b n implies = omega arith

-- ---- the bound

module _ (portfolio : PortfolioRows) (valid : IsPortfolio portfolio) where
  -- what the items' coverages are worth, one for each item
  abbrev worth : ℕ
  worth = sum_by (λ row. tiv_of portfolio.rows.coverages row.coverage_id) portfolio.rows.items

  -- an exposure is at most that
  exposure_le : (perspective : Perspective) (set summary : ℕ) → exposure_of perspective portfolio.rows portfolio.need.rule set summary ≤ worth
  exposure_le perspective set summary =
      let rows = portfolio.rows in
      let rule = portfolio.need.rule in
      omega (
        arith,
        sum_by-le-sum_by (λ (row : Coverage). cond (summary_has perspective rows rule set summary row.coverage_id) row.tiv 0) (λ row. cond (is_covered rows.items row.coverage_id) row.tiv 0) rows.coverages (λ row. cond_le _ _ row.tiv (summary_covered perspective rows rule set summary row.coverage_id)),
        covered_le rows.coverages (coverages_distinct portfolio valid) rows.items,
      )

  -- a summary that a set has for an id is an id itself
  known : (perspective : Perspective) (set id summary : ℕ) → summary_in perspective portfolio.rows set id ≡ Some summary → IsId summary
  known Gul set id summary is = found_each (item_summary_rows portfolio.rows) (item_each portfolio.rows.gulsummaryxref (recursion_from_All IsGulSummaryXref portfolio.rows.gulsummaryxref valid.in_range.gulsummaryxref)) (id, set) summary is
  known Il set id summary is = found_each (output_summary_rows portfolio.rows) (output_each portfolio.rows.fmsummaryxref (recursion_from_All IsFmSummaryXref portfolio.rows.fmsummaryxref valid.in_range.fmsummaryxref)) (id, set) summary is
  known Ri set id summary is = found_each (output_summary_rows portfolio.rows) (output_each portfolio.rows.fmsummaryxref (recursion_from_All IsFmSummaryXref portfolio.rows.fmsummaryxref valid.in_range.fmsummaryxref)) (id, set) summary is

  -- what every portfolio's summaries keep
  pub summaries_kept : KeepsSummaries portfolio
  summaries_kept = record {
    known = known;
    exposures = λ perspective set summary. omega (arith, exposure_le perspective set summary, (sizes_kept portfolio valid).values);
  }
