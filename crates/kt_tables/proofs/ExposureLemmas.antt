-- The exposures of summaries: sums over distinct coverages, and the units of items and outputs.
use Rattle.std.proofs.Common.{◌≡◌, ℕ, Bool, true, false, cond, List, [], ◌∷◌, map, refl, ap, sym, subst, ◌∙◌, nat_eq, Option, None, Some}
use Rattle.std.proofs.Math.Path.{fun_ext}
use Rattle.std.specs.Prelude.{◌&&◌, ◌||◌, option_map, slice_get}
use Rattle.std.specs.Cmp.{nat_eq_equiv}
use Rattle.std.specs.List.{IsDistinct, cons_option, filter, filter_map, list_any, sum_by}
use Rattle.std.specs.Map.{lookup}
use Rattle.std.proofs.lemmas.Bool.{eqb-true, or_parts}
use Rattle.std.proofs.lemmas.Map.Keys.{IsDistinct-head, IsDistinct-tail}
use Rattle.kt_rec.specs.declared.exposure.Coverage.{Coverage}
use Rattle.kt_rec.specs.declared.exposure.Item.{Item}
use Rattle.kt_rec.specs.declared.financial.FmXref.{FmXref}
use Rattle.kt_checks.specs.TableChecks.{tiv_of}
use Rattle.kt_checks.specs.Worth.{absent, total_is, values-few}
use Rattle.kt_exposure.specs.declared.exposure.SummaryUnit.{SummaryUnit}
use Rattle.kt_exposure.specs.declared.exposure.UnitCoverage.{UnitCoverage}
use Rattle.kt_exposure.specs.Exposure.{unit_covers, summary_covers, IsTotalOf}
use Rattle.kt_tables.specs.Portfolio.{PortfolioRows, IsPortfolio}
use Rattle.kt_tables.specs.PortfolioLaws.{coverages_distinct, keys_kept, coverages_within}
use Rattle.kt_tables.specs.Kept.{AreAddable}
use Rattle.kt_rec.specs.Rows.{Rows}
use Rattle.kt_tables.specs.Lookups.{agg_of, item_has, is_unit, lies_beneath, unit_has}

-- a test of what a function gives
pub list_any-map : {A B : Type 0} (f : A → B) (test : B → Bool) (rows : List A) → list_any test (map f rows) ≡ list_any (λ row. test (f row)) rows
list_any-map f test [] = refl
list_any-map f test (row ∷ rows) = ap (λ b. test (f row) || b) (list_any-map f test rows)

-- what every portfolio's exposures stand on
pub addable : (portfolio : PortfolioRows) → IsPortfolio portfolio → AreAddable portfolio.rows
addable portfolio valid = record {
  coverages = coverages_distinct portfolio valid;
  outputs = (keys_kept portfolio valid).outputs;
  values = values-few portfolio.rows.coverages (coverages_distinct portfolio valid) valid.in_range.coverages (coverages_within portfolio valid);
}

-- the exposure of a summary is its total
pub total-exposure : (coverages : List Coverage) → IsDistinct nat_eq (map (λ row. row.coverage_id) coverages) → (value : ℕ → ℕ) → ((id : ℕ) → value id ≡ tiv_of coverages id) → (test other : ℕ → Bool) → ((id : ℕ) → test id ≡ other id) → (total : ℕ) → IsTotalOf test value total → total ≡ sum_by (λ row. cond (other row.coverage_id) row.tiv 0) coverages
total-exposure coverages apart value is test other agree total h =
    h.is ∙ (ap (λ f. sum_by f h.ids) (fun_ext is) ∙ total_is coverages apart other h.ids h.distinct (λ id. h.passing id ∙ agree id))

-- an item covers what it has
pub item-unit : (items : List Item) (item coverage : ℕ) → unit_covers (map (λ row. record { unit = row.item_id; coverage = row.coverage_id }) items) item coverage ≡ item_has items item coverage
item-unit items item coverage = list_any-map (λ row. record { unit = row.item_id; coverage = row.coverage_id }) (λ pair. nat_eq pair.unit item && nat_eq pair.coverage coverage) items

-- by a rule other than 0 outputs are for items
pub unit-not_zero : (rows : Rows) (rule unit coverage : ℕ) → (rule ≡ 0 → ⊥) → item_has rows.items unit coverage ≡ unit_has rows rule unit coverage
unit-not_zero rows rule unit coverage other = by (nat_eq rule 0) refl
  where
    by : (b : Bool) → nat_eq rule 0 ≡ b → item_has rows.items unit coverage ≡ cond b (lies_beneath rows unit coverage) (item_has rows.items unit coverage)
    by true e = absurd (other (eqb-true rule 0 e))
    by false e = refl

-- the items of a summary cover what its items have
pub item-covers : (rows : List SummaryUnit) (items : List Item) (pairs : List UnitCoverage) → pairs ≡ map (λ row. record { unit = row.item_id; coverage = row.coverage_id }) items → (key : ℕ × ℕ) (coverage : ℕ) → summary_covers rows pairs key coverage ≡ list_any (λ row. nat_eq row.set key.0 && nat_eq row.summary key.1 && item_has items row.unit coverage) rows
item-covers rows items pairs pairs_are key coverage =
    ap (λ test. list_any test rows) (fun_ext (λ (row : SummaryUnit). ap (λ b. nat_eq row.set key.0 && nat_eq row.summary key.1 && b) (ap (λ (list : List UnitCoverage). unit_covers list row.unit coverage) pairs_are ∙ item-unit items row.unit coverage)))

-- what the items beneath the units of the top level have
pub beneath-covers : (climb : ℕ → Option ℕ) (items : List Item) (unit coverage : ℕ) → unit_covers (filter_map (λ row. option_map (λ found. record { unit = found; coverage = row.coverage_id }) (climb row.item_id)) items) unit coverage ≡ list_any (λ row. is_unit unit (climb row.item_id) && nat_eq row.coverage_id coverage) items
beneath-covers climb [] unit coverage = refl
beneath-covers climb (row ∷ items) unit coverage = by (climb row.item_id) (beneath-covers climb items unit coverage)
  where
    by : (found : Option ℕ) → unit_covers (filter_map (λ x. option_map (λ y. record { unit = y; coverage = x.coverage_id }) (climb x.item_id)) items) unit coverage ≡ list_any (λ x. is_unit unit (climb x.item_id) && nat_eq x.coverage_id coverage) items → unit_covers (cons_option (option_map (λ y. record { unit = y; coverage = row.coverage_id }) found) (filter_map (λ x. option_map (λ y. record { unit = y; coverage = x.coverage_id }) (climb x.item_id)) items)) unit coverage ≡ ((is_unit unit found && nat_eq row.coverage_id coverage) || list_any (λ x. is_unit unit (climb x.item_id) && nat_eq x.coverage_id coverage) items)
    by None rest = rest
    by (Some other) rest = ap (λ b. (nat_eq other unit && nat_eq row.coverage_id coverage) || b) rest

-- whether what an output is for, which may be absent, has a coverage
abbrev pub found_has : (ℕ → ℕ → Bool) → ℕ → Option ℕ → Bool
found_has has coverage None = false
found_has has coverage (Some unit) = has unit coverage

module _ (has : ℕ → ℕ → Bool) (coverage : ℕ) where
  -- an output that is absent has nothing
  xref-none : (rows : List FmXref) (output : ℕ) → list_any (nat_eq output) (map (λ row. row.output_id) rows) ≡ false → list_any (λ row. nat_eq row.output_id output && has row.agg_id coverage) rows ≡ false
  xref-none [] output none = refl
  xref-none (row ∷ rows) output none =
      let parts = or_parts (nat_eq output row.output_id) (list_any (nat_eq output) (map (λ x. x.output_id) rows)) none in
      rw (nat_eq_equiv.symm row.output_id output, parts.0, xref-none rows output parts.1) refl

  -- where outputs are distinct, an output has what its only row has
  xref-has : (rows : List FmXref) (output : ℕ) → IsDistinct nat_eq (map (λ row. row.output_id) rows) → list_any (λ row. nat_eq row.output_id output && has row.agg_id coverage) rows ≡ found_has has coverage (lookup (nat_eq output) (map (λ row. (row.output_id, row.agg_id)) rows))
  xref-has [] output apart = refl
  xref-has (row ∷ rows) output apart =
      ap (λ b. (b && has row.agg_id coverage) || list_any (λ x. nat_eq x.output_id output && has x.agg_id coverage) rows) (nat_eq_equiv.symm row.output_id output)
      ∙ by (nat_eq output row.output_id) refl (xref-has rows output (IsDistinct-tail nat_eq row.output_id (map (λ x. x.output_id) rows) apart)) (xref-none rows row.output_id (absent row.output_id _ (IsDistinct-head nat_eq row.output_id (map (λ x. x.output_id) rows) apart)))
    where
      or_false : (b : Bool) → (b || false) ≡ b
      or_false true = refl
      or_false false = refl

      by : (b : Bool) → nat_eq output row.output_id ≡ b → list_any (λ x. nat_eq x.output_id output && has x.agg_id coverage) rows ≡ found_has has coverage (lookup (nat_eq output) (map (λ x. (x.output_id, x.agg_id)) rows)) → list_any (λ x. nat_eq x.output_id row.output_id && has x.agg_id coverage) rows ≡ false → ((b && has row.agg_id coverage) || list_any (λ x. nat_eq x.output_id output && has x.agg_id coverage) rows) ≡ found_has has coverage (cond b (Some row.agg_id) (lookup (nat_eq output) (map (λ x. (x.output_id, x.agg_id)) rows)))
      by true e rest none = ap (λ b. has row.agg_id coverage || b) (subst (λ n. list_any (λ x. nat_eq x.output_id n && has x.agg_id coverage) rows ≡ false) (sym (eqb-true output row.output_id e)) none) ∙ or_false (has row.agg_id coverage)
      by false e rest none = rest

  -- the units of the summaries of outputs cover what the outputs have
  pub output-covers : (rows : List SummaryUnit) (outputs : List FmXref) (pairs : List UnitCoverage) (units : ℕ → Option ℕ) (key : ℕ × ℕ) → IsDistinct nat_eq (map (λ row. row.output_id) outputs) → ((id : ℕ) → units id ≡ lookup (nat_eq id) (map (λ row. (row.output_id, row.agg_id)) outputs)) → ((unit : ℕ) → unit_covers pairs unit coverage ≡ has unit coverage) → summary_covers (filter_map (λ row. option_map (λ unit. record { set = row.set; summary = row.summary; unit = unit }) (units row.unit)) rows) pairs key coverage ≡ list_any (λ row. nat_eq row.set key.0 && nat_eq row.summary key.1 && list_any (λ x. nat_eq x.output_id row.unit && has x.agg_id coverage) outputs) rows
  output-covers [] outputs pairs units key apart known agree = refl
  output-covers (row ∷ rows) outputs pairs units key apart known agree = by (units row.unit) (xref-has outputs row.unit apart ∙ ap (found_has has coverage) (sym (known row.unit))) (output-covers rows outputs pairs units key apart known agree)
    where
      skip : (a b : Bool) → b ≡ (a && false || b)
      skip true b = refl
      skip false b = refl

      by : (found : Option ℕ) → list_any (λ x. nat_eq x.output_id row.unit && has x.agg_id coverage) outputs ≡ found_has has coverage found → summary_covers (filter_map (λ x. option_map (λ unit. record { set = x.set; summary = x.summary; unit = unit }) (units x.unit)) rows) pairs key coverage ≡ list_any (λ x. nat_eq x.set key.0 && nat_eq x.summary key.1 && list_any (λ y. nat_eq y.output_id x.unit && has y.agg_id coverage) outputs) rows → summary_covers (cons_option (option_map (λ unit. record { set = row.set; summary = row.summary; unit = unit }) found) (filter_map (λ x. option_map (λ unit. record { set = x.set; summary = x.summary; unit = unit }) (units x.unit)) rows)) pairs key coverage ≡ ((nat_eq row.set key.0 && nat_eq row.summary key.1 && list_any (λ y. nat_eq y.output_id row.unit && has y.agg_id coverage) outputs) || list_any (λ x. nat_eq x.set key.0 && nat_eq x.summary key.1 && list_any (λ y. nat_eq y.output_id x.unit && has y.agg_id coverage) outputs) rows)
      by None here rest = rest ∙ (skip (nat_eq row.set key.0 && nat_eq row.summary key.1) _ ∙ ap (λ b. (nat_eq row.set key.0 && nat_eq row.summary key.1 && b) || list_any (λ x. nat_eq x.set key.0 && nat_eq x.summary key.1 && list_any (λ y. nat_eq y.output_id x.unit && has y.agg_id coverage) outputs) rows) (sym here))
      by (Some unit) here rest = ap (λ b. (nat_eq row.set key.0 && nat_eq row.summary key.1 && b) || summary_covers (filter_map (λ x. option_map (λ u. record { set = x.set; summary = x.summary; unit = u }) (units x.unit)) rows) pairs key coverage) (agree unit ∙ sym here) ∙ ap (λ b. (nat_eq row.set key.0 && nat_eq row.summary key.1 && list_any (λ y. nat_eq y.output_id row.unit && has y.agg_id coverage) outputs) || b) rest

-- what an output is for stands in its first row
pub agg_is : (rows : List FmXref) (output : ℕ) → agg_of rows output ≡ lookup (nat_eq output) (map (λ row. (row.output_id, row.agg_id)) rows)
agg_is [] output = refl
agg_is (row ∷ rows) output = rw (nat_eq_equiv.symm row.output_id output) (by (nat_eq output row.output_id) (agg_is rows output))
  where
    by : (b : Bool) → agg_of rows output ≡ lookup (nat_eq output) (map (λ x. (x.output_id, x.agg_id)) rows) → option_map (λ x. x.agg_id) (slice_get (cond b (row ∷ filter (λ x. nat_eq x.output_id output) rows) (filter (λ x. nat_eq x.output_id output) rows)) 0) ≡ cond b (Some row.agg_id) (lookup (nat_eq output) (map (λ x. (x.output_id, x.agg_id)) rows))
    by true rest = refl
    by false rest = rest
