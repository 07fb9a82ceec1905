use Rattle.std.proofs.Common.{◌≡◌, ◌∙◌, ℕ, List, ap}
use Rattle.std.proofs.lemmas.Result.{IfOk-weaker}
use Rattle.kt_rec.specs.Rows.{rows_of}
use Rattle.kt_rec.specs.declared.exposure.Item.{Item}
use Rattle.kt_exposure.specs.declared.exposure.UnitCoverage.{UnitCoverage}
use Rattle.kt_exposure.specs.Exposure.{unit_covers}
use Rattle.kt_tables.specs.Lookups.{item_has, unit_has}
use Rattle.kt_tables.proofs.ExposureLemmas.{item-unit, unit-not_zero}
use Rattle.kt_tables.proofs.exposures.unit_coverages.Goals as goal

pub returns-else-rule-eq0 : goal.returns-else-rule-eq0
returns-else-rule-eq0 c = record {
  value =
      let rows = rows_of c.args.tables.now in
      IfOk-weaker c.parts_of.result _ (λ pairs. (unit : ℕ) (coverage : ℕ) → unit_covers pairs.items unit coverage ≡ unit_has rows c.args.rule unit coverage)
      (λ pairs is unit coverage. ap (λ (list : List UnitCoverage). unit_covers list unit coverage) is
      ∙ (item-unit c.deref.result.now unit coverage
      ∙ (ap (λ (items : List Item). item_has items unit coverage) c.deref.ensures.value
      ∙ unit-not_zero rows c.args.rule unit coverage c.if-rule-eq0.false)))
      c.parts_of.ensures.value;
}
