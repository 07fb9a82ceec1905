use Rattle.std.proofs.Common.{◌≡◌, ◌∙◌, ℕ, List, Option, ap, nat_eq}
use Rattle.std.proofs.Math.Path.{fun_ext}
use Rattle.std.specs.Prelude.{◌&&◌}
use Rattle.std.specs.List.{list_any}
use Rattle.std.proofs.lemmas.Result.{IfOk-weaker}
use Rattle.kt_rec.specs.Rows.{rows_of}
use Rattle.kt_rec.specs.declared.exposure.Item.{Item}
use Rattle.kt_rec.specs.declared.financial.FmProgramme.{FmProgramme}
use Rattle.kt_keys.specs.Keys.{programme_of}
use Rattle.kt_keys.specs.UnitTable.{value_of}
use Rattle.kt_keys.specs.Units.{top_level}
use Rattle.kt_keys.specs.Climbing.{climbed, next_unit}
use Rattle.kt_exposure.specs.declared.exposure.UnitCoverage.{UnitCoverage}
use Rattle.kt_exposure.specs.Exposure.{unit_covers}
use Rattle.kt_tables.specs.Lookups.{is_unit, lies_beneath, top_unit}
use Rattle.kt_tables.proofs.ExposureLemmas.{beneath-covers}
use Rattle.kt_tables.proofs.exposures.beneath.Goals as goal

pub returns : goal.returns
returns c =
    let rows = rows_of c.args.tables.now in
    let top = c.top_level.result in
    let next = value_of c.in_ok-next.next in
    let next_is : next ≡ next_unit (programme_of rows 0) = fun_ext (λ (key : ℕ × ℕ). c.in_ok-next.ensures.value key ∙ ap (λ (rows : List FmProgramme). next_unit rows key) c.programme-programme.ensures.value) in
    let top_is : top ≡ top_level (programme_of rows 0) = c.top_level.ensures.value ∙ ap top_level c.programme-programme.ensures.value in
    let climb_is : climbed next top 1 ≡ top_unit rows = ap (λ found. climbed found top 1) next_is ∙ ap (λ levels. climbed (next_unit (programme_of rows 0)) levels 1) top_is in
    record {
      value =
          IfOk-weaker c.top_coverages.result _ (λ pairs. (unit : ℕ) (coverage : ℕ) → unit_covers pairs.items unit coverage ≡ lies_beneath rows unit coverage)
          (λ pairs is unit coverage. ap (λ (list : List UnitCoverage). unit_covers list unit coverage) is
          ∙ (beneath-covers (climbed next top 1) c.deref.result.now unit coverage
          ∙ (ap (λ (climb : ℕ → Option ℕ). list_any (λ row. is_unit unit (climb row.item_id) && nat_eq row.coverage_id coverage) c.deref.result.now) climb_is
          ∙ ap (λ (items : List Item). list_any (λ row. is_unit unit (top_unit rows row.item_id) && nat_eq row.coverage_id coverage) items) c.deref.ensures.value)))
          c.top_coverages.ensures.value;
    }
