use Rattle.std.proofs.Common.{◌∙◌, ℕ, List, Option, map, ap, nat_eq, unwrap_or}
use Rattle.std.specs.Prelude.{◌&&◌, option_map, slice_get}
use Rattle.std.specs.List.{list_any}
use Rattle.std.specs.Map.{lookup}
use Rattle.std.proofs.lemmas.Result.{IfOk-weaker}
use Rattle.kt_rec.specs.Rows.{rows_of}
use Rattle.kt_rec.specs.declared.financial.FmXref.{FmXref}
use Rattle.kt_rec.specs.declared.perspective.Perspective.TheVariants.{Il}
use Rattle.kt_exposure.specs.declared.exposure.SummaryUnit.{SummaryUnit}
use Rattle.kt_exposure.specs.Exposure.{summary_covers, value_in}
use Rattle.kt_tables.specs.Lookups.{agg_of, unit_has, output_has, summary_has}
use Rattle.kt_tables.specs.Kept.{AreExposures}
use Rattle.kt_tables.proofs.ExposureLemmas.{agg_is, output-covers, total-exposure}
use Rattle.kt_tables.proofs.exposures.output_exposures.Goals as goal

pub returns : goal.returns
returns c =
    let rows = rows_of c.args.tables.now in
    let rule = c.args.rule in
    let aggs = (λ (id : ℕ). agg_of c.in_ok-outputs.outputs id) in
    let known = (λ (id : ℕ). ap (λ (found : List FmXref). option_map (λ row. row.agg_id) (slice_get found 0)) (c.in_ok-outputs.ensures.kept id) ∙ (agg_is c.deref.result.now id ∙ ap (λ (rows : List FmXref). lookup (nat_eq id) (map (λ row. (row.output_id, row.agg_id)) rows)) c.deref.ensures.value)) in
    let units = c.in_ok-units.ensures.value in
    record {
      value =
          IfOk-weaker c.exposures.result _ (AreExposures Il rows rule)
          (λ found totals key.
          total-exposure rows.coverages c.requires.addable.coverages (value_in c.args.tivs.now) (λ id. ap (λ (value : Option ℕ). unwrap_or value 0) (c.requires.tivs id)) _ (summary_has Il rows rule key.0 key.1)
          (λ coverage. ap (λ (list : List SummaryUnit). summary_covers list c.in_ok-coverages.coverages.items key coverage) units
          ∙ (output-covers (unit_has rows rule) coverage c.args.rows.now rows.fm_xref c.in_ok-coverages.coverages.items aggs key c.requires.addable.outputs known
          (λ unit. c.in_ok-coverages.ensures.value unit coverage)
          ∙ ap (λ (list : List SummaryUnit). list_any (λ row. nat_eq row.set key.0 && nat_eq row.summary key.1 && output_has rows rule row.unit coverage) list) c.requires.rows))
          _ (totals key))
          c.exposures.ensures.value;
    }
