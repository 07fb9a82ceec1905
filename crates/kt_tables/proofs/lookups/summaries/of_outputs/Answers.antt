use Rattle.std.proofs.Common.{◌∙◌, ap, map}
use Rattle.std.proofs.lemmas.Result.{IfOk-weaker}
use Rattle.kt_rec.specs.Rows.{rows_of}
use Rattle.kt_rec.specs.declared.perspective.Perspective.TheVariants.{Il}
use Rattle.kt_rec.specs.declared.summary.FmSummaryXref.{FmSummaryXref}
use Rattle.kt_tables.specs.Kept.{AreSummariesOf}
use Rattle.kt_tables.proofs.KeptLemmas.{summaries_made}
use Rattle.kt_tables.proofs.lookups.summaries.of_outputs.Goals as goal

pub returns : goal.returns
returns c = record {
  value =
      IfOk-weaker c.new.result _ (AreSummariesOf Il (rows_of c.args.tables.now) c.args.rule) (λ found of. of c.args.rule c.in_ok-exposures.ensures.value)
      (summaries_made Il (rows_of c.args.tables.now) c.deref-3.result.now _ c.new.result
      (c.deref-3.ensures.value ∙ (c.in_ok-rows.ensures.value ∙ ap (map (λ (row : FmSummaryXref). record { set = row.summaryset_id; summary = row.summary_id; unit = row.output_id })) c.deref.ensures.value)) c.new.ensures.value c.new.ensures.exposures);
}
