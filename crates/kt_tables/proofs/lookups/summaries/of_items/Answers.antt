use Rattle.std.proofs.Common.{◌∙◌, ℕ, ap, map}
use Rattle.std.proofs.lemmas.Result.{IfOk-weaker}
use Rattle.kt_rec.specs.Rows.{rows_of}
use Rattle.kt_rec.specs.declared.perspective.Perspective.TheVariants.{Gul}
use Rattle.kt_rec.specs.declared.summary.GulSummaryXref.{GulSummaryXref}
use Rattle.kt_tables.specs.Kept.{AreSummariesOf}
use Rattle.kt_tables.proofs.KeptLemmas.{summaries_made}
use Rattle.kt_tables.proofs.lookups.summaries.of_items.Goals as goal

pub returns : goal.returns
returns c = record {
  value =
      IfOk-weaker c.new.result _ (λ found. (rule : ℕ) → AreSummariesOf Gul (rows_of c.args.tables.now) rule found) (λ found of rule. of rule (c.in_ok-exposures.ensures.value rule))
      (summaries_made Gul (rows_of c.args.tables.now) c.deref-3.result.now _ c.new.result
      (c.deref-3.ensures.value ∙ (c.in_ok-rows.ensures.value ∙ ap (map (λ (row : GulSummaryXref). record { set = row.summaryset_id; summary = row.summary_id; unit = row.item_id })) c.deref.ensures.value)) c.new.ensures.value c.new.ensures.exposures);
}
