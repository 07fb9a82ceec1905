use Rattle.std.proofs.Common.{◌∙◌, ℕ, List, ap, map, nat_eq}
use Rattle.std.specs.Prelude.{option_map, slice_get}
use Rattle.std.specs.List.{filter}
use Rattle.kt_tables.specs.Kept.{unit_summary}
use Rattle.kt_tables.specs.SetRows.{unit_key}
use Rattle.kt_tables.specs.Lookups.{summary_rows}
use Rattle.kt_tables.specs.declared.summaries.UnitSummary.{UnitSummary}
use Rattle.kt_tables.proofs.SummaryKeyLemmas.{summary_by_key, units_few}
use Rattle.kt_tables.proofs.portfolio.Portfolio.summary_of.Goals as goal

pub returns : goal.returns
returns c = record {
  value =
      let rows = c.args.self.now.rows in
      c.first_summary.ensures.value
      ∙ (ap (λ (found : List UnitSummary). option_map (λ row. row.summary) (slice_get found 0))
      (c.of.ensures.value
      ∙ (c.summaries-summaries.ensures.value.of_ids.by_id c.pair_key.result
      ∙ ap (λ (key : ℕ). filter (λ row. nat_eq (unit_key row) key) (map unit_summary (summary_rows c.args.perspective rows))) c.pair_key.ensures.value))
      ∙ summary_by_key c.args.set c.args.id c.ranges.id.fits (summary_rows c.args.perspective rows) (units_few c.args.perspective rows c.is_valid.ensures.valid.in_range));
}
