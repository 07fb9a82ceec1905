-- The first row of the key of the id has its summary.
use Rattle.std.proofs.Common.{◌∙◌, ℕ, List, ap, nat_eq}
use Rattle.std.specs.Prelude.{option_map, slice_get}
use Rattle.std.specs.List.{filter}
use Rattle.kt_tables.specs.SetRows.{SetRows, summary_at, unit_key}
use Rattle.kt_tables.specs.declared.summaries.UnitSummary.{UnitSummary}
use Rattle.kt_tables.proofs.set.SetSummaries.of.Goals as goal

pub returns : goal.returns
returns c = record {
  value = λ find found.
      c.first_summary.ensures.value
      ∙ (ap (λ (rows : List UnitSummary). option_map (λ row. row.summary) (slice_get rows 0)) (c.rows_near.ensures.value ∙ ap (λ (key : ℕ). filter (λ row. nat_eq (unit_key row) key) c.self.inside.rows.now) c.pair_key.ensures.value)
      ∙ (ap (λ (summaries : SetRows). summary_at summaries c.args.id) c.self.view_is ∙ found c.args.id c.ranges.id.fits));
}
