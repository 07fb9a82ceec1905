-- The rows of the set have each of its keys, and a key has the summary of its id first.
use Rattle.std.proofs.Common.{◌+◌, ◌*◌, ◌^◌, ◌∙◌, List, ap, arith, nat_eq, nat_le}
use Rattle.std.specs.Prelude.{◌&&◌, option_map, slice_get}
use Rattle.std.specs.List.{filter}
use Rattle.kt_tables.specs.SetRows.{unit_key}
use Rattle.kt_tables.specs.Lookups.{summary_rows}
use Rattle.kt_tables.specs.declared.summaries.UnitSummary.{UnitSummary}
use Rattle.kt_tables.proofs.DamageLemmas.{narrowed}
use Rattle.kt_tables.proofs.SummaryKeyLemmas.{summary_by_key, units_few}
use Rattle.kt_tables.proofs.portfolio.Portfolio.set_summaries.Goals as goal

pub returns : goal.returns
returns c = record {
  value = λ id short.
      let rows = c.args.self.now.rows in
      let set = c.args.set in
      let key = set * 2 ^ 32 + id in
      ap (λ (found : List UnitSummary). option_map (λ row. row.summary) (slice_get found 0))
      (ap (filter (λ row. nat_eq (unit_key row) key)) (c.rows_between.ensures.value ∙ ap (filter (λ row. nat_le c.pair_key.result (unit_key row) && nat_le (unit_key row) c.pair_key-2.result)) c.as_slice-by_id.ensures.value)
      ∙ (narrowed unit_key c.pair_key.result c.pair_key-2.result key (omega (arith, c.pair_key.ensures.value)) (omega (arith, c.pair_key-2.ensures.value)) c.summaries.result.now.by_id
      ∙ c.summaries.ensures.value.of_ids.by_id key))
      ∙ summary_by_key set id short (summary_rows c.args.perspective rows) (units_few c.args.perspective rows c.is_valid.ensures.valid.in_range);
}
