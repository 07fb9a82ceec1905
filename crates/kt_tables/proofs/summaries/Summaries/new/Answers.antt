use Rattle.std.proofs.Common.{rules, ◌∙◌, ap, nat_eq}
use Rattle.std.specs.List.{filter}
use Rattle.kt_tables.specs.SetRows.{unit_key}
use Rattle.kt_tables.proofs.summaries.Summaries.new.Goals as goal

pub returns-clause-value : goal.returns-clause-value
returns-clause-value c = record {
  sets = search rules;
  by_id = λ key. c.in_ok-of_rows.ensures.kept key ∙ ap (filter (λ row. nat_eq (unit_key row) key)) c.in_ok-units.ensures.value;
}
