use Rattle.std.proofs.Common.{rules, ◌≡◌, ◌*◌, ◌+◌, ◌^◌, ◌∙◌, ℕ, List, map, ap, nat_eq}
use Rattle.std.specs.List.{list_any}
use Rattle.kt_tables.specs.SetRows.{SetRows, summary_at, unit_key}
use Rattle.kt_tables.specs.declared.summaries.UnitSummary.{UnitSummary}
use Rattle.kt_tables.proofs.SetLemmas.{summary_there}
use Rattle.kt_tables.proofs.set.SetSummaries.all.Goals as goal

pub returns-clause-found : goal.returns-clause-found
returns-clause-found c = λ id summary is.
    let rows = c.self.inside.rows.now in
    let gathered : c.in_ok-all.all.items ≡ map (λ (row : UnitSummary). row.summary) rows = search rules in
    c.keep_once.ensures.same summary ∙ (ap (λ (ids : List ℕ). list_any (nat_eq summary) ids) gathered ∙ summary_there (λ row. nat_eq (unit_key row) (c.self.inside.set * 2 ^ 32 + id)) summary rows (ap (λ (summaries : SetRows). summary_at summaries id) c.self.view_is ∙ is))
