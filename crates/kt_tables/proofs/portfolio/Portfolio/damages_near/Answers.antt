use Rattle.std.proofs.Common.{◌∙◌, ◌+◌, ◌*◌, ◌^◌, ℕ, List, Option, ap, nat_eq, subst}
use Rattle.std.specs.List.{filter}
use Rattle.kt_rec.specs.declared.hazard.Vulnerability.{Vulnerability}
use Rattle.kt_rec.specs.Rows.{rows_of}
use Rattle.kt_tables.specs.Kept.{damage_key, AreDamages}
use Rattle.kt_tables.specs.Lookups.{damages_at}
use Rattle.kt_tables.specs.Portfolio.{PortfolioRows}
use Rattle.kt_tables.proofs.DamageLemmas.{damages_by_key}
use Rattle.kt_tables.proofs.portfolio.Portfolio.damages_near.Goals as goal

pub returns-in-Some : goal.returns-in-Some
returns-in-Some c =
    let rows = rows_of c.self.inside.tables in
    let kept = subst (λ (found : Option (List Vulnerability)). AreDamages rows found) c.in-Some.is c.self.invariant.lookups.hazard.damages in
    let sorted : List Vulnerability = c.as_slice.result.now in
    record {
      value =
          c.rows_near.ensures.value
          ∙ (ap (λ (key : ℕ). filter (λ row. nat_eq (damage_key row) key) sorted) c.pair_key-key.ensures.value
          ∙ (ap (filter (λ row. nat_eq (damage_key row) (c.args.vulnerability * 2 ^ 32 + c.args.intensity))) c.as_slice.ensures.value
          ∙ (kept (c.args.vulnerability * 2 ^ 32 + c.args.intensity)
          ∙ (damages_by_key c.args.vulnerability c.args.intensity c.ranges.intensity.fits rows.vulnerability c.self.invariant.valid.in_range.vulnerability
          ∙ ap (λ (portfolio : PortfolioRows). damages_at portfolio.rows c.args.vulnerability c.args.intensity) c.self.view_is))));
    }

pub returns-in-None : goal.returns-in-None
returns-in-None c =
    let rows = rows_of c.self.inside.tables in
    let table : List Vulnerability = c.deref.result.now in
    record {
      value =
          c.rows_near-in-None.ensures.value
          ∙ (ap (λ (key : ℕ). filter (λ row. nat_eq (damage_key row) key) table) c.pair_key-key.ensures.value
          ∙ (ap (filter (λ row. nat_eq (damage_key row) (c.args.vulnerability * 2 ^ 32 + c.args.intensity))) c.deref.ensures.value
          ∙ (damages_by_key c.args.vulnerability c.args.intensity c.ranges.intensity.fits rows.vulnerability c.self.invariant.valid.in_range.vulnerability
          ∙ ap (λ (portfolio : PortfolioRows). damages_at portfolio.rows c.args.vulnerability c.args.intensity) c.self.view_is)));
    }
