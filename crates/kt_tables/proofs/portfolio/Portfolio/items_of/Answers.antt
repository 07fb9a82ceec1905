use Rattle.std.proofs.Common.{◌∙◌, ℕ, ap, nat_eq}
use Rattle.std.specs.List.{filter}
use Rattle.kt_rec.specs.Rows.{rows_of}
use Rattle.kt_tables.specs.Kept.{item_key}
use Rattle.kt_tables.specs.Lookups.{items_with}
use Rattle.kt_tables.specs.Portfolio.{PortfolioRows}
use Rattle.kt_tables.proofs.DamageLemmas.{items_by_key}
use Rattle.kt_tables.proofs.portfolio.Portfolio.items_of.Goals as goal

pub returns : goal.returns
returns c = record {
  value =
      let rows = rows_of c.self.inside.tables in
      c.of.ensures.value
      ∙ (c.self.invariant.lookups.items.by_pair c.pair_key.result
      ∙ (ap (λ (key : ℕ). filter (λ row. nat_eq (item_key row) key) rows.items) c.pair_key.ensures.value
      ∙ (items_by_key c.args.areaperil c.args.vulnerability c.ranges.vulnerability.fits rows.items c.self.invariant.valid.in_range.items
      ∙ ap (λ (portfolio : PortfolioRows). items_with portfolio.rows c.args.areaperil c.args.vulnerability) c.self.view_is)));
}
