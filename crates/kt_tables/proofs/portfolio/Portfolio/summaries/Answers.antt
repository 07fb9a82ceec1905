use Rattle.std.proofs.Common.{subst, sym}
use Rattle.kt_rec.specs.Rows.{rows_of}
use Rattle.kt_tables.specs.Kept.{AreSummariesOf}
use Rattle.kt_tables.specs.Portfolio.{PortfolioRows}
use Rattle.kt_tables.proofs.KeptLemmas.{net_summaries}
use Rattle.kt_tables.proofs.portfolio.Portfolio.summaries.Goals as goal

pub returns-in-Ri : goal.returns-in-Ri
returns-in-Ri c = record {
  value =
      subst (λ (portfolio : PortfolioRows). AreSummariesOf c.args.perspective portfolio.rows portfolio.need.rule c.self.inside.lookups.summaries.of_outputs) c.self.view_is
      (subst (λ perspective. AreSummariesOf perspective (rows_of c.self.inside.tables) c.self.inside.need.rule c.self.inside.lookups.summaries.of_outputs) (sym c.in-Ri.is) (net_summaries _ _ _ c.self.invariant.lookups.summaries.of_outputs));
}
