use Rattle.std.proofs.Common.{◌∙◌, ap, subst, sym}
use Rattle.std.specs.List.{list_any}
use Rattle.kt_rec.specs.Rows.{rows_of}
use Rattle.kt_keys.specs.Keys.{same_pair}
use Rattle.kt_tables.specs.Lookups.{pair_of}
use Rattle.kt_tables.specs.PairLaws.{ArePairsRising, pairs-member, pairs-rise}
use Rattle.kt_tables.specs.Portfolio.{PortfolioRows}
use Rattle.kt_tables.proofs.portfolio.Portfolio.pairs.Goals as goal

pub returns-clause-rising : goal.returns-clause-rising
returns-clause-rising c = subst ArePairsRising (sym (c.deref.ensures.value ∙ c.self.invariant.lookups.items.pairs)) (pairs-rise (rows_of c.self.inside.tables).items)

pub returns-clause-found : goal.returns-clause-found
returns-clause-found c = λ pair.
    ap (list_any (same_pair pair)) (c.deref.ensures.value ∙ c.self.invariant.lookups.items.pairs)
    ∙ (pairs-member (rows_of c.self.inside.tables).items pair
    ∙ ap (λ (portfolio : PortfolioRows). list_any (λ row. same_pair pair (pair_of row)) portfolio.rows.items) c.self.view_is)
