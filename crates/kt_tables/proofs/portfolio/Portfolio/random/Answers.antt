use Rattle.std.proofs.Common.{◌≤◌, length, ap, subst, sym, ◌∙◌}
use Rattle.kt_rec.specs.declared.table.Table.TheVariants.{Random}
use Rattle.kt_keys.specs.Refusals.{is_loaded}
use Rattle.kt_tables.specs.PortfolioLaws.{has_random}
use Rattle.kt_tables.specs.Portfolio.{PortfolioRows}
use Rattle.kt_tables.proofs.portfolio.Portfolio.random.Goals as goal

pub random_place-place-requires-clause-numbers : goal.random_place-place-requires-clause-numbers
random_place-place-requires-clause-numbers c =
    subst (λ rows. 1 ≤ length rows) (sym c.as_slice-numbers.ensures.value)
    (has_random _ c.self.invariant.valid (ap (λ (portfolio : PortfolioRows). is_loaded portfolio.need 0 Random) c.self.view_is ∙ c.requires.loaded))
