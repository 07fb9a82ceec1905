use Rattle.std.proofs.Common.{◌≤◌, length, List, ap, subst, sym, ◌∙◌}
use Rattle.kt_rec.specs.Rows.{Rows}
use Rattle.kt_rec.specs.declared.hazard.Random.{Random}
use Rattle.kt_tables.specs.PortfolioLaws.{has_random}
use Rattle.kt_gul.proofs.item.numbers_of.Goals as goal

pub returns-clause-some : goal.returns-clause-some
returns-clause-some c =
    subst (λ (rows : List Random). 1 ≤ length rows) (sym (c.as_slice.ensures.value ∙ ap (λ (rows : Rows). rows.random) c.tables.ensures.value))
    (has_random c.args.portfolio.now c.is_valid.ensures.valid c.requires)
