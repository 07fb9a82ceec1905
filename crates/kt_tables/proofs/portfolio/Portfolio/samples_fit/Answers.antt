use Rattle.std.proofs.Common.{◌∙◌, ap}
use Rattle.kt_checks.specs.Checks.{answer_of, samples_refusal}
use Rattle.kt_tables.specs.Portfolio.{PortfolioRows}
use Rattle.kt_tables.specs.PortfolioLaws.{samples_kept}
use Rattle.kt_tables.proofs.portfolio.Portfolio.samples_fit.Goals as goal

pub returns-clause-fits : goal.returns-clause-fits
returns-clause-fits c =
    samples_kept c.args.self.now c.is_valid.ensures.valid c.args.samples c.samples_check.result
    (c.samples_check.ensures.exact ∙ ap (λ (portfolio : PortfolioRows). answer_of (samples_refusal portfolio.rows portfolio.need c.args.samples)) c.self.view_is)
