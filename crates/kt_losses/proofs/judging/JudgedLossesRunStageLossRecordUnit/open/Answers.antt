use Rattle.std.proofs.Common.{◌++◌, sym, ap, ◌∙◌}
use Rattle.kt_checks.specs.Checks.{answer_of, samples_refusal}
use Rattle.kt_tables.specs.Portfolio.{PortfolioRows}
use Rattle.kt_losses.proofs.RunLemmas.{opens_good}
use Rattle.kt_losses.proofs.judging.JudgedLossesRunStageLossRecordUnit.open.Goals as goal

pub returns-clause-step : goal.returns-clause-step
returns-clause-step g c = λ made at.
    opens_good g.T.LossTool.table made c.args.head _ _ (ap (λ (portfolio : PortfolioRows). answer_of (samples_refusal portfolio.rows portfolio.need c.args.head.samples)) (sym at.1) ∙ (sym c.samples_fit.ensures.exact ∙ c.in_default.is)) _ at _ _
    (c.in_ok-put_heading.ensures.ok ∙ ap (λ tool. c.args.out.now ++ (g.T.LossTool.table tool).heading c.args.head) at.0)
