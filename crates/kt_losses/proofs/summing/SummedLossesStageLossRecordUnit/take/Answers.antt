use Rattle.std.proofs.Common.{◌≡◌, true, false, [], ◌∷◌, ◌++◌, inl, inr, refl, sym, ap, ◌∙◌}
use Rattle.kt_loop.specs.ByRun.{OpenRun}
use Rattle.kt_loop.specs.Runs.{bare, joins, loss_key}
use Rattle.kt_losses.specs.Judged.{loss_refusal}
use Rattle.kt_losses.specs.Summed.{StandsAt}
use Rattle.kt_losses.specs.declared.summing.SummarySet.{SummarySet}
use Rattle.kt_runs.specs.RunLosses.{goes_past}
use Rattle.kt_stream.specs.declared.entry.LossRecord.{LossRecord}
use Rattle.kt_tables.specs.Portfolio.{PortfolioRows}
use Rattle.kt_losses.proofs.SummingLemmas.{joined_step, judged_as, opening_step}
use Rattle.kt_losses.proofs.summing.SummedLossesStageLossRecordUnit.take.Goals as goal

pub returns-clause-step : goal.returns-clause-step
returns-clause-step c = λ state at.
    let it = c.args.self.now in
    let placed = c.args.placed.now in
    let joined : joins loss_key state.run placed ≡ false = at.1.joins_is placed ∙ (sym c.joins_run.ensures ∙ c.if-joins_run.false) in
    let closed = c.in_default.ensures.closed it.portfolio.now it.of state.run at.1 in
    let judged = c.judge-2.ensures.judged it.portfolio.now it.of [] closed.1 (inr refl) in
    opening_step c.args.head it.of it.portfolio.now placed (λ (next : OpenRun (SummarySet × PortfolioRows) LossRecord). (next.kept ≡ (it.of, it.portfolio.now)) × StandsAt it.portfolio.now it.of next.run c.judge-2.new.last c.judge-2.new.summaries) state.kept c.args.out.now c.close.new.out state.run c.judge-2.result at.0 joined closed.0
    (judged_as _ _ (StandsAt it.portfolio.now it.of (placed ∷ []) c.judge-2.new.last c.judge-2.new.summaries) _ c.judge-2.result (ap (λ known. loss_refusal known (goes_past [] placed.entry) placed.at) (c.requires.ready.1 placed.entry.id)) (λ stands. (refl, stands)) judged)

pub returns-then-joins_run-clause-step : goal.returns-then-joins_run-clause-step
returns-then-joins_run-clause-step c = λ state at.
    let it = c.args.self.now in
    let placed = c.args.placed.now in
    let joined : joins loss_key state.run placed ≡ true = at.1.joins_is placed ∙ (sym c.joins_run.ensures ∙ c.if-joins_run.true) in
    let judged = c.judge.ensures.judged it.portfolio.now it.of state.run at.1 (inl joined) in
    joined_step c.args.head it.of it.portfolio.now placed (λ (next : OpenRun (SummarySet × PortfolioRows) LossRecord). (next.kept ≡ (it.of, it.portfolio.now)) × StandsAt it.portfolio.now it.of next.run c.judge.new.last c.judge.new.summaries) state.kept c.args.out.now state.run c.judge.result at.0 joined
    (judged_as _ _ (StandsAt it.portfolio.now it.of (state.run ++ placed ∷ []) c.judge.new.last c.judge.new.summaries) _ c.judge.result (ap (λ known. loss_refusal known (goes_past (bare state.run) placed.entry) placed.at) (c.requires.ready.1 placed.entry.id)) (λ stands. (refl, stands)) judged)
