use Rattle.std.proofs.Common.{◌≡◌, ◌++◌, ◌∙◌, List, sym, ap, subst}
use Rattle.kt_checks.specs.Checks.{answer_of, samples_refusal}
use Rattle.kt_loop.specs.ByRun.{OpenRun}
use Rattle.kt_losses.specs.Summed.{StandsAt, table_of_set}
use Rattle.kt_losses.specs.Tables.{perspective_of}
use Rattle.kt_losses.specs.declared.summing.SummarySet.{SummarySet}
use Rattle.kt_stream.specs.declared.entry.LossRecord.{LossRecord}
use Rattle.kt_stream.specs.declared.entry.Placed.{Placed}
use Rattle.kt_tables.specs.Portfolio.{PortfolioRows}
use Rattle.kt_losses.proofs.SummingLemmas.{opens_run, stands_empty}
use Rattle.kt_losses.proofs.summing.SummedLossesStageLossRecordUnit.open.Goals as goal

pub returns-clause-step : goal.returns-clause-step
returns-clause-step c = λ state at.
    let it = c.args.self.now in
    let head = c.args.head in
    let now = c.begin.new.self in
    let closed = c.requires.ready.0.0 in
    let begun = c.in_ok-begin.ensures in
    let stands = subst (λ (run : List (Placed LossRecord)). StandsAt it.portfolio.now it.of run it.last now) (sym (at.1.none closed)) (stands_empty it.portfolio.now it.of head.samples it.last now closed begun.ready (begun.holds it.portfolio.now (perspective_of it.of.items) it.of.set at.1.are)) in
    opens_run state.kept head (samples_refusal state.kept.1.rows state.kept.1.need head.samples) _
    (ap (λ (kept : SummarySet × PortfolioRows). answer_of (samples_refusal kept.1.rows kept.1.need head.samples)) at.0 ∙ (sym c.samples_fit.ensures.exact ∙ c.in_default.is))
    (λ (next : OpenRun (SummarySet × PortfolioRows) LossRecord). (next.kept ≡ (it.of, it.portfolio.now)) × StandsAt it.portfolio.now it.of next.run it.last now) state.run (at.0, stands) c.args.out.now c.put_head.new.out
    (c.in_ok-put_head.ensures.ok ∙ ap (λ (kept : SummarySet × PortfolioRows). c.args.out.now ++ (table_of_set kept.0).heading head) (sym at.0))
