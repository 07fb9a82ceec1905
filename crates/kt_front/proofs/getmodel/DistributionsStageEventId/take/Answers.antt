use Rattle.std.proofs.Common.{◌≡◌, List, subst, sym, ap, ◌∙◌}
use Rattle.kt_loop.specs.Steps.{StepsBy}
use Rattle.kt_load.specs.EventRows.{event_rows}
use Rattle.kt_out.specs.InputFiles.{InputsState}
use Rattle.kt_rec.specs.Rows.{Rows}
use Rattle.kt_rec.specs.declared.hazard.FootRow.{FootRow}
use Rattle.kt_front.specs.ModelOutcome.{rows_step}
use Rattle.kt_front.specs.ModelStage.{HoldsFootprint}
use Rattle.kt_front.proofs.ModelLemmas.{of_footprint, steps_as}
use Rattle.kt_front.proofs.getmodel.DistributionsStageEventId.take.Goals as goal

pub returns-in-Ok-clause-step : goal.returns-in-Ok-clause-step
returns-in-Ok-clause-step g c made at =
    let event = c.args.placed.now.entry.event in
    let found = of_footprint (λ bytes. c.in-Ok.rows.items ≡ event_rows c.args.self.now.portfolio.now.rows bytes event) (g.I.Inputs.state c.args.inputs.now).held made.footprint at.1 c.in-Ok.ensures.value in
    let are : c.as_slice.result.now ≡ event_rows made.rows made.footprint event = c.as_slice.ensures.value ∙ found ∙ ap (λ (rows : Rows). event_rows rows made.footprint event) at.0 in
    steps_as (rows_step made event (event_rows made.rows made.footprint event)) made _ c.args.out.now c.put_event.new.out c.put_event.result
    (at.0, subst (λ (state : InputsState). HoldsFootprint state.held made.footprint) (sym c.in-Ok.ensures.inputs) at.1)
    (subst (λ (rows : List FootRow). StepsBy (rows_step made event rows) (λ next. next ≡ made) c.args.out.now c.put_event.new.out c.put_event.result) are (c.put_event.ensures.step made at.0))
