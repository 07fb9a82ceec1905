use Rattle.std.proofs.Common.{◌∙◌, List, ℕ, take, refl, sym, subst, arith}
use Rattle.std.specs.Prelude.{slice_index_or}
use Rattle.std.proofs.lemmas.List.{take_all, take_more}
use Rattle.kt_out.specs.InputFiles.{InputsState}
use Rattle.kt_load.specs.Spans.{AddsSpan, AreTaken, TakesEvent}
use Rattle.kt_load.proofs.SpanLemmas.{takes_first, takes_last, takes_more}
use Rattle.kt_load.proofs.spans.read_rows.Goals as goal

pub loop-event-init : goal.loop-event-init
loop-event-init g c = record {
  taken = takes_first (g.I.Inputs.state c.args.inputs.now).held c.args.portfolio.now.rows c.args.rows.now.items (record { at = 0; size = 0 }) c.requires.none refl;
  is_span = record { whole = refl; within = omega arith };
  few = omega arith;
  inputs = refl;
}

pub loop-event-preserved : goal.loop-event-preserved
loop-event-preserved g c =
    let held = (g.I.Inputs.state c.args.inputs.now).held in
    let rows = c.args.portfolio.now.rows in
    let i = c.loop-event.event-index in
    let event = slice_index_or c.args.events.now i 0 in
    let old = c.loop-event.rows.items in
    let new = c.next_span.new.rows.items in
    record {
      taken = subst (λ (events : List ℕ). AreTaken held rows events new c.in_ok-span.span) (sym (take_more c.args.events.now i 0 c.loop-event-test.true))
          (takes_more held rows (take i c.args.events.now) event old new c.loop-event.span c.in_ok-span.span c.loop-event.invariant.taken
          (subst (λ (inputs : InputsState). TakesEvent inputs.held rows event old c.loop-event.span new c.in_ok-span.span) c.loop-event.invariant.inputs c.in_ok-span.ensures.value));
      is_span = c.in_ok-span.ensures.span;
      few = omega (arith, c.in_ok-span.ensures.few, c.loop-event.invariant.few);
      inputs = c.in_ok-span.ensures.inputs ∙ c.loop-event.invariant.inputs;
    }

pub returns-clause-value : goal.returns-clause-value
returns-clause-value g c =
    let held = (g.I.Inputs.state c.args.inputs.now).held in
    let rows = c.args.portfolio.now.rows in
    let old = c.loop-event.rows.items in
    let new = c.read_span.new.rows.items in
    takes_last held rows c.args.events.now old new c.loop-event.span
    (subst (λ (events : List ℕ). AreTaken held rows events old c.loop-event.span) (take_all c.loop-event.event-index c.args.events.now c.loop-event-test.false) c.loop-event.invariant.taken)
    (subst (λ (inputs : InputsState). AddsSpan inputs.held c.loop-event.span old new) c.loop-event.invariant.inputs c.in_ok-read_span.ensures.value)
