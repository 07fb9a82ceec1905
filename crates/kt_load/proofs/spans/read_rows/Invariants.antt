-- The rows of the events so far lie in what was read, with the span that is still to be read.
use Rattle.std.proofs.Common.{◌≡◌, ◌*◌, ◌≤◌, take}
use Rattle.kt_load.specs.Spans.{AreTaken, IsSpan}
use Rattle.kt_load.proofs.spans.read_rows.Given as goal

abbrev pub invariant-loop-event : goal.invariant-loop-event
invariant-loop-event g l = record {
  taken : AreTaken (g.I.Inputs.state l.fn.inputs).held l.portfolio.rows (take l.event-index l.events) l.rows.items l.span;
  is_span : IsSpan l.portfolio.rows.footprint_size l.span;
  few : l.span.size ≤ l.event-index * 1200000;
  inputs : g.I.Inputs.state l.inputs ≡ g.I.Inputs.state l.fn.inputs;
}
