use Rattle.std.proofs.Common.{◌∙◌, sym}
use Rattle.kt_load.proofs.SpanLemmas.{reads_event}
use Rattle.kt_load.proofs.event_rows.foot_rows.Goals as goal

pub returns-clause-value : goal.returns-clause-value
returns-clause-value g c =
    reads_event (g.I.Inputs.state c.args.inputs.now).held c.args.portfolio.now.rows c.args.event c.in-Some.place c.new-rows.result.items c.read_span.new.rows.items c.new-rows.ensures.items
    (sym c.in-Some.is ∙ c.place_in_file.ensures.value) c.in_ok-read_span.ensures.value
