use Rattle.std.proofs.Common.{false, refl, sym}
use Rattle.kt_stream.specs.Summary.{summary_form, summary_shape}
use Rattle.kt_periods.specs.EventLossTable.{elt_heading_part, elt_record_rows, elt_outcome}
use Rattle.kt_loop.specs.RecordStreams.{contents_of}
use Rattle.kt_periods.proofs.event_losses.write_event_losses.Goals as goal

pub returns : goal.returns
returns g c inputs outputs =
    c.run_stage.ensures.ended false (λ files bytes. elt_outcome c.args.heading bytes) inputs outputs (λ unused. refl)
    (λ files bytes finds. record { start = c.args.heading; stood = refl; is = sym (c.records_give_their_rows.ensures elt_heading_part elt_record_rows c.args.heading (contents_of summary_form summary_shape bytes)) })
