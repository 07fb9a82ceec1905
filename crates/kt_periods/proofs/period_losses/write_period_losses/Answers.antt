use Rattle.std.proofs.Common.{true, refl, sym}
use Rattle.kt_stream.specs.Summary.{summary_form, summary_shape}
use Rattle.kt_periods.specs.PeriodLossTable.{HeadingAndPortfolio, plt_heading_part, plt_record_rows, plt_outcome}
use Rattle.kt_loop.specs.RecordStreams.{contents_of}
use Rattle.kt_periods.proofs.period_losses.write_period_losses.Goals as goal

pub returns : goal.returns
returns g c inputs outputs =
    let table : HeadingAndPortfolio = (c.args.heading, c.args.portfolio.now) in
    c.run_stage.ensures.ended true (λ files bytes. plt_outcome c.args.heading c.args.portfolio.now bytes) inputs outputs (λ unused. refl)
    (λ files bytes finds. record { start = table; stood = (refl, refl); is = sym (c.records_give_their_rows.ensures plt_heading_part plt_record_rows table (contents_of summary_form summary_shape bytes)) })
