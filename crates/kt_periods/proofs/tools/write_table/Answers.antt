use Rattle.std.proofs.Common.{true, [], refl, sym}
use Rattle.kt_stream.specs.Summary.{summary_form, summary_shape}
use Rattle.kt_loop.specs.RecordStreams.{contents_of}
use Rattle.kt_periods.specs.PeriodTables.{period_outcome}
use Rattle.kt_periods.proofs.WholeTables.{sums_of, whole}
use Rattle.kt_periods.proofs.tools.write_table.Goals as goal

pub returns : goal.returns
returns g c inputs outputs =
    let kind = c.args.kind in
    let rows = c.args.portfolio.now.rows in
    c.run_stage.ensures.ended true (λ files bytes. period_outcome kind rows bytes) inputs outputs (λ unused. refl)
    (λ files bytes finds. record { start = sums_of kind rows []; stood = record { same_kind = refl; same_rows = refl; holds = refl }; is = sym (whole kind rows (contents_of summary_form summary_shape bytes)) })
