use Rattle.kt_elt.specs.Fitting.{fits_rows}
use Rattle.kt_periods.proofs.period_losses.PeriodRowsStageSummaryRecordUnit.take.Goals as goal

pub plt_record_text-requires : goal.plt_record_text-requires
plt_record_text-requires c = fits_rows c.args.head.samples c.args.placed.now.entry c.requires.header.0 c.requires.header.1 c.requires.good.good
