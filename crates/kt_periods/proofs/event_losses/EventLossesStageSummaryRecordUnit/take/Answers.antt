use Rattle.kt_elt.specs.Fitting.{fits_rows}
use Rattle.kt_periods.proofs.event_losses.EventLossesStageSummaryRecordUnit.take.Goals as goal

pub elt_text-requires : goal.elt_text-requires
elt_text-requires c = fits_rows c.args.head.samples c.args.placed.now.entry c.requires.header.0 c.requires.header.1 c.requires.good.good
