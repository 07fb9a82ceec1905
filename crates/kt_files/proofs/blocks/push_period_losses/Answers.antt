use Rattle.std.proofs.Common.{rules}
use Rattle.kt_elt.specs.Fitting.{fits_rows}
use Rattle.kt_files.proofs.blocks.push_period_losses.Goals as goal

pub plt_record_text-requires : goal.plt_record_text-requires
plt_record_text-requires c = fits_rows c.args.samples c.entry-item.result c.requires.some c.requires.few (search rules)
