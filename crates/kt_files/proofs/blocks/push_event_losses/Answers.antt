use Rattle.std.proofs.Common.{rules}
use Rattle.kt_elt.specs.Fitting.{fits_rows}
use Rattle.kt_files.proofs.blocks.push_event_losses.Goals as goal

pub elt_text-requires : goal.elt_text-requires
elt_text-requires c = fits_rows c.args.samples c.entry-item.result c.requires.some c.requires.few (search rules)
