-- The rows of one summary.
use Rattle.kt_period_cells.proofs.group.SetCells.summary.Goals as goal

pub returns-clause-summary : goal.returns-clause-summary
returns-clause-summary c = record { cells = rw (c.of.ensures.value, c.from.ensures) (c.requires.groups c.args.summary); fits = c.requires.fits }
