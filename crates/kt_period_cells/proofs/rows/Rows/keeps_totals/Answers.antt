-- The entries are within their bounds.
use Rattle.kt_period_cells.specs.Rows.{entries_of}
use Rattle.kt_period_cells.proofs.RaisedRows.{entries_low}
use Rattle.kt_period_cells.proofs.SetEntries.{fitting}
use Rattle.kt_period_cells.proofs.rows.Rows.keeps_totals.Goals as goal

pub returns : goal.returns
returns c = λ key.
    rw (← c.self.view_is)
    (entries_low c.self.inside.periods c.self.inside.samples (entries_of c.self.inside.rows.items) key (fitting c.self.inside.periods c.self.inside.samples c.self.inside.rows.items c.self.invariant.fits))
