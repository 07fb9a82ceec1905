-- The places of the first rows are there.
use Rattle.std.proofs.Common.{◌≡◌, take}
use Rattle.kt_period_cells.specs.SummaryRows.{places_from}
use Rattle.kt_period_cells.proofs.rows.Rows.gathered.Given as goal

abbrev pub invariant-loop-place : goal.invariant-loop-place
invariant-loop-place l = l.found.items ≡ places_from 0 l.perspective l.set (take l.place l.self.rows)
