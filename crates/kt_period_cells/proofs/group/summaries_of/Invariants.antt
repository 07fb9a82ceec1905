-- The summaries of the first places.
use Rattle.kt_period_cells.proofs.IdLists.{AreIds}
use Rattle.kt_period_cells.proofs.group.summaries_of.Given as goal

abbrev pub invariant-loop-place : goal.invariant-loop-place
invariant-loop-place l = AreIds l.place-items l.place-index l.ids.items
