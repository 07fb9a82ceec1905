-- The losses of the ranks are placed, and the rows are theirs.
use Rattle.kt_period_cells.specs.Outcomes.{on_more}
use Rattle.kt_ranks.proofs.exceedance.append_values.Goals as goal

pub returns-clause-ok : goal.returns-clause-ok
returns-clause-ok c = on_more c.append_rows.result (λ rows. λ whole same. rows whole (c.in_ok-place_losses.ensures.placed whole same)) c.append_rows.ensures.ok
