-- The probabilities so far.
use Rattle.std.proofs.Common.{◌≡◌, take}
use Rattle.kt_rec.specs.FootRows.{areaperil_total}
use Rattle.kt_model.proofs.plain_rows.total_of.Given as goal

abbrev pub invariant-loop-row : goal.invariant-loop-row
invariant-loop-row l = l.total ≡ areaperil_total (take l.row-index l.rows) l.areaperil
