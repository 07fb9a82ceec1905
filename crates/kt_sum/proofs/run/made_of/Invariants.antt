-- The records of the sums so far are made.
use Rattle.std.proofs.Common.{◌≡◌, take}
use Rattle.kt_sum.specs.RunSummaries.{records_of}
use Rattle.kt_sum.proofs.run.made_of.Given as goal

abbrev pub invariant-loop-row : goal.invariant-loop-row
invariant-loop-row l = l.made.items ≡ records_of l.run l.span.least (take l.row-index l.rows)
