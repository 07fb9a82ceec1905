-- The pairs of the records so far stand no lower.
use Rattle.std.proofs.Common.{ℕ, ◌<◌, ◌≤◌, slice_index_or}
use Rattle.std.specs.Prelude.{All}
use Rattle.kt_stream.specs.declared.entry.LossRecord.{LossRecord}
use Rattle.kt_runs.specs.Sidx.{place_of}
use Rattle.kt_sum.proofs.span.lowest_of.Given as goal

abbrev pub invariant-loop-entry : goal.invariant-loop-entry
invariant-loop-entry l = (k : ℕ) (d : LossRecord) → k < l.entry-index → All (λ pair. l.least ≤ place_of pair.sidx) (slice_index_or l.records k d).pairs
