-- The losses of the pairs so far are added, where those of all fit.
use Rattle.std.proofs.Common.{◌+◌, ◌<◌, ◌^◌, ℕ, length, slice_index, take}
use Rattle.kt_runs.specs.Adding.{IsAdded}
use Rattle.kt_runs.specs.RunLosses.{loss_of}
use Rattle.kt_runs.specs.Sidx.{sidx_at}
use Rattle.kt_runs.proofs.sums.add_pairs.Given as goal

abbrev pub invariant-loop-pair : goal.invariant-loop-pair
invariant-loop-pair l = ((k : ℕ) → k < length l.fn.sums → slice_index l.fn.sums k + loss_of (sidx_at (l.least + k)) l.pairs < 2 ^ 64) → IsAdded l.least l.fn.sums (take l.pair-index l.pairs) l.sums
