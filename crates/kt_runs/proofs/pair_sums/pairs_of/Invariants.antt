-- The pairs of the sums so far.
use Rattle.std.proofs.Common.{◌≡◌}
use Rattle.kt_runs.specs.PairSums.{pairs_upto}
use Rattle.kt_runs.proofs.pair_sums.pairs_of.Given as goal

abbrev pub invariant-loop-place : goal.invariant-loop-place
invariant-loop-place l = l.pairs.items ≡ pairs_upto l.least l.sums l.place
