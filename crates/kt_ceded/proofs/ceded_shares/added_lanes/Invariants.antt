use Rattle.kt_ceded.specs.CededShares.{AreCededShares}
use Rattle.kt_ceded.proofs.ceded_shares.added_lanes.Given as goal

abbrev pub invariant-loop-k : goal.invariant-loop-k
invariant-loop-k l = AreCededShares l.width l.places l.table l.k l.ceded
