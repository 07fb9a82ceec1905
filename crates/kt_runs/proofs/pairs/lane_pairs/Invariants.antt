use Rattle.kt_runs.proofs.PairLemmas.{ArePut}
use Rattle.kt_runs.proofs.pairs.lane_pairs.Given as goal

abbrev pub invariant-loop-row : goal.invariant-loop-row
invariant-loop-row l = ArePut l.lane l.row l.place l.pairs.items
