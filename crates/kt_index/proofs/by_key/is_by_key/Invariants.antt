use Rattle.kt_index.specs.RiseLaws.{RisesTo}
use Rattle.kt_index.proofs.by_key.is_by_key.Given as goal

abbrev pub invariant-loop-row : goal.invariant-loop-row
invariant-loop-row g l = RisesTo g.T.Keyed.key_of l.rows l.row-index l.last
