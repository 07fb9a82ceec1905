-- The items so far rise.
use Rattle.kt_index.specs.RiseLaws.{RisesTo}
use Rattle.kt_gul.specs.StruckItems.{id_of}
use Rattle.kt_gul.proofs.struck.is_by_id.Given as goal

abbrev pub invariant-loop-one : goal.invariant-loop-one
invariant-loop-one l = RisesTo id_of l.struck l.one-index l.last
