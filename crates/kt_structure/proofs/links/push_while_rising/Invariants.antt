-- The children of the links so far, rising, behind those that stood there.
use Rattle.kt_structure.proofs.RisingLemmas.{ArePushed}
use Rattle.kt_structure.proofs.links.push_while_rising.Given as goal

abbrev pub invariant-loop-link : goal.invariant-loop-link
invariant-loop-link l = ArePushed l.fn.below.items l.links l.link-index l.floor l.below.items
