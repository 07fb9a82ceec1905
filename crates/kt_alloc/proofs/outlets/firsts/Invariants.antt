use Rattle.kt_alloc.proofs.OutletLemmas.{AreKept}
use Rattle.kt_alloc.proofs.outlets.firsts.Given as goal

-- the first of each id so far, all below the next id
abbrev pub invariant-loop-outlet : goal.invariant-loop-outlet
invariant-loop-outlet l = AreKept l.sorted l.outlet-index l.next l.kept.items
