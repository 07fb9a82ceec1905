use Rattle.kt_alloc.proofs.OutletLemmas.{AreRising}
use Rattle.kt_alloc.proofs.outlets.rise.Given as goal

-- the ids so far rise, all below the next id
abbrev pub invariant-loop-outlet : goal.invariant-loop-outlet
invariant-loop-outlet l = AreRising l.outlets l.outlet-index l.next
