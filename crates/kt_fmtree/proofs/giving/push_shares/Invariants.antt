use Rattle.kt_fmtree.proofs.GivingLemmas.{IsSharingOut}
use Rattle.kt_fmtree.proofs.giving.push_shares.Given as goal

abbrev pub invariant-loop-at : goal.invariant-loop-at
invariant-loop-at l = IsSharingOut l.children l.start l.amount l.fn.parts.items l.parts.items l.all.loss l.weights l.sharing l.at
