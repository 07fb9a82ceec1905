use Rattle.kt_rules.specs.Amounts.{shared}
use Rattle.kt_rules.specs.Each.{IsEachTo}
use Rattle.kt_rules.specs.LossAlone.{untouched}
use Rattle.kt_rules.proofs.each.share_each.Given as goal

abbrev pub invariant-loop-k : goal.invariant-loop-k
invariant-loop-k l = IsEachTo (λ loss. (shared l.share (untouched loss)).loss) l.fn.losses l.k l.losses
