use Rattle.kt_rules.specs.Each.{IsEachTo}
use Rattle.kt_rules.specs.LossAlone.{loss_after}
use Rattle.kt_rules.proofs.each.one_by_one.Given as goal

abbrev pub invariant-loop-k : goal.invariant-loop-k
invariant-loop-k l = IsEachTo (loss_after l.profile l.tiv) l.fn.losses l.k l.losses
