use Rattle.kt_rules.specs.Amounts.{limited}
use Rattle.kt_rules.specs.Each.{IsEachTo}
use Rattle.kt_rules.specs.LossAlone.{untouched}
use Rattle.kt_rules.proofs.each.limit_each.Given as goal

abbrev pub invariant-loop-k : goal.invariant-loop-k
invariant-loop-k l = IsEachTo (λ loss. (limited l.amount (untouched loss)).loss) l.fn.losses l.k l.losses
