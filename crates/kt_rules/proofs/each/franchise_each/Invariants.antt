use Rattle.kt_rules.specs.Amounts.{franchise}
use Rattle.kt_rules.specs.Each.{IsEachTo}
use Rattle.kt_rules.specs.LossAlone.{untouched}
use Rattle.kt_rules.proofs.each.franchise_each.Given as goal

abbrev pub invariant-loop-k : goal.invariant-loop-k
invariant-loop-k l = IsEachTo (λ loss. (franchise l.amount (untouched loss)).loss) l.fn.losses l.k l.losses
