use Rattle.kt_rules.specs.Amounts.{reverse_franchise}
use Rattle.kt_rules.specs.Each.{IsEachTo}
use Rattle.kt_rules.specs.LossAlone.{untouched}
use Rattle.kt_rules.proofs.each.reverse_franchise_each.Given as goal

abbrev pub invariant-loop-k : goal.invariant-loop-k
invariant-loop-k l = IsEachTo (λ loss. (reverse_franchise l.amount (untouched loss)).loss) l.fn.losses l.k l.losses
