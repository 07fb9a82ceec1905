use Rattle.kt_rules.specs.RuleLaws.{loss-le-total}
use Rattle.kt_rules.proofs.laws.the_loss_is_not_above_the_sum.Goals as goal

pub returns : goal.returns
returns c = loss-le-total
