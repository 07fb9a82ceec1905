use Rattle.kt_rules.specs.LossAlone.{loss-alone}
use Rattle.kt_rules.proofs.laws.a_rule_that_does_not_look_back_sees_the_loss_alone.Goals as goal

pub returns : goal.returns
returns c = loss-alone
