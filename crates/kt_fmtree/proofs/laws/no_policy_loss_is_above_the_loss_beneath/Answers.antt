use Rattle.kt_fmtree.specs.TreeLaws.{policy_loss-le}
use Rattle.kt_fmtree.proofs.laws.no_policy_loss_is_above_the_loss_beneath.Goals as goal

pub returns : goal.returns
returns c = policy_loss-le
