use Rattle.kt_fmtree.specs.SharingLaws.{allocated-sum}
use Rattle.kt_fmtree.proofs.laws.the_allocated_losses_add_to_the_policy_loss.Goals as goal

pub returns : goal.returns
returns c = allocated-sum
