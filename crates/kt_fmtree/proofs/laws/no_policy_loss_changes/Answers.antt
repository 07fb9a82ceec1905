use Rattle.kt_fmtree.specs.StruckLaws.{policy_loss-struck}
use Rattle.kt_fmtree.proofs.laws.no_policy_loss_changes.Goals as goal

pub returns : goal.returns
returns c = policy_loss-struck
