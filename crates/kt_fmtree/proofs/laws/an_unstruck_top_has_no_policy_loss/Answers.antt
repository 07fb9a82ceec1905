use Rattle.kt_fmtree.specs.StruckLaws.{policy_loss-none}
use Rattle.kt_fmtree.proofs.laws.an_unstruck_top_has_no_policy_loss.Goals as goal

pub returns : goal.returns
returns c = policy_loss-none
