use Rattle.kt_fmtree.specs.TopLaws.{policies-few}
use Rattle.kt_fmtree.proofs.laws.all_policy_losses_are_within_fifty_times_the_losses.Goals as goal

pub returns : goal.returns
returns c = λ tree is once few losses. policies-few tree is losses once few
