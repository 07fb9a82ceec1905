use Rattle.kt_fmtree.specs.TreeLaws.{carry_of-total}
use Rattle.kt_fmtree.proofs.laws.the_amounts_add_to_the_loss_beneath.Goals as goal

pub returns : goal.returns
returns c = carry_of-total
