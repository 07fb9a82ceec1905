use Rattle.kt_fmtree.specs.TopLaws.{tops-few}
use Rattle.kt_fmtree.proofs.laws.the_losses_beneath_all_tops_are_within_those_of_all_ids.Goals as goal

pub returns : goal.returns
returns c = λ tree is once losses. tops-few tree is losses once
