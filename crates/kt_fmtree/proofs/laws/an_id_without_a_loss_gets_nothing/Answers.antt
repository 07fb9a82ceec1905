use Rattle.kt_fmtree.specs.SharingLaws.{allocated-none}
use Rattle.kt_fmtree.proofs.laws.an_id_without_a_loss_gets_nothing.Goals as goal

pub returns : goal.returns
returns c = allocated-none
