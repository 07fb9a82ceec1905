use Rattle.kt_money.specs.SharingLaws.{share_of-zero}
use Rattle.kt_money.proofs.laws.no_weight_has_no_share.Goals as goal

pub returns : goal.returns
returns c = share_of-zero
