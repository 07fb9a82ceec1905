use Rattle.kt_money.specs.SharingLaws.{share_of-le}
use Rattle.kt_money.proofs.laws.no_share_is_above_its_weight.Goals as goal

pub returns : goal.returns
returns c = share_of-le
