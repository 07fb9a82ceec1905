use Rattle.kt_money.specs.SharingLaws.{share_out-adds}
use Rattle.kt_money.proofs.laws.shares_add_to_the_total.Goals as goal

pub returns : goal.returns
returns c = share_out-adds
