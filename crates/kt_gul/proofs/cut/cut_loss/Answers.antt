use Rattle.std.proofs.Common.{arith}
use Rattle.kt_money.specs.SharingLaws.{share_of-le}
use Rattle.kt_gul.proofs.cut.cut_loss.Goals as goal

pub returns-clause-most : goal.returns-clause-most
returns-clause-most c =
    let above = c.if-total-tiv.false in
    rw (c.saturating_sub.ensures, c.part_to.ensures.value, c.part_to-2.ensures.value) (share_of-le c.args.tiv c.args.total c.args.before c.args.loss (omega arith))
