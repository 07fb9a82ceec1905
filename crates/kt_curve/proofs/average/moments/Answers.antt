-- The sums of the amounts stay within their types.
use Rattle.std.proofs.Common.{◌≡◌, take, take_all, arith}
use Rattle.std.proofs.lemmas.Grind.{common_steps}
use Rattle.kt_curve.proofs.Moments.{spread}
use Rattle.kt_curve.proofs.average.moments.Goals as goal

pub mean_sd-requires-clause-spread : goal.mean_sd-requires-clause-spread
mean_sd-requires-clause-spread c =
    let now = c.loop-amount.invariant in
    let whole : take c.loop-amount.amount-index c.args.amounts.now ≡ c.args.amounts.now = take_all c.loop-amount.amount-index c.args.amounts.now c.loop-amount-test.false in
    rw (now.total, now.squares, whole) (spread c.args.count c.args.amounts.now c.requires.few)

pub overflow_add-total : goal.overflow_add-total
overflow_add-total c = grind (arith, common_steps)

pub overflow_add-squares : goal.overflow_add-squares
overflow_add-squares c = grind (arith, common_steps)

pub loop-amount-preserved : goal.loop-amount-preserved
loop-amount-preserved c = grind (arith, common_steps)

pub mean_sd-requires-clause-total : goal.mean_sd-requires-clause-total
mean_sd-requires-clause-total c = grind (arith, common_steps)

pub mean_sd-requires-clause-squares : goal.mean_sd-requires-clause-squares
mean_sd-requires-clause-squares c = grind (arith, common_steps)
