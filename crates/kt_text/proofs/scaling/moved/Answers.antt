use Rattle.std.proofs.Common.{◌-◌, arith}
use Rattle.kt_text.proofs.ScalingLemmas.{moved-up, moved-down, lowered-below}
use Rattle.kt_text.proofs.scaling.moved.Goals as goal

pub returns-then-down-up : goal.returns-then-down-up
returns-then-down-up c = rw (moved-up c.args.digits c.args.up c.args.down c.if-down-up.true) c.raised.ensures

pub returns-else-down-up : goal.returns-else-down-up
returns-else-down-up c =
    rw (moved-down c.args.digits c.args.up c.args.down (omega arith)) (omega (arith, lowered-below c.args.digits (c.args.down - c.args.up), c.requires))
