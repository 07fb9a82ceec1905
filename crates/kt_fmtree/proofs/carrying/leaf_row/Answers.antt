use Rattle.std.proofs.Common.{slice_index}
use Rattle.kt_fmtree.specs.LoopLaws.{map-goes}
use Rattle.kt_fmtree.specs.Tree.{whole_loss}
use Rattle.kt_fmtree.proofs.carrying.leaf_row.Goals as goal

pub loop-place-preserved : goal.loop-place-preserved
loop-place-preserved c =
    map-goes (λ place. whole_loss (slice_index c.args.losses.now place)) c.args.leaves.now c.loop-place.place-index 0 c.loop-place.row.items _ c.whole_loss.result c.loop-place-test.true c.loop-place.invariant c.in_ok-push.ensures.items c.whole_loss.ensures.value
