use Rattle.kt_load.proofs.ReadLemmas.{reads_more}
use Rattle.std.proofs.Common.{arith, ◌∙◌, length}
use Rattle.kt_load.proofs.file.fill.Goals as goal

-- src/file.rt:23:5
pub loop-at-preserved : goal.loop-at-preserved
loop-at-preserved g c =
    let so_far = c.loop-at.invariant.0 in
    let kept = c.loop-at.invariant.1 in
    let here = c.in-Ok.ensures in
    (reads_more _ _ _ _ _ (length c.args.room.now) _ c.in-Ok.read c.loop-at-test.true so_far (omega (arith, here.within)) (omega arith) _ (rw kept at here.moved), here.counts ∙ kept)
