-- Each sum is within its bound.
use Rattle.kt_curve.proofs.mean_curves.means.Goals as goal

pub mean-requires-clause-most : goal.mean-requires-clause-most
mean-requires-clause-most c = c.requires.most c.loop-total.total-index 0 c.loop-total-test.true
