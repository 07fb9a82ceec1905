-- Each turn looks at one step.
use Rattle.std.proofs.Common.{◌-◌, length}
use Rattle.kt_gul.proofs.tables.loss_at.Given as goal

abbrev pub decreases-loop-place : goal.decreases-loop-place
decreases-loop-place l = length l.steps - l.place
