use Rattle.std.proofs.Common.{◌≡◌, ◌≤◌, ◌-◌, length}
use Rattle.kt_lanes.proofs.split.guess_split.Given as goal

abbrev pub invariant-loop-at : goal.invariant-loop-at
invariant-loop-at l = record { wide : length l.parts ≡ length l.totals; within : l.at ≤ length l.totals }

abbrev pub decreases-loop-at : goal.decreases-loop-at
decreases-loop-at l = length l.totals - l.at
