use Rattle.std.proofs.Common.{◌≡◌, ◌≤◌, ◌-◌, length}
use Rattle.kt_lanes.proofs.parts.find_ratios.Given as goal

abbrev pub invariant-loop-at : goal.invariant-loop-at
invariant-loop-at l = record { wide : length l.ratios ≡ length l.totals; within : l.at ≤ length l.totals }

abbrev pub decreases-loop-at : goal.decreases-loop-at
decreases-loop-at l = length l.totals - l.at
