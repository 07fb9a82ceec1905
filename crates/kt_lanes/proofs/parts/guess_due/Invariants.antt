use Rattle.std.proofs.Common.{◌≡◌, ◌≤◌, ◌-◌, length}
use Rattle.kt_lanes.proofs.parts.guess_due.Given as goal

abbrev pub invariant-loop-at : goal.invariant-loop-at
invariant-loop-at l = record { wide : length l.due ≡ length l.upto; within : l.at ≤ length l.upto }

abbrev pub decreases-loop-at : goal.decreases-loop-at
decreases-loop-at l = length l.upto - l.at
