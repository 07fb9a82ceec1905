use Rattle.std.proofs.Common.{◌<◌, ◌≤◌, ◌-◌, ℕ}
use Rattle.kt_runs.specs.LossLanes.{place_at}
use Rattle.kt_runs.proofs.heads.are_apart.Given as goal

abbrev pub invariant-loop-at : goal.invariant-loop-at
invariant-loop-at l = (k : ℕ) → k < l.at → 1 ≤ k → place_at l.heads (k - 1) < place_at l.heads k
