use Rattle.std.proofs.Common.{◌≡◌, ◌<◌, ℕ}
use Rattle.kt_runs.specs.LossLanes.{place_at}
use Rattle.kt_runs.proofs.heads.are_in_turn.Given as goal

abbrev pub invariant-loop-at : goal.invariant-loop-at
invariant-loop-at l = (k : ℕ) → k < l.at → place_at l.heads k ≡ k
