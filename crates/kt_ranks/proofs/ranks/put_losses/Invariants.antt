-- The losses of the first ranks stand at their places.
use Rattle.std.proofs.Common.{◌≡◌, ◌<◌, ℕ, List, map, length, slice_index}
use Rattle.kt_ranks.specs.RankedLosses.{ranked_loss}
use Rattle.kt_ranks.proofs.ranks.put_losses.Given as goal

abbrev pub invariant-loop-index : goal.invariant-loop-index
invariant-loop-index l = (whole : List ℕ) → length whole ≡ length l.values → l.losses ≡ map (ranked_loss whole) l.ranks → (k : ℕ) → k < l.index → slice_index l.values (slice_index l.ranks k) ≡ ranked_loss whole (slice_index l.ranks k)
