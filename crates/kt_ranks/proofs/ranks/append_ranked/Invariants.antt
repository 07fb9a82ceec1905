-- The losses of the first ranks are there.
use Rattle.std.proofs.Common.{◌≡◌, ◌++◌, map, take}
use Rattle.kt_ranks.specs.RankedLosses.{ranked_loss}
use Rattle.kt_ranks.proofs.ranks.append_ranked.Given as goal

abbrev pub invariant-loop-place : goal.invariant-loop-place
invariant-loop-place l = l.losses.items ≡ l.fn.losses.items ++ map (ranked_loss l.fn.values) (take l.place-index l.ranks)
