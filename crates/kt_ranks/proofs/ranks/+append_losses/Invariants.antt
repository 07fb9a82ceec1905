-- Fewer ranks are left.
use Rattle.std.proofs.Common.{length}
use Rattle.kt_ranks.proofs.ranks.+append_losses.Given as goal

abbrev pub decreases-append_losses : goal.decreases-append_losses
decreases-append_losses l = length l.ranks.now
