-- The losses and the totals are those of the items so far.
use Rattle.std.proofs.Common.{◌+◌, take}
use Rattle.kt_gul.specs.Gathered.{AreAdded}
use Rattle.kt_gul.proofs.coverage.group_losses.Given as goal

abbrev pub invariant-loop-struck : goal.invariant-loop-struck
invariant-loop-struck l = AreAdded l.portfolio.rows l.fn.draw.event l.cdfs (l.fn.draw.samples + 2) (take l.struck-index l.group) l.losses.items l.totals
