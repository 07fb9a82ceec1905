-- The distributions so far.
use Rattle.std.proofs.Common.{◌≡◌, map, take}
use Rattle.kt_gul.proofs.held.held_cdfs.Given as goal

abbrev pub invariant-loop-entry : goal.invariant-loop-entry
invariant-loop-entry g l = l.held.items ≡ map g.T.CdfEntry.cdf_of (take l.entry-index l.cdfs)
