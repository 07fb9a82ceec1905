-- The items of the distributions so far.
use Rattle.kt_gul.specs.StruckItems.{AreStruck}
use Rattle.kt_gul.proofs.struck.struck_items.Given as goal

abbrev pub invariant-loop-place : goal.invariant-loop-place
invariant-loop-place l = AreStruck l.portfolio.rows l.cdfs l.place l.struck.items
