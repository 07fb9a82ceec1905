use Rattle.kt_fmtree.proofs.down.+levels_down.Given as goal

abbrev pub decreases-levels_down : goal.decreases-levels_down
decreases-levels_down l = l.level
