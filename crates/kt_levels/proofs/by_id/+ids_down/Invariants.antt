use Rattle.kt_levels.proofs.by_id.+ids_down.Given as goal

abbrev pub decreases-ids_down : goal.decreases-ids_down
decreases-ids_down l = l.level
