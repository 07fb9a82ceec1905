use Rattle.kt_levels.specs.ClimbedLaws.{HasLevels}
use Rattle.kt_levels.proofs.climbing.climb.Given as goal

abbrev pub invariant-loop-level : goal.invariant-loop-level
invariant-loop-level l = HasLevels l.programme l.lanes l.width l.level l.levels
