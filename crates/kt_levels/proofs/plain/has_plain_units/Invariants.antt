use Rattle.std.proofs.Common.{ℕ, ◌<◌, slice_index_or, []}
use Rattle.kt_levels.specs.Climbed.{ArePlain}
use Rattle.kt_levels.proofs.plain.has_plain_units.Given as goal

abbrev pub invariant-loop-level : goal.invariant-loop-level
invariant-loop-level l = (level : ℕ) → level < l.level → ArePlain (slice_index_or l.programme.levels level [])
