use Rattle.std.proofs.Common.{◌≡◌, take}
use Rattle.kt_lanes.specs.Lanes.{column}
use Rattle.kt_levels.proofs.by_rows.column_of.Given as goal

abbrev pub invariant-loop-place : goal.invariant-loop-place
invariant-loop-place l = l.amounts.items ≡ column l.at (take l.place l.lanes)
