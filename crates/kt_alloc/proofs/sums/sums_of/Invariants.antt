use Rattle.std.proofs.Common.{◌≡◌, ◌++◌, drop}
use Rattle.kt_alloc.specs.Table.{sums_in}
use Rattle.kt_alloc.proofs.sums.sums_of.Given as goal

abbrev pub invariant-loop-place : goal.invariant-loop-place
invariant-loop-place l = l.made.items ++ sums_in l.event l.table l.place (drop l.place l.layers) ≡ sums_in l.event l.table 0 l.layers
