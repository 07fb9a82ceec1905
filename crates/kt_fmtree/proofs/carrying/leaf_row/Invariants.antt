use Rattle.std.proofs.Common.{◌≡◌, take}
use Rattle.kt_fmtree.specs.Carried.{leaf_row}
use Rattle.kt_fmtree.proofs.carrying.leaf_row.Given as goal

abbrev pub invariant-loop-place : goal.invariant-loop-place
invariant-loop-place l = l.row.items ≡ leaf_row (take l.place-index l.leaves) l.losses
