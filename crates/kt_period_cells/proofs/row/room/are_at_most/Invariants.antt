-- The first totals are low, where none of them was found to be above.
use Rattle.std.proofs.Common.{◌≡◌, ◌≤◌, take}
use Rattle.std.specs.Prelude.{All, false}
use Rattle.kt_period_cells.proofs.row.room.are_at_most.Given as goal

abbrev pub invariant-loop-cell : goal.invariant-loop-cell
invariant-loop-cell l = l.is_above ≡ false → All (λ one. one.total ≤ l.most) (take l.cell-index l.places)
