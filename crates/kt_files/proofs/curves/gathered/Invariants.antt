-- The curves of the hands so far are gathered.
use Rattle.std.proofs.Common.{List, length, ℕ}
use Rattle.std.specs.Prelude.{All}
use Rattle.kt_curve.specs.SetsOfCurves.{AreSomeCurves}
use Rattle.kt_files.specs.Endings.{AreHandCurves}
use Rattle.kt_cell.specs.Standing.{KeptCells}
use Rattle.kt_files.proofs.curves.gathered.Given as goal

abbrev pub invariant-loop-hand : goal.invariant-loop-hand
invariant-loop-hand l = (kept : KeptCells) (returns : List ℕ) → All (AreHandCurves kept returns) l.initial.hands.items → All (AreHandCurves kept returns) l.hands.items × All (AreSomeCurves kept returns) l.all.items

abbrev pub decreases-loop-hand : goal.decreases-loop-hand
decreases-loop-hand l = length l.hands.items
