-- Those so far are of the cells.
use Rattle.std.specs.Prelude.{All}
use Rattle.kt_curve.specs.SetsOfCurves.{AreSomeCurves}
use Rattle.kt_tables.specs.Lookups.{return_periods_of}
use Rattle.kt_files.proofs.curves.hand_curves.Given as goal

abbrev pub invariant-loop-turn : goal.invariant-loop-turn
invariant-loop-turn l = All (AreSomeCurves l.cells (return_periods_of l.portfolio.rows)) l.made.items
