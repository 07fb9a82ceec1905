use Rattle.kt_cells.proofs.FieldLemmas.{UnitsFound}
use Rattle.kt_cells.proofs.lines.units_of.Given as goal

abbrev pub invariant-loop-column : goal.invariant-loop-column
invariant-loop-column g l = UnitsFound l.kinds l.values l.units l.column l.rule
