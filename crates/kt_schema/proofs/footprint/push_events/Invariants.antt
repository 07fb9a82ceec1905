use Rattle.std.proofs.Common.{◌≡◌, ◌++◌, ℕ, List, drop}
use Rattle.kt_cells.specs.Lines.{rows_lines}
use Rattle.kt_rec.specs.declared.table.Table.TheVariants.{Footprint}
use Rattle.kt_schema.specs.Footprint.{AreRecords, indexed_rows}
use Rattle.kt_schema.specs.Tables.{kinds_of}
use Rattle.kt_schema.proofs.footprint.push_events.Given as goal

abbrev pub invariant-loop-entry : goal.invariant-loop-entry
invariant-loop-entry l = (rows : List (List ℕ)) → AreRecords l.records rows → l.out ++ rows_lines (kinds_of Footprint) (indexed_rows rows (drop l.entry-index l.index)) ≡ l.fn.out ++ rows_lines (kinds_of Footprint) (indexed_rows rows l.index)
