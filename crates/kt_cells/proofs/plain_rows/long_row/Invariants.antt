use Rattle.std.proofs.Common.{◌==◌, ◌<◌, ◌++◌, ℕ, List, length}
use Rattle.kt_cells.specs.Fronts.{PlainRead}
use Rattle.kt_cells.proofs.plain_rows.long_row.Given as goal

abbrev pub invariant-loop-column : goal.invariant-loop-column
invariant-loop-column g l = ((more : List ℕ) → PlainRead l.kinds l.floor (l.text ++ more) l.values l.column l.rule l.least (l.column == g.row.N) (l.rest ++ more))
    × (length l.rest < length l.text)
