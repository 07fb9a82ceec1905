-- Places without cells.
use Rattle.std.proofs.Common.{◌+◌, ap, ◌∙◌, refl, rules}
use Rattle.kt_period_cells.specs.RowCells.{placed}
use Rattle.kt_period_cells.specs.Outcomes.{if_ok}
use Rattle.kt_period_cells.proofs.PlacedCells.{no_places}
use Rattle.kt_period_cells.proofs.row.no_cells.Goals as goal

pub returns-clause-none : goal.returns-clause-none
returns-clause-none c = if_ok _ _ c.vec.result (λ places same. ap (placed 0) (same (λ y clone. search rules)) ∙ no_places 0 (c.args.samples + 1) (record { total = 0; maximum = 0 }) refl) c.vec.ensures.items_if_clones_equal
