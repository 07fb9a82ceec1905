-- Some place has a cell.
use Rattle.std.proofs.Common.{◌≤◌, arith, length, ap, ◌∙◌, sym}
use Rattle.std.proofs.lemmas.Bool.Decides.{nat_tests}
use Rattle.kt_period_cells.specs.SummaryRows.{has_any}
use Rattle.kt_period_cells.proofs.PlacedCells.{placed_cells, any_placed}
use Rattle.kt_period_cells.proofs.row.Row.has_cells.Goals as goal

pub returns : goal.returns
returns c =
    let some : 1 ≤ length c.args.self.now.places.items = grind (arith, nat_tests, c.if-is_empty.false, c.is_empty.ensures, c.args.self.now.places.ok.0) in
    record { value = rw c.as_slice.ensures.value at c.has_placed.ensures.value ∙ any_placed 0 c.args.self.now.places.items ∙ ap has_any (sym (placed_cells c.args.self.now some)) }
