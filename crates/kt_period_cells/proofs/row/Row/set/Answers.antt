-- A cell in its place.
use Rattle.std.proofs.Common.{◌≤◌, arith, refl, sym, length}
use Rattle.std.proofs.lemmas.Bool.Decides.{nat_tests}
use Rattle.kt_period_cells.proofs.PlacedCells.{changes_place, some_cell_is, has_place}
use Rattle.kt_period_cells.proofs.row.Row.set.Goals as goal

pub returns-clause-ok : goal.returns-clause-ok
returns-clause-ok c =
    let some : 1 ≤ length c.args.self.now.places.items = grind (arith, nat_tests, c.if-is_empty.false, c.is_empty.ensures, c.args.self.now.places.ok.0) in
    changes_place c.args.self.now _ c.args.sample c.args.cell _ (has_place c.args.sample c.args.self.now.places.items some c.requires.place) refl refl (sym (some_cell_is c.args.cell c.requires.some))
