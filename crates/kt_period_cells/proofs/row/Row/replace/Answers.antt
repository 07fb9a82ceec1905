-- A cell in its place, or taken out of it.
use Rattle.std.proofs.Common.{◌≤◌, ◌∙◌, ap, arith, refl, sym, length}
use Rattle.std.proofs.lemmas.Bool.Decides.{nat_tests}
use Rattle.kt_period_cells.proofs.PlacedCells.{changes_place, some_cell, some_put, place_there, placed_cells}
use Rattle.kt_period_cells.proofs.row.Row.replace.Goals as goal

pub index_mut-requires : goal.index_mut-requires
index_mut-requires c =
    let some : 1 ≤ length c.args.self.now.places.items = grind (arith, nat_tests, c.if-is_empty.false, c.is_empty.ensures, c.args.self.now.places.ok.0) in
    let there = rw (placed_cells c.args.self.now some) at c.requires.there in
    omega (arith, place_there c.args.sample c.args.self.now.places.items there, c.args.self.now.places.ok.0)

pub returns : goal.returns
returns c =
    let some : 1 ≤ length c.args.self.now.places.items = grind (arith, nat_tests, c.if-is_empty.false, c.is_empty.ensures, c.args.self.now.places.ok.0) in
    let there = rw (placed_cells c.args.self.now some) at c.requires.there in
    record {
      value = changes_place c.args.self.now _ c.args.sample c.unwrap_or.result _ (place_there c.args.sample c.args.self.now.places.items there) refl refl (some_put c.args.cell c.requires.some ∙ ap some_cell (sym c.unwrap_or.ensures));
      bound = refl;
    }
