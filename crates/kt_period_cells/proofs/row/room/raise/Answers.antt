-- The cell of a sample in its place.
use Rattle.std.proofs.Common.{◌≡◌, ◌≤◌, ◌<◌, List, length, set, arith, sym, ap, ◌∙◌}
use Rattle.std.specs.Prelude.{Option, Some}
use Rattle.kt_cell.specs.declared.cell.Cell.{Cell}
use Rattle.kt_cell.specs.Standing.{raised}
use Rattle.kt_period_cells.specs.RowCells.{SampleCells, cells_of, cell_in, placed}
use Rattle.kt_period_cells.proofs.PlacedCells.{changes_place, placed_cells, some_cell_is}
use Rattle.kt_period_cells.proofs.RoomLemmas.{room_for, raised_low, room_raised, totals_raised}
use Rattle.kt_period_cells.proofs.row.room.raise.Goals as goal

-- no cell
abbrev none : Cell
none = record { total = 0; maximum = 0 }

pub raised-cell-requires : goal.raised-cell-requires
raised-cell-requires c = room_for c.args.places.now c.args.sample c.args.loss none c.placed_cell-old.result c.requires.place (c.placed_cell-old.ensures.value) c.requires.room

pub returns-clause-value : goal.returns-clause-value
returns-clause-value c = λ old new is key places.
    let within : c.args.sample < length old.places.items = omega (arith, c.requires.place, ap length is) in
    let was : c.placed_cell-old.result ≡ cell_in (placed 0 old.places.items) c.args.sample = c.placed_cell-old.ensures.value ∙ ap (λ (cells : List Cell). cell_in (placed 0 cells) c.args.sample) (sym is) in
    let before : cell_in (cells_of old) c.args.sample ≡ c.placed_cell-old.result = ap (λ (cells : SampleCells). cell_in cells c.args.sample) (placed_cells old (omega (arith, within))) ∙ sym was in
    let some : 1 ≤ c.raised-cell.result.total = rw c.raised-cell.ensures.value (omega (arith, c.requires.some)) in
    changes_place old new c.args.sample c.raised-cell.result _ within key (places ∙ ap (λ (cells : List Cell). set cells c.args.sample c.raised-cell.result) (sym is))
    (ap (λ (o : Option Cell). Some (raised o c.args.loss)) before ∙ ap Some (sym c.raised-cell.ensures.value) ∙ sym (some_cell_is c.raised-cell.result some))

pub returns-clause-before : goal.returns-clause-before
returns-clause-before c = λ row is.
    let was : c.placed_cell-old.result ≡ cell_in (placed 0 row.places.items) c.args.sample = c.placed_cell-old.ensures.value ∙ ap (λ (cells : List Cell). cell_in (placed 0 cells) c.args.sample) (sym is) in
    was ∙ sym (ap (λ (cells : SampleCells). cell_in cells c.args.sample) (placed_cells row (omega (arith, c.requires.place, ap length is))))

pub returns-clause-room : goal.returns-clause-room
returns-clause-room c = λ more room.
    let low = raised_low c.args.places.now c.args.sample c.args.loss none c.raised-cell.result c.placed_cell-old.result c.requires.place (c.placed_cell-old.ensures.value) c.raised-cell.ensures.value in
    room_raised c.args.places.now c.args.sample c.args.loss more none c.raised-cell.result c.requires.place low room

pub returns-clause-totals : goal.returns-clause-totals
returns-clause-totals c = λ most bound.
    let low = raised_low c.args.places.now c.args.sample c.args.loss none c.raised-cell.result c.placed_cell-old.result c.requires.place (c.placed_cell-old.ensures.value) c.raised-cell.ensures.value in
    totals_raised c.args.places.now c.args.sample c.args.loss most none c.raised-cell.result c.requires.place low bound
