-- A listed cell in the place of another, or in its gap.
use Rattle.std.proofs.Common.{refl}
use Rattle.kt_period_cells.specs.declared.row.Row.{Row}
use Rattle.kt_period_cells.proofs.RowEdits.{listed_set, listed_insert, listed_gap, listed_same, on_err}
use Rattle.kt_period_cells.proofs.row.Row.list.Goals as goal

pub returns-in_err-insert-in-Err-clause-err : goal.returns-in_err-insert-in-Err-clause-err
returns-in_err-insert-in-Err-clause-err c =
    let gap = rw c.as_slice.ensures.value at c.in-Err.ensures.absent in
    let after : Row = record { key = c.args.self.now.key; next = c.args.self.now.next; listed = c.insert.new.self; places = c.args.self.now.places; most = c.args.self.now.most } in
    on_err c.from_residual.result (refl, refl, listed_same c.args.self.now after c.args.sample c.in-Err.at c.requires.listed c.requires.rising refl refl c.in_err-insert-in-Err.ensures.items, listed_gap c.args.self.now c.args.self.now c.args.sample c.in-Err.at c.requires.listed c.requires.rising refl refl gap)

pub returns-in-Ok-clause-ok : goal.returns-in-Ok-clause-ok
returns-in-Ok-clause-ok c =
    let at = rw c.as_slice.ensures.value at c.in-Ok.ensures.found in
    listed_set c.args.self.now _ c.args.sample c.in-Ok.at c.requires.listed c.requires.rising refl refl c.args.cell at refl

pub returns-in_ok-insert-in-Err-clause-ok : goal.returns-in_ok-insert-in-Err-clause-ok
returns-in_ok-insert-in-Err-clause-ok c =
    let gap = rw c.as_slice.ensures.value at c.in-Err.ensures.absent in
    listed_insert c.args.self.now _ c.args.sample c.in-Err.at c.requires.listed c.requires.rising refl refl c.args.cell gap c.in_ok-insert-in-Err.ensures.items
