-- A listed cell in the place of another, or taken out.
use Rattle.std.proofs.Common.{◌≡◌, refl, sym, ap, ◌∙◌}
use Rattle.std.specs.Prelude.{true, false, is_some}
use Rattle.kt_period_cells.proofs.RowCells.{cell_in_gap}
use Rattle.kt_period_cells.proofs.RowEdits.{listed_set, listed_remove}
use Rattle.kt_period_cells.proofs.row.Row.relist.Goals as goal

pub returns-in-Some : goal.returns-in-Some
returns-in-Some c =
    let at = rw c.as_slice.ensures.value at c.in-Ok.ensures.found in
    record { value = rw c.in-Some.is (listed_set c.args.self.now _ c.args.sample c.in-Ok.at c.requires.listed c.requires.rising refl refl c.in-Some.cell at refl); bound = refl }

pub returns-in-None : goal.returns-in-None
returns-in-None c =
    let at = rw c.as_slice.ensures.value at c.in-Ok.ensures.found in
    record { value = rw c.in-None.is (listed_remove c.args.self.now _ c.args.sample c.in-Ok.at c.requires.listed c.requires.rising refl refl at c.remove.ensures.items); bound = refl }

pub returns-in-Err : goal.returns-in-Err
returns-in-Err c =
    let gap = rw c.as_slice.ensures.value at c.in-Err.ensures.absent in
    let wrong : false ≡ true = sym (ap is_some (cell_in_gap c.args.self.now.listed.items c.requires.rising c.args.sample c.in-Err.field-0 gap)) ∙ c.requires.there in
    cc
