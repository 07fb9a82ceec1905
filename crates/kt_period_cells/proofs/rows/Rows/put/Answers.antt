-- One loss put in: the entries stand for one more, and the rows stay within their bounds.
use Rattle.std.proofs.Common.{◌≡◌, ◌≤◌, ◌+◌, ℕ, [], ◌∷◌, ◌++◌, arith, inl, inr, refl, sym, ap, ◌∙◌, length, set}
use Rattle.std.proofs.lemmas.Grind.{common_steps}
use Rattle.std.specs.Prelude.{Some}
use Rattle.std.proofs.lemmas.List.Elements.{All-push}
use Rattle.kt_cell.specs.declared.cell.Change.{Change}
use Rattle.kt_period_cells.specs.declared.row.Row.{Row}
use Rattle.kt_cell.specs.Standing.{most_total}
use Rattle.kt_period_cells.specs.RowCells.{cells_of, Changes, cell_in}
use Rattle.kt_period_cells.specs.Rows.{entries_of}
use Rattle.kt_period_cells.proofs.Steps.{put_step, put_stop, put_noted}
use Rattle.kt_period_cells.proofs.OneRow.{row_same}
use Rattle.kt_period_cells.proofs.Places.{placed_within, keys_set}
use Rattle.kt_period_cells.proofs.Tables.{same_read, cells_changed, entries_same}
use Rattle.kt_period_cells.proofs.RowBounds.{raised_fits, fits_bound, fits_changed, fits_same, table_set}
use Rattle.kt_period_cells.proofs.PlacedCells.{wide_has}
use Rattle.kt_period_cells.proofs.RowKeys.{sample_within}
use Rattle.kt_period_cells.proofs.Puts.{row_of_key, count_put, held_put}
use Rattle.kt_period_cells.proofs.rows.Rows.put.Goals as goal

pub index-requires : goal.index-requires
index-requires c =
    let found = rw (← c.self.view_is) at c.requires.row in
    omega (arith, placed_within _ c.self.inside.rows.items c.args.row found, c.self.inside.rows.ok.0)

pub cell-old-requires : goal.cell-old-requires
cell-old-requires c =
    let found = rw (← c.self.view_is) at c.requires.row in
    let sidx = rw (← c.self.view_is) at c.requires.sidx in
    let here = row_of_key _ _ _ _ _ c.self.inside.rows.items c.args.key c.args.row c.index.result.now c.self.invariant found sidx c.sample_of-sample.ensures.value c.index.ensures in
    here.fits.rising

pub refusal-requires-clause-total : goal.refusal-requires-clause-total
refusal-requires-clause-total c =
    let found = rw (← c.self.view_is) at c.requires.row in
    let sidx = rw (← c.self.view_is) at c.requires.sidx in
    let here = row_of_key _ _ _ _ _ c.self.inside.rows.items c.args.key c.args.row c.index.result.now c.self.invariant found sidx c.sample_of-sample.ensures.value c.index.ensures in
    rw c.cell-old.ensures.value here.total

pub returns-in-Some-clause-step : goal.returns-in-Some-clause-step
returns-in-Some-clause-step c = λ losses stands.
    let found = rw (← c.self.view_is) at c.requires.row in
    let sidx = rw (← c.self.view_is) at c.requires.sidx in
    let here = row_of_key _ _ _ _ _ c.self.inside.rows.items c.args.key c.args.row c.index.result.now c.self.invariant found sidx c.sample_of-sample.ensures.value c.index.ensures in (
      inr (put_stop losses (entries_of c.self.inside.rows.items) c.args.key c.args.loss c.self.inside.held c.cell-old.result c.in-Some.stop c.requires.some (rw (← c.self.view_is) at stands)
          (c.cell-old.ensures.value ∙ here.has) c.self.invariant.count c.in-Some.ensures.value),
      stands,
    )

pub index_mut-requires : goal.index_mut-requires
index_mut-requires c =
    let found = rw (← c.self.view_is) at c.requires.row in
    omega (arith, placed_within _ c.self.inside.rows.items c.args.row found, c.self.inside.rows.ok.0)

pub set-requires-clause-rising : goal.set-requires-clause-rising
set-requires-clause-rising c =
    let found = rw (← c.self.view_is) at c.requires.row in
    let sidx = rw (← c.self.view_is) at c.requires.sidx in
    let here = row_of_key _ _ _ _ _ c.self.inside.rows.items c.args.key c.args.row c.index_mut.result.now c.self.invariant found sidx c.sample_of-sample.ensures.value c.index_mut.ensures.value in
    here.fits.rising

pub set-requires-clause-place : goal.set-requires-clause-place
set-requires-clause-place c =
    let found = rw (← c.self.view_is) at c.requires.row in
    let sidx = rw (← c.self.view_is) at c.requires.sidx in
    let here = row_of_key _ _ _ _ _ c.self.inside.rows.items c.args.key c.args.row c.index_mut.result.now c.self.invariant found sidx c.sample_of-sample.ensures.value c.index_mut.ensures.value in
    wide_has c.self.inside.samples c.sample_of-sample.result c.index_mut.result.now.places.items (rw c.sample_of-sample.ensures.value (sample_within c.self.inside.samples c.args.key.sidx sidx)) here.fits.wide

pub set-requires-clause-some : goal.set-requires-clause-some
set-requires-clause-some c = rw c.raised.ensures.value (omega (arith, c.requires.some))

pub invariant_of-self : goal.invariant_of-self
invariant_of-self c =
    let found = rw (← c.self.view_is) at c.requires.row in
    let sidx = rw (← c.self.view_is) at c.requires.sidx in
    let here = row_of_key _ _ _ _ _ c.self.inside.rows.items c.args.key c.args.row c.index_mut.result.now c.self.invariant found sidx c.sample_of-sample.ensures.value c.index_mut.ensures.value in
    let same = same_read c.self.inside.rows.items c.args.row c.index_mut.result.now c.index.result.now here.within c.index_mut.ensures.value c.index.ensures in
    let was : c.cell-old.result ≡ cell_in (cells_of c.index_mut.result.now) c.sample_of-sample.result = c.cell-old.ensures.value ∙ ap (λ (row : Row). cell_in (cells_of row) c.sample_of-sample.result) (sym same) in
    let changes : Changes c.index_mut.result.now c.set.new.self c.sample_of-sample.result (Some c.raised.result) = c.in-Ok-set.ensures.ok in
    let cell = raised_fits _ c.sample_of-sample.result c.args.key.sidx c.cell-old.result c.args.loss sidx c.sample_of-sample.ensures.value c.requires.some c.in-None.ensures.room (rw was here.greatest) in
    let fits = fits_changed _ _ _ c.index_mut.result.now c.set.new.self (Some c.raised.result) here.fits changes (rw c.raised.ensures.value cell) in
    table_set _ _ _ _ _ c.self.inside.rows.items c.args.row c.index_mut.result.now c.set.new.self c.self.invariant here.within c.index_mut.ensures.value changes.key fits (fits_bound _ c.set.new.self fits.cells c.in-Ok-set.ensures.bound)
    (held_put c.self.inside.held (c.self.inside.held + c.new_cells.result) c.sample_of-sample.result c.index_mut.result.now c.set.new.self c.raised.result c.cell-old.result changes was (omega (arith, c.new_cells.ensures.value)))

pub returns-in-Ok-set-clause-rows : goal.returns-in-Ok-set-clause-rows
returns-in-Ok-set-clause-rows c =
    let changes : Changes c.index_mut.result.now c.set.new.self c.sample_of-sample.result (Some c.raised.result) = c.in-Ok-set.ensures.ok in
    rw (← c.self.view_is) (keys_set c.self.inside.rows.items c.args.row c.index_mut.result.now c.set.new.self c.index_mut.ensures.value changes.key)

pub returns-in-Ok-set-clause-journal : goal.returns-in-Ok-set-clause-journal
returns-in-Ok-set-clause-journal c =
    let found = rw (← c.self.view_is) at c.requires.row in
    let sidx = rw (← c.self.view_is) at c.requires.sidx in
    let here = row_of_key _ _ _ _ _ c.self.inside.rows.items c.args.key c.args.row c.index.result.now c.self.invariant found sidx c.sample_of-sample.ensures.value c.index.ensures in
    rw c.in-Ok.ensures.items (All-push (λ (change : Change). change.greatest ≤ most_total) _ _ c.requires.journal (rw (c.maximum_in.ensures.value, c.cell-old.ensures.value) here.greatest))

pub returns-in-Ok-set-clause-step : goal.returns-in-Ok-set-clause-step
returns-in-Ok-set-clause-step c = λ losses stands.
    let found = rw (← c.self.view_is) at c.requires.row in
    let sidx = rw (← c.self.view_is) at c.requires.sidx in
    let here = row_of_key _ _ _ _ _ c.self.inside.rows.items c.args.key c.args.row c.index_mut.result.now c.self.invariant found sidx c.sample_of-sample.ensures.value c.index_mut.ensures.value in
    let same = same_read c.self.inside.rows.items c.args.row c.index_mut.result.now c.index.result.now here.within c.index_mut.ensures.value c.index.ensures in
    let was : c.cell-old.result ≡ cell_in (cells_of c.index_mut.result.now) c.sample_of-sample.result = c.cell-old.ensures.value ∙ ap (λ (row : Row). cell_in (cells_of row) c.sample_of-sample.result) (sym same) in
    let changes : Changes c.index_mut.result.now c.set.new.self c.sample_of-sample.result (Some c.raised.result) = c.in-Ok-set.ensures.ok in
    put_step losses (entries_of c.self.inside.rows.items) (entries_of (set c.self.inside.rows.items c.args.row c.set.new.self)) c.args.key c.args.loss c.self.inside.held c.cell-old.result c.cell-old.result c.raised.result
    c.requires.some (rw (← c.self.view_is) at stands) (was ∙ here.has) (was ∙ here.has) c.raised.ensures.value c.self.invariant.count c.in-None.ensures.value
    (cells_changed _ c.sample_of-sample.result c.self.inside.rows.items c.args.key c.args.row c.index_mut.result.now c.set.new.self (Some c.raised.result) c.self.invariant.apart found c.index_mut.ensures.value sidx c.sample_of-sample.ensures.value changes)
    (count_put c.self.inside.rows.items c.args.row c.sample_of-sample.result c.index_mut.result.now c.set.new.self c.raised.result c.cell-old.result here.within c.index_mut.ensures.value changes was)

pub returns-in-Ok-set-clause-noted : goal.returns-in-Ok-set-clause-noted
returns-in-Ok-set-clause-noted c = λ losses stands.
    let found = rw (← c.self.view_is) at c.requires.row in
    let sidx = rw (← c.self.view_is) at c.requires.sidx in
    let here = row_of_key _ _ _ _ _ c.self.inside.rows.items c.args.key c.args.row c.index.result.now c.self.invariant found sidx c.sample_of-sample.ensures.value c.index.ensures in
    let noted = put_noted losses (entries_of c.self.inside.rows.items) c.args.key c.cell-old.result (rw (← c.self.view_is) at stands) (c.cell-old.ensures.value ∙ here.has) in
    c.in-Ok.ensures.items ∙ ap (λ (g : ℕ). c.args.journal.now.items ++ (record { key = c.args.key; loss = c.args.loss; greatest = g }) ∷ []) (c.maximum_in.ensures.value ∙ noted)

pub invariant_of-self-in-Err-set : goal.invariant_of-self-in-Err-set
invariant_of-self-in-Err-set c =
    let found = rw (← c.self.view_is) at c.requires.row in
    let sidx = rw (← c.self.view_is) at c.requires.sidx in
    let here = row_of_key _ _ _ _ _ c.self.inside.rows.items c.args.key c.args.row c.index_mut.result.now c.self.invariant found sidx c.sample_of-sample.ensures.value c.index_mut.ensures.value in
    let kept = c.in-Err-set.ensures.err in
    let fits = fits_same _ _ c.index_mut.result.now c.set.new.self here.fits kept.0 kept.1 kept.2 in
    table_set _ _ _ _ _ c.self.inside.rows.items c.args.row c.index_mut.result.now c.set.new.self c.self.invariant here.within c.index_mut.ensures.value kept.0 fits (fits_bound _ c.set.new.self fits.cells c.in-Err-set.ensures.bound)
    (ap (λ (n : ℕ). c.self.inside.held + n) (ap length (sym kept.2)))

pub returns-clause-rows : goal.returns-clause-rows
returns-clause-rows c =
    let kept = c.in-Err-set.ensures.err in
    rw (← c.self.view_is) (keys_set c.self.inside.rows.items c.args.row c.index_mut.result.now c.set.new.self c.index_mut.ensures.value kept.0)

pub returns-clause-step : goal.returns-clause-step
returns-clause-step c = λ losses stands.
    let kept = c.in-Err-set.ensures.err in
    (inl refl, rw (entries_same c.self.inside.rows.items c.args.row c.index_mut.result.now c.set.new.self c.index_mut.ensures.value (row_same c.index_mut.result.now c.set.new.self kept.0 kept.2)) (rw (← c.self.view_is) at stands))

pub refusal-requires-clause-loss : goal.refusal-requires-clause-loss
refusal-requires-clause-loss c = grind (arith, common_steps)

pub returns-in-Ok-set-clause-size : goal.returns-in-Ok-set-clause-size
returns-in-Ok-set-clause-size c = grind (arith, common_steps)

pub returns-clause-noted : goal.returns-clause-noted
returns-clause-noted c = grind (arith, common_steps)
