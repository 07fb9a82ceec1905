use Rattle.std.proofs.Common.{◌≡◌, ◌+◌, ◌∷◌, [], ◌++◌, ap, drop, refl, sym, ◌∙◌, arith}
use Rattle.std.proofs.lemmas.List.{drop_all, drop_more}
use Rattle.std.proofs.lemmas.Result.{err_from_is_err_and}
use Rattle.kt_cells.specs.Reading.{table_rows}
use Rattle.kt_cells.specs.Stops.{Tells-refused}
use Rattle.kt_cells.specs.Texts.{text_value}
use Rattle.kt_cells.proofs.ReadingLemmas.{table_rows-row, table_rows-stops, front-more, front-stops, front-end}
use Rattle.kt_cells.proofs.reader.read_grid.Goals as goal

pub returns-in_err-values-clause-refused : goal.returns-in_err-values-clause-refused
returns-in_err-values-clause-refused g c =
    let p = err_from_is_err_and c.from_residual.result c.from_residual.ensures.1 in
    let row = drop_more c.args.grid.now c.loop-row.row [] (omega arith) in
    let even = c.record.ensures.width ∙ sym c.told-kinds in
    rw (p.1, p.2) (Tells-refused _ _ (front-stops c.loop-row.invariant _ (rw row (table_rows-stops text_value c.args.ordered 1 c.args.kinds.now c.loop-row.floor (c.loop-row.row + 1) _ _ _ even (rw c.record.ensures.value at c.in_err-values.ensures)))))

pub loop-row-preserved : goal.loop-row-preserved
loop-row-preserved g c =
    let row = drop_more c.args.grid.now c.loop-row.row [] (omega arith) in
    let even = c.record.ensures.width ∙ sym c.told-kinds in
    rw (c.in_ok-push.ensures.items, c.floor_after-floor.ensures)
    (front-more c.loop-row.invariant _ c.in_ok-values.values _ (rw row (table_rows-row text_value c.args.ordered 1 c.args.kinds.now c.loop-row.floor (c.loop-row.row + 1) c.in_ok-values.values _ _ even (rw c.record.ensures.value at c.in_ok-values.ensures)))
    (λ rows same. ap (λ xs. xs ++ c.in_ok-values.values ∷ []) same))

pub returns-clause-value : goal.returns-clause-value
unfolding table_rows
returns-clause-value g c =
    let none : drop c.loop-row.row c.args.grid.now ≡ [] = drop_all c.loop-row.row c.args.grid.now (omega (arith, c.rows-row-end.ensures.value)) in
    let all = front-end c.loop-row.invariant (rw none refl) in
    rw all.are_taken all.are_read
