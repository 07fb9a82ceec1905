-- The amounts of a row's places: of the mean, or of the others.
use Rattle.std.proofs.Common.{◌≤◌, ◌++◌, List, ℕ, length, ap, sym, ◌∙◌}
use Rattle.std.proofs.lemmas.List.{take_rest}
use Rattle.kt_cell.specs.Amounts.{amount_or_none}
use Rattle.kt_period_cells.specs.Outcomes.{on_more}
use Rattle.kt_period_cells.proofs.PlacedCells.{placed_cells}
use Rattle.kt_ranks.proofs.RowAmounts.{mean_placed, samples_placed}
use Rattle.kt_ranks.proofs.row_amounts.push_kind.Goals as goal

pub returns-then-mean : goal.returns-then-mean
returns-then-mean c =
    let some : 1 ≤ length c.args.row.now.places.items = rw c.places-places.ensures.value at c.in-len1-up.len_at_least in
    rw (c.if-mean.true, placed_cells c.args.row.now some, ← c.places-places.ensures.value) (record {
      ok = on_more c.push_found.result
          (λ is. is ∙ ap (λ (xs : List ℕ). c.args.found.now.items ++ xs) (ap (amount_or_none c.args.maxima) c.placed_cell.ensures.value ∙ sym (mean_placed c.args.maxima c.places-places.result.now))) c.push_found.ensures.ok;
    })

pub returns : goal.returns
returns c =
    let some : 1 ≤ length c.args.row.now.places.items = rw c.places-places.ensures.value at c.in-len1-up.len_at_least in
    rw (c.if-mean.false, placed_cells c.args.row.now some, ← c.places-places.ensures.value) (record {
      ok = on_more c.push_samples.result
          (λ is. rw (take_rest c.places-places.result.now 1) at is ∙ ap (λ (xs : List ℕ). c.args.found.now.items ++ xs) (sym (samples_placed c.args.maxima c.places-places.result.now c.in-len1-up.len_at_least))) c.push_samples.ensures.ok;
    })
