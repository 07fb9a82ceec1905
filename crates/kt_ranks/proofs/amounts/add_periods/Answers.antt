-- The sums of one row more.
use Rattle.std.proofs.Common.{◌+◌, ◌≤◌, get_or, arith, ap, ◌∙◌, sym}
use Rattle.std.specs.Prelude.{sum}
use Rattle.std.proofs.lemmas.List.{get_or_default}
use Rattle.std.proofs.lemmas.List.Elements.{All-weaker}
use Rattle.kt_period_cells.specs.declared.group.SummaryRow.{SummaryRow}
use Rattle.kt_period_cells.specs.declared.row.Row.{Row}
use Rattle.kt_cell.specs.Amounts.{amounts_of, of_period}
use Rattle.kt_period_cells.specs.RowCells.{RowFits}
use Rattle.kt_period_cells.specs.SummaryRows.{entries_in, row_at}
use Rattle.kt_ranks.proofs.RowAmounts.{sum_more, sum_part}
use Rattle.kt_ranks.proofs.amounts.add_periods.Goals as goal

-- no place
abbrev none : SummaryRow
none = record { summary = 0; row = 0 }

pub add_period-requires-clause-periods : goal.add_period-requires-clause-periods
add_period-requires-clause-periods c =
    rw c.loop-place.invariant.len (All-weaker (RowFits c.args.cells.now.periods c.args.cells.now.samples) (λ (row : Row). (1 ≤ row.key.period) × (row.key.period ≤ c.args.cells.now.periods)) (λ row fits. (fits.first, fits.last)) c.args.cells.now.rows.now c.requires.group.fits)

pub add_period-requires-clause-room : goal.add_period-requires-clause-room
add_period-requires-clause-room c = λ period.
    let group = c.args.cells.now in
    let test = of_period (period + 1) in
    let more = sum_more group.maxima test group.rows.now group.places.now c.loop-place.place-index (get_or group.places.now c.loop-place.place-index none) c.loop-place-test.true (get_or_default group.places.now c.loop-place.place-index none _ c.loop-place-test.true) in
    let part = sum_part group.maxima test group.rows.now group.places.now (c.loop-place.place-index + 1) in
    omega (arith, c.loop-place.invariant.sums period, more, part, c.requires.room period)

pub loop-place-preserved : goal.loop-place-preserved
loop-place-preserved c =
    let group = c.args.cells.now in
    record {
      len = c.add_period.ensures.len ∙ c.loop-place.invariant.len;
      sums = λ period.
          let more = sum_more group.maxima (of_period (period + 1)) group.rows.now group.places.now c.loop-place.place-index (get_or group.places.now c.loop-place.place-index none) c.loop-place-test.true (get_or_default group.places.now c.loop-place.place-index none _ c.loop-place-test.true) in
          c.add_period.ensures.sums period ∙ ap (λ n. n + sum (amounts_of group.maxima (of_period (period + 1)) (entries_in (row_at group.rows.now (get_or group.places.now c.loop-place.place-index none).row)))) (c.loop-place.invariant.sums period) ∙ sym more;
    }
