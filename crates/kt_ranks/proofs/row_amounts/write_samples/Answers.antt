-- The amount of one place more.
use Rattle.std.proofs.Common.{arith, get_or, take, take_all, ap, ◌∙◌, ◌++◌, ◌∷◌, [], cond}
use Rattle.std.proofs.lemmas.List.{length-set}
use Rattle.kt_cell.specs.declared.cell.Cell.{Cell}
use Rattle.kt_cell.specs.Losses.{one_if}
use Rattle.kt_cell.specs.Standing.{has_total}
use Rattle.kt_ranks.proofs.ListsOfSamples.{amount_more, one_at_most}
use Rattle.kt_ranks.proofs.RowAmounts.{written_more}
use Rattle.kt_ranks.proofs.row_amounts.write_samples.Goals as goal

-- no cell
abbrev none : Cell
none = record { total = 0; maximum = 0 }

pub loop-cell-preserved : goal.loop-cell-preserved
loop-cell-preserved c =
    let here = c.loop-cell.invariant in
    let values = c.loop-cell.values in
    let end = c.loop-cell.end in
    let cell : Cell = get_or c.args.samples.now c.loop-cell.cell-index none in
    let there = c.one_if-end.ensures.value ∙ ap one_if c.has_total.ensures.value in
    record {
      size = length-set values end c.amount.result ∙ here.size;
      few = omega (arith, here.few, there, one_at_most (has_total cell));
      value = written_more c.args.maxima c.args.samples.now c.loop-cell.cell-index none (take c.args.used c.args.values.now) (take end values) _ c.loop-cell-test.true here.value
          (amount_more values end c.amount.result c.one_if-end.result (has_total cell) (omega (arith, here.few, here.size, c.requires.room, c.loop-cell-test.true)) there ∙ ap (λ amount. take end values ++ cond (has_total cell) (amount ∷ []) []) c.amount.ensures.value);
    }

pub returns-clause-value : goal.returns-clause-value
returns-clause-value c = rw (take_all c.loop-cell.cell-index c.args.samples.now c.loop-cell-test.false) at c.loop-cell.invariant.value
