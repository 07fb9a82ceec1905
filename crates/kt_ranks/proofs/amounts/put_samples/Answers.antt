-- The amounts of a row's samples are those of its entries.
use Rattle.std.proofs.Common.{◌-◌, refl, subst, arith, slice_index_or}
use Rattle.kt_cell.specs.Amounts.{of_sample}
use Rattle.kt_ranks.specs.AmountLists.{HasMore, listed}
use Rattle.kt_ranks.proofs.RowAmounts.{no_row, sample_amounts}
use Rattle.kt_ranks.proofs.amounts.put_samples.Goals as goal

pub returns-then-place-rows-clause-more : goal.returns-then-place-rows-clause-more
returns-then-place-rows-clause-more c = λ k d below. record {
  amounts = no_row c.args.maxima (of_sample (c.args.last - k)) c.args.rows.now c.args.place.now.row (listed (slice_index_or c.args.lists.now k d)) (omega (arith, c.if-place-rows.true));
  one = omega arith;
  size = refl;
}

pub returns-clause-more : goal.returns-clause-more
returns-clause-more c = λ k d below.
    subst (λ more. HasMore more (slice_index_or c.args.lists.now k d) (slice_index_or c.put_samples.new.lists k d))
    (sample_amounts c.args.maxima (c.args.last - k) c.args.rows.now c.args.place.now.row c.index-rows-place.result (omega (arith, below, c.requires.count)) c.requires.rising (omega (arith, c.if-place-rows.false)) c.index-rows-place.is)
    (c.put_samples.ensures.more k d below)
