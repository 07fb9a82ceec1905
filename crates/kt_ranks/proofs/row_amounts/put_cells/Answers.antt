-- One more list has the amount of its sample.
use Rattle.std.proofs.Common.{◌-◌, ◌<◌, ◌∙◌, ℕ, Option, length, slice_index_or, subst, sym, arith}
use Rattle.std.proofs.lemmas.List.{length-set}
use Rattle.kt_ranks.specs.declared.amount_list.AmountList.{AmountList}
use Rattle.kt_cell.specs.declared.cell.Cell.{Cell}
use Rattle.kt_cell.specs.Amounts.{amount_or_none}
use Rattle.kt_ranks.specs.AmountLists.{HasMore, HasRoom}
use Rattle.kt_period_cells.specs.RowCells.{cell_in, cells_of}
use Rattle.kt_period_cells.proofs.ListEdits.{lists_left}
use Rattle.kt_ranks.proofs.ListsOfSamples.{lists_more}
use Rattle.kt_ranks.proofs.row_amounts.put_cells.Goals as goal

pub put_found-requires : goal.put_found-requires
put_found-requires c = subst HasRoom (sym (c.loop-k.invariant.left c.loop-k.k c.index-lists-k.result (omega arith))) (c.requires.room c.loop-k.k c.index-lists-k.result (omega (arith, c.loop-k-test.true, c.loop-k.auto.lists)))

pub loop-k-preserved : goal.loop-k-preserved
loop-k-preserved c =
    let lists = c.loop-k.lists in
    let k = c.loop-k.k in
    let here = c.loop-k.invariant in
    let below : k < length lists = omega (arith, c.loop-k-test.true, c.loop-k.auto.lists) in
    record {
      many = length-set lists k c.put_found.new.list ∙ here.many;
      done =
          lists_more (λ (j : ℕ) (old new : AmountList). HasMore (amount_or_none c.args.maxima (cell_in (cells_of c.args.row.now) (c.args.last - j))) old new) c.args.lists.now lists k c.index-lists-k.result c.put_found.new.list below here.done here.left
          (subst (λ (cell : Option Cell). HasMore (amount_or_none c.args.maxima cell) (slice_index_or lists k c.index-lists-k.result) c.put_found.new.list) c.cell.ensures.value c.put_found.ensures);
      left = lists_left c.args.lists.now lists k c.put_found.new.list here.left;
    }
