-- One more list has the amount of its sample.
use Rattle.std.proofs.Common.{◌-◌, ◌<◌, ◌∙◌, ℕ, length, slice_index_or, subst, sym, arith, ◌≡◌, ◌∷◌, [], cond, get_or, ap}
use Rattle.std.proofs.lemmas.List.{length-set}
use Rattle.kt_ranks.specs.declared.amount_list.AmountList.{AmountList}
use Rattle.kt_cell.specs.declared.cell.Cell.{Cell}
use Rattle.kt_cell.specs.Amounts.{amount_or_none}
use Rattle.kt_ranks.specs.AmountLists.{HasMore, HasRoom}
use Rattle.kt_period_cells.specs.SummaryRows.{cell_amount}
use Rattle.kt_cell.specs.Standing.{has_total}
use Rattle.kt_period_cells.specs.RowCells.{cell_in, placed}
use Rattle.kt_period_cells.proofs.ListEdits.{lists_left}
use Rattle.kt_ranks.proofs.ListsOfSamples.{lists_more}
use Rattle.kt_ranks.proofs.RowAmounts.{place_amounts}
use Rattle.kt_ranks.proofs.row_amounts.put_places.Goals as goal

-- no cell
abbrev none : Cell
none = record { total = 0; maximum = 0 }

pub put-requires : goal.put-requires
put-requires c = subst HasRoom (sym (c.loop-k.invariant.left c.loop-k.k c.index-lists-k.result (omega arith))) (c.requires.room c.loop-k.k c.index-lists-k.result (omega (arith, c.loop-k-test.true, c.loop-k.auto.lists)))

pub loop-k-preserved : goal.loop-k-preserved
loop-k-preserved c =
    let lists = c.loop-k.lists in
    let k = c.loop-k.k in
    let here = c.loop-k.invariant in
    let below : k < length lists = omega (arith, c.loop-k-test.true, c.loop-k.auto.lists) in
    let place : Cell = get_or c.args.places.now (c.args.last - k) none in
    let written : cond c.has_total.result (c.amount.result ∷ []) [] ≡ cell_amount c.args.maxima place = ap (λ there. cond there (c.amount.result ∷ []) []) c.has_total.ensures.value ∙ ap (λ amount. cond (has_total place) (amount ∷ []) []) c.amount.ensures.value in
    record {
      many = length-set lists k c.put.new.self ∙ here.many;
      done =
          lists_more (λ (j : ℕ) (old new : AmountList). HasMore (amount_or_none c.args.maxima (cell_in (placed 0 c.args.places.now) (c.args.last - j))) old new) c.args.lists.now lists k c.index-lists-k.result c.put.new.self below here.done here.left
          (subst (λ more. HasMore more (slice_index_or lists k c.index-lists-k.result) c.put.new.self) (written ∙ place_amounts c.args.maxima c.args.places.now (c.args.last - k) none (omega (arith, c.requires.place))) c.put.ensures);
      left = lists_left c.args.lists.now lists k c.put.new.self here.left;
    }
