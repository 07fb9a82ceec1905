use Rattle.std.proofs.Common.{◌+◌, ◌∙◌, ℕ, List, length, take, ap, sym, subst}
use Rattle.std.proofs.lemmas.List.{take_all, with_items_is}
use Rattle.kt_runs.specs.Adding.{Holds}
use Rattle.kt_sum.specs.Totals.{total_at}
use Rattle.kt_sum.specs.declared.summary_sums.SummarySums.{SummarySums}
use Rattle.kt_sum.proofs.TotalLemmas.{row_added}
use Rattle.kt_sum.proofs.totals.total_of.Goals as goal

pub loop-row-preserved : goal.loop-row-preserved
loop-row-preserved c =
    let here = c.loop-row.invariant in
    let width = c.args.width in
    let rows = c.args.rows.now in
    let index = c.loop-row.row-index in
    let row = c.row-item.result in
    let before = c.deref_mut.result.now in
    let now = c.add_sums.new.total in
    let now_is = with_items_is c.loop-row.total now (c.add_sums.auto.total ∙ c.deref_mut.ensures.len) in
    record {
      width = ap (λ (sums : List ℕ). length sums) now_is ∙ (c.add_sums.ensures.width ∙ (ap (λ (sums : List ℕ). length sums) c.deref_mut.ensures.value ∙ here.width));
      value = λ fits.
          subst (λ (sums : List ℕ). Holds width (total_at (take (index + 1) rows)) sums) (sym now_is)
          (row_added width rows index row before c.deref.result.now now c.loop-row-test.true c.row-item.is c.deref.ensures.value fits
          (subst (λ (sums : List ℕ). Holds width (total_at (take index rows)) sums) (sym c.deref_mut.ensures.value) (here.value fits)) c.add_sums.ensures.value);
    }

pub returns : goal.returns
returns c = record {
  width = c.loop-row.invariant.width;
  value = λ fits.
      subst (λ (rows : List SummarySums). Holds c.args.width (total_at rows) c.loop-row.total.items) (take_all c.loop-row.row-index c.args.rows.now c.loop-row-test.false) (c.loop-row.invariant.value fits);
}
