use Rattle.std.proofs.Common.{◌∙◌, eqb}
use Rattle.std.proofs.lemmas.List.Filters.{dedup_is}
use Rattle.kt_fmtree.proofs.RisingLemmas.{sorted-rising}
use Rattle.kt_fmtree.proofs.order.rising.Goals as goal

pub returns : goal.returns
returns c = record {
  value = dedup_is eqb _ _ c.dedup.ensures.filtered ∙ sorted-rising c.args.ids.items _ c.in_ok-sort.ensures.permutation c.in_ok-sort.ensures.sorted;
}
