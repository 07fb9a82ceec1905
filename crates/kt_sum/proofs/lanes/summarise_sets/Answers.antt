use Rattle.std.proofs.Common.{◌∙◌, List, length, subst, sym}
use Rattle.std.specs.Prelude.{All}
use Rattle.std.specs.Vec.{with_items}
use Rattle.std.proofs.lemmas.List.{with_items_is}
use Rattle.kt_tables.specs.Lookups.{summary_in}
use Rattle.kt_sum.specs.SetSums.{HoldLanes}
use Rattle.kt_sum.specs.declared.set_sums.SetSums.{SetSums}
use Rattle.kt_sum.proofs.lanes.summarise_sets.Goals as goal

pub records_of_sets-requires-clause-all : goal.records_of_sets-requires-clause-all
records_of_sets-requires-clause-all c =
    let losses = c.args.losses.now in
    let find = summary_in c.args.perspective c.args.portfolio.now.rows in
    let made = c.in_ok-sums.sums in
    let added = c.add_lanes.new.sums in
    let finished = c.finish_sums.new.sums in
    let lanes = with_items made added in
    let added_is = c.deref_mut-2.ensures.value ∙ with_items_is made added (c.add_lanes.auto.sums ∙ c.deref_mut.ensures.len) in
    let finished_is = c.deref.ensures.value ∙ with_items_is lanes finished (c.finish_sums.auto.sums ∙ c.deref_mut-2.ensures.len) in
    let hold = c.add_lanes.ensures.all find (subst (λ (sums : List SetSums). All (HoldLanes find losses 0) sums) (sym c.deref_mut.ensures.value) c.in_ok-sums.ensures.none) in
    subst (λ (sums : List SetSums). All (HoldLanes find losses (length losses.records)) sums) (sym finished_is)
    (c.in_ok-finish_sums.ensures.all find (subst (λ (sums : List SetSums). All (HoldLanes find losses (length losses.records)) sums) (sym added_is) hold))
