use Rattle.std.proofs.Common.{◌+◌, ◌≤◌, get_or, subst, sym}
use Rattle.std.proofs.lemmas.List.{get_or_default}
use Rattle.kt_index.specs.RiseLaws.{RisesTo, rises_none, rises_more, rises_all}
use Rattle.kt_rec.specs.declared.exposure.Item.{Item}
use Rattle.kt_tables.proofs.lookups.items.is_by_id.Goals as goal

pub loop-row-init : goal.loop-row-init
loop-row-init c = rises_none (λ (row : Item). row.item_id) c.args.items.now 0

pub loop-row-preserved : goal.loop-row-preserved
loop-row-preserved c =
    let none : Item = record { item_id = 0; coverage_id = 0; areaperil_id = 0; vulnerability_id = 0; group_id = 0 } in
    let row = get_or c.args.items.now c.loop-row.row-index none in
    let is = c.id_of-id.ensures.value in
    subst (λ n. RisesTo (λ (row : Item). row.item_id) c.args.items.now (c.loop-row.row-index + 1) n) (sym is)
    (rises_more (λ (row : Item). row.item_id) c.args.items.now c.loop-row.row-index c.loop-row.last row c.loop-row-test.true (get_or_default c.args.items.now c.loop-row.row-index none row c.loop-row-test.true) (subst (λ n. c.loop-row.last ≤ n) is c.if-id-last.false) c.loop-row.invariant)

pub returns : goal.returns
returns c = record { rising = λ _. rises_all (λ (row : Item). row.item_id) c.args.items.now c.loop-row.row-index c.loop-row.last c.loop-row-test.false c.loop-row.invariant }
