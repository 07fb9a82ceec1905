use Rattle.std.proofs.Common.{◌≡◌, ◌∙◌, ◌+◌, map, ap, arith, length, Vec, Global}
use Rattle.kt_rules.specs.declared.carry.Carry.{Carry}
use Rattle.kt_fmtree.proofs.RowLemmas.{count, row-read, climbs, next-row, pushed}
use Rattle.kt_fmtree.proofs.carrying.rows_up.Goals as goal

pub row_at-requires : goal.row_at-requires
row_at-requires c =
    let long : length c.loop-level.rows.items ≡ c.loop-level.level + 1 = count _ _ _ _ c.loop-level.invariant in
    let same = ap length c.deref.ensures.value in
    omega (arith, long, same)

pub carried_row-requires : goal.carried_row-requires
carried_row-requires c =
    climbs _ c.args.leaves.items c.args.last c.loop-level.level _ _ c.requires.can (omega arith)
    (row-read _ _ _ _ (c.loop-level.level + 1) c.loop-level.level _ c.loop-level.invariant c.deref.ensures.value c.row_at.ensures.value (omega arith)) c.nodes_at.ensures.value

pub loop-level-preserved : goal.loop-level-preserved
loop-level-preserved c =
    let row = row-read _ _ _ _ (c.loop-level.level + 1) c.loop-level.level _ c.loop-level.invariant c.deref.ensures.value c.row_at.ensures.value (omega arith) in
    let next = next-row _ _ _ _ _ c.loop-level.level row c.nodes_at.ensures.value c.in_ok-row.ensures.value in
    ap (map (λ (kept : Vec Carry Global). kept.items)) c.in_ok-push-2.ensures.items ∙ pushed (λ (kept : Vec Carry Global). kept.items) _ c.loop-level.rows.items c.in_ok-row.row (c.loop-level.level + 1) c.loop-level.invariant next
