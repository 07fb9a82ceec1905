use Rattle.std.proofs.Common.{◌≡◌, subst, arith}
use Rattle.kt_levels.specs.ByLanes.{AreRows}
use Rattle.kt_levels.proofs.ByRowsLemmas.{rows-start}
use Rattle.kt_levels.proofs.by_rows.rows_of.Goals as goal

pub loop-at-init : goal.loop-at-init
loop-at-init c = rows-start c.args.programme.now c.args.lanes.now c.args.rule c.args.layers.now _ c.new.ensures.items c.new-2.ensures.items

pub loop-at-preserved : goal.loop-at-preserved
loop-at-preserved c = c.in_ok-push_row.ensures.value c.loop-at.invariant

pub returns : goal.returns
returns c =
    let end : c.loop-at.at ≡ c.args.width = omega (arith, c.loop-at-test.false, c.loop-at.auto.at-end) in
    record { value = subst (λ n. AreRows c.args.programme.now c.args.lanes.now c.args.rule c.args.layers.now n c.loop-at.rows) end c.loop-at.invariant }
