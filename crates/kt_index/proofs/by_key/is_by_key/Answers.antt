use Rattle.std.proofs.Common.{◌+◌, ◌≤◌, subst, sym}
use Rattle.kt_index.specs.RiseLaws.{RisesTo, rises_none, rises_more, rises_all}
use Rattle.kt_index.proofs.by_key.is_by_key.Goals as goal

pub loop-row-init : goal.loop-row-init
loop-row-init g c = rises_none g.T.Keyed.key_of c.args.rows.now 0

pub loop-row-preserved : goal.loop-row-preserved
loop-row-preserved g c =
    let key = g.T.Keyed.key_of in
    let is = c.key-key.ensures.value in
    subst (λ n. RisesTo key c.args.rows.now (c.loop-row.row-index + 1) n) (sym is)
    (rises_more key c.args.rows.now c.loop-row.row-index c.loop-row.last c.row-item.result c.loop-row-test.true c.row-item.is (subst (λ n. c.loop-row.last ≤ n) is c.if-key-last.false) c.loop-row.invariant)

pub returns : goal.returns
returns g c = record { rising = λ _. rises_all g.T.Keyed.key_of c.args.rows.now c.loop-row.row-index c.loop-row.last c.loop-row-test.false c.loop-row.invariant }
