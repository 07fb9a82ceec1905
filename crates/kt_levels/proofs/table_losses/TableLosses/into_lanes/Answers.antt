use Rattle.std.proofs.Common.{◌∙◌, ap}
use Rattle.kt_levels.specs.TableRun.{TableRun}
use Rattle.kt_levels.proofs.TableLossesLemmas.{shares-have, shares-records}
use Rattle.kt_levels.proofs.table_losses.TableLosses.into_lanes.Goals as goal

pub of-requires-clause-have : goal.of-requires-clause-have
of-requires-clause-have c =
    let kept = c.self.inside in
    shares-have kept.table c.into_shares-lanes.result c.rows-rows.ensures.some c.into_shares-lanes.ensures.wide c.into_shares-lanes.ensures.value kept.heads.items c.self.invariant.have

pub returns-clause-records : goal.returns-clause-records
returns-clause-records c =
    let kept = c.self.inside in
    c.of.ensures.records
    ∙ (shares-records kept.table c.into_shares-lanes.result c.rows-rows.ensures.some c.into_shares-lanes.ensures.wide c.into_shares-lanes.ensures.value kept.heads.items c.self.invariant.have
    ∙ ap (λ (run : TableRun). run.records) c.self.view_is)
