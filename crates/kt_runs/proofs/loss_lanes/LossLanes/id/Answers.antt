use Rattle.std.proofs.Common.{ap, arith}
use Rattle.kt_stream.specs.declared.entry.LossRecord.{LossRecord}
use Rattle.kt_runs.proofs.LossLanesLemmas.{head-below, read-record}
use Rattle.kt_runs.proofs.loss_lanes.LossLanes.id.Goals as goal

pub index-requires : goal.index-requires
index-requires c = omega (arith, c.self.inside.heads.ok, head-below c.self.inside c.args.self.now c.self.view_is c.args.place c.requires.place)

pub returns : goal.returns
returns c =
    let is = read-record c.self.inside c.args.self.now c.self.view_is c.args.place c.requires.place c.index.result.now c.index.ensures in
    record { value = λ d. ap (λ (entry : LossRecord). entry.id) (is d) }
