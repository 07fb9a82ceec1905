use Rattle.std.proofs.Common.{slice_index_or, arith}
use Rattle.kt_runs.specs.LossLanes.{lane_of}
use Rattle.kt_runs.proofs.LossLanesLemmas.{head-below, kept-deviation, read-record}
use Rattle.kt_runs.proofs.loss_lanes.LossLanes.deviation.Goals as goal

pub index-requires : goal.index-requires
index-requires c = omega (arith, c.self.inside.heads.ok, head-below c.self.inside c.args.self.now c.self.view_is c.args.place c.requires.place)

pub returns : goal.returns
returns c =
    let head = c.index.result.now in
    let is = read-record c.self.inside c.args.self.now c.self.view_is c.args.place c.requires.place head c.index.ensures in
    record { value = λ d. kept-deviation (slice_index_or c.args.self.now.records c.args.place d) head (lane_of c.self.inside.lanes head) (is d) }
