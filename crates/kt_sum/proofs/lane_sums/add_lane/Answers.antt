use Rattle.std.proofs.Common.{arith}
use Rattle.kt_sum.proofs.LaneSumsLemmas.{lane-added, mean-added, sample-added}
use Rattle.kt_sum.proofs.lane_sums.add_lane.Goals as goal

pub loop-row-init : goal.loop-row-init
loop-row-init c = λ fits. mean-added c.args.sums.now c.args.deviation c.args.lane.now c.requires.some c.requires.width fits

pub loop-row-preserved : goal.loop-row-preserved
loop-row-preserved c = λ fits. sample-added c.args.sums.now c.args.deviation c.args.lane.now c.requires.some c.requires.width fits c.loop-row.row c.loop-row.sums c.loop-row.auto.row c.loop-row-test.true (c.loop-row.invariant fits)

pub returns : goal.returns
returns c = record { value = λ fits. lane-added c.args.sums.now c.args.deviation c.args.lane.now c.requires.some c.requires.width c.loop-row.row c.loop-row.sums (omega (arith, c.loop-row-test.false)) (c.loop-row.invariant fits) }
