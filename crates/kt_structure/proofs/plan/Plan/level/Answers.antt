use Rattle.kt_structure.proofs.PlanLemmas.{below-end, building-begins, building-goes, nodes-end}
use Rattle.kt_structure.proofs.plan.Plan.level.Goals as goal

pub loop-unit-init : goal.loop-unit-init
loop-unit-init c = building-begins c.args.self.now c.args.level c.args.units.now c.in_ok-nodes.nodes.items c.in_ok-below.below.items c.in_ok-nodes.ensures.items c.in_ok-below.ensures.items

pub loop-unit-preserved : goal.loop-unit-preserved
loop-unit-preserved c =
    building-goes c.args.self.now c.args.level c.args.units.now c.loop-unit.unit-index c.loop-unit.nodes.items c.push_unit.new.nodes.items c.loop-unit.below.items c.push_unit.new.below.items c.loop-unit-test.true c.loop-unit.invariant c.in_ok-push_unit.ensures.nodes c.in_ok-push_unit.ensures.below

pub returns : goal.returns
returns c =
    let here = c.loop-unit.invariant in
    let all = c.loop-unit-test.false in
    record {
      nodes = nodes-end c.args.self.now c.args.level c.args.units.now c.loop-unit.unit-index c.loop-unit.nodes.items c.loop-unit.below.items all here;
      below = below-end c.args.self.now c.args.level c.args.units.now c.loop-unit.unit-index c.loop-unit.nodes.items c.loop-unit.below.items all here;
    }
