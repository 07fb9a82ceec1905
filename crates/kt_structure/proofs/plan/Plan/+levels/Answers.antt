use Rattle.std.proofs.Common.{Vec, Global, arith, ap, ◌∙◌}
use Rattle.std.specs.List.{flat_map}
use Rattle.kt_structure.specs.Plan.{kids, nodes_from}
use Rattle.kt_fmtree.specs.declared.node.Node.{Node}
use Rattle.kt_structure.proofs.PlanLemmas.{levels-push}
use Rattle.kt_structure.proofs.plan.Plan.+levels.Goals as goal

pub returns-clause-levels : goal.returns-clause-levels
returns-clause-levels t c =
    levels-push (λ (nodes : Vec Node Global). nodes.items) c.args.self.now c.args.level c.args.units.items c.in_ok-nodes.below.items c.args.levels.now.items _ _ c.in_ok-nodes.nodes (omega arith) c.in_ok-leaves.ensures.levels (c.in_ok-nodes.ensures.below ∙ ap (flat_map (kids c.args.self.now c.args.level)) c.deref.ensures.value) (c.in_ok-nodes.ensures.nodes ∙ ap (nodes_from c.args.self.now c.args.level 0) c.deref.ensures.value) c.in_ok-push.ensures.items
