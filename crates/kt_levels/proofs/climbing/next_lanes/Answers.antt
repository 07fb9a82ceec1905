use Rattle.std.proofs.Common.{List, All, sym, subst}
use Rattle.kt_fmtree.specs.declared.node.Node.{Node}
use Rattle.kt_levels.specs.Units.{CanTake}
use Rattle.kt_levels.specs.ClimbedLaws.{can-take, next-level}
use Rattle.kt_levels.proofs.climbing.next_lanes.Goals as goal

pub unit_lanes-requires-clause-can : goal.unit_lanes-requires-clause-can
unit_lanes-requires-clause-can c =
    subst (λ (nodes : List Node). All (CanTake c.args.width c.args.below.now) nodes) (sym c.nodes_above.ensures.value)
    (can-take c.args.programme.now c.is_of_a_tree.ensures.kept c.args.width c.args.lanes.now c.requires.losses c.args.level c.requires.level c.args.below.now c.requires.below)

pub returns : goal.returns
returns c = record {
  value = next-level c.args.programme.now c.is_of_a_tree.ensures.kept c.args.width c.args.lanes.now c.requires.losses c.requires.plain c.args.level c.requires.level c.args.below.now c.in_ok-row.row c.nodes_above.result.now c.nodes_above.ensures.value c.requires.below c.in_ok-row.ensures.value;
}
