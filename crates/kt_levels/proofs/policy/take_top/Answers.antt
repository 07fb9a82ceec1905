use Rattle.std.proofs.Common.{◌≡◌, ◌-◌, ◌≤◌, ◌∙◌, ℕ, List, [], length, slice_index_or, sym, ap, subst}
use Rattle.std.specs.List.{sum}
use Rattle.kt_fmtree.specs.declared.node.Node.{Node}
use Rattle.kt_lanes.specs.Lanes.{AreWide, IsLane, column}
use Rattle.kt_levels.specs.Units.{CanTake, child_losses}
use Rattle.kt_levels.specs.Climbed.{level_lanes}
use Rattle.kt_levels.specs.PoliciesLaws.{last-below, last-row, same-top, top-base, top-takes}
use Rattle.kt_levels.proofs.policy.take_top.Goals as goal
use Rattle.kt_levels.proofs.policy.take_top.Goals.{After-lanes_at-below}

abbrev none : Node
none = record { unit = 0; start = 0; width = 0; tiv = 0; profile = record { rule = 0; ded1 = 0; ded2 = 0; ded3 = 0; att1 = 0; lim1 = 0; share1 = 0; share2 = 0; share3 = 0 } }

-- the last level
last-is : (c : After-lanes_at-below) → c.depth-last.result - 1 ≡ length c.args.programme.now.levels - 1
last-is c = ap (λ n. n - 1) c.depth-last.ensures.value

-- the lanes below it
below-is : (c : After-lanes_at-below) → c.lanes_at-below.result.now ≡ level_lanes c.args.lanes.now c.args.climbed.now.levels (length c.args.programme.now.levels - 1)
below-is c = c.lanes_at-below.ensures.value ∙ ap (level_lanes c.args.lanes.now c.args.climbed.now.levels) (last-is c)

-- its units
nodes-are : (c : After-lanes_at-below) → c.nodes_above-nodes.result.now ≡ slice_index_or c.args.programme.now.levels (length c.args.programme.now.levels - 1) []
nodes-are c = c.nodes_above-nodes.ensures.value ∙ ap (λ n. slice_index_or c.args.programme.now.levels n []) (last-is c)

pub lanes_at-below-requires : goal.lanes_at-below-requires
lanes_at-below-requires c =
    let below = last-row c.args.programme.now c.is_of_a_tree.ensures.kept c.args.lanes.now c.args.climbed.now c.requires.climbed c.args.node c.requires.node in
    subst (λ n. n - 1 ≤ length c.args.climbed.now.levels.rows.items) (sym c.depth-last.ensures.value) below

pub add_children-requires-clause-can : goal.add_children-requires-clause-can
add_children-requires-clause-can c =
    let at = (goal.at.add_children-requires-clause-can c).After-lanes_at-below in
    let parts = c.args.programme.now in
    let climbed = c.args.climbed.now in
    subst (λ n. CanTake n c.lanes_at-below.result.now (slice_index_or c.nodes_above-nodes.result.now c.args.node none)) (sym c.requires.wide)
    (subst (λ (row : List (List ℕ)). CanTake climbed.width row (slice_index_or c.nodes_above-nodes.result.now c.args.node none)) (sym (below-is at))
    (subst (λ (all : List Node). CanTake climbed.width (level_lanes c.args.lanes.now climbed.levels (length parts.levels - 1)) (slice_index_or all c.args.node none)) (sym (nodes-are at))
    (top-takes parts c.is_of_a_tree.ensures.kept c.args.lanes.now climbed c.requires.climbed c.args.node c.requires.node none)))

pub add_children-requires-clause-wide : goal.add_children-requires-clause-wide
add_children-requires-clause-wide c =
    let at = (goal.at.add_children-requires-clause-wide c).After-lanes_at-below in
    let parts = c.args.programme.now in
    let climbed = c.args.climbed.now in
    subst (λ n. AreWide n c.lanes_at-below.result.now) (sym c.requires.wide)
    (subst (AreWide climbed.width) (sym (below-is at)) (c.requires.climbed.rows (length parts.levels - 1) (last-below parts c.is_of_a_tree.ensures.kept c.args.lanes.now climbed c.requires.climbed c.args.node c.requires.node)).wide)

pub returns : goal.returns
returns c =
    let at = (goal.at.returns c).After-lanes_at-below in
    let parts = c.args.programme.now in
    let has = c.is_of_a_tree.ensures.kept in
    let lanes = c.args.lanes.now in
    let climbed = c.args.climbed.now in
    let lane = c.add_children.new.lane in
    let made = subst (λ n. IsLane n (λ k. sum (child_losses (column k c.lanes_at-below.result.now) (slice_index_or c.nodes_above-nodes.result.now c.args.node none))) lane) c.requires.wide c.add_children.ensures.value in
    record {
      value =
          top-base parts has lanes climbed c.requires.climbed c.args.node c.requires.node lane
          (subst (λ (one : Node). IsLane climbed.width (λ k. sum (child_losses (column k (level_lanes lanes climbed.levels (length parts.levels - 1))) one)) lane) (same-top parts has lanes climbed c.requires.climbed c.args.node c.requires.node none)
          (subst (λ (all : List Node). IsLane climbed.width (λ k. sum (child_losses (column k (level_lanes lanes climbed.levels (length parts.levels - 1))) (slice_index_or all c.args.node none))) lane) (nodes-are at)
          (subst (λ (row : List (List ℕ)). IsLane climbed.width (λ k. sum (child_losses (column k row) (slice_index_or c.nodes_above-nodes.result.now c.args.node none))) lane) (below-is at) made)));
    }
