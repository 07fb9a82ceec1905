use Rattle.std.proofs.Common.{◌≡◌, ◌≤◌, ◌-◌, false, suc, ℕ, List, length, map, refl, ap, arith}
use Rattle.std.proofs.lemmas.Option.{IfSome_then}
use Rattle.std.specs.List.{flat_map}
use Rattle.kt_fmtree.specs.Sharing.{part_of}
use Rattle.kt_fmtree.specs.Parts.{units_at}
use Rattle.kt_fmtree.specs.Placed.{levels_down, unit_parts}
use Rattle.kt_fmtree.specs.declared.part.PlacedPart.{PlacedPart}
use Rattle.kt_lanes.specs.Lanes.{column}
use Rattle.kt_lanes.specs.BehindLaws.{behind-are}
use Rattle.kt_levels.specs.Climbed.{carried_at}
use Rattle.kt_levels.specs.Down.{given_losses, placed_at}
use Rattle.kt_levels.specs.LevelsLaws.{given-on, gives-next, ids-given, leaves-count, next-below, next-few, next-gives, next-row, next-sums}
use Rattle.kt_levels.proofs.by_id.+ids_down.Goals as goal

-- the level below
next-is : (level : ℕ) → 1 ≤ level → level ≡ suc (level - 1)
next-is level some = omega (arith, some)

pub lanes_at-below-requires : goal.lanes_at-below-requires
lanes_at-below-requires t c = next-row c.args.programme.now c.is_of_a_tree.ensures.kept c.args.lanes.now c.args.climbed.now c.requires.climbed c.args.level (c.args.level - 1) (next-is c.args.level c.requires.some) c.args.room.now.parts c.requires.gives.placed c.requires.gives.can

pub nodes_above-nodes-requires : goal.nodes_above-nodes-requires
nodes_above-nodes-requires t c = next-below c.args.programme.now c.is_of_a_tree.ensures.kept c.args.lanes.now c.args.climbed.now c.requires.climbed c.args.level (c.args.level - 1) (next-is c.args.level c.requires.some) c.args.room.now.parts c.requires.gives.placed c.requires.gives.can

pub push_by_id-requires-clause-can : goal.push_by_id-requires-clause-can
push_by_id-requires-clause-can t c = next-gives c.args.programme.now c.is_of_a_tree.ensures.kept c.args.lanes.now c.args.climbed.now c.requires.climbed c.args.level (c.args.level - 1) (next-is c.args.level c.requires.some) c.args.room.now.parts c.requires.gives.placed c.requires.gives.can c.nodes_above-nodes.result.now c.nodes_above-nodes.ensures.value c.lanes_at-below.result.now c.lanes_at-below.ensures.value

pub push_by_id-requires-clause-sums : goal.push_by_id-requires-clause-sums
push_by_id-requires-clause-sums t c = IfSome_then c.args.sums c.requires.sums (λ all are. next-sums c.args.programme.now c.is_of_a_tree.ensures.kept c.args.lanes.now c.args.climbed.now c.requires.climbed c.args.level (c.args.level - 1) (next-is c.args.level c.requires.some) c.args.room.now.parts c.requires.gives.placed c.requires.gives.can c.nodes_above-nodes.result.now c.nodes_above-nodes.ensures.value c.lanes_at-below.result.now c.lanes_at-below.ensures.value all.now are)

pub push_by_id-requires-clause-leaves : goal.push_by_id-requires-clause-leaves
push_by_id-requires-clause-leaves t c = leaves-count c.args.programme.now c.is_of_a_tree.ensures.kept c.args.lanes.now c.args.climbed.now c.requires.climbed c.args.level (c.args.level - 1) (next-is c.args.level c.requires.some) c.args.room.now.parts c.requires.gives.placed c.requires.gives.can c.nodes_above-nodes.result.now c.nodes_above-nodes.ensures.value c.lanes_at-below.result.now c.lanes_at-below.ensures.value c.if-next-eq0.true

pub push_by_id-requires-clause-few : goal.push_by_id-requires-clause-few
push_by_id-requires-clause-few t c = next-few c.args.programme.now c.is_of_a_tree.ensures.kept c.args.lanes.now c.args.climbed.now c.requires.climbed c.args.level (c.args.level - 1) (next-is c.args.level c.requires.some) c.args.room.now.parts c.requires.gives.placed c.requires.gives.can c.nodes_above-nodes.result.now c.nodes_above-nodes.ensures.value c.lanes_at-below.result.now c.lanes_at-below.ensures.value

pub push_by_id-requires-clause-room : goal.push_by_id-requires-clause-room
push_by_id-requires-clause-room t c = c.requires.gives.has_room

pub returns-then-next-eq0-clause-value : goal.returns-then-next-eq0-clause-value
returns-then-next-eq0-clause-value t c =
    let width = c.args.climbed.now.width in
    let parts = c.args.room.now.parts in
    let ids = c.args.ids.now in
    let units = units_at c.args.programme.now 0 in
    behind-are width (length ids) (length ids) (λ k. map (part_of (unit_parts units (flat_map (given_losses c.nodes_above-nodes.result.now (column k c.lanes_at-below.result.now)) (placed_at k parts)))) ids)
    (λ k. map (part_of (unit_parts units (levels_down false c.args.programme.now.levels (carried_at c.args.programme.now c.args.lanes.now k).rows c.args.level (placed_at k parts)))) ids) c.args.out.now c.push_by_id.new.out c.in_ok-push_by_id.ensures.value refl
    (λ k less. ap (λ (all : List PlacedPart). map (part_of (unit_parts units all)) ids) (ids-given c.args.programme.now c.is_of_a_tree.ensures.kept c.args.lanes.now c.args.climbed.now c.requires.climbed c.args.level (c.args.level - 1) (next-is c.args.level c.requires.some) c.args.room.now.parts c.requires.gives.placed c.requires.gives.can c.nodes_above-nodes.result.now c.nodes_above-nodes.ensures.value c.lanes_at-below.result.now c.lanes_at-below.ensures.value c.if-next-eq0.true k less))

pub level_down-requires-clause-can : goal.level_down-requires-clause-can
level_down-requires-clause-can t c = next-gives c.args.programme.now c.is_of_a_tree.ensures.kept c.args.lanes.now c.args.climbed.now c.requires.climbed c.args.level (c.args.level - 1) (next-is c.args.level c.requires.some) c.args.room.now.parts c.requires.gives.placed c.requires.gives.can c.nodes_above-nodes.result.now c.nodes_above-nodes.ensures.value c.lanes_at-below.result.now c.lanes_at-below.ensures.value

pub level_down-requires-clause-sums : goal.level_down-requires-clause-sums
level_down-requires-clause-sums t c = IfSome_then c.args.sums c.requires.sums (λ all are. next-sums c.args.programme.now c.is_of_a_tree.ensures.kept c.args.lanes.now c.args.climbed.now c.requires.climbed c.args.level (c.args.level - 1) (next-is c.args.level c.requires.some) c.args.room.now.parts c.requires.gives.placed c.requires.gives.can c.nodes_above-nodes.result.now c.nodes_above-nodes.ensures.value c.lanes_at-below.result.now c.lanes_at-below.ensures.value all.now are)

pub level_down-requires-clause-room : goal.level_down-requires-clause-room
level_down-requires-clause-room t c = c.requires.gives.has_room

pub ids_down-requires : goal.ids_down-requires
ids_down-requires t c =
    let next = next-is c.args.level c.requires.some in (
      omega (arith, c.decreases, next),
      (
        c.requires.climbed,
        (
          c.requires.rising,
          (
            omega (arith, c.requires.some, c.if-next-eq0.false),
            (
              record {
                has_room = c.in_ok-level_down.ensures.room;
                placed = c.in_ok-level_down.ensures.given;
                can = gives-next c.args.programme.now c.is_of_a_tree.ensures.kept c.args.lanes.now c.args.climbed.now c.requires.climbed c.args.level (c.args.level - 1) (next-is c.args.level c.requires.some) c.args.room.now.parts c.requires.gives.placed c.requires.gives.can c.nodes_above-nodes.result.now c.nodes_above-nodes.ensures.value c.lanes_at-below.result.now c.lanes_at-below.ensures.value c.level_down.new.room.parts c.in_ok-level_down.ensures.value;
              },
              (tt, c.requires.out),
            ),
          ),
        ),
      ),
    )

pub returns-clause-value : goal.returns-clause-value
returns-clause-value t c =
    let width = c.args.climbed.now.width in
    let ids = c.args.ids.now in
    let units = units_at c.args.programme.now 0 in
    behind-are width (length ids) (length ids)
    (λ k. map (part_of (unit_parts units (levels_down false c.args.programme.now.levels (carried_at c.args.programme.now c.args.lanes.now k).rows (c.args.level - 1) (placed_at k c.level_down.new.room.parts)))) ids)
    (λ k. map (part_of (unit_parts units (levels_down false c.args.programme.now.levels (carried_at c.args.programme.now c.args.lanes.now k).rows c.args.level (placed_at k c.args.room.now.parts)))) ids) c.args.out.now c.ids_down.new.out c.in_ok-ids_down.ensures.value refl
    (λ k less. ap (λ (all : List PlacedPart). map (part_of (unit_parts units all)) ids) (given-on c.args.programme.now c.is_of_a_tree.ensures.kept c.args.lanes.now c.args.climbed.now c.requires.climbed c.args.level (c.args.level - 1) (next-is c.args.level c.requires.some) c.args.room.now.parts c.requires.gives.placed c.requires.gives.can c.nodes_above-nodes.result.now c.nodes_above-nodes.ensures.value c.lanes_at-below.result.now c.lanes_at-below.ensures.value c.level_down.new.room.parts c.in_ok-level_down.ensures.value k less))
