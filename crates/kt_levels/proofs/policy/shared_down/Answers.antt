use Rattle.std.proofs.Common.{◌≡◌, ◌-◌, ◌∷◌, [], ◌∙◌, slice_index_or, ℕ, List, false, length, sym, ap, subst, arith}
use Rattle.std.specs.List.{sum}
use Rattle.kt_fmtree.specs.Carried.{row_of}
use Rattle.kt_fmtree.specs.AllocateLaws.{beneath-rises}
use Rattle.kt_fmtree.specs.Placed.{levels_down, node_at}
use Rattle.kt_fmtree.specs.declared.part.PlacedPart.{PlacedPart}
use Rattle.kt_lanes.specs.LaneLaws.{All-first}
use Rattle.kt_lanes.specs.Lanes.{IsLane, column}
use Rattle.kt_levels.specs.Climbed.{carried_at}
use Rattle.kt_levels.specs.Down.{AreLevelSums, ArePlaced, CanGive, placed_at}
use Rattle.kt_levels.specs.PoliciesLaws.{carried, given-shared, last-below, top-gives}
use Rattle.kt_levels.specs.Units.{child_losses, losses_of}
use Rattle.kt_levels.proofs.policy.shared_down.Goals as goal

pub ids_down-requires-clause-rising : goal.ids_down-requires-clause-rising
ids_down-requires-clause-rising c =
    beneath-rises c.args.programme.now (carried_at c.args.programme.now c.args.lanes.now 0) (carried c.args.programme.now c.is_of_a_tree.ensures.kept c.args.lanes.now c.args.climbed.now c.requires.climbed 0 c.requires.climbed.losses.some) c.args.node c.requires.node c.beneath.result.now c.beneath.ensures.value

pub ids_down-requires-clause-some : goal.ids_down-requires-clause-some
ids_down-requires-clause-some c = omega (arith, c.depth.ensures.value, last-below c.args.programme.now c.is_of_a_tree.ensures.kept c.args.lanes.now c.args.climbed.now c.requires.climbed c.args.node c.requires.node)

pub ids_down-requires-clause-gives : goal.ids_down-requires-clause-gives
ids_down-requires-clause-gives c = record {
  has_room = c.requires.room;
  placed = subst (λ n. ArePlaced n c.place_top.new.parts) c.requires.policy.wide c.in_ok-place_top.ensures.parts;
  can = λ k less.
      subst (λ n. CanGive c.args.programme.now (column k c.args.lanes.now) n (placed_at k c.place_top.new.parts)) (sym c.depth.ensures.value)
      (subst (λ (amounts : List PlacedPart). CanGive c.args.programme.now (column k c.args.lanes.now) (length c.args.programme.now.levels) amounts) (sym (c.in_ok-place_top.ensures.value k))
      (top-gives c.args.programme.now c.is_of_a_tree.ensures.kept c.args.lanes.now c.args.climbed.now c.requires.climbed c.args.node c.requires.node c.args.layer c.args.policy.now c.requires.policy k less));
}

-- the sums are those of the only unit
pub ids_down-requires-clause-sums : goal.ids_down-requires-clause-sums
ids_down-requires-clause-sums c =
    let parts = c.args.programme.now in
    let last : length parts.levels - 1 ≡ c.depth.result - 1 = ap (λ n. n - 1) (sym c.depth.ensures.value) in
    subst (λ (places : List ℕ). AreLevelSums parts c.args.lanes.now c.args.climbed.now.width (c.depth.result - 1) places c.args.sums.now) (sym c.in_ok-place_top.ensures.places)
    (subst (λ (level : ℕ). AreLevelSums parts c.args.lanes.now c.args.climbed.now.width level (c.args.node ∷ []) c.args.sums.now) last
    (All-first (λ place. IsLane c.args.climbed.now.width (λ k. sum (child_losses (losses_of (row_of parts (column k c.args.lanes.now) (length parts.levels - 1))) (node_at (slice_index_or parts.levels (length parts.levels - 1) []) place))) c.args.sums.now) c.args.node [] c.requires.sums (λ k d below. absurd (omega arith))))

pub returns-clause-value : goal.returns-clause-value
returns-clause-value c =
    let parts = c.args.programme.now in
    let rows = λ (k : ℕ). (carried_at parts c.args.lanes.now k).rows in
    given-shared parts c.is_of_a_tree.ensures.kept c.args.lanes.now c.args.climbed.now c.requires.climbed c.args.node c.requires.node c.args.layer c.args.policy.now c.requires.policy
    (λ k. levels_down false parts.levels (rows k) c.depth.result (placed_at k c.place_top.new.parts))
    (λ k less.
    ap (λ n. levels_down false parts.levels (rows k) n (placed_at k c.place_top.new.parts)) c.depth.ensures.value
    ∙ ap (levels_down false parts.levels (rows k) (length parts.levels)) (c.in_ok-place_top.ensures.value k))
    c.beneath.result.now c.beneath.ensures.value c.args.out.now c.ids_down.new.out c.in_ok-ids_down.ensures.value
