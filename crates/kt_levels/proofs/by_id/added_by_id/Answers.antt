use Rattle.std.proofs.Common.{◌≡◌, ◌≤◌, ◌<◌, ◌∙◌, ℕ, List, length, map, slice_index, slice_index_or, refl, ap, subst, arith}
use Rattle.kt_fmtree.specs.Sharing.{part_of}
use Rattle.kt_fmtree.specs.Parts.{units_at}
use Rattle.kt_rec.specs.ById.{with_more}
use Rattle.kt_fmtree.specs.Placed.{unit_parts}
use Rattle.kt_lanes.specs.Lanes.{AreLanes, column}
use Rattle.kt_lanes.specs.LaneLaws.{lanes-are}
use Rattle.kt_levels.specs.Down.{placed_at}
use Rattle.kt_levels.specs.DownLaws.{placed-all}
use Rattle.kt_levels.specs.ByIdLaws.{lanes-start, lane-fits, lane-next}
use Rattle.kt_levels.proofs.by_id.added_by_id.Goals as goal

pub loop-near-init : goal.loop-near-init
loop-near-init c = lanes-start c.args.width c.args.ids.now c.in_ok-found.found c.in_ok-found.ensures.value

pub add_by_id-requires-clause-few : goal.add_by_id-requires-clause-few
add_by_id-requires-clause-few c =
    let parts = c.args.parts.now in
    let near = c.loop-near.near in
    let lane = c.lane.result.now in
    let below : near < length parts.places.items = subst (λ (places : List ℕ). near < length places) c.deref-place-items.ensures.value c.loop-near-test.true in
    let inside : near < length parts.lanes = omega (arith, below, c.requires.parts.count_is) in
    let read : lane ≡ slice_index_or parts.lanes near lane = c.lane.ensures.value in
    let long : length lane ≡ c.args.width = ap (λ (one : List ℕ). length one) read ∙ c.requires.parts.wide near lane inside in
    λ k place less within. lane-fits c.args.width (units_at c.args.programme.now 0) c.args.ids.now parts c.requires.parts near below lane read c.loop-near.found c.loop-near.invariant c.requires.few k place (subst (λ n. k < n) long less) within

pub loop-near-preserved : goal.loop-near-preserved
loop-near-preserved c =
    let parts = c.args.parts.now in
    let near = c.loop-near.near in
    let lane = c.lane.result.now in
    let below : near < length parts.places.items = subst (λ (places : List ℕ). near < length places) c.deref-place-items.ensures.value c.loop-near-test.true in
    let inside : near < length parts.lanes = omega (arith, below, c.requires.parts.count_is) in
    let read : lane ≡ slice_index_or parts.lanes near lane = c.lane.ensures.value in
    let long : length lane ≡ c.args.width = ap (λ (one : List ℕ). length one) read ∙ c.requires.parts.wide near lane inside in
    lane-next c.args.width (units_at c.args.programme.now 0) c.args.ids.now parts c.requires.parts near below lane read c.loop-near.found c.loop-near.invariant c.id_at.result
    (c.id_at.ensures.value ∙ ap (λ (places : List ℕ). slice_index (units_at c.args.programme.now 0) (slice_index places near)) c.deref-place-items.ensures.value) c.add_by_id.new.found
    (subst (λ n. AreLanes n (length c.args.ids.now) (λ k. with_more c.args.ids.now (column k c.loop-near.found) c.id_at.result (slice_index lane k)) c.add_by_id.new.found) long c.add_by_id.ensures.value)

pub returns : goal.returns
returns c =
    let parts = c.args.parts.now in
    let enough : length parts.places.items ≤ c.loop-near.near = subst (λ (places : List ℕ). length places ≤ c.loop-near.near) c.deref-place-items.ensures.value (omega (arith, c.loop-near-test.false)) in
    record {
      value =
          lanes-are c.args.width (length c.args.ids.now) (length c.args.ids.now) _ (λ k. map (part_of (unit_parts (units_at c.args.programme.now 0) (placed_at k parts))) c.args.ids.now) c.loop-near.found c.loop-near.invariant refl
          (λ k less. ap (λ ps. map (part_of (unit_parts (units_at c.args.programme.now 0) ps)) c.args.ids.now) (placed-all c.args.width parts c.requires.parts c.loop-near.near enough k));
    }
