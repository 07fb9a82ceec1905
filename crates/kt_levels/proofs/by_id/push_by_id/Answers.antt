use Rattle.std.proofs.Common.{◌≡◌, ◌≤◌, ◌<◌, ◌^◌, ◌∙◌, List, length, map, slice_index, refl, ap, sym, subst}
use Rattle.std.specs.List.{All, flat_map, sum_by}
use Rattle.std.proofs.lemmas.List.{length-map}
use Rattle.std.proofs.lemmas.Result.{on_ok_weaker}
use Rattle.kt_fmtree.specs.Sharing.{part_of}
use Rattle.kt_fmtree.specs.Parts.{units_at}
use Rattle.kt_fmtree.specs.Placed.{unit_parts}
use Rattle.kt_fmtree.specs.declared.part.PlacedPart.{PlacedPart}
use Rattle.kt_lanes.specs.Lanes.{column}
use Rattle.kt_levels.specs.Down.{amounts_of, child_places, given_losses, placed_at}
use Rattle.kt_levels.specs.DownLaws.{children-within, places-given}
use Rattle.kt_lanes.specs.BehindLaws.{behind-are}
use Rattle.kt_levels.specs.ByIdLaws.{own-amounts}
use Rattle.kt_levels.proofs.by_id.push_by_id.Goals as goal

pub place_children-requires-clause-within : goal.place_children-requires-clause-within
place_children-requires-clause-within c = subst (All (λ place. place < length c.args.nodes.now)) (sym c.deref.ensures.value) c.requires.can.within

pub place_children-requires-clause-fits : goal.place_children-requires-clause-fits
place_children-requires-clause-fits c = λ k d inside. (c.requires.can.can k d inside).within

pub are_in_order-requires : goal.are_in_order-requires
are_in_order-requires c =
    let places = c.in_ok-place_children.ensures.value ∙ ap (flat_map (child_places c.args.nodes.now)) c.deref.ensures.value in
    record {
      places =
          subst (All (λ place. place < length c.args.programme.now.leaves)) (sym (c.deref-2.ensures.value ∙ places))
          (subst (λ n. All (λ place. place < n) (flat_map (child_places c.args.nodes.now) c.args.room.now.parts.places.items)) c.requires.leaves (children-within c.args.width c.args.nodes.now c.args.below.now c.args.room.now.parts c.requires.can));
    }

pub push_given-requires-clause-can : goal.push_given-requires-clause-can
push_given-requires-clause-can c = c.requires.can

pub push_given-requires-clause-sums : goal.push_given-requires-clause-sums
push_given-requires-clause-sums c = c.requires.sums

pub push_given-requires-clause-room : goal.push_given-requires-clause-room
push_given-requires-clause-room c = c.requires.room

pub push_given-requires-clause-out : goal.push_given-requires-clause-out
push_given-requires-clause-out c = c.requires.out

pub returns-then-are_in_order-clause-room : goal.returns-then-are_in_order-clause-room
returns-then-are_in_order-clause-room c = c.push_given.ensures.room

pub returns-then-are_in_order-clause-value : goal.returns-then-are_in_order-clause-value
returns-then-are_in_order-clause-value c =
    let width = c.args.width in
    let nodes = c.args.nodes.now in
    let below = c.args.below.now in
    let parts = c.args.room.now.parts in
    let ids = c.args.ids.now in
    let units = units_at c.args.programme.now 0 in
    let places = flat_map (child_places nodes) parts.places.items in
    let made = c.deref-2.ensures.value ∙ (c.in_ok-place_children.ensures.value ∙ ap (flat_map (child_places nodes)) c.deref.ensures.value) in
    let same : map (slice_index units) places ≡ ids = ap (map (slice_index units)) (sym made) ∙ c.are_in_order.ensures.value c.if-are_in_order.true in
    on_ok_weaker c.push_given.result (λ behind.
    behind-are width (length places) (length ids) (λ k. amounts_of (flat_map (given_losses nodes (column k below)) (placed_at k parts))) (λ k. map (part_of (unit_parts units (flat_map (given_losses nodes (column k below)) (placed_at k parts)))) ids) c.args.out.now c.push_given.new.out behind
    (sym (length-map places (slice_index units)) ∙ ap length same)
    (λ k less. own-amounts units ids c.requires.rising places same (flat_map (given_losses nodes (column k below)) (placed_at k parts)) (places-given width nodes below parts c.requires.can k)))
    c.push_given.ensures.value

pub level_by_unit-requires-clause-can : goal.level_by_unit-requires-clause-can
level_by_unit-requires-clause-can c = c.requires.can

pub level_by_unit-requires-clause-sums : goal.level_by_unit-requires-clause-sums
level_by_unit-requires-clause-sums c = c.requires.sums

pub level_by_unit-requires-clause-room : goal.level_by_unit-requires-clause-room
level_by_unit-requires-clause-room c = c.requires.room

pub push_added-requires-clause-rising : goal.push_added-requires-clause-rising
push_added-requires-clause-rising c = c.requires.rising

pub push_added-requires-clause-parts : goal.push_added-requires-clause-parts
push_added-requires-clause-parts c = c.in_ok-level_by_unit.ensures.given

pub push_added-requires-clause-out : goal.push_added-requires-clause-out
push_added-requires-clause-out c = c.requires.out

pub push_added-requires-clause-places : goal.push_added-requires-clause-places
push_added-requires-clause-places c =
    subst (All (λ place. place < length c.args.programme.now.leaves)) (sym c.in_ok-level_by_unit.ensures.places)
    (subst (λ n. All (λ place. place < n) (flat_map (child_places c.args.nodes.now) c.args.room.now.parts.places.items)) c.requires.leaves (children-within c.args.width c.args.nodes.now c.args.below.now c.args.room.now.parts c.requires.can))

pub push_added-requires-clause-few : goal.push_added-requires-clause-few
push_added-requires-clause-few c = λ k less. subst (λ (parts : List PlacedPart). sum_by (λ part. part.amount) parts ≤ 10 ^ 17) (sym (c.in_ok-level_by_unit.ensures.value k less)) (c.requires.few k less)

pub returns-clause-room : goal.returns-clause-room
returns-clause-room c = on_ok_weaker c.push_added.result (λ behind. c.in_ok-level_by_unit.ensures.room) c.push_added.ensures.value

pub returns-clause-value : goal.returns-clause-value
returns-clause-value c =
    let width = c.args.width in
    let nodes = c.args.nodes.now in
    let below = c.args.below.now in
    let parts = c.args.room.now.parts in
    let ids = c.args.ids.now in
    let units = units_at c.args.programme.now 0 in
    let given = c.level_by_unit.new.given in
    on_ok_weaker c.push_added.result (λ behind.
    behind-are width (length ids) (length ids) (λ k. map (part_of (unit_parts units (placed_at k given))) ids) (λ k. map (part_of (unit_parts units (flat_map (given_losses nodes (column k below)) (placed_at k parts)))) ids) c.args.out.now c.push_added.new.out behind refl
    (λ k less. ap (λ (all : List PlacedPart). map (part_of (unit_parts units all)) ids) (c.in_ok-level_by_unit.ensures.value k less)))
    c.push_added.ensures.value
