use Rattle.std.proofs.Common.{◌+◌, ℕ, List, [], slice_index, slice_index_or, slice_set, sym, subst, arith}
use Rattle.std.proofs.lemmas.List.{length-set}
use Rattle.kt_lanes.specs.Places.{AreTurning}
use Rattle.kt_lanes.proofs.PlaceLemmas.{at-owned, from-behind, turning-more}
use Rattle.kt_lanes.proofs.lanes.places.turn_one.Goals as goal

pub swap-requires-clause-order : goal.swap-requires-clause-order
swap-requires-clause-order c = from-behind c.args.places.now c.args.lanes.now c.args.at c.args.places.now c.args.owners.now c.args.lanes.now c.requires.turning c.requires.inside c.if-from-at.false

pub bounds-owners-at : goal.bounds-owners-at
bounds-owners-at c = at-owned c.args.places.now c.args.lanes.now c.args.at c.args.places.now c.args.owners.now c.args.lanes.now c.requires.turning c.requires.inside c.if-from-at.false

pub bounds-owners-at-2 : goal.bounds-owners-at-2
bounds-owners-at-2 c =
    omega (
      arith,
      at-owned c.args.places.now c.args.lanes.now c.args.at c.args.places.now c.args.owners.now c.args.lanes.now c.requires.turning c.requires.inside c.if-from-at.false,
      length-set c.args.owners.now (slice_index c.args.places.now c.args.at) (slice_index c.args.owners.now c.args.at),
    )

pub returns : goal.returns
returns c =
    let owners = slice_set (slice_set c.args.owners.now (slice_index c.args.places.now c.args.at) (slice_index c.args.owners.now c.args.at)) c.args.at c.args.at in
    let from = slice_index c.args.places.now c.args.at in
    let lanes = slice_set (slice_set c.args.lanes.now c.args.at (slice_index_or c.args.lanes.now from [])) from (slice_index_or c.args.lanes.now c.args.at []) in
    record {
      turning = λ first_places first_lanes turning.
          let more = turning-more first_places first_lanes c.args.at c.args.places.now c.args.owners.now c.args.lanes.now turning c.requires.inside c.if-from-at.false in
          subst (λ (now : List (List ℕ)). AreTurning first_places first_lanes (c.args.at + 1) (slice_set c.name_place.new.places c.args.at c.args.at) owners now) (sym c.swap.ensures.value)
          (subst (λ (places : List ℕ). AreTurning first_places first_lanes (c.args.at + 1) (slice_set places c.args.at c.args.at) owners lanes) (sym c.name_place.ensures.value) more);
    }
