use Rattle.std.proofs.Common.{◌≡◌, ◌<◌, ◌∙◌, ℕ, List, [], length, map, slice_index_or, ap, sym, subst}
use Rattle.std.proofs.lemmas.List.{take_all}
use Rattle.std.proofs.lemmas.List.Elements.{All-map}
use Rattle.std.proofs.lemmas.Result.{IfOk-weaker}
use Rattle.kt_rec.specs.ListLaws.{map-map}
use Rattle.kt_lanes.specs.Places.{ArePlaces, lanes_at}
use Rattle.kt_runs.specs.LossLanes.{lane_of}
use Rattle.kt_runs.specs.declared.heads.LossHead.{LossHead}
use Rattle.kt_runs.proofs.heads.turned_lanes.Goals as goal

pub in_places-requires : goal.in_places-requires
in_places-requires c =
    let heads = c.args.heads.now in
    let lanes = c.args.lanes in
    let all : c.loop-head.places.items ≡ map (λ (head : LossHead). head.place) heads = c.loop-head.invariant ∙ ap (map (λ (head : LossHead). head.place)) (take_all c.loop-head.head-index heads c.loop-head-test.false) in
    record { within = subst (ArePlaces (length lanes)) (sym all) (All-map (λ (place : ℕ). place < length lanes) (λ (head : LossHead). head.place) heads c.requires.have) }

pub returns : goal.returns
returns c =
    let heads = c.args.heads.now in
    let lanes = c.args.lanes in
    let all : c.loop-head.places.items ≡ map (λ (head : LossHead). head.place) heads = c.loop-head.invariant ∙ ap (map (λ (head : LossHead). head.place)) (take_all c.loop-head.head-index heads c.loop-head-test.false) in
    let own : (made : List (List ℕ)) → made ≡ lanes_at lanes c.loop-head.places.items → made ≡ map (lane_of lanes) heads =
    λ made is. is ∙ (ap (lanes_at lanes) all ∙ map-map (λ (place : ℕ). slice_index_or lanes place []) (λ (head : LossHead). head.place) heads) in
    record { value = IfOk-weaker c.in_places.result (λ made. made ≡ lanes_at lanes c.loop-head.places.items) (λ made. made ≡ map (lane_of lanes) heads) own c.in_places.ensures.value }
