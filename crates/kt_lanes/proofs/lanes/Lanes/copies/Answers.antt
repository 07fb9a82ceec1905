use Rattle.std.proofs.Common.{◌≡◌, ◌<◌, ◌∙◌, ℕ, List, length, slice_index_or, take, ap, subst, sym, arith}
use Rattle.std.proofs.lemmas.List.Elements.{All-take}
use Rattle.kt_lanes.specs.Lanes.{AreWide}
use Rattle.kt_lanes.proofs.CutLemmas.{cut-wide}
use Rattle.kt_lanes.proofs.PlaceLemmas.{places-wide}
use Rattle.kt_lanes.proofs.lanes.Lanes.copies.Goals as goal

pub push-requires : goal.push-requires
push-requires c =
    let kept = c.self.inside in
    let lanes = c.args.self.now in
    let places = c.args.places.now in
    let at = c.loop-place.place-index in
    let lane = c.lane.result.now in
    let all = subst (AreWide kept.width) c.self.view_is (cut-wide kept.width kept.count kept.amounts.items (omega (arith, c.self.invariant))) in
    let inside : slice_index_or places at 0 < length lanes = c.requires.within at 0 c.loop-place-test.true in
    let long : length lane ≡ kept.width = ap (λ (one : List ℕ). length one) c.lane.ensures.value ∙ all (slice_index_or places at 0) lane inside in
    let wide = places-wide kept.width lanes (take at places) (All-take (λ (place : ℕ). place < length lanes) at places c.requires.within) all in
    record { wide = subst (λ (n : ℕ). AreWide n c.loop-place.made) (sym long) (subst (AreWide kept.width) (sym c.loop-place.invariant) wide) }
