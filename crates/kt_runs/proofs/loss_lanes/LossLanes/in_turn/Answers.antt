use Rattle.std.proofs.Common.{◌≡◌, ◌<◌, ◌∙◌, ℕ, List, length, map, slice_index_or, sym, ap, subst}
use Rattle.std.proofs.lemmas.List.{length-map, with_items_is}
use Rattle.kt_lanes.specs.Lanes.{AreWide}
use Rattle.kt_runs.specs.LaneRun.{LaneRun}
use Rattle.kt_runs.specs.LossLanes.{HaveLanes, head_at, lane_of, lane_records, no_head}
use Rattle.kt_runs.specs.declared.heads.LossHead.{LossHead}
use Rattle.kt_runs.proofs.HeadLemmas.{lanes-wide, turned-have, turned-records}
use Rattle.kt_runs.proofs.loss_lanes.LossLanes.in_turn.Goals as goal

pub of-requires-clause-wide : goal.of-requires-clause-wide
of-requires-clause-wide c =
    let kept = c.self.inside in
    let wide = lanes-wide kept.rows kept.heads.items kept.lanes c.self.invariant.have c.self.invariant.wide in
    subst (AreWide kept.rows) (sym (c.in_ok-turned.ensures.value ∙ ap (map (lane_of kept.lanes)) c.deref-2.ensures.value)) wide

pub returns-clause-records : goal.returns-clause-records
returns-clause-records c =
    let kept = c.self.inside in
    let heads = kept.heads.items in
    let made = c.put_in_turn.new.heads in
    let long : length made ≡ length heads = c.put_in_turn.ensures.many ∙ ap length c.deref_mut.ensures.value in
    let now_is = with_items_is kept.heads made (long ∙ sym kept.heads.ok.0) in
    let each = subst (λ (old : List LossHead). (k : ℕ) → k < length old → slice_index_or made k no_head ≡ head_at (slice_index_or old k no_head) k) c.deref_mut.ensures.value c.put_in_turn.ensures.each in
    let turned_is = c.in_ok-turned.ensures.value ∙ ap (map (lane_of kept.lanes)) c.deref-2.ensures.value in
    c.of.ensures.records
    ∙ (ap (λ (heads : List LossHead). lane_records heads c.in_ok-turned.turned) now_is
    ∙ (turned-records heads made long each kept.lanes c.in_ok-turned.turned turned_is
    ∙ ap (λ (run : LaneRun). run.records) c.self.view_is))

pub of-requires-clause-have : goal.of-requires-clause-have
of-requires-clause-have c =
    let kept = c.self.inside in
    let heads = kept.heads.items in
    let made = c.put_in_turn.new.heads in
    let long : length made ≡ length heads = c.put_in_turn.ensures.many ∙ ap length c.deref_mut.ensures.value in
    let now_is = with_items_is kept.heads made (long ∙ sym kept.heads.ok.0) in
    let each = subst (λ (old : List LossHead). (k : ℕ) → k < length old → slice_index_or made k no_head ≡ head_at (slice_index_or old k no_head) k) c.deref_mut.ensures.value c.put_in_turn.ensures.each in
    let as_many = c.in_ok-turned.ensures.value ∙ ap (map (lane_of kept.lanes)) c.deref-2.ensures.value in
    subst (HaveLanes c.in_ok-turned.turned) (sym now_is) (turned-have heads made long each c.in_ok-turned.turned (ap length as_many ∙ length-map heads (lane_of kept.lanes)))

pub of-requires-clause-few : goal.of-requires-clause-few
of-requires-clause-few c = c.self.invariant.few

pub turned_lanes-requires : goal.turned_lanes-requires
turned_lanes-requires c = record { have = subst (HaveLanes c.self.inside.lanes) (sym c.deref-2.ensures.value) c.self.invariant.have }
