use Rattle.std.proofs.Common.{◌≡◌, ◌<◌, ◌∙◌, ℕ, List, IfOk, length, map, slice_index_or, sym, ap, subst}
use Rattle.std.proofs.lemmas.List.{length-map, with_items_is}
use Rattle.kt_stream.specs.declared.entry.LossRecord.{LossRecord}
use Rattle.kt_lanes.specs.Lanes.{AreWide}
use Rattle.kt_runs.specs.LaneRun.{LaneRun}
use Rattle.kt_runs.specs.Less.{records_less}
use Rattle.kt_runs.specs.LossLanes.{AreApart, HaveLanes, head_at, head_record, lane_of, lane_records, no_head}
use Rattle.kt_runs.specs.declared.heads.LossHead.{LossHead}
use Rattle.kt_runs.proofs.HeadLemmas.{lanes-wide, turned-apart, turned-have, turned-records}
use Rattle.kt_runs.proofs.loss_lanes.LossLanes.less.Goals as goal

pub lessened-requires-clause-have : goal.lessened-requires-clause-have
lessened-requires-clause-have c = subst (HaveLanes c.self.inside.lanes) (sym c.deref-then-are_apart.ensures.value) c.self.invariant.have

pub lessened-requires-clause-apart : goal.lessened-requires-clause-apart
lessened-requires-clause-apart c = subst AreApart (c.deref.ensures.value ∙ sym c.deref-then-are_apart.ensures.value) (c.are_apart.ensures.value c.if-are_apart.true)

pub lessened-requires-clause-lanes : goal.lessened-requires-clause-lanes
lessened-requires-clause-lanes c = c.self.invariant.wide

pub lessened-requires-clause-places : goal.lessened-requires-clause-places
lessened-requires-clause-places c = c.requires.places ∙ (ap (λ (run : LaneRun). length run.records) (sym c.self.view_is)
    ∙ (length-map c.self.inside.heads.items (head_record c.self.inside.lanes) ∙ ap length (sym c.deref-then-are_apart.ensures.value)))

pub lessened-requires-clause-wide : goal.lessened-requires-clause-wide
lessened-requires-clause-wide c = subst (λ (run : LaneRun). AreWide run.rows c.args.taken.now) (sym c.self.view_is) c.requires.wide

pub returns-then-are_apart-clause-records : goal.returns-then-are_apart-clause-records
returns-then-are_apart-clause-records c =
    let kept = c.self.inside in
    let taken = c.args.taken.now in
    let places = c.args.places.now in
    let less = subst (λ (heads : List LossHead). IfOk c.lessened.result (λ made. made.records ≡ records_less kept.rows taken (lane_records heads kept.lanes) places)) c.deref-then-are_apart.ensures.value c.lessened.ensures.records in
    subst (λ (run : LaneRun). IfOk c.lessened.result (λ made. made.records ≡ records_less run.rows taken run.records places)) c.self.view_is less

pub turned_lanes-requires : goal.turned_lanes-requires
turned_lanes-requires c = record { have = subst (HaveLanes c.self.inside.lanes) (sym c.deref-2.ensures.value) c.self.invariant.have }

pub lessened-requires-2-clause-have : goal.lessened-requires-2-clause-have
lessened-requires-2-clause-have c =
    let kept = c.self.inside in
    let heads = kept.heads.items in
    let made = c.put_in_turn.new.heads in
    let long : length made ≡ length heads = c.put_in_turn.ensures.many ∙ ap length c.deref_mut.ensures.value in
    let now_is : c.deref-3.result.now ≡ made = c.deref-3.ensures.value ∙ with_items_is kept.heads made (long ∙ sym kept.heads.ok.0) in
    let each = subst (λ (old : List LossHead). (k : ℕ) → k < length old → slice_index_or made k no_head ≡ head_at (slice_index_or old k no_head) k) c.deref_mut.ensures.value c.put_in_turn.ensures.each in
    let as_many = c.in_ok-turned.ensures.value ∙ ap (map (lane_of kept.lanes)) c.deref-2.ensures.value in
    subst (HaveLanes c.in_ok-turned.turned) (sym now_is) (turned-have heads made long each c.in_ok-turned.turned (ap length as_many ∙ length-map heads (lane_of kept.lanes)))

pub lessened-requires-2-clause-apart : goal.lessened-requires-2-clause-apart
lessened-requires-2-clause-apart c =
    let kept = c.self.inside in
    let heads = kept.heads.items in
    let made = c.put_in_turn.new.heads in
    let long : length made ≡ length heads = c.put_in_turn.ensures.many ∙ ap length c.deref_mut.ensures.value in
    let now_is : c.deref-3.result.now ≡ made = c.deref-3.ensures.value ∙ with_items_is kept.heads made (long ∙ sym kept.heads.ok.0) in
    let each = subst (λ (old : List LossHead). (k : ℕ) → k < length old → slice_index_or made k no_head ≡ head_at (slice_index_or old k no_head) k) c.deref_mut.ensures.value c.put_in_turn.ensures.each in
    subst AreApart (sym now_is) (turned-apart heads made long each)

pub lessened-requires-2-clause-places : goal.lessened-requires-2-clause-places
lessened-requires-2-clause-places c =
    let kept = c.self.inside in
    let heads = kept.heads.items in
    let made = c.put_in_turn.new.heads in
    let long : length made ≡ length heads = c.put_in_turn.ensures.many ∙ ap length c.deref_mut.ensures.value in
    let now_is : c.deref-3.result.now ≡ made = c.deref-3.ensures.value ∙ with_items_is kept.heads made (long ∙ sym kept.heads.ok.0) in
    c.requires.places ∙ (ap (λ (run : LaneRun). length run.records) (sym c.self.view_is) ∙ (length-map heads (head_record kept.lanes) ∙ (sym long ∙ ap length (sym now_is))))

pub lessened-requires-2-clause-lanes : goal.lessened-requires-2-clause-lanes
lessened-requires-2-clause-lanes c =
    let kept = c.self.inside in
    let wide = lanes-wide kept.rows kept.heads.items kept.lanes c.self.invariant.have c.self.invariant.wide in
    subst (AreWide kept.rows) (sym (c.in_ok-turned.ensures.value ∙ ap (map (lane_of kept.lanes)) c.deref-2.ensures.value)) wide

pub returns-clause-records : goal.returns-clause-records
returns-clause-records c =
    let kept = c.self.inside in
    let heads = kept.heads.items in
    let taken = c.args.taken.now in
    let places = c.args.places.now in
    let made = c.put_in_turn.new.heads in
    let long : length made ≡ length heads = c.put_in_turn.ensures.many ∙ ap length c.deref_mut.ensures.value in
    let now_is : c.deref-3.result.now ≡ made = c.deref-3.ensures.value ∙ with_items_is kept.heads made (long ∙ sym kept.heads.ok.0) in
    let each = subst (λ (old : List LossHead). (k : ℕ) → k < length old → slice_index_or made k no_head ≡ head_at (slice_index_or old k no_head) k) c.deref_mut.ensures.value c.put_in_turn.ensures.each in
    let turned_is = c.in_ok-turned.ensures.value ∙ ap (map (lane_of kept.lanes)) c.deref-2.ensures.value in
    let less = subst (λ (heads : List LossHead). IfOk c.lessened-2.result (λ made. made.records ≡ records_less kept.rows taken (lane_records heads c.in_ok-turned.turned) places)) now_is c.lessened-2.ensures.records in
    subst (λ (run : LaneRun). IfOk c.lessened-2.result (λ made. made.records ≡ records_less run.rows taken run.records places)) c.self.view_is
    (subst (λ (records : List LossRecord). IfOk c.lessened-2.result (λ made. made.records ≡ records_less kept.rows taken records places)) (turned-records heads made long each kept.lanes c.in_ok-turned.turned turned_is) less)
