use Rattle.std.proofs.Common.{◌≡◌, ◌<◌, ◌∙◌, ◌++◌, ◌∷◌, [], List, ℕ, length, slice_index, slice_index_or, ap, subst}
use Rattle.std.specs.List.{filter_map}
use Rattle.std.proofs.lemmas.List.{get_or_read, map_push, take_all}
use Rattle.std.proofs.lemmas.List.Elements.{All-push}
use Rattle.kt_stream.specs.declared.entry.LossRecord.{LossRecord}
use Rattle.kt_runs.specs.Less.{left_record}
use Rattle.kt_runs.specs.LossLanes.{head_record, lane_of, lane_records, no_head}
use Rattle.kt_runs.specs.RowLaws.{made-more}
use Rattle.kt_runs.specs.LaneRows.{pairs_by_row}
use Rattle.kt_runs.specs.declared.heads.LossHead.{LossHead}
use Rattle.kt_runs.proofs.LossLanesLemmas.{record-none, record-some}
use Rattle.kt_runs.proofs.less.left_heads.Goals as goal
use Rattle.kt_runs.proofs.less.left_heads.Goals.{then-has_loss+in_ok-push, else-has_loss}

pub lane-requires : goal.lane-requires
lane-requires c = record { place = c.requires.have c.loop-head.head-index no_head c.loop-head-test.true }

pub loop-head-preserved : goal.loop-head-preserved
loop-head-preserved c =
    let lanes = c.args.lanes.now in
    let heads = c.args.heads.now in
    let at = c.loop-head.head-index in
    let head = slice_index_or heads at no_head in
    let lane = c.lane.result.now in
    let inside : head.place < length lanes = c.requires.have at no_head c.loop-head-test.true in
    let is : lane ≡ lane_of lanes head = get_or_read lanes head.place lane inside c.lane.ensures.value [] in
    let pairs = pairs_by_row (slice_index (lane_of lanes head)) (length (lane_of lanes head)) in
    let left = c.loop-head.left.items in
    elim c.if-has_loss.branch [
      | then-has_loss+in_ok-push w ↦
          let kept : LossHead = record { event = head.event; id = head.id; deviation = 0; place = head.place } in
          let some = subst (λ (one : List ℕ). 0 < length (pairs_by_row (slice_index one) (length one))) is (c.has_loss.ensures.some w.if-has_loss.true) in
          rw (w.left-is, w.in_ok-push.ensures.items)
          (record {
            have = All-push (λ (head : LossHead). head.place < length lanes) left kept c.loop-head.invariant.have inside;
            records =
                made-more (left_record lanes) heads (lane_records left lanes) (lane_records (left ++ kept ∷ []) lanes) at no_head c.loop-head-test.true c.loop-head.invariant.records
                (map_push (head_record lanes) left kept ∙ ap (λ (more : List LossRecord). lane_records left lanes ++ more) (record-some head.event head.id pairs some));
          })
      | else-has_loss w ↦
          let none = subst (λ (one : List ℕ). pairs_by_row (slice_index one) (length one) ≡ []) is (c.has_loss.ensures.none w.if-has_loss.false) in
          rw w.left-is
          (record {
            have = c.loop-head.invariant.have;
            records =
                made-more (left_record lanes) heads (lane_records left lanes) (lane_records left lanes) at no_head c.loop-head-test.true c.loop-head.invariant.records
                (record-none head.event head.id pairs none (lane_records left lanes));
          })
    ]

pub returns : goal.returns
returns c = record {
  have = c.loop-head.invariant.have;
  value = c.loop-head.invariant.records ∙ ap (filter_map (left_record c.args.lanes.now)) (take_all c.loop-head.head-index c.args.heads.now c.loop-head-test.false);
}
