use Rattle.std.proofs.Common.{◌+◌, ◌<◌, ◌≤◌, ◌^◌, ◌∙◌, [], length, slice_index, slice_index_or, sym, ap, subst, refl, arith}
use Rattle.kt_stream.specs.declared.entry.LossRecord.{LossRecord}
use Rattle.kt_rec.specs.ById.{with_more}
use Rattle.kt_lanes.specs.Lanes.{AreLanes, AreWide, column}
use Rattle.kt_runs.specs.LossLanesLaws.{lane-loss}
use Rattle.kt_runs.proofs.IdLemmas.{ids-end, ids-fit, ids-more, ids-start}
use Rattle.kt_runs.proofs.loss_lanes.lanes_of_ids.Goals as goal

-- a record for want of another
none : LossRecord
none = record { event = 0; id = 0; pairs = [] }

pub loop-near-init : goal.loop-near-init
loop-near-init c = ids-start c.args.ids.now c.args.samples c.in_ok-lanes.lanes c.in_ok-lanes.ensures.value

pub add_by_id-requires-clause-wide : goal.add_by_id-requires-clause-wide
add_by_id-requires-clause-wide c = subst (λ n. AreWide n c.loop-near.lanes) (sym (c.lane.ensures.rows ∙ c.requires.rows)) c.loop-near.invariant.wide

pub add_by_id-requires-clause-few : goal.add_by_id-requires-clause-few
add_by_id-requires-clause-few c =
    let records = c.args.losses.now.records in
    let near = c.loop-near.near in
    let entry = slice_index_or records near none in
    let lane = c.lane.result.now in
    let inside : near < length records = omega (arith, c.loop-near-test.true, c.len-near-end.ensures.value) in
    λ row place less within.
    let here : row < c.args.samples + 1 = omega (arith, less, c.lane.ensures.rows, c.requires.rows) in
    subst (λ n. slice_index (column row c.loop-near.lanes) place + n < 2 ^ 64) (lane-loss _ lane entry.pairs (c.lane.ensures.pairs none) row less)
    (ids-fit c.args.ids.now c.args.samples records near none entry inside refl c.loop-near.lanes c.loop-near.invariant c.requires.within row place here within)

pub loop-near-preserved : goal.loop-near-preserved
loop-near-preserved c =
    let records = c.args.losses.now.records in
    let ids = c.args.ids.now in
    let near = c.loop-near.near in
    let entry = slice_index_or records near none in
    let lane = c.lane.result.now in
    let inside : near < length records = omega (arith, c.loop-near-test.true, c.len-near-end.ensures.value) in
    let wide = c.lane.ensures.rows ∙ c.requires.rows in
    let added = subst (λ n. AreLanes n (length ids) (λ row. with_more ids (column row c.loop-near.lanes) c.id.result (slice_index lane row)) c.add_by_id.new.found) wide c.add_by_id.ensures.value in
    ids-more ids c.args.samples records near none entry inside refl c.loop-near.lanes c.loop-near.invariant c.add_by_id.new.found (record {
      count_is = added.count_is;
      wide = added.wide;
      each = λ row less.
          added.each row less
          ∙ (ap (λ id. with_more ids (column row c.loop-near.lanes) id (slice_index lane row)) (c.id.ensures.value none)
          ∙ sym (ap (with_more ids (column row c.loop-near.lanes) entry.id) (lane-loss _ lane entry.pairs (c.lane.ensures.pairs none) row (subst (λ n. row < n) (sym wide) less))));
    })

pub returns : goal.returns
returns c =
    let records = c.args.losses.now.records in
    let past : length records ≤ c.loop-near.near = omega (arith, c.loop-near-test.false, c.len-near-end.ensures.value) in
    record { value = ids-end c.args.ids.now c.args.samples records c.loop-near.near c.loop-near.lanes past c.loop-near.invariant }
