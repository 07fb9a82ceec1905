use Rattle.std.proofs.Common.{List, [], arith, subst}
use Rattle.std.proofs.lemmas.List.{take_all}
use Rattle.kt_stream.specs.declared.entry.LossRecord.{LossRecord}
use Rattle.kt_ri.specs.Ceding.{AreRecordPlaces}
use Rattle.kt_ri.proofs.PlaceLemmas.{places-more}
use Rattle.kt_ri.proofs.places.record_places.Goals as goal

pub loop-at-preserved : goal.loop-at-preserved
loop-at-preserved c =
    let none : LossRecord = record { event = 0; id = 0; pairs = [] } in
    places-more c.args.ids.now c.args.losses.now.records c.loop-at.at none c.loop-at.places.items _ c.id.result c.place_near-place.result (omega (arith, c.loop-at-test.true, c.len-at-end.ensures.value)) (c.id.ensures.value none) c.place_near-place.ensures.value c.in_ok-push.ensures.items c.loop-at.invariant

pub returns : goal.returns
returns c = record {
  value = subst (λ (records : List LossRecord). AreRecordPlaces c.args.ids.now records c.loop-at.places.items) (take_all c.loop-at.at c.args.losses.now.records (omega (arith, c.loop-at-test.false, c.len-at-end.ensures.value))) c.loop-at.invariant;
}
