use Rattle.std.proofs.Common.{◌≡◌, ◌+◌, ◌≤◌, ◌<◌, ◌∙◌, [], length, ap, sym, arith, rules, vec_len}
use Rattle.std.specs.List.{filter_map}
use Rattle.std.proofs.lemmas.List.{length-replicate, take_all, with_items_is}
use Rattle.kt_stream.specs.declared.entry.LossRecord.{LossRecord}
use Rattle.kt_runs.specs.RowLaws.{made-more}
use Rattle.kt_ri.specs.Ceded.{record_behind}
use Rattle.kt_ri.proofs.net.lanes_behind.Goals as goal

-- a record for want of another
none : LossRecord
none = record { event = 0; id = 0; pairs = [] }

pub loop-at-init : goal.loop-at-init
loop-at-init g c = record {
  lane = ap length c.in_ok-lane.ensures.value ∙ length-replicate (c.args.samples + 1) 0;
  rows = c.in_ok-made.ensures.rows;
  records = λ tree rule is are. c.in_ok-made.ensures.none;
}

pub loop-at-preserved : goal.loop-at-preserved
loop-at-preserved g c =
    let records = g.R.RunLosses.records_of c.args.run.now in
    let at = c.loop-at.at in
    let below : at < length records = omega (arith, c.loop-at-test.true, c.count-at-end.ensures.value) in
    let room : vec_len c.loop-at.lane ≡ length c.loop-at.lane.items = search rules in
    let long = c.keep_behind.ensures.lane ∙ ap length c.deref_mut.ensures.value in
    record {
      lane = ap length (with_items_is c.loop-at.lane c.keep_behind.new.lane (long ∙ sym room)) ∙ (long ∙ c.loop-at.invariant.lane);
      rows = c.keep_behind.ensures.made ∙ c.loop-at.invariant.rows;
      records = λ tree rule is are.
          made-more (record_behind c.args.left tree rule c.args.samples records) records c.loop-at.made.records c.keep_behind.new.made.records at none below (c.loop-at.invariant.records tree rule is are)
          (c.in_ok-keep_behind.ensures.ok none tree rule records is are);
    }

pub returns : goal.returns
returns g c = record {
  rows = c.loop-at.invariant.rows;
  value = λ tree rule is are.
      let records = g.R.RunLosses.records_of c.args.run.now in
      let past : length records ≤ c.loop-at.at = omega (arith, c.loop-at-test.false, c.count-at-end.ensures.value) in
      c.loop-at.invariant.records tree rule is are ∙ ap (filter_map (record_behind c.args.left tree rule c.args.samples records)) (take_all c.loop-at.at records past);
}
