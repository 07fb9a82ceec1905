-- The records of one set more.
use Rattle.std.proofs.Common.{◌≡◌, ◌∙◌, false, List, length, map, take_all, ap, subst, sym}
use Rattle.std.specs.Prelude.{All}
use Rattle.std.proofs.lemmas.List.Elements.{All-push}
use Rattle.kt_stream.specs.Summary.{IsSummary}
use Rattle.kt_tables.specs.Lookups.{summary_in}
use Rattle.kt_sum.specs.SetSums.{AreReady, HoldLanes, set_records}
use Rattle.kt_sum.specs.declared.set_records.SetRecords.{SetRecords}
use Rattle.kt_sum.specs.declared.set_sums.SetSums.{SetSums}
use Rattle.kt_sum.proofs.SetSumsLemmas.{mapped_more}
use Rattle.kt_sum.proofs.lanes.records_of_sets.Goals as goal

pub to_records-requires-clause-ready : goal.to_records-requires-clause-ready
to_records-requires-clause-ready c = subst (AreReady c.args.losses.now) (sym c.one-item.is) (c.requires.ready c.loop-one.one-index c.one-item.result c.loop-one-test.true)

pub to_records-requires-clause-done : goal.to_records-requires-clause-done
to_records-requires-clause-done c = subst (λ (one : SetSums). one.waits ≡ false) (sym c.one-item.is) (c.requires.done c.loop-one.one-index c.one-item.result c.loop-one-test.true)

pub to_records-requires-clause-all : goal.to_records-requires-clause-all
to_records-requires-clause-all c =
    let losses = c.args.losses.now in
    subst (HoldLanes (summary_in c.args.perspective c.args.portfolio.now.rows) losses (length losses.records)) (sym c.one-item.is) (c.requires.all c.loop-one.one-index c.one-item.result c.loop-one-test.true)

pub loop-one-preserved : goal.loop-one-preserved
loop-one-preserved c =
    let samples = c.args.samples in
    let here = c.loop-one in
    let made = here.made.items in
    let one = c.in_ok-to_records.field-0 in
    let more = c.in_ok-push.ensures.items in
    record {
      made = mapped_more (λ (one : SetSums). one.set) (set_records c.args.perspective c.args.portfolio.now.rows c.args.portfolio.now.need.rule c.args.losses.now.records) c.args.sums.now here.one-index c.one-item.result made one c.push.new.self.items
          c.loop-one-test.true c.one-item.is c.in_ok-to_records.ensures.value here.invariant.made more;
      good = subst (λ (made : List SetRecords). All (λ one. All (IsSummary samples) one.records) made) (sym more) (All-push (λ (one : SetRecords). All (IsSummary samples) one.records) made one here.invariant.good c.in_ok-to_records.ensures.good);
    }

pub returns-clause-value : goal.returns-clause-value
returns-clause-value c =
    let record_of = set_records c.args.perspective c.args.portfolio.now.rows c.args.portfolio.now.need.rule c.args.losses.now.records in
    c.loop-one.invariant.made ∙ ap (λ (sums : List SetSums). map record_of (map (λ one. one.set) sums)) (take_all c.loop-one.one-index c.args.sums.now c.loop-one-test.false)
