use Rattle.std.proofs.Common.{◌≡◌, ℕ, List, Option, length, ap, subst, sym, ◌∙◌}
use Rattle.std.specs.Prelude.{All}
use Rattle.std.specs.List.{filter_map}
use Rattle.std.proofs.lemmas.List.{length-map, with_items_is}
use Rattle.kt_stream.specs.Summary.{IsSummary}
use Rattle.kt_stream.specs.declared.entry.LossRecord.{LossRecord}
use Rattle.kt_stream.specs.declared.entry.SummaryRecord.{SummaryRecord}
use Rattle.kt_tables.specs.Lookups.{exposure_of, summary_in}
use Rattle.kt_runs.specs.RunLosses.{event_of}
use Rattle.kt_runs.specs.RecordLaws.{map-same}
use Rattle.kt_runs.specs.Records.{ids_of}
use Rattle.kt_sum.specs.RunSummaries.{IsReadyRow, IsThere, record_of}
use Rattle.kt_sum.specs.Summaries.{run_summaries}
use Rattle.kt_sum.specs.declared.summary_sums.SummarySums.{SummarySums}
use Rattle.kt_sum.proofs.GoodLemmas.{summaries_good}
use Rattle.kt_sum.proofs.RunSumsLemmas.{found_ids, found_there, run_records}
use Rattle.kt_sum.proofs.run.summaries_in.Goals as goal

pub add_records-requires-clause-found : goal.add_records-requires-clause-found
add_records-requires-clause-found c =
    let find = summary_in c.args.perspective c.args.portfolio.now.rows c.args.set in
    let found = found_ids find c.in_ok-found.found.items c.deref.result.now c.args.records.now (c.in_ok-found.ensures.value find c.set_summaries.ensures.value) (c.deref.ensures.value ∙ (c.in_ok-ids.ensures.value ∙ ap ids_of (map-same c.args.records.now))) in
    ap (λ (found : List (Option ℕ)). length found) (c.deref-5.ensures.value ∙ found) ∙ length-map c.args.records.now (λ (entry : LossRecord). find entry.id)

pub made_of-requires-clause-ready : goal.made_of-requires-clause-ready
made_of-requires-clause-ready c =
    subst (λ (rows : List SummarySums). All (IsReadyRow c.args.span.width) rows) (sym (c.deref-6.ensures.value ∙ with_items_is c.in_ok-rows.rows c.add_records.new.rows (c.add_records.auto.rows ∙ c.deref_mut.ensures.len))) c.add_records.ensures.ready

pub returns : goal.returns
returns c =
    let rows = c.args.portfolio.now.rows in
    let rule = c.args.portfolio.now.need.rule in
    let records = c.args.records.now in
    let find = summary_in c.args.perspective rows c.args.set in
    let exposure = exposure_of c.args.perspective rows rule c.args.set in
    let span = c.args.span in
    let found = found_ids find c.in_ok-found.found.items c.deref.result.now records (c.in_ok-found.ensures.value find c.set_summaries.ensures.value) (c.deref.ensures.value ∙ (c.in_ok-ids.ensures.value ∙ ap ids_of (map-same c.args.records.now))) in
    let there = found_there find c.in_ok-summaries.summaries.items c.in_ok-found.found.items records found (subst (λ (found : List (Option ℕ)). All (IsThere c.in_ok-summaries.summaries.items) found) c.deref-2.ensures.value c.in_ok-summaries.ensures.there) in
    let made : c.from_vec.result ≡ run_summaries c.args.perspective rows rule c.args.set records =
    c.from_vec.ensures.value ∙ (c.in_ok-made.ensures.value ∙ (ap (λ (rows : List SummarySums). filter_map (record_of c.event_of.result exposure span.least) rows) (c.deref-6.ensures.value ∙ with_items_is c.in_ok-rows.rows c.add_records.new.rows (c.add_records.auto.rows ∙ c.deref_mut.ensures.len))
    ∙ run_records find exposure records span.least span.width c.requires.span c.event_of.result (c.event_of.ensures.value ∙ ap event_of (map-same records)) c.in_ok-summaries.summaries.items c.in_ok-summaries.ensures.rising there
    c.add_records.new.rows (c.add_records.ensures.rows ∙ c.deref-4.ensures.value) (c.add_records.ensures.sums find (c.deref-5.ensures.value ∙ found)))) in
    record {
      value = made;
      good = λ samples are.
          subst (λ (made : List SummaryRecord). All (IsSummary samples) made) (sym made)
          (summaries_good find exposure
          (λ id summary is. let known = c.keeps_summaries.ensures.kept.known c.args.perspective c.args.set id summary is in (known.least, known.most))
          (c.keeps_summaries.ensures.kept.exposures c.args.perspective c.args.set) samples records c.requires.losses are);
    }
