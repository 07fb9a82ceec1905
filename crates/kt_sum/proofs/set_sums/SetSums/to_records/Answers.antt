use Rattle.std.proofs.Common.{◌≡◌, ◌+◌, ◌∙◌, ℕ, Bool, List, cond, length, take, ap, sym, subst, arith}
use Rattle.std.specs.Prelude.{All}
use Rattle.std.specs.List.{filter_map}
use Rattle.std.proofs.lemmas.List.{take_all}
use Rattle.kt_stream.specs.Summary.{IsSummary}
use Rattle.kt_stream.specs.declared.entry.LossRecord.{LossRecord}
use Rattle.kt_stream.specs.declared.entry.SummaryRecord.{SummaryRecord}
use Rattle.kt_tables.specs.Lookups.{exposure_of, summary_in}
use Rattle.kt_sum.specs.RunSummaries.{IsReadyRow, IsSumOf, record_of}
use Rattle.kt_sum.specs.Summaries.{run_summaries}
use Rattle.kt_sum.specs.declared.summary_sums.SummarySums.{SummarySums}
use Rattle.kt_sum.proofs.GoodLemmas.{summaries_good}
use Rattle.kt_sum.proofs.RunSumsLemmas.{found_there, run_records}
use Rattle.kt_sum.proofs.SpanLemmas.{stream_places}
use Rattle.kt_sum.proofs.set_sums.SetSums.to_records.Goals as goal

-- a place for sidx -2, one for that of the mean, one for sidx 0, and one for each sample
wide : (rows samples : ℕ) → rows ≡ samples + 1 → rows + 2 ≡ samples + 3
wide rows samples is = omega (arith, is)

pub made_of-requires-clause-ready : goal.made_of-requires-clause-ready
made_of-requires-clause-ready c =
    subst (λ (rows : List SummarySums). All (IsReadyRow (c.args.samples + 3)) rows) (sym c.deref.ensures.value)
    (subst (λ (n : ℕ). All (IsReadyRow n) c.args.self.now.rows.items) (wide c.args.losses.now.rows c.args.samples c.requires.rows) c.requires.ready.rows)

pub returns : goal.returns
returns c =
    let it = c.args.self.now in
    let rows = c.args.portfolio.now.rows in
    let rule = c.args.portfolio.now.need.rule in
    let samples = c.args.samples in
    let records = c.args.losses.now.records in
    let find = summary_in c.args.perspective rows it.set in
    let exposure = exposure_of c.args.perspective rows rule it.set in
    let there = found_there find it.summaries.items it.found.items records c.requires.all.found c.requires.ready.there in
    let are = subst (λ (n : ℕ). All (IsSumOf 2147483646 n find records) it.rows.items) (wide c.args.losses.now.rows samples c.requires.rows)
    (subst (λ (done : List LossRecord). All (IsSumOf 2147483646 (c.args.losses.now.rows + 2) find done) it.rows.items) (ap (λ (b : Bool). take (cond b 0 (length records)) records) c.requires.done ∙ take_all (length records) records (omega arith)) c.requires.all.sums) in
    let made : c.from_vec.result ≡ run_summaries c.args.perspective rows rule it.set records =
    c.from_vec.ensures.value ∙ (c.in_ok-made.ensures.value ∙ (ap (λ (rows : List SummarySums). filter_map (record_of c.first_event.result exposure 2147483646) rows) c.deref.ensures.value
    ∙ run_records find exposure records 2147483646 (samples + 3) (stream_places samples records c.requires.samples c.requires.losses) c.first_event.result c.first_event.ensures.value it.summaries.items c.requires.ready.rising there it.rows.items c.requires.ready.rows_are are)) in
    record {
      value = ap (λ (made : List SummaryRecord). record { set = it.set; records = made }) made;
      good =
          subst (λ (made : List SummaryRecord). All (IsSummary samples) made) (sym made)
          (summaries_good find exposure
          (λ id summary is. let known = c.keeps_summaries.ensures.kept.known c.args.perspective it.set id summary is in (known.least, known.most))
          (c.keeps_summaries.ensures.kept.exposures c.args.perspective it.set) samples records c.requires.within c.requires.losses);
    }
