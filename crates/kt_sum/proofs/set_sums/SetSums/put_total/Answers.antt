use Rattle.std.proofs.Common.{◌+◌, List, length, slice_set, true, ap, arith, subst, sym}
use Rattle.std.specs.Prelude.{All}
use Rattle.std.proofs.lemmas.List.{take_all}
use Rattle.kt_stream.specs.declared.entry.LossRecord.{LossRecord}
use Rattle.kt_sum.specs.RunSummaries.{IsSumOf}
use Rattle.kt_sum.specs.declared.summary_sums.SummarySums.{SummarySums}
use Rattle.kt_sum.proofs.TotalLemmas.{whole_sums}
use Rattle.kt_sum.proofs.set_sums.SetSums.put_total.Goals as goal

pub returns-clause-all : goal.returns-clause-all
returns-clause-all c = λ find losses waits total ready holds.
    let it = c.args.self.now in
    let rows = it.rows.items in
    let records = losses.records in
    let own = find it.set in
    let row = c.index_mut-row.result.now in
    let now : SummarySums = record { summary = row.summary; is_used = true; sums = c.args.total } in
    let whole = ready.whole waits in
    record {
      found = holds.found;
      sums = subst (λ (done : List LossRecord). All (IsSumOf 2147483646 (losses.rows + 2) own done) (slice_set rows 0 now)) (sym (take_all (length records) records (omega arith)))
          (whole_sums own (losses.rows + 2) records it.found.items holds.found whole.all it.summaries.items ready.there rows ready.rows_are now row whole.one (ap (λ (row : SummarySums). row.summary) c.index_mut-row.ensures.value) total);
    }
