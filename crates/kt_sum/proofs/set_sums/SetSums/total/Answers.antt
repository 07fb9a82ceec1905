use Rattle.std.proofs.Common.{◌+◌, ◌∙◌, ℕ, Bool, List, length, take, ap, arith, cond, subst, sym}
use Rattle.std.specs.Prelude.{All}
use Rattle.std.proofs.lemmas.List.{take_all}
use Rattle.std.proofs.lemmas.Result.{IfOk-weaker}
use Rattle.kt_stream.specs.declared.entry.LossRecord.{LossRecord}
use Rattle.kt_sum.specs.RunSummaries.{IsSumOf}
use Rattle.kt_sum.specs.declared.summary_sums.SummarySums.{SummarySums}
use Rattle.kt_sum.proofs.TotalLemmas.{IsAllAdded, set_total}
use Rattle.kt_sum.proofs.set_sums.SetSums.total.Goals as goal

pub returns-clause-value : goal.returns-clause-value
returns-clause-value c = IfOk-weaker c.total_of.result _ _ (λ total adds find losses width_is within ready holds.
    let it = c.args.self.now in
    let rows = it.rows.items in
    let records = losses.records in
    let width = losses.rows + 2 in
    let own = find it.set in
    let all = ap (λ (b : Bool). take (cond b 0 (length records)) records) c.requires.done ∙ take_all (length records) records (omega arith) in
    let sums = subst (λ (done : List LossRecord). All (IsSumOf 2147483646 width own done) rows) all holds.sums in
    let added = subst (λ (n : ℕ). IsAllAdded n rows total.items) (sym width_is) (subst (λ (rows : List SummarySums). IsAllAdded c.args.width rows total.items) c.deref.ensures.value adds) in
    set_total own width records it.found.items holds.found (ready.all c.requires.all) it.summaries.items ready.there rows ready.rows_are ready.rising sums within total.items added) c.total_of.ensures.value
