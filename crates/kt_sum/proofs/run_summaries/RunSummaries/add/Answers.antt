use Rattle.std.proofs.Common.{◌∙◌, ◌+◌, ◌∷◌, ◌++◌, ℕ, List, [], map, ap, subst, sym, refl}
use Rattle.std.specs.Prelude.{All}
use Rattle.std.proofs.lemmas.List.{with_items_is}
use Rattle.std.proofs.lemmas.List.Elements.{All-push}
use Rattle.kt_runs.specs.RunSums.{AreRunSums, AreSums}
use Rattle.kt_stream.specs.Losses.{IsLoss}
use Rattle.kt_tables.specs.Lookups.{summary_in}
use Rattle.kt_tables.specs.SetRows.{summary_at}
use Rattle.kt_sum.specs.RunSummaries.{IsReadyRow, IsSumOf, IsThere}
use Rattle.kt_sum.specs.declared.summary_sums.SummarySums.{SummarySums}
use Rattle.kt_sum.proofs.run_summaries.RunSummaries.add.Goals as goal

pub add_entry-self-requires-clause-there : goal.add_entry-self-requires-clause-there
add_entry-self-requires-clause-there c =
    let it = c.args.self.now in
    subst (λ (ids : List ℕ). IsThere ids c.of-found.result) (sym c.deref.ensures.value) (subst (IsThere it.summaries.items) (sym (c.of-found.ensures.value (summary_at it.found) (λ id short. refl))) (c.requires.ready.are.there c.args.entry.now.id))

pub returns-clause-ready : goal.returns-clause-ready
returns-clause-ready c = λ done.
    let it = c.args.self.now in
    let samples = c.args.samples in
    let rows_are = with_items_is it.rows c.add_entry-self.new.rows (c.add_entry-self.auto.rows ∙ c.deref_mut-2.ensures.len) in
    let totals_are = with_items_is it.totals c.add_to_run.new.sums (c.add_to_run.auto.sums ∙ c.deref_mut.ensures.len) in
    record {
      are = record { rising = c.requires.ready.are.rising; there = c.requires.ready.are.there };
      rows_are = ap (λ (rows : List SummarySums). map (λ row. row.summary) rows) rows_are ∙ (c.add_entry-self.ensures.rows ∙ c.deref.ensures.value);
      rows = subst (λ (rows : List SummarySums). All (IsReadyRow (samples + 3)) rows) (sym rows_are) c.add_entry-self.ensures.ready;
      room = c.requires.ready.room;
      totals = subst (AreSums samples) (sym totals_are) (c.add_to_run.ensures.sums c.if-not-add_to_run.false);
    }

pub returns-clause-kept : goal.returns-clause-kept
returns-clause-kept c = λ portfolio perspective set records holds done.
    let it = c.args.self.now in
    let samples = c.args.samples in
    let entry = c.args.entry.now in
    let find = summary_in perspective portfolio.rows set in
    let rows_are = with_items_is it.rows c.add_entry-self.new.rows (c.add_entry-self.auto.rows ∙ c.deref_mut-2.ensures.len) in
    let totals_are = with_items_is it.totals c.add_to_run.new.sums (c.add_to_run.auto.sums ∙ c.deref_mut.ensures.len) in
    let totals = c.add_to_run.ensures.kept records (subst (AreRunSums samples records) (sym c.deref_mut.ensures.value) holds.totals) c.if-not-add_to_run.false in
    record {
      are = record { portfolio_is = holds.are.portfolio_is; perspective_is = holds.are.perspective_is; set_is = holds.are.set_is; found = holds.are.found };
      good = All-push (IsLoss samples) records entry holds.good c.requires.entry;
      totals = subst (AreRunSums samples (records ++ entry ∷ [])) (sym totals_are) totals;
      rows = subst (λ (rows : List SummarySums). All (IsSumOf 2147483646 (samples + 3) find (records ++ entry ∷ [])) rows) (sym rows_are)
          (c.add_entry-self.ensures.sums find records (sym (c.of-found.ensures.value find holds.are.found)) totals.within
          (subst (λ (rows : List SummarySums). All (IsSumOf 2147483646 (samples + 3) find records) rows) (sym c.deref_mut-2.ensures.value) holds.rows));
    }
