use Rattle.std.proofs.Common.{◌≡◌, ◌∙◌, ◌+◌, ◌++◌, ℕ, List, [], length, map, ap, subst, sym}
use Rattle.std.specs.Prelude.{All}
use Rattle.std.specs.List.{filter_map, flat_map}
use Rattle.std.proofs.lemmas.List.{with_items_is}
use Rattle.std.proofs.lemmas.List.Elements.{All-from_recursion}
use Rattle.kt_runs.specs.RunSums.{AreRunSums, AreSums}
use Rattle.kt_stream.specs.Losses.{IsLoss}
use Rattle.kt_stream.specs.Summary.{summary_bytes}
use Rattle.kt_tables.specs.Lookups.{exposure_of, summary_in}
use Rattle.kt_sum.specs.RunSummaries.{IsReadyRow, IsSumOf, record_of}
use Rattle.kt_sum.specs.Summaries.{summaries_by}
use Rattle.kt_sum.specs.declared.summary_sums.SummarySums.{SummarySums}
use Rattle.kt_sum.proofs.RunSumsLemmas.{all_there, exposure_same, run_records, zero_ready}
use Rattle.kt_sum.proofs.SpanLemmas.{stream_places}
use Rattle.kt_sum.proofs.run_summaries.RunSummaries.put.Goals as goal

pub returns : goal.returns
returns c =
    let it = c.args.self.now in
    let samples = c.args.samples in
    let event = c.args.event in
    let rows = it.rows.items in
    let now = c.clear_rows.new.rows in
    let before_are : c.deref_mut-2.result.now ≡ rows = c.deref_mut-2.ensures.value in
    let rows_are = with_items_is it.rows now (c.clear_rows.auto.rows ∙ c.deref_mut-2.ensures.len) in
    let room_are = with_items_is it.room c.put_rows.new.room (c.put_rows.ensures.room ∙ c.deref_mut.ensures.len) in
    let totals_are = with_items_is it.totals c.clear_run.new.sums (c.clear_run.auto.sums ∙ c.deref_mut-3.ensures.len) in
    let ready = c.requires.ready in
    let zeros = c.clear_rows.ensures.zeros (samples + 3) (subst (λ (rows : List SummarySums). All (IsReadyRow (samples + 3)) rows) (sym before_are) ready.rows) in
    record {
      ready = record {
        are = record { rising = ready.are.rising; there = ready.are.there };
        rows_are = ap (λ (rows : List SummarySums). map (λ row. row.summary) rows) rows_are ∙ (c.clear_rows.ensures.summaries ∙ (ap (λ (rows : List SummarySums). map (λ row. row.summary) rows) before_are ∙ ready.rows_are));
        rows = subst (λ (rows : List SummarySums). All (IsReadyRow (samples + 3)) rows) (sym rows_are) (λ k d below. zero_ready (samples + 3) _ (zeros k d below));
        room = ap (λ (room : List ℕ). length room) room_are ∙ (c.put_rows.ensures.room ∙ (ap (λ (room : List ℕ). length room) c.deref_mut.ensures.value ∙ ready.room));
        totals = subst (AreSums samples) (sym totals_are) c.clear_run.ensures.sums;
      };
      text = λ portfolio perspective set records holds event_is.
          let find = summary_in perspective portfolio.rows set in
          let exposure = exposure_of it.perspective it.portfolio.now.rows it.portfolio.now.need.rule it.set in
          c.in_ok-put_rows.ensures.ok
          ∙ (ap (λ (rows : List SummarySums). c.args.out.now ++ flat_map summary_bytes (filter_map (record_of event exposure 2147483646) rows)) c.deref.ensures.value
          ∙ (ap (λ made. c.args.out.now ++ flat_map summary_bytes made) (run_records find exposure records 2147483646 (samples + 3) (stream_places samples records c.requires.samples holds.good) event event_is it.summaries.items ready.are.rising (all_there find samples it.summaries.items it.found records holds.are.found ready.are.there holds.good) rows ready.rows_are holds.rows)
          ∙ ap (λ (worth : ℕ → ℕ). c.args.out.now ++ flat_map summary_bytes (summaries_by find worth records)) (exposure_same it.portfolio.now portfolio it.perspective perspective it.set set holds.are.portfolio_is holds.are.perspective_is holds.are.set_is)));
      holds = λ portfolio perspective set of. record {
        are = record { portfolio_is = of.portfolio_is; perspective_is = of.perspective_is; set_is = of.set_is; found = of.found };
        good = All-from_recursion (IsLoss samples) [] tt;
        totals = subst (AreRunSums samples []) (sym totals_are) c.clear_run.ensures.value;
        rows = subst (λ (rows : List SummarySums). All (IsSumOf 2147483646 (samples + 3) (summary_in perspective portfolio.rows set) []) rows) (sym rows_are) zeros;
      };
      unchanged = tt;
      kept = tt;
      kept_ready = tt;
    }
