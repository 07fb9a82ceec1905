use Rattle.std.proofs.Common.{◌++◌, ◌∙◌, List, ℕ, [], ap, append_assoc, sym, take}
use Rattle.std.proofs.lemmas.List.{take_all}
use Rattle.std.specs.List.{cons_option, filter_map, flat_map}
use Rattle.kt_stream.specs.Summary.{summary_bytes}
use Rattle.kt_sum.specs.RunSummaries.{exposure_in, record_of}
use Rattle.kt_sum.specs.declared.summary_sums.SummarySums.{SummarySums}
use Rattle.kt_sum.proofs.SumsLemmas.{text_more}
use Rattle.kt_sum.proofs.summary_sums.put_rows.Goals as goal

pub loop-row-preserved : goal.loop-row-preserved
loop-row-preserved c =
    let f = record_of c.args.run.now.event (exposure_in c.args.run.now) 2147483646 in
    let rows = c.args.rows.now in
    let i = c.loop-row.row-index in
    let item = c.row-item.result in
    record {
      room = c.put_row.ensures.room ∙ c.loop-row.invariant.room;
      text =
          c.in_default.ensures.ok
          ∙ (ap (λ (out : List ℕ). out ++ flat_map summary_bytes (cons_option (f item) [])) c.loop-row.invariant.text
          ∙ (append_assoc c.args.out.now (flat_map summary_bytes (filter_map f (take i rows))) (flat_map summary_bytes (cons_option (f item) []))
          ∙ (ap (λ (row : SummarySums). c.args.out.now ++ (flat_map summary_bytes (filter_map f (take i rows)) ++ flat_map summary_bytes (cons_option (f row) []))) c.row-item.is
          ∙ ap (λ (text : List ℕ). c.args.out.now ++ text) (sym (text_more f rows i item c.loop-row-test.true)))));
    }

pub returns-clause-ok : goal.returns-clause-ok
returns-clause-ok c =
    let f = record_of c.args.run.now.event (exposure_in c.args.run.now) 2147483646 in
    c.loop-row.invariant.text ∙ ap (λ (rows : List SummarySums). c.args.out.now ++ flat_map summary_bytes (filter_map f rows)) (take_all c.loop-row.row-index c.args.rows.now c.loop-row-test.false)
