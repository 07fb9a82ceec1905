-- The sums of one summary more.
use Rattle.std.proofs.Common.{◌∙◌, ◌∷◌, ◌++◌, [], false, get_or, ℕ, List, map, take_all, ap, subst, sym}
use Rattle.std.specs.Prelude.{All}
use Rattle.std.proofs.lemmas.List.{map-append, take_more}
use Rattle.std.proofs.lemmas.List.Elements.{All-push, All-weaker}
use Rattle.kt_runs.specs.Adding.{Holds}
use Rattle.kt_sum.specs.RunSummaries.{IsReadyRow, IsZeroRow}
use Rattle.kt_sum.specs.declared.summary_sums.SummarySums.{SummarySums}
use Rattle.kt_sum.proofs.summary_sums.no_sums.Goals as goal

pub loop-summary-preserved : goal.loop-summary-preserved
loop-summary-preserved c =
    let width = c.args.width in
    let summaries = c.args.summaries.now in
    let here = c.loop-summary in
    let rows = here.rows.items in
    let summary = get_or summaries here.summary-index 0 in
    let row : SummarySums = record { summary = summary; is_used = false; sums = c.in_ok-zeros.field-0 } in
    let more = c.in_ok-push.ensures.items in
    record {
      summaries =
          ap (λ (rows : List SummarySums). map (λ row. row.summary) rows) more
          ∙ map-append (λ (row : SummarySums). row.summary) rows (row ∷ [])
          ∙ ap (λ (summaries : List ℕ). summaries ++ summary ∷ []) here.invariant.summaries
          ∙ sym (take_more summaries here.summary-index 0 c.loop-summary-test.true);
      zeros = subst (λ (rows : List SummarySums). All (IsZeroRow width) rows) (sym more) (All-push (IsZeroRow width) rows row here.invariant.zeros c.in_ok-zeros.ensures.value);
    }

pub returns-clause-summaries : goal.returns-clause-summaries
returns-clause-summaries c = c.loop-summary.invariant.summaries ∙ take_all c.loop-summary.summary-index c.args.summaries.now c.loop-summary-test.false

pub returns-clause-ready : goal.returns-clause-ready
returns-clause-ready c =
    All-weaker (IsZeroRow c.args.width) (IsReadyRow c.args.width)
    (λ row zero. record { width_is = zero.width_is; idle = λ unused. subst (λ (width : ℕ). Holds width (λ k. 0) row.sums.items) (sym zero.width_is) zero })
    c.loop-summary.rows.items c.loop-summary.invariant.zeros
