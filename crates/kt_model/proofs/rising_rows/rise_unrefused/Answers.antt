use Rattle.std.proofs.Common.{List, subst, get_or, take}
use Rattle.std.proofs.lemmas.List.{get_or_default}
use Rattle.kt_rec.specs.declared.hazard.FootRow.{FootRow}
use Rattle.kt_model.specs.Rising.{IsReached}
use Rattle.kt_model.proofs.JudgeLemmas.{seen_to, passes_on}
use Rattle.kt_model.proofs.rising_rows.rise_unrefused.Goals as goal

pub loop-row-preserved : goal.loop-row-preserved
loop-row-preserved c =
    let none : FootRow = record { areaperil = 0; intensity = 0; prob = 0 } in
    let rows = c.args.rows.now in
    let i = c.loop-row.row-index in
    let row = get_or rows i none in
    let is = get_or_default rows i none row c.loop-row-test.true in
    record {
      reached = subst (λ (seen : List FootRow). IsReached seen c.in-Some.next) (seen_to rows i row c.loop-row-test.true is) (c.in-Some.ensures.value (take i rows) c.loop-row.invariant.reached);
      first = passes_on rows i row c.loop-row-test.true is c.loop-row.invariant.first (c.in-Some.ensures.fine (take i rows) c.loop-row.invariant.reached);
    }
