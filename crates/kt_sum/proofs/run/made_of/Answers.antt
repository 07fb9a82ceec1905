use Rattle.std.proofs.Common.{◌++◌, ◌∙◌, [], ap, append-nil, sym}
use Rattle.std.specs.List.{cons_option}
use Rattle.kt_sum.specs.RunSummaries.{exposure_in, record_of}
use Rattle.kt_sum.proofs.SumsLemmas.{made_more}
use Rattle.kt_sum.proofs.run.made_of.Goals as goal
use Rattle.kt_sum.proofs.run.made_of.Goals.{in-Some+in_ok-push, in_default}

pub loop-row-preserved : goal.loop-row-preserved
loop-row-preserved c =
    let run = c.args.run.now in
    let before = c.loop-row.made.items in
    let more = made_more (record_of run.event (exposure_in run) c.args.span.least) c.args.rows.now c.loop-row.row-index c.row-item.result c.in_ok-entry.field-0 before in
    elim c.match-branch-3.branch [
      | in-Some+in_ok-push w ↦ rw (w.made-is) (more _ c.loop-row-test.true c.row-item.is c.loop-row.invariant c.in_ok-entry.ensures.value (w.in_ok-push.ensures.items ∙ ap (λ one. before ++ cons_option one []) (sym w.in-Some.is)))
      | in_default w ↦ rw (w.made-is) (more _ c.loop-row-test.true c.row-item.is c.loop-row.invariant c.in_ok-entry.ensures.value (sym (ap (λ one. before ++ cons_option one []) w.in_default.is ∙ append-nil before)))
    ]
