use Rattle.std.proofs.Common.{◌∙◌, ap, nat_eq}
use Rattle.std.specs.HashSet.{contains}
use Rattle.kt_exposure.specs.declared.exposure.SummaryUnit.{SummaryUnit}
use Rattle.kt_tables.proofs.SetLemmas.{set_kept, set_put}
use Rattle.kt_tables.proofs.summaries.sets_of.Goals as goal
use Rattle.kt_tables.proofs.summaries.sets_of.Goals.{then-not-goes_on+in_ok-insert, else-not-goes_on}

pub loop-place-preserved : goal.loop-place-preserved
loop-place-preserved c = λ set.
    let none : SummaryUnit = record { set = 0; summary = 0; unit = 0 } in
    let rows = c.args.rows.now in
    let place = c.loop-place.place in
    elim c.if-not-goes_on.branch [
      | then-not-goes_on+in_ok-insert w ↦ ap (λ sets. contains nat_eq sets set) w.sets-is ∙ set_put rows place none c.loop-place-test.true set _ _ (w.in_ok-insert.ensures.updates.0 set) (c.loop-place.invariant set)
      | else-not-goes_on w ↦ ap (λ sets. contains nat_eq sets set) w.sets-is ∙ (c.loop-place.invariant set ∙ set_kept rows place none c.loop-place-test.true (c.goes_on.ensures.later w.if-not-goes_on.false) (c.goes_on.ensures.same w.if-not-goes_on.false none) set)
    ]
