use Rattle.std.proofs.Common.{rules, ◌∙◌, ◌||◌, ℕ, Vec, List, ap, sym, nat_eq}
use Rattle.std.specs.List.{filter, list_any}
use Rattle.kt_exposure.specs.declared.exposure.SummaryUnit.{SummaryUnit}
use Rattle.kt_exposure.specs.declared.exposure.UnitCoverage.{UnitCoverage}
use Rattle.kt_exposure.proofs.CoverLemmas.{covers-added, covers-kept}
use Rattle.kt_exposure.proofs.exposure.list_coverages.Goals as goal
use Rattle.kt_exposure.proofs.exposure.list_coverages.Goals.{then-is_of+in_ok-push_coverages, else-is_of}

pub loop-row-preserved : goal.loop-row-preserved
loop-row-preserved c = λ coverage.
    let none : SummaryUnit = record { set = 0; summary = 0; unit = 0 } in
    let was = c.loop-row.invariant coverage in
    elim c.if-is_of.branch [
      | then-is_of+in_ok-push_coverages w ↦ ap (λ (found : Vec ℕ _). list_any (nat_eq coverage) found.items) w.found-is
          ∙ covers-added c.args.rows.now c.args.pairs.now c.args.set c.args.summary c.loop-row.row-index none c.loop-row-test.true coverage _ _ was
          (w.in_ok-push_coverages.ensures.value coverage ∙ ap (λ (found : List UnitCoverage). list_any (nat_eq coverage) c.loop-row.found.items || list_any (λ pair. nat_eq pair.coverage coverage) found) (w.of.ensures.value ∙ ap (λ unit. filter (λ pair. nat_eq pair.unit unit) c.args.pairs.now) (search rules)))
          (sym c.is_of.ensures.value ∙ w.if-is_of.true)
      | else-is_of w ↦ ap (λ (found : Vec ℕ _). list_any (nat_eq coverage) found.items) w.found-is ∙ covers-kept c.args.rows.now c.args.pairs.now c.args.set c.args.summary c.loop-row.row-index none c.loop-row-test.true coverage _ was (sym c.is_of.ensures.value ∙ w.if-is_of.false)
    ]
