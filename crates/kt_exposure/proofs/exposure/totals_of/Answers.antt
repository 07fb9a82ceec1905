use Rattle.std.proofs.Common.{◌∙◌, ◌+◌, ℕ, List, Vec, Global, refl, ap, sym, subst, get_or, take, unwrap_or}
use Rattle.std.specs.Map.{lookup}
use Rattle.std.proofs.lemmas.List.{take_all}
use Rattle.kt_keys.specs.Keys.{same_pair}
use Rattle.kt_exposure.specs.declared.exposure.SummaryUnit.{SummaryUnit}
use Rattle.kt_exposure.specs.Exposure.{summary_covers, value_in, IsTotalOf}
use Rattle.kt_exposure.proofs.TotalLemmas.{KnownTotal, total-known, total-agree, known-kept, known-pushed, known-before, group-covers}
use Rattle.kt_exposure.proofs.exposure.totals_of.Goals as goal
use Rattle.kt_exposure.proofs.exposure.totals_of.Goals.{then-not-goes_on+in_ok-value+in_ok-push, else-not-goes_on}

pub loop-place-preserved : goal.loop-place-preserved
loop-place-preserved c = λ key.
    let none : SummaryUnit = record { set = 0; summary = 0; unit = 0 } in
    let rows = c.as_slice-all.result.now in
    let pairs = c.args.pairs.now in
    let value = value_in c.args.tivs.now in
    let i = c.loop-place.place in
    let row : SummaryUnit = get_or rows i none in
    let found = (λ (k : ℕ × ℕ). lookup (same_pair k) c.loop-place.totals.items) in
    elim c.if-not-goes_on.branch [
      | then-not-goes_on+in_ok-value+in_ok-push w ↦ subst (λ (totals : Vec ((ℕ × ℕ) × ℕ) Global). KnownTotal rows pairs value (take (i + 1) rows) key (lookup (same_pair key) totals.items)) (sym w.totals-is)
          (known-pushed rows pairs value i none c.loop-place-test.true key c.loop-place.totals.items _ w.in_ok-value.value w.in_ok-push.ensures.items (c.loop-place.invariant key)
          (total-agree _ (summary_covers rows pairs (row.set, row.summary)) value _
          (λ coverage. ap (λ (group : List SummaryUnit). summary_covers group pairs (row.set, row.summary) coverage) w.group_at-group.ensures.value
          ∙ (group-covers c.args.rows.now pairs row.set row.summary w.key.result coverage w.key.ensures.value
          ∙ ap (λ (all : List SummaryUnit). summary_covers all pairs (row.set, row.summary) coverage) (sym c.as_slice-all.ensures.value)))
          w.in_ok-value.ensures.value))
      | else-not-goes_on w ↦ subst (λ (totals : Vec ((ℕ × ℕ) × ℕ) Global). KnownTotal rows pairs value (take (i + 1) rows) key (lookup (same_pair key) totals.items)) (sym w.totals-is)
          (known-kept rows pairs value i none c.loop-place-test.true key found
          (known-before rows pairs value i none c.loop-place-test.true (row.set, row.summary) (found (row.set, row.summary)) (c.goes_on.ensures.later w.if-not-goes_on.false) (c.goes_on.ensures.same w.if-not-goes_on.false none) refl (c.loop-place.invariant (row.set, row.summary)))
          (c.loop-place.invariant key))
    ]

pub returns : goal.returns
returns c = record {
  value = λ key.
      let rows = c.as_slice-all.result.now in
      let pairs = c.args.pairs.now in
      let value = value_in c.args.tivs.now in
      let found = lookup (same_pair key) c.loop-place.totals.items in
      subst (λ (all : List SummaryUnit). IsTotalOf (summary_covers all pairs key) value (unwrap_or found 0)) c.as_slice-all.ensures.value
      (total-known rows pairs value key found (subst (λ (seen : List SummaryUnit). KnownTotal rows pairs value seen key found) (take_all c.loop-place.place rows c.loop-place-test.false) (c.loop-place.invariant key)));
}
