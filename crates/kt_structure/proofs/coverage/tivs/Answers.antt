use Rattle.std.proofs.Common.{◌∙◌, ℕ, List, Option, ap, map, unwrap_or, subst, sym}
use Rattle.std.proofs.Math.Path.{fun_ext}
use Rattle.std.proofs.lemmas.Result.{IfOk-weaker}
use Rattle.std.specs.List.{flat_map, list_any}
use Rattle.std.specs.Map.{lookup}
use Rattle.kt_keys.specs.Keys.{same_pair}
use Rattle.kt_keys.specs.UnitTable.{value_of}
use Rattle.kt_exposure.specs.Exposure.{AddsUp, IsTotalOf, summary_covers, value_in}
use Rattle.kt_exposure.specs.declared.exposure.UnitCoverage.{UnitCoverage}
use Rattle.kt_structure.specs.Coverages.{rows_for, own_pair}
use Rattle.kt_checks.specs.Worth.{values-few}
use Rattle.kt_structure.proofs.LevelLemmas.{total-among}
use Rattle.kt_structure.proofs.coverage.tivs.Goals as goal

pub exposure_list-requires : goal.exposure_list-requires
exposure_list-requires c =
    subst AddsUp (sym (fun_ext (λ (id : ℕ). ap (λ found. unwrap_or found 0) (c.in_ok-values.ensures.value id)))) (values-few c.args.coverages.now c.requires.distinct c.requires.ranges c.requires.few)

pub returns : goal.returns
returns c = record {
  value = IfOk-weaker c.new.result _ _ (λ found known key.
      let next = value_of c.args.next.now in
      let rows = flat_map (rows_for next c.args.top) c.args.covered.items in
      let pairs = map own_pair c.args.coverages.now in
      let total = unwrap_or (value_of found key) 0 in
      subst (λ (value : ℕ → ℕ). IsTotalOf (summary_covers rows pairs key) value total) (fun_ext (λ (id : ℕ). ap (λ found. unwrap_or found 0) (c.in_ok-values.ensures.value id)))
      (total-among pairs key (value_in c.in_ok-values.values) total c.in_ok-rows.rows.items rows (λ test. c.in_ok-rows.ensures.value test ∙ ap (λ ids. list_any test (flat_map (rows_for next c.args.top) ids)) c.deref.ensures.value)
      (subst (λ (all : List UnitCoverage). IsTotalOf (summary_covers c.in_ok-rows.rows.items all key) (value_in c.in_ok-values.values) total) c.in_ok-pairs.ensures.value
      (subst (λ (one : Option ℕ). IsTotalOf (summary_covers c.in_ok-rows.rows.items c.in_ok-pairs.pairs.items key) (value_in c.in_ok-values.values) (unwrap_or one 0)) (sym (known key ∙ ap (lookup (same_pair key)) c.deref-2.ensures.value))
      (c.in_ok-totals.ensures.value key))))) c.new.ensures.value;
}
