use Rattle.std.proofs.Common.{◌≡◌, ◌∙◌, ℕ, List, map, nat_eq, refl, ap, subst, unwrap_or}
use Rattle.std.proofs.Math.Path.{fun_ext}
use Rattle.std.specs.List.{filter}
use Rattle.kt_rec.specs.Rows.{rows_of}
use Rattle.kt_rec.specs.declared.financial.FmPolicytc.{FmPolicytc}
use Rattle.kt_rec.specs.declared.financial.FmProfile.{FmProfile}
use Rattle.kt_rec.specs.declared.financial.FmProgramme.{FmProgramme}
use Rattle.kt_keys.specs.Keys.{profile_of as profiles_of}
use Rattle.kt_keys.specs.UnitTable.{value_of}
use Rattle.kt_keys.specs.Units.{top_level}
use Rattle.kt_keys.specs.Climbing.{next_unit}
use Rattle.kt_structure.specs.Plan.{AreTerms, layer_link, link_key}
use Rattle.kt_structure.proofs.FindLemmas.{tivs-beneath}
use Rattle.kt_structure.proofs.MadeLemmas.{structure-made}
use Rattle.kt_structure.proofs.structure.structure_at.Goals as goal

pub returns : goal.returns
returns c =
    let rows = rows_of c.args.tables.now in
    let programme_is = c.programme-rows.ensures.value in
    let top_is = c.top_level-top_level.ensures.value ∙ ap top_level programme_is in
    let units_are = λ (key : ℕ × ℕ). c.in_ok-next.ensures.value key ∙ ap (λ (programme : List FmProgramme). next_unit programme key) programme_is in
    let next_is = fun_ext units_are in
    record {
      value = structure-made rows c.args.stage c.requires.ready _ c.in_ok-terms.terms c.in_ok-layers.layers top_is next_is refl
          (subst (λ (policytc : List FmPolicytc). AreTerms policytc (profiles_of rows c.args.stage) c.in_ok-terms.terms) c.policytc-2.ensures.value (subst (λ (profiles : List FmProfile). AreTerms c.policytc-2.result.now profiles c.in_ok-terms.terms) c.profile.ensures.value c.in_ok-terms.ensures.value))
          (λ level unit least most.
          tivs-beneath rows c.args.stage c.requires.ready (value_of c.in_ok-next.next) c.top_level-top_level.result c.in_ok-covered.covered.items c.deref.result.now next_is top_is c.in_ok-covered.ensures.value c.deref.ensures.value (λ key. unwrap_or (value_of c.in_ok-worth.worth key) 0) c.in_ok-worth.ensures.value level unit least most)
          refl
          (subst (λ (policytc : List FmPolicytc). (key : ℕ) → filter (λ row. nat_eq (link_key row) key) c.in_ok-layers.layers ≡ filter (λ row. nat_eq (link_key row) key) (map layer_link (filter (λ row. nat_eq row.level_id c.top_level-top_level.result) policytc))) c.policytc.ensures.value c.in_ok-layers.ensures.kept);
    }
