-- The tables that a run needs are those on which its stages stand.
-- The rules: docs/COMMANDS.md, "chain".
use Rattle.std.proofs.Common.{◌≡◌, ◌⊎◌, ◌≤◌, ℕ, zero, suc, true, refl, ap, inl, inr, subst, sym, arith}
use Rattle.kt_keys.specs.Refusals.{is_loaded}
use Rattle.kt_keys.specs.declared.need.Need.{Need}
use Rattle.kt_rec.specs.declared.perspective.Perspective.{Perspective}
use Rattle.kt_rec.specs.declared.perspective.Perspective.TheVariants.{Gul, Il, Ri}
use Rattle.kt_rec.specs.declared.table.Table.{Table}
use Rattle.kt_rec.specs.declared.table.Table.TheVariants as table
use Rattle.kt_event.specs.Needs.{chain_need}
use Rattle.kt_block.specs.Terms.{AreTerms, has_insured}
use Rattle.kt_block.specs.declared.terms.Terms.{Terms}

-- what holds of each number of stages holds of all
by_stages : (P : ℕ → Type 0) → P 0 → P 1 → P 2 → P 3 → P 4 → P 5 → P 6 → P 7 → P 8 → P 9 → (stages : ℕ) → stages ≤ 9 → P stages
by_stages P p0 p1 p2 p3 p4 p5 p6 p7 p8 p9 zero few = p0
by_stages P p0 p1 p2 p3 p4 p5 p6 p7 p8 p9 (suc zero) few = p1
by_stages P p0 p1 p2 p3 p4 p5 p6 p7 p8 p9 (suc (suc zero)) few = p2
by_stages P p0 p1 p2 p3 p4 p5 p6 p7 p8 p9 (suc (suc (suc zero))) few = p3
by_stages P p0 p1 p2 p3 p4 p5 p6 p7 p8 p9 (suc (suc (suc (suc zero)))) few = p4
by_stages P p0 p1 p2 p3 p4 p5 p6 p7 p8 p9 (suc (suc (suc (suc (suc zero))))) few = p5
by_stages P p0 p1 p2 p3 p4 p5 p6 p7 p8 p9 (suc (suc (suc (suc (suc (suc zero)))))) few = p6
by_stages P p0 p1 p2 p3 p4 p5 p6 p7 p8 p9 (suc (suc (suc (suc (suc (suc (suc zero))))))) few = p7
by_stages P p0 p1 p2 p3 p4 p5 p6 p7 p8 p9 (suc (suc (suc (suc (suc (suc (suc (suc zero)))))))) few = p8
by_stages P p0 p1 p2 p3 p4 p5 p6 p7 p8 p9 (suc (suc (suc (suc (suc (suc (suc (suc (suc zero))))))))) few = p9
by_stages P p0 p1 p2 p3 p4 p5 p6 p7 p8 p9 (suc (suc (suc (suc (suc (suc (suc (suc (suc (suc more)))))))))) few = absurd (omega arith)

-- a need with tables up to a perspective
abbrev need_up_to : ℕ → ℕ → Perspective → ℕ → Need
need_up_to samples rule last stages = chain_need (record { samples = samples; cut = true; rule = rule; last = last; stages = stages })

module _ (samples rule : ℕ) where
  abbrev Loads : Table → Perspective → ℕ → Type 0
  Loads t last stages = is_loaded (need_up_to samples rule last stages) 0 t ≡ true

  items : (last : Perspective) (stages : ℕ) → stages ≤ 9 → Loads table.Items last stages
  unfolding is_loaded
  items Gul stages few = refl
  items Il stages few = refl
  items Ri stages few = by_stages (Loads table.Items Ri) refl refl refl refl refl refl refl refl refl refl stages few

  bins : (last : Perspective) (stages : ℕ) → stages ≤ 9 → Loads table.DamageBinDict last stages
  unfolding is_loaded
  bins Gul stages few = refl
  bins Il stages few = refl
  bins Ri stages few = by_stages (Loads table.DamageBinDict Ri) refl refl refl refl refl refl refl refl refl refl stages few

  random : (last : Perspective) (stages : ℕ) → stages ≤ 9 → Loads table.Random last stages
  unfolding is_loaded
  random Gul stages few = refl
  random Il stages few = refl
  random Ri stages few = by_stages (Loads table.Random Ri) refl refl refl refl refl refl refl refl refl refl stages few

  footprint : (last : Perspective) (stages : ℕ) → stages ≤ 9 → Loads table.Footprint last stages
  unfolding is_loaded
  footprint Gul stages few = refl
  footprint Il stages few = refl
  footprint Ri stages few = by_stages (Loads table.Footprint Ri) refl refl refl refl refl refl refl refl refl refl stages few

  footprint_index : (last : Perspective) (stages : ℕ) → stages ≤ 9 → Loads table.FootprintIdx last stages
  unfolding is_loaded
  footprint_index Gul stages few = refl
  footprint_index Il stages few = refl
  footprint_index Ri stages few = by_stages (Loads table.FootprintIdx Ri) refl refl refl refl refl refl refl refl refl refl stages few

  occurrence : (last : Perspective) (stages : ℕ) → stages ≤ 9 → Loads table.Occurrence last stages
  unfolding is_loaded
  occurrence Gul stages few = refl
  occurrence Il stages few = refl
  occurrence Ri stages few = by_stages (Loads table.Occurrence Ri) refl refl refl refl refl refl refl refl refl refl stages few

  programme : (last : Perspective) (stages : ℕ) → stages ≤ 9 → has_insured last ≡ true → Loads table.FmProgramme last stages
  unfolding is_loaded
  programme Gul stages few insured = cc
  programme Il stages few insured = refl
  programme Ri stages few insured = by_stages (Loads table.FmProgramme Ri) refl refl refl refl refl refl refl refl refl refl stages few

  policytc : (last : Perspective) (stages : ℕ) → stages ≤ 9 → has_insured last ≡ true → Loads table.FmPolicytc last stages
  unfolding is_loaded
  policytc Gul stages few insured = cc
  policytc Il stages few insured = refl
  policytc Ri stages few insured = by_stages (Loads table.FmPolicytc Ri) refl refl refl refl refl refl refl refl refl refl stages few

  outputs : (last : Perspective) (stages : ℕ) → stages ≤ 9 → has_insured last ≡ true → Loads table.FmXref last stages
  unfolding is_loaded
  outputs Gul stages few insured = cc
  outputs Il stages few insured = refl
  outputs Ri stages few insured = by_stages (Loads table.FmXref Ri) refl refl refl refl refl refl refl refl refl refl stages few

  -- the programme of each stage
  abbrev LoadsStage : ℕ → ℕ → Type 0
  LoadsStage stages stage = 1 ≤ stage → stage ≤ stages → is_loaded (need_up_to samples rule Ri stages) stage table.FmProgramme ≡ true

  stage_programme : (stages : ℕ) → stages ≤ 9 → (stage : ℕ) → LoadsStage stages stage
  unfolding is_loaded
  stage_programme zero few stage some most = absurd (omega arith)
  stage_programme (suc zero) few (suc zero) some most = refl
  stage_programme (suc (suc zero)) few (suc zero) some most = refl
  stage_programme (suc (suc zero)) few (suc (suc zero)) some most = refl
  stage_programme (suc (suc (suc zero))) few (suc zero) some most = refl
  stage_programme (suc (suc (suc zero))) few (suc (suc zero)) some most = refl
  stage_programme (suc (suc (suc zero))) few (suc (suc (suc zero))) some most = refl
  stage_programme (suc (suc (suc (suc zero)))) few (suc zero) some most = refl
  stage_programme (suc (suc (suc (suc zero)))) few (suc (suc zero)) some most = refl
  stage_programme (suc (suc (suc (suc zero)))) few (suc (suc (suc zero))) some most = refl
  stage_programme (suc (suc (suc (suc zero)))) few (suc (suc (suc (suc zero)))) some most = refl
  stage_programme (suc (suc (suc (suc (suc zero))))) few (suc zero) some most = refl
  stage_programme (suc (suc (suc (suc (suc zero))))) few (suc (suc zero)) some most = refl
  stage_programme (suc (suc (suc (suc (suc zero))))) few (suc (suc (suc zero))) some most = refl
  stage_programme (suc (suc (suc (suc (suc zero))))) few (suc (suc (suc (suc zero)))) some most = refl
  stage_programme (suc (suc (suc (suc (suc zero))))) few (suc (suc (suc (suc (suc zero))))) some most = refl
  stage_programme (suc (suc (suc (suc (suc (suc zero)))))) few (suc zero) some most = refl
  stage_programme (suc (suc (suc (suc (suc (suc zero)))))) few (suc (suc zero)) some most = refl
  stage_programme (suc (suc (suc (suc (suc (suc zero)))))) few (suc (suc (suc zero))) some most = refl
  stage_programme (suc (suc (suc (suc (suc (suc zero)))))) few (suc (suc (suc (suc zero)))) some most = refl
  stage_programme (suc (suc (suc (suc (suc (suc zero)))))) few (suc (suc (suc (suc (suc zero))))) some most = refl
  stage_programme (suc (suc (suc (suc (suc (suc zero)))))) few (suc (suc (suc (suc (suc (suc zero)))))) some most = refl
  stage_programme (suc (suc (suc (suc (suc (suc (suc zero))))))) few (suc zero) some most = refl
  stage_programme (suc (suc (suc (suc (suc (suc (suc zero))))))) few (suc (suc zero)) some most = refl
  stage_programme (suc (suc (suc (suc (suc (suc (suc zero))))))) few (suc (suc (suc zero))) some most = refl
  stage_programme (suc (suc (suc (suc (suc (suc (suc zero))))))) few (suc (suc (suc (suc zero)))) some most = refl
  stage_programme (suc (suc (suc (suc (suc (suc (suc zero))))))) few (suc (suc (suc (suc (suc zero))))) some most = refl
  stage_programme (suc (suc (suc (suc (suc (suc (suc zero))))))) few (suc (suc (suc (suc (suc (suc zero)))))) some most = refl
  stage_programme (suc (suc (suc (suc (suc (suc (suc zero))))))) few (suc (suc (suc (suc (suc (suc (suc zero))))))) some most = refl
  stage_programme (suc (suc (suc (suc (suc (suc (suc (suc zero)))))))) few (suc zero) some most = refl
  stage_programme (suc (suc (suc (suc (suc (suc (suc (suc zero)))))))) few (suc (suc zero)) some most = refl
  stage_programme (suc (suc (suc (suc (suc (suc (suc (suc zero)))))))) few (suc (suc (suc zero))) some most = refl
  stage_programme (suc (suc (suc (suc (suc (suc (suc (suc zero)))))))) few (suc (suc (suc (suc zero)))) some most = refl
  stage_programme (suc (suc (suc (suc (suc (suc (suc (suc zero)))))))) few (suc (suc (suc (suc (suc zero))))) some most = refl
  stage_programme (suc (suc (suc (suc (suc (suc (suc (suc zero)))))))) few (suc (suc (suc (suc (suc (suc zero)))))) some most = refl
  stage_programme (suc (suc (suc (suc (suc (suc (suc (suc zero)))))))) few (suc (suc (suc (suc (suc (suc (suc zero))))))) some most = refl
  stage_programme (suc (suc (suc (suc (suc (suc (suc (suc zero)))))))) few (suc (suc (suc (suc (suc (suc (suc (suc zero)))))))) some most = refl
  stage_programme (suc (suc (suc (suc (suc (suc (suc (suc (suc zero))))))))) few (suc zero) some most = refl
  stage_programme (suc (suc (suc (suc (suc (suc (suc (suc (suc zero))))))))) few (suc (suc zero)) some most = refl
  stage_programme (suc (suc (suc (suc (suc (suc (suc (suc (suc zero))))))))) few (suc (suc (suc zero))) some most = refl
  stage_programme (suc (suc (suc (suc (suc (suc (suc (suc (suc zero))))))))) few (suc (suc (suc (suc zero)))) some most = refl
  stage_programme (suc (suc (suc (suc (suc (suc (suc (suc (suc zero))))))))) few (suc (suc (suc (suc (suc zero))))) some most = refl
  stage_programme (suc (suc (suc (suc (suc (suc (suc (suc (suc zero))))))))) few (suc (suc (suc (suc (suc (suc zero)))))) some most = refl
  stage_programme (suc (suc (suc (suc (suc (suc (suc (suc (suc zero))))))))) few (suc (suc (suc (suc (suc (suc (suc zero))))))) some most = refl
  stage_programme (suc (suc (suc (suc (suc (suc (suc (suc (suc zero))))))))) few (suc (suc (suc (suc (suc (suc (suc (suc zero)))))))) some most = refl
  stage_programme (suc (suc (suc (suc (suc (suc (suc (suc (suc zero))))))))) few (suc (suc (suc (suc (suc (suc (suc (suc (suc zero))))))))) some most = refl
  stage_programme stages few stage some most = absurd (omega arith)

module _ (terms : Terms) (need : Need) (is : need ≡ chain_need terms) (are : AreTerms terms) where
  pub loads_items : is_loaded need 0 table.Items ≡ true
  loads_items = subst (λ (one : Need). is_loaded one 0 table.Items ≡ true) (sym is) (items terms.samples terms.rule terms.last terms.stages are.stages)

  pub loads_bins : is_loaded need 0 table.DamageBinDict ≡ true
  loads_bins = subst (λ (one : Need). is_loaded one 0 table.DamageBinDict ≡ true) (sym is) (bins terms.samples terms.rule terms.last terms.stages are.stages)

  pub loads_random : is_loaded need 0 table.Random ≡ true
  loads_random = subst (λ (one : Need). is_loaded one 0 table.Random ≡ true) (sym is) (random terms.samples terms.rule terms.last terms.stages are.stages)

  pub loads_footprint : is_loaded need 0 table.Footprint ≡ true
  loads_footprint = subst (λ (one : Need). is_loaded one 0 table.Footprint ≡ true) (sym is) (footprint terms.samples terms.rule terms.last terms.stages are.stages)

  pub loads_footprint_index : is_loaded need 0 table.FootprintIdx ≡ true
  loads_footprint_index = subst (λ (one : Need). is_loaded one 0 table.FootprintIdx ≡ true) (sym is) (footprint_index terms.samples terms.rule terms.last terms.stages are.stages)

  pub loads_occurrence : is_loaded need 0 table.Occurrence ≡ true
  loads_occurrence = subst (λ (one : Need). is_loaded one 0 table.Occurrence ≡ true) (sym is) (occurrence terms.samples terms.rule terms.last terms.stages are.stages)

  pub loads_programme : has_insured terms.last ≡ true → is_loaded need 0 table.FmProgramme ≡ true
  loads_programme insured = subst (λ (one : Need). is_loaded one 0 table.FmProgramme ≡ true) (sym is) (programme terms.samples terms.rule terms.last terms.stages are.stages insured)

  pub loads_policytc : has_insured terms.last ≡ true → is_loaded need 0 table.FmPolicytc ≡ true
  loads_policytc insured = subst (λ (one : Need). is_loaded one 0 table.FmPolicytc ≡ true) (sym is) (policytc terms.samples terms.rule terms.last terms.stages are.stages insured)

  pub loads_outputs : has_insured terms.last ≡ true → is_loaded need 0 table.FmXref ≡ true
  loads_outputs insured = subst (λ (one : Need). is_loaded one 0 table.FmXref ≡ true) (sym is) (outputs terms.samples terms.rule terms.last terms.stages are.stages insured)

  pub loads_stage : terms.last ≡ Ri → (stage : ℕ) → 1 ≤ stage → stage ≤ terms.stages → is_loaded need stage table.FmProgramme ≡ true
  loads_stage net stage some most =
      subst (λ (one : Need). is_loaded one stage table.FmProgramme ≡ true) (sym is)
      (subst (λ (last : Perspective). is_loaded (need_up_to terms.samples terms.rule last terms.stages) stage table.FmProgramme ≡ true) (sym net) (stage_programme terms.samples terms.rule terms.stages are.stages stage some most))

  -- where the last perspective is one of outputs, there are insured losses
  pub insured_last : (terms.last ≡ Il) ⊎ (terms.last ≡ Ri) → has_insured terms.last ≡ true
  insured_last (inl il) = ap has_insured il
  insured_last (inr ri) = ap has_insured ri
