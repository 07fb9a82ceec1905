-- The tools of a run in parts need no more of the tables than the run of all stages.
-- The rules: docs/COMMANDS.md, docs/REFUSALS.md, "Order".
use Rattle.std.specs.Prelude.{◌≡◌, ◌≤◌, ◌<◌, ◌==◌, ℕ, zero, suc, nat_eq, Bool, true, false, cond, refl, List, [], ◌∷◌, length, Option, Some, Ok, IfSome, if◌then◌else◌}
use Rattle.std.specs.List.{AllByRecursion}
use Rattle.std.proofs.Common.{sym, subst, ap, ◌∙◌, arith, inl, inr}
use Rattle.std.proofs.lemmas.Bool.{cases_eq, ne_eqb}
use Rattle.std.proofs.lemmas.List.{get_or-set_same, length-set}
use Rattle.kt_event.specs.Needs.{chain_need, chain_tables, insured_tables, programme_tables as stage_tables, with_stages, with_tables}
use Rattle.kt_block.specs.Terms.{AreTerms, has_insured, has_net}
use Rattle.kt_block.specs.declared.terms.Terms.{Terms}
use Rattle.kt_keys.specs.Refusals.{is_loaded}
use Rattle.kt_keys.specs.declared.need.Need.{Need}
use Rattle.kt_load.specs.FileNames.{table_at}
use Rattle.kt_load.specs.Loaded.{loaded}
use Rattle.kt_out.specs.NamedFiles.{FileMap}
use Rattle.kt_rec.specs.Rows.{Rows}
use Rattle.kt_rec.specs.TableSet.{is_in, no_tables, place_of, with_table}
use Rattle.kt_rec.specs.declared.perspective.Perspective.{Perspective}
use Rattle.kt_rec.specs.declared.perspective.Perspective.TheVariants.{Gul, Il, Ri}
use Rattle.kt_rec.specs.declared.table.Table.{Table}
use Rattle.kt_rec.specs.declared.table.Table.TheVariants as table
use Rattle.kt_rec.specs.declared.table.TableId.{TableId}
use Rattle.kt_rec.specs.declared.table_set.TableSet.{TableSet}
use Rattle.kt_subset.specs.Loading.{LoadsSame, loads_within}
use Rattle.kt_subset.specs.Within.{AreAmong, IsWithin, among_more, none_among, one_more_among}
use Rattle.kt_split.specs.RunRows.{NeedsTree}
use Rattle.kt_tools.specs.Needs.{base_tables, command_need, need_of, programme_tables, summary_tables}
use Rattle.kt_words.specs.declared.command.Command.{Command}
use Rattle.kt_words.specs.declared.command.Command.TheVariants.{Fmcalc, FmcalcNet, Summarycalc, Pltcalc, Aalcalc, Leccalc, Eve, Getmodel, Gulcalc}

-- Which commands that need tables are those of a run in parts, by the terms of the run of all stages: its samples; where it has insured
-- losses an allocation rule that is 0 where its own is; and the stages that it has.
abbrev pub IsOfRun : Terms → Command → Type 0
IsOfRun terms (Eve part parts) = Unit {0}
IsOfRun terms Getmodel = Unit {0}
IsOfRun terms (Gulcalc samples cut) = samples ≡ terms.samples
IsOfRun terms (Fmcalc rule) = (has_insured terms.last ≡ true) × (nat_eq rule 0 ≡ nat_eq terms.rule 0)
IsOfRun terms (FmcalcNet rule stage) = (terms.last ≡ Ri) × (1 ≤ stage) × (stage ≤ terms.stages)
IsOfRun terms (Summarycalc true set rule) = Unit {0}
IsOfRun terms (Summarycalc false set rule) = (has_insured terms.last ≡ true) × (nat_eq rule 0 ≡ nat_eq terms.rule 0)
IsOfRun terms (Pltcalc heading) = Unit {0}
IsOfRun terms Aalcalc = Unit {0}
IsOfRun terms (Leccalc curve) = Unit {0}
IsOfRun terms command = ⊥

-- ---- sets of tables

-- each of these tables is in a set
abbrev HasAll : TableSet → ℕ → List Table → Type 0
HasAll set stage tables = AllByRecursion (λ t. is_in set (table_at stage t) ≡ true) tables

-- what is made of tables that are there is among them
built_among : (all some : TableSet) (stage : ℕ) (tables : List Table) → AreAmong some all → HasAll all stage tables → AreAmong (with_tables some stage tables) all
built_among all some stage [] are has = are
built_among all some stage (one ∷ tables) are has = built_among all (with_table some (table_at stage one)) stage tables (one_more_among some all (table_at stage one) are has.0) has.1

-- a set is among itself with more tables
among_tables : (set : TableSet) (stage : ℕ) (tables : List Table) → AreAmong set (with_tables set stage tables)
among_tables set stage [] id is = is
among_tables set stage (one ∷ tables) id is = among_tables (with_table set (table_at stage one)) stage tables id (among_more set (table_at stage one) id is)

among_stages : (set : TableSet) (stages : ℕ) → AreAmong set (with_stages set stages)
among_stages set zero id is = is
among_stages set (suc stages) id is = among_tables (with_stages set stages) (suc stages) stage_tables id (among_stages set stages id is)

-- the tables of ground-up losses are among those of each run, and those of insured losses among those of a run that has them
ground_up_among : (last : Perspective) (stages : ℕ) → AreAmong (chain_tables Gul 0) (chain_tables last stages)
ground_up_among Gul stages id is = is
ground_up_among Il stages id is = among_tables (chain_tables Gul 0) 0 insured_tables id is
ground_up_among Ri stages id is = among_stages (chain_tables Il 0) stages id (among_tables (chain_tables Gul 0) 0 insured_tables id is)

insured_among : (last : Perspective) (stages : ℕ) → has_insured last ≡ true → AreAmong (chain_tables Il 0) (chain_tables last stages)
insured_among Gul stages insured = cc
insured_among Il stages insured = λ id is. is
insured_among Ri stages insured = among_stages (chain_tables Il 0) stages

-- tables that are there stay there among more
all_among : (some all : TableSet) (stage : ℕ) (tables : List Table) → AreAmong some all → HasAll some stage tables → HasAll all stage tables
all_among some all stage [] are has = tt
all_among some all stage (one ∷ tables) are has = (are (table_at stage one) has.0, all_among some all stage tables are has.1)

-- ---- a stage

-- the places of a set
abbrev places : TableSet → ℕ
places set = length set.present

same_places : (set : TableSet) (stage : ℕ) (tables : List Table) → places (with_tables set stage tables) ≡ places set
same_places set stage [] = refl
same_places set stage (one ∷ tables) = same_places (with_table set (table_at stage one)) stage tables ∙ length-set set.present (place_of (table_at stage one)) true

places_of_stages : (set : TableSet) (stages : ℕ) → places (with_stages set stages) ≡ places set
places_of_stages set zero = refl
places_of_stages set (suc stages) = same_places (with_stages set stages) (suc stages) stage_tables ∙ places_of_stages set stages

-- a table that is put in is there
put_in : (set : TableSet) (id : TableId) → place_of id < places set → is_in (with_table set id) id ≡ true
put_in set id below = get_or-set_same set.present (place_of id) true false below

-- the tables of a stage, where they are put in
stage_put_in : (set : TableSet) (stage : ℕ) → places set ≡ 160 → stage ≤ 9 → HasAll (with_tables set stage stage_tables) stage stage_tables
stage_put_in set stage full few =
    let first : TableSet = with_table set (table_at stage table.FmProgramme) in
    let second : TableSet = with_table first (table_at stage table.FmPolicytc) in
    let of_first : places first ≡ 160 = same_places set stage (table.FmProgramme ∷ []) ∙ full in
    let of_second : places second ≡ 160 = same_places set stage (table.FmProgramme ∷ table.FmPolicytc ∷ []) ∙ full in (
      among_tables first stage (table.FmPolicytc ∷ table.FmProfile ∷ []) (table_at stage table.FmProgramme) (put_in set (table_at stage table.FmProgramme) (omega (arith, full, few))),
      (
        among_tables second stage (table.FmProfile ∷ []) (table_at stage table.FmPolicytc) (put_in first (table_at stage table.FmPolicytc) (omega (arith, of_first, few))),
        (put_in second (table_at stage table.FmProfile) (omega (arith, of_second, few)), tt),
      ),
    )

-- the tables of each stage of a run
stage_has : (set : TableSet) (stages stage : ℕ) → places set ≡ 160 → stages ≤ 9 → 1 ≤ stage → stage ≤ stages → HasAll (with_stages set stages) stage stage_tables
stage_has set zero stage full few some most = absurd (omega arith)
stage_has set (suc stages) stage full few some most =
    elim (cases_eq stage (suc stages)) [
      | inl same ↦ subst (λ (n : ℕ). HasAll (with_stages set (suc stages)) n stage_tables) (sym same) (stage_put_in (with_stages set stages) (suc stages) (places_of_stages set stages ∙ full) few)
      | inr other ↦ all_among (with_stages set stages) (with_stages set (suc stages)) stage stage_tables (among_tables (with_stages set stages) (suc stages) stage_tables) (stage_has set stages stage full (omega arith) some (omega arith))
    ]

-- the tables of a stage's command: its programme with terms and profiles, the exposure and the outputs
pub stage_needs : (rule stage : ℕ) → stage ≤ 9 → NeedsTree (need_of (programme_tables stage) rule) stage
unfolding is_loaded
stage_needs rule stage few =
    let base : TableSet = base_tables (table.Items ∷ table.Coverages ∷ table.FmXref ∷ []) in
    let has = stage_put_in base stage refl few in
    record {
      programme = has.0;
      policytc = has.1.0;
      profile = has.1.1.0;
      items = among_tables base stage stage_tables (table_at 0 table.Items) refl;
      coverages = among_tables base stage stage_tables (table_at 0 table.Coverages) refl;
      outputs = among_tables base stage stage_tables (table_at 0 table.FmXref) refl;
    }

-- ---- what each tool needs

module _ (terms : Terms) where
  -- net losses are summed no more often
  once : (net : Bool) → 1 ≤ cond net 2 1
  once true = omega arith
  once false = omega arith

  -- these tables of the base, without samples, where the outputs are not needed
  base_within : (tables : List Table) (rule : ℕ) → is_in (base_tables tables) (table_at 0 table.FmXref) ≡ false → HasAll (chain_tables Gul 0) 0 tables → IsWithin (need_of (base_tables tables) rule) (chain_need terms)
  unfolding is_loaded
  base_within tables rule none has = record {
    tables = λ id is. ground_up_among terms.last terms.stages id (built_among (chain_tables Gul 0) no_tables 0 tables (none_among (chain_tables Gul 0)) has id is);
    samples = inl refl;
    rule = λ is. let e : true ≡ false = sym is ∙ none in cc;
    net = once (has_net terms.last);
  }

  -- these tables of a run with insured losses, by a rule for the same owners of outputs
  insured_within : (tables : TableSet) (rule : ℕ) → nat_eq rule 0 ≡ nat_eq terms.rule 0 → AreAmong tables (chain_tables terms.last terms.stages) → IsWithin (need_of tables rule) (chain_need terms)
  insured_within tables rule same among = record { tables = among; samples = inl refl; rule = λ is. same; net = once (has_net terms.last) }

  -- the tables of the sampling, for the samples of the run
  sampling_within : (samples : ℕ) (tables : List Table) → samples ≡ terms.samples → is_in (base_tables tables) (table_at 0 table.FmXref) ≡ false → HasAll (chain_tables Gul 0) 0 tables → IsWithin (record { loaded = base_tables tables; samples = samples; rule = 0; net = false }) (chain_need terms)
  unfolding is_loaded
  sampling_within samples tables same none has = record {
    tables = λ id is. ground_up_among terms.last terms.stages id (built_among (chain_tables Gul 0) no_tables 0 tables (none_among (chain_tables Gul 0)) has id is);
    samples = inr same;
    rule = λ is. let e : true ≡ false = sym is ∙ none in cc;
    net = once (has_net terms.last);
  }

  -- the programme of a stage
  stage_among : (stage : ℕ) → terms.last ≡ Ri → terms.stages ≤ 9 → 1 ≤ stage → stage ≤ terms.stages → AreAmong (programme_tables stage) (chain_tables terms.last terms.stages)
  stage_among stage net few some most =
      subst (λ (last : Perspective). AreAmong (programme_tables stage) (chain_tables last terms.stages)) (sym net)
      (built_among (chain_tables Ri terms.stages) (base_tables (table.Items ∷ table.Coverages ∷ table.FmXref ∷ [])) stage stage_tables
      (built_among (chain_tables Ri terms.stages) no_tables 0 (table.Items ∷ table.Coverages ∷ table.FmXref ∷ []) (none_among (chain_tables Ri terms.stages)) (all_among (chain_tables Il 0) (chain_tables Ri terms.stages) 0 (table.Items ∷ table.Coverages ∷ table.FmXref ∷ []) (among_stages (chain_tables Il 0) terms.stages) (refl, (refl, (refl, tt)))))
      (stage_has (chain_tables Il 0) terms.stages stage refl few some most))

  -- the rule of a stage is that of items, as the run's is
  stage_rule : AreTerms terms → terms.last ≡ Ri → (rule stage : ℕ) → 1 ≤ stage → nat_eq (if stage == 0 then rule else 2) 0 ≡ nat_eq terms.rule 0
  stage_rule are net rule stage some =
      ap (λ (base : Bool). nat_eq (if base then rule else 2) 0) (ne_eqb stage 0 (λ none. omega (arith, none, some)))
      ∙ sym (ne_eqb terms.rule 0 (are.of_items (ap has_net net)))

  -- each tool
  pub each_within : AreTerms terms → (command : Command) → IsOfRun terms command → IfSome (command_need command) (λ need. IsWithin need (chain_need terms))
  each_within are (Eve part parts) is = base_within (table.Events ∷ []) 0 refl (refl, tt)
  each_within are Getmodel is = base_within (table.Items ∷ table.Footprint ∷ table.FootprintIdx ∷ table.Vulnerability ∷ table.DamageBinDict ∷ []) 0 refl (refl, (refl, (refl, (refl, (refl, tt)))))
  each_within are (Gulcalc samples cut) is = sampling_within samples (table.Items ∷ table.Coverages ∷ table.DamageBinDict ∷ table.Random ∷ []) is refl (refl, (refl, (refl, (refl, tt))))
  each_within are (Fmcalc rule) is =
      insured_within (programme_tables 0) rule is.1
      (λ id in_it. insured_among terms.last terms.stages is.0 id
      (built_among (chain_tables Il 0) (base_tables (table.Items ∷ table.Coverages ∷ table.FmXref ∷ [])) 0 stage_tables (built_among (chain_tables Il 0) no_tables 0 (table.Items ∷ table.Coverages ∷ table.FmXref ∷ []) (none_among (chain_tables Il 0)) (refl, (refl, (refl, tt)))) (refl, (refl, (refl, tt))) id in_it))
  each_within are (FmcalcNet rule stage) is = insured_within (programme_tables stage) (if stage == 0 then rule else 2) (stage_rule are is.0 rule stage is.1) (stage_among stage is.0 are.stages is.1 is.2)
  each_within are (Summarycalc true set rule) is = base_within (table.Items ∷ table.Coverages ∷ table.GulSummaryXref ∷ []) rule refl (refl, (refl, (refl, tt)))
  each_within are (Summarycalc false set rule) is =
      insured_within (summary_tables false) rule is.1
      (λ id in_it. insured_among terms.last terms.stages is.0 id (built_among (chain_tables Il 0) no_tables 0 (table.Items ∷ table.Coverages ∷ table.FmProgramme ∷ table.FmXref ∷ table.FmSummaryXref ∷ []) (none_among (chain_tables Il 0)) (refl, (refl, (refl, (refl, (refl, tt))))) id in_it))
  each_within are (Pltcalc heading) is = base_within (table.Occurrence ∷ []) 0 refl (refl, tt)
  each_within are Aalcalc is = base_within (table.Occurrence ∷ []) 0 refl (refl, tt)
  each_within are (Leccalc curve) is = base_within (table.Occurrence ∷ table.ReturnPeriods ∷ []) 0 refl (refl, (refl, tt))
  each_within are command is = absurd is

-- so each tool's tables load where the run's do, with the same rows
pub each_loads : (files : FileMap) (terms : Terms) (rows : Rows) → AreTerms terms → loaded files (chain_need terms) ≡ Ok rows → (command : Command) (need : Need) → IsOfRun terms command → command_need command ≡ Some need → LoadsSame files need rows
each_loads files terms rows are is command need of needs =
    loads_within files need (chain_need terms) rows (subst (λ (one : Option Need). IfSome one (λ x. IsWithin x (chain_need terms))) needs (each_within terms are command of)) is
