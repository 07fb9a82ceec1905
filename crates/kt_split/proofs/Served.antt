-- The premises of a split run from a run of all stages that is done: each tool loads its tables, finds in them what that run has, and no
-- event's footprint rows are refused.
use Rattle.std.proofs.Common.{◌≡◌, ◌≤◌, ℕ, Bool, true, false, ◌==◌, List, [], ◌∷◌, length, filter, None, Some, Ok, refl, sym, ap, ◌∙◌, subst, nat_eq, arith, ne_eqb, if◌then◌else◌}
use Rattle.std.specs.List.{AllByRecursion}
use Rattle.kt_chain.specs.DoneLaws.{refuses_nothing}
use Rattle.kt_chain.specs.Events.{run_input}
use Rattle.kt_chain.specs.Outcome.{chain_outcome}
use Rattle.kt_checks.specs.Checks.{samples_refusal}
use Rattle.kt_ends.specs.declared.status.Status.TheVariants.{Done}
use Rattle.kt_event.specs.Needs.{chain_need}
use Rattle.kt_event.specs.Terms.{AreTerms}
use Rattle.kt_event.specs.declared.terms.Terms.{Terms}
use Rattle.kt_keys.specs.Refusals.{is_loaded}
use Rattle.kt_keys.specs.declared.need.Need.{Need}
use Rattle.kt_load.specs.EventRows.{event_rows}
use Rattle.kt_load.specs.Loaded.{loaded}
use Rattle.kt_losses.specs.Judged.{is_known}
use Rattle.kt_model.specs.Distribution.{distributions_of}
use Rattle.kt_out.specs.NamedFiles.{FileMap}
use Rattle.kt_rec.specs.Rows.{Rows}
use Rattle.kt_rec.specs.declared.curve.Curve.{Curve}
use Rattle.kt_rec.specs.declared.hazard.FootRow.{FootRow}
use Rattle.kt_rec.specs.declared.periods.Occurrence.{Occurrence}
use Rattle.kt_rec.specs.declared.table.Table.TheVariants as table
use Rattle.kt_stream.specs.declared.entry.Cdf.{Cdf}
use Rattle.kt_subset.specs.Loading.{LoadsSame, keeps_samples}
use Rattle.kt_subset.specs.SameRows.{HasSame, same_base}
use Rattle.kt_subset.specs.Within.{IsWithin}
use Rattle.kt_words.specs.declared.command.Command.{Command}
use Rattle.kt_words.specs.declared.command.Command.TheVariants.{Aalcalc, Eve, Fmcalc, FmcalcNet, Getmodel, Gulcalc, Leccalc, Pltcalc, Summarycalc}
use Rattle.kt_split.specs.ByEvents.{losses_of_cdfs}
use Rattle.kt_tools.specs.Needs.{base_need, base_tables, command_need, need_of, programme_tables, summary_tables}
use Rattle.kt_split.specs.RunNeeds.{IsOfRun, each_loads, each_within, stage_needs}
use Rattle.kt_split.specs.RunRows.{averages_same, curves_same, distributions_same, events_same, foot_same, ground_up_same, insured_same, item_summaries_same, items_known, net_same, output_summaries_same, outputs_known}
use Rattle.kt_split.specs.SplitRuns.{EachFits, IsServed, IsSplitRun, Serves, footprint_of}

module _ (files : FileMap) (terms : Terms) (rows : Rows) (are : AreTerms terms) (loads : loaded files (chain_need terms) ≡ Ok rows) where
  abbrev foot : List ℕ
  foot = footprint_of files

  -- what a command loads
  abbrev loaded_by : (command : Command) (need : Need) → IsOfRun terms command → command_need command ≡ Some need → LoadsSame files need rows
  loaded_by command need of needs = each_loads files terms rows are loads command need of needs

  unrefused : (need : Need) → IsWithin need (chain_need terms) → (own : Rows) → HasSame need own rows → samples_refusal own need terms.samples ≡ None
  unrefused need within own same = (keeps_samples files need (chain_need terms) rows within loads are.some own same).none

  gul_same : (own : Rows) (need : Need) → HasSame need own rows → is_loaded need 0 table.Items ≡ true → is_loaded need 0 table.Coverages ≡ true → is_loaded need 0 table.DamageBinDict ≡ true → is_loaded need 0 table.Random ≡ true → (samples : ℕ) (cut : Bool) (cdfs : List Cdf)
      → losses_of_cdfs own samples cut cdfs ≡ losses_of_cdfs rows samples cut cdfs
  gul_same own need same items coverages bins random samples cut [] = refl
  gul_same own need same items coverages bins random samples cut (first ∷ later) = ground_up_same need own rows same items coverages bins random samples cut first.event (first ∷ later)

  -- each command of a run
  abbrev Served : Command → Type 0
  Served command = IsServed files terms.samples foot rows command

  -- a command that loads so is served
  served_with : (command : Command) (need : Need) → command_need command ≡ Some need → IsOfRun terms command → ((own : Rows) → HasSame need own rows → Serves terms.samples foot rows command own need) → Served command
  served_with command need needs of says =
      let found = loaded_by command need of needs in
      record { needed = need; is = needs; own = found.own; loads = found.loads; says = says found.own found.same }

  -- ---- each tool

  served_eve : (part parts : ℕ) → Served (Eve part parts)
  unfolding is_loaded
  served_eve part parts = served_with (Eve part parts) (base_need (table.Events ∷ [])) refl tt (λ own same. events_same (base_need (table.Events ∷ [])) own rows same refl)

  abbrev model_need : Need
  model_need = base_need (table.Items ∷ table.Footprint ∷ table.FootprintIdx ∷ table.Vulnerability ∷ table.DamageBinDict ∷ [])

  served_model : Served Getmodel
  unfolding is_loaded
  served_model = served_with Getmodel model_need refl tt (λ own same event. (
    foot_same model_need own rows same refl foot event,
    distributions_same model_need own rows same refl refl refl event (event_rows own foot event) ∙ ap (λ (list : List FootRow). distributions_of rows event list) (foot_same model_need own rows same refl foot event),
  ))

  abbrev sampling_need : ℕ → Need
  sampling_need samples = record { loaded = base_tables (table.Items ∷ table.Coverages ∷ table.DamageBinDict ∷ table.Random ∷ []); samples = samples; rule = 0; net = false }

  served_gul : (samples : ℕ) (cut : Bool) → samples ≡ terms.samples → Served (Gulcalc samples cut)
  unfolding is_loaded
  served_gul samples cut of =
      served_with (Gulcalc samples cut) (sampling_need samples) refl of (λ own same. (ap length (same_base (sampling_need samples) own rows same table.DamageBinDict refl), gul_same own (sampling_need samples) same refl refl refl refl samples cut))

  served_insured : (rule : ℕ) → IsOfRun terms (Fmcalc rule) → Served (Fmcalc rule)
  served_insured rule of =
      let need = need_of (programme_tables 0) rule in
      let needs = stage_needs rule 0 (omega arith) in
      served_with (Fmcalc rule) need refl of (λ own same. (
        unrefused need (each_within terms are (Fmcalc rule) of) own same,
        items_known need own rows same needs.items,
        insured_same need own rows same needs rule terms.samples,
      ))

  abbrev stage_need : ℕ → ℕ → Need
  stage_need rule stage = need_of (programme_tables stage) (if stage == 0 then rule else 2)

  served_net : (rule stage : ℕ) → IsOfRun terms (FmcalcNet rule stage) → Served (FmcalcNet rule stage)
  served_net rule stage of =
      let few : stage ≤ 9 = omega (arith, of.2, are.stages) in
      let need = stage_need rule stage in
      let needs = stage_needs (if stage == 0 then rule else 2) stage few in
      let some = ne_eqb stage 0 (λ none. omega (arith, none, of.1)) in
      served_with (FmcalcNet rule stage) need refl of (λ own same. (
        unrefused need (each_within terms are (FmcalcNet rule stage) of) own same,
        (λ id. subst (λ (items : Bool). is_known items own id ≡ is_known items rows id) (sym some) (outputs_known need own rows same needs.outputs id)),
        net_same need own rows same stage (omega (arith, few)) needs rule terms.samples,
      ))

  served_summaries : (items : Bool) (set rule : ℕ) → IsOfRun terms (Summarycalc items set rule) → Served (Summarycalc items set rule)
  unfolding is_loaded
  served_summaries true set rule of =
      let need = need_of (summary_tables true) rule in
      served_with (Summarycalc true set rule) need refl of (λ own same.
      (unrefused need (each_within terms are (Summarycalc true set rule) of) own same, items_known need own rows same refl, item_summaries_same need own rows same refl refl refl rule set))
  served_summaries false set rule of =
      let need = need_of (summary_tables false) rule in
      served_with (Summarycalc false set rule) need refl of (λ own same.
      (unrefused need (each_within terms are (Summarycalc false set rule) of) own same, outputs_known need own rows same refl, output_summaries_same need own rows same refl refl refl refl refl rule set))

  pub served_losses : (heading : Bool) → Served (Pltcalc heading)
  unfolding is_loaded
  served_losses heading =
      served_with (Pltcalc heading) (base_need (table.Occurrence ∷ [])) refl tt (λ own same event. ap (λ (part : List Occurrence × ℕ). filter (λ (row : Occurrence). nat_eq row.event_id event) part.0) (same_base (base_need (table.Occurrence ∷ [])) own rows same table.Occurrence refl))

  pub served_averages : Served Aalcalc
  unfolding is_loaded
  served_averages = let need = base_need (table.Occurrence ∷ []) in served_with Aalcalc need refl tt (λ own same. averages_same need own rows same refl)

  pub served_curves : (curve : Curve) → Served (Leccalc curve)
  unfolding is_loaded
  served_curves curve = let need = base_need (table.Occurrence ∷ table.ReturnPeriods ∷ []) in served_with (Leccalc curve) need refl tt (λ own same. curves_same need own rows same refl refl curve)

  pub served : (command : Command) → IsOfRun terms command → Served command
  served (Eve part parts) of = served_eve part parts
  served Getmodel of = served_model
  served (Gulcalc samples cut) of = served_gul samples cut of
  served (Fmcalc rule) of = served_insured rule of
  served (FmcalcNet rule stage) of = served_net rule stage of
  served (Summarycalc items set rule) of = served_summaries items set rule of
  served (Pltcalc heading) of = served_losses heading
  served Aalcalc of = served_averages
  served (Leccalc curve) of = served_curves curve
  served command of = absurd of

  all_served : (stages : List Command) → AllByRecursion (IsOfRun terms) stages → AllByRecursion Served stages
  all_served [] of = tt
  all_served (command ∷ later) of = (served command of.0, all_served later of.1)

  -- a run of all stages that is done gives the premises of each split run by stages of its own
  pub split_run : (stages : List Command) → (chain_outcome (run_input terms rows files)).status ≡ Done → AllByRecursion (IsOfRun terms) stages → EachFits files stages → IsSplitRun files terms.samples rows stages
  split_run stages done of fits = record {
    unrefused = (refuses_nothing (run_input terms rows files) done).rows;
    parts = λ p n. served_eve p n;
    served = all_served stages of;
    fits = fits;
  }
