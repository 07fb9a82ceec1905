-- A split run behind the ground-up losses: insured losses, net losses stage by stage, and summaries.
use Rattle.std.proofs.Common.{◌≡◌, ◌≤◌, ℕ, zero, suc, ◌≢◌, ℤ, Bool, true, false, ◌==◌, List, [], ◌∷◌, ◌++◌, map, All, append-nil, append_assoc, refl, sym, ap, subst, nat_eq, arith}
use Rattle.std.specs.List.{AllByRecursion, IsDistinct}
use Rattle.std.specs.List.Sorted.{IsStrictlyIncreasing}
use Rattle.std.proofs.lemmas.List.Elements.{All-from_recursion, recursion_from_All}
use Rattle.kt_eve.specs.Laws.{PartsMakeTheEvents}
use Rattle.kt_alloc.specs.Insured.{insured_records}
use Rattle.kt_kat.specs.StreamsJoined.{kat_joins, losses_join, summaries_join}
use Rattle.kt_losses.specs.Judged.{is_known, losses_kind}
use Rattle.kt_losses.specs.Tables.{perspective_of}
use Rattle.kt_loop.specs.EventStreams.{stream_bytes}
use Rattle.kt_loop.specs.ListLaws.{all_by}
use Rattle.kt_out.specs.NamedFiles.{FileMap}
use Rattle.kt_rec.specs.Rows.{Rows}
use Rattle.kt_rec.specs.declared.perspective.Perspective.{Perspective}
use Rattle.kt_rec.specs.declared.perspective.Perspective.TheVariants.{Gul as GulLosses, Il, Ri}
use Rattle.kt_ri.specs.Reinsurance.{net_records, reinsured}
use Rattle.kt_runs.specs.RunLosses.{AreWithin, run_loss}
use Rattle.kt_stream.specs.Losses.{IsLoss, loss_form, loss_shape}
use Rattle.kt_stream.specs.Summary.{IsSummary, summary_form, summary_shape}
use Rattle.kt_stream.specs.declared.entry.LossRecord.{LossRecord}
use Rattle.kt_stream.specs.declared.entry.SummaryRecord.{SummaryRecord}
use Rattle.kt_stream.specs.declared.kind.Head.{Head}
use Rattle.kt_stream.specs.declared.kind.StreamKind.TheVariants.{Gul, Loss}
use Rattle.kt_sum.specs.Summaries.{run_summaries}
use Rattle.kt_tables.specs.Lookups.{event_ids}
use Rattle.kt_fmtree.specs.Programme.{tree_of}
use Rattle.kt_words.specs.declared.command.Command.{Command}
use Rattle.kt_words.specs.declared.command.Command.TheVariants.{Eve, Fmcalc, FmcalcNet, Summarycalc}
use Rattle.kt_split.proofs.RunsOfEvents.{losses_run}
use Rattle.kt_split.proofs.SplitStages.{StandsAt, WholeFits, insured_one, net_one, next_stands, stands_join, summary_one}
use Rattle.kt_split.specs.ByEvents.{IsLossRun}
use Rattle.kt_front.specs.GulOutcome.{gul_head}
use Rattle.kt_split.specs.SplitFacts.{InsuredFacts, NetFacts, ReadsAll, SummaryFacts, good_loss, good_summary}
use Rattle.kt_split.specs.SplitRuns.{IsServed, JoinsParts}

by_perspective : (rows : Rows) → SummaryFacts rows 1 → (perspective : Perspective) (set samples : ℕ) (records : List LossRecord) → AreWithin records → All (IsLoss samples) records → All (IsSummary samples) (run_summaries perspective rows 2 set records)
by_perspective rows facts GulLosses = facts.good GulLosses
by_perspective rows facts Il = facts.good Il
by_perspective rows facts Ri = facts.good Ri

-- by rules 1 and 2 the exposures of summaries are the same
pub summary_facts_net : (rows : Rows) (rule : ℕ) → rule ≤ 2 → rule ≢ 0 → SummaryFacts rows rule → SummaryFacts rows 2
summary_facts_net rows zero few some facts = absurd (some refl)
summary_facts_net rows (suc zero) few some facts = record { good = by_perspective rows facts }
summary_facts_net rows (suc (suc zero)) few some facts = facts
summary_facts_net rows (suc (suc (suc more))) few some facts = absurd (omega (arith, few))

-- losses of an event that a tool over losses takes and that a stream may have
pub record IsTakenRun (items : Bool) (rows : Rows) (samples event : ℕ) (records : List LossRecord) : Type 0 where
  pub run : IsLossRun items rows event records
  pub each : All (IsLoss samples) records
  pub events : All (λ (entry : LossRecord). entry.event ≡ event) records
  pub rising : IsStrictlyIncreasing (map (λ (entry : LossRecord). entry.id) records)
  pub known : All (λ (entry : LossRecord). is_known items rows entry.id ≡ true) records

taken_run : (items : Bool) (rows : Rows) (samples event : ℕ) (records : List LossRecord) → All (IsLoss samples) records → All (λ (entry : LossRecord). entry.event ≡ event) records
    → IsStrictlyIncreasing (map (λ (entry : LossRecord). entry.id) records) → All (λ (entry : LossRecord). is_known items rows entry.id ≡ true) records → AreWithin records → IsTakenRun items rows samples event records
taken_run items rows samples event records each events rising known within = record {
  run = record { run = losses_run event records events rising; known = recursion_from_All (λ (entry : LossRecord). is_known items rows entry.id ≡ true) records known; within = within };
  each = each;
  events = events;
  rising = rising;
  known = known;
}

module _ (files : FileMap) (samples : ℕ) (footprint : List ℕ) (rows : Rows) (few_samples : (1 ≤ samples) × (samples ≤ 1000)) (reads : ReadsAll) (together : PartsMakeTheEvents) (eve : (p n : ℕ) → IsServed files samples footprint rows (Eve p n)) (distinct : IsDistinct nat_eq (event_ids rows)) where
  abbrev events_of : List ℕ
  events_of = event_ids rows

  -- how far a split run is with losses
  pub record LossesAt (items : Bool) (stages : List Command) (of : ℕ → List LossRecord) : Type 0 where
    pub stands : StandsAt files stages loss_form good_loss (loss_shape (losses_kind items)) (gul_head samples) of events_of
    pub runs : AllByRecursion (λ (event : ℕ). IsTakenRun items rows samples event (of event)) events_of

  runs_of : (items : Bool) (of : ℕ → List LossRecord) → AllByRecursion (λ (event : ℕ). IsTakenRun items rows samples event (of event)) events_of → AllByRecursion (λ (event : ℕ). IsLossRun items rows event (of event)) events_of
  runs_of items of runs = all_by (λ (event : ℕ). IsTakenRun items rows samples event (of event)) (λ (event : ℕ). IsLossRun items rows event (of event)) (λ event is. is.run) events_of runs

  each_of : (items : Bool) (of : ℕ → List LossRecord) → AllByRecursion (λ (event : ℕ). IsTakenRun items rows samples event (of event)) events_of → AllByRecursion (λ (event : ℕ). AllByRecursion (IsLoss samples) (of event)) events_of
  each_of items of runs = all_by (λ (event : ℕ). IsTakenRun items rows samples event (of event)) (λ (event : ℕ). AllByRecursion (IsLoss samples) (of event)) (λ event is. recursion_from_All (IsLoss samples) (of event) is.each) events_of runs

  -- ---- insured losses

  module _ (rule : ℕ) (insured : InsuredFacts rows rule) where
    abbrev pub insured_of : (ℕ → List LossRecord) → ℕ → List LossRecord
    insured_of of event = insured_records (tree_of rows 0) rule samples rows.fm_xref (of event)

    -- there are none without losses: they would be of no event
    none_of_none : insured_records (tree_of rows 0) rule samples rows.fm_xref [] ≡ []
    none_of_none =
        empty (insured_records (tree_of rows 0) rule samples rows.fm_xref [])
        (recursion_from_All (IsLoss samples) (insured_records (tree_of rows 0) rule samples rows.fm_xref []) (insured.good samples [] (All-from_recursion (IsLoss samples) [] tt) (λ sidx. omega arith)))
        (recursion_from_All (λ (entry : LossRecord). entry.event ≡ 0) (insured_records (tree_of rows 0) rule samples rows.fm_xref []) (insured.event samples []))
      where
        empty : (records : List LossRecord) → AllByRecursion (IsLoss samples) records → AllByRecursion (λ (entry : LossRecord). entry.event ≡ 0) records → records ≡ []
        empty [] each events = refl
        empty (entry ∷ later) each events = let some = each.0.event.0 in let none = events.0 in absurd (omega (arith, some, none))

    insured_event : (event : ℕ) (records : List LossRecord) → All (IsLoss samples) records → AreWithin records → ((sidx : ℤ) → run_loss sidx records ≤ 200000000000000) → All (λ (entry : LossRecord). entry.event ≡ event) records
        → IsTakenRun false rows samples event (insured_records (tree_of rows 0) rule samples rows.fm_xref records)
    insured_event event [] each within small events =
        subst (IsTakenRun false rows samples event) (sym none_of_none)
        (taken_run false rows samples event [] (All-from_recursion (IsLoss samples) [] tt) (All-from_recursion (λ (entry : LossRecord). entry.event ≡ event) [] tt) (λ k few. absurd (omega (arith, few))) (All-from_recursion (λ (entry : LossRecord). is_known false rows entry.id ≡ true) [] tt) (λ sidx. omega arith))
    insured_event event (first ∷ later) each within small events =
        let records = first ∷ later in
        let made = insured_records (tree_of rows 0) rule samples rows.fm_xref records in
        taken_run false rows samples event made (insured.good samples records each within)
        (subst (λ (id : ℕ). All (λ (entry : LossRecord). entry.event ≡ id) made) (recursion_from_All (λ (entry : LossRecord). entry.event ≡ event) records events).0 (insured.event samples records))
        (insured.rising samples records) (insured.known samples records) (insured.within samples records small)

    pub insured_stand : (front : List Command) (of : ℕ → List LossRecord) → LossesAt true front of → AllByRecursion (λ (event : ℕ). (sidx : ℤ) → run_loss sidx (of event) ≤ 200000000000000) events_of → IsServed files samples footprint rows (Fmcalc rule)
        → WholeFits files (front ++ Fmcalc rule ∷ []) → LossesAt false (front ++ Fmcalc rule ∷ []) (insured_of of)
    insured_stand front of before small served within =
        let runs = each events_of before.runs small in
        record {
          stands = next_stands files samples footprint rows reads together eve front (Fmcalc rule) (stream_bytes loss_form (loss_shape Gul) (gul_head samples) of) loss_form good_loss (loss_shape Loss) (gul_head samples) (insured_of of) before.stands.makes
              (insured_one files samples footprint rows reads together eve rule of served none_of_none distinct before.stands.fits (runs_of true of before.runs))
              (few_samples.0, few_samples.1, refl) (each_of false (insured_of of) runs) within;
          runs = runs;
        }
      where
        each : (events : List ℕ) → AllByRecursion (λ (event : ℕ). IsTakenRun true rows samples event (of event)) events → AllByRecursion (λ (event : ℕ). (sidx : ℤ) → run_loss sidx (of event) ≤ 200000000000000) events → AllByRecursion (λ (event : ℕ). IsTakenRun false rows samples event (insured_of of event)) events
        each [] are few = tt
        each (event ∷ later) are few = (insured_event event (of event) are.0.each are.0.run.within few.0 are.0.events, each later are.1 few.1)

  -- ---- net losses

  module _ (net : NetFacts) where
    net_event : (stage event : ℕ) (records : List LossRecord) → IsTakenRun false rows samples event records → IsTakenRun false rows samples event (net_records (tree_of rows stage) 2 samples records)
    net_event stage event records is =
        let trees = tree_of rows stage ∷ [] in
        taken_run false rows samples event (reinsured trees samples records) (net.good trees samples records is.each is.run.within) (net.event trees samples event records is.events) (net.rising trees samples records is.rising)
        (net.known trees samples (λ id. is_known false rows id) records is.known) (net.within trees samples records is.run.within)

    -- stages that are none but those of reinsurance
    abbrev pub AreStageNumbers : List ℕ → Type 0
    AreStageNumbers numbers = AllByRecursion (λ (stage : ℕ). (stage == 0) ≡ false) numbers

    pub net_stand : (numbers : List ℕ) (front : List Command) (of : ℕ → List LossRecord) → AreStageNumbers numbers → LossesAt false front of → AllByRecursion (IsServed files samples footprint rows) (map (FmcalcNet 2) numbers)
        → ((more : List Command) (back : List Command) → map (FmcalcNet 2) numbers ≡ more ++ back → WholeFits files (front ++ more)) → LossesAt false (front ++ map (FmcalcNet 2) numbers) (λ event. reinsured (map (tree_of rows) numbers) samples (of event))
    net_stand [] front of are before served fits = subst (λ (stages : List Command). LossesAt false stages of) (sym (append-nil front)) before
    net_stand (stage ∷ later) front of are before served fits =
        let next : LossesAt false (front ++ FmcalcNet 2 stage ∷ []) (λ event. net_records (tree_of rows stage) 2 samples (of event)) = one in
        subst (λ (stages : List Command). LossesAt false stages (λ event. reinsured (map (tree_of rows) (stage ∷ later)) samples (of event))) (append_assoc front (FmcalcNet 2 stage ∷ []) (map (FmcalcNet 2) later))
        (net_stand later (front ++ FmcalcNet 2 stage ∷ []) (λ event. net_records (tree_of rows stage) 2 samples (of event)) are.1 next served.1
        (λ more back is. subst (WholeFits files) (sym (append_assoc front (FmcalcNet 2 stage ∷ []) more)) (fits (FmcalcNet 2 stage ∷ more) back (ap (λ (rest : List Command). FmcalcNet 2 stage ∷ rest) is))))
      where
        net_of : ℕ → List LossRecord
        net_of event = net_records (tree_of rows stage) 2 samples (of event)

        runs : AllByRecursion (λ (event : ℕ). IsTakenRun false rows samples event (net_of event)) events_of
        runs = all_by (λ (event : ℕ). IsTakenRun false rows samples event (of event)) (λ (event : ℕ). IsTakenRun false rows samples event (net_of event)) (λ event is. net_event stage event (of event) is) events_of before.runs

        one : LossesAt false (front ++ FmcalcNet 2 stage ∷ []) net_of
        one = record {
          stands = next_stands files samples footprint rows reads together eve front (FmcalcNet 2 stage) (stream_bytes loss_form (loss_shape Loss) (gul_head samples) of) loss_form good_loss (loss_shape Loss) (gul_head samples) net_of before.stands.makes
              (net_one files samples footprint rows reads together eve 2 stage of are.0 served.0 distinct before.stands.fits (runs_of false of before.runs))
              (few_samples.0, few_samples.1, refl) (each_of false net_of runs) (fits (FmcalcNet 2 stage ∷ []) (map (FmcalcNet 2) later) refl);
          runs = runs;
        }

  -- the streams of losses are joined
  pub losses_join_parts : (stages : List Command) (of : ℕ → List LossRecord) → LossesAt false stages of → JoinsParts files stages
  losses_join_parts stages of at =
      stands_join files samples footprint rows reads together eve stages loss_form good_loss (loss_shape Loss) (gul_head samples) of at.stands (kat_joins loss_form good_loss (loss_shape Loss) (gul_head samples) reads.losses (losses_join (gul_head samples)))

  -- ---- summaries

  module _ (items : Bool) (set rule : ℕ) (sets : (1 ≤ set) × (set ≤ 9)) (facts : SummaryFacts rows rule) where
    abbrev pub summaries_of : (ℕ → List LossRecord) → ℕ → List SummaryRecord
    summaries_of of event = run_summaries (perspective_of items) rows rule set (of event)

    abbrev pub set_head : Head
    set_head = record { samples = samples; set = set }

    -- the summaries of losses
    pub summaries_at : (front : List Command) (of : ℕ → List LossRecord) → LossesAt items front of → IsServed files samples footprint rows (Summarycalc items set rule) → WholeFits files (front ++ Summarycalc items set rule ∷ [])
        → StandsAt files (front ++ Summarycalc items set rule ∷ []) summary_form good_summary summary_shape set_head (summaries_of of) events_of
    summaries_at front of before served within =
        next_stands files samples footprint rows reads together eve front (Summarycalc items set rule) (stream_bytes loss_form (loss_shape (losses_kind items)) (gul_head samples) of) summary_form good_summary summary_shape set_head (summaries_of of) before.stands.makes
        (summary_one files samples footprint rows reads together eve items set rule of served distinct before.stands.fits (runs_of items of before.runs))
        (few_samples.0, few_samples.1, sets.0, sets.1)
        (all_by (λ (event : ℕ). IsTakenRun items rows samples event (of event)) (λ (event : ℕ). AllByRecursion (IsSummary samples) (summaries_of of event)) (λ event is. recursion_from_All (IsSummary samples) (summaries_of of event) (facts.good (perspective_of items) set samples (of event) is.run.within is.each)) events_of before.runs) within

    -- their streams are joined
    pub summaries_join_parts : (stages : List Command) (of : ℕ → List SummaryRecord) → StandsAt files stages summary_form good_summary summary_shape set_head of events_of → JoinsParts files stages
    summaries_join_parts stages of stands =
        stands_join files samples footprint rows reads together eve stages summary_form good_summary summary_shape set_head of stands (kat_joins summary_form good_summary summary_shape set_head reads.summaries (summaries_join set_head))
