-- The laws of split runs, from what is known of the portfolio of their run.
use Rattle.std.proofs.Common.{◌≡◌, ◌≤◌, ℕ, zero, suc, ℤ, Bool, true, false, ◌==◌, List, [], ◌∷◌, ◌++◌, map, append-nil, append_assoc, refl, sym, ap, ◌∙◌, subst, nat_eq, arith, ne_eqb, ◌+◌}
use Rattle.std.specs.List.{AllByRecursion, IsDistinct, range_with_len}
use Rattle.std.proofs.lemmas.List.Elements.{All-from_recursion}
use Rattle.kt_eve.specs.Laws.{PartsMakeTheEvents}
use Rattle.kt_block.specs.Terms.{AreTerms}
use Rattle.kt_block.specs.declared.terms.Terms.{Terms}
use Rattle.kt_loop.specs.ListLaws.{all_back, all_by, all_front}
use Rattle.kt_losses.specs.Judged.{is_known}
use Rattle.kt_out.specs.NamedFiles.{FileMap}
use Rattle.kt_rec.specs.Ranges.{AreInRange}
use Rattle.kt_rec.specs.Rows.{Rows}
use Rattle.kt_rec.specs.declared.perspective.Perspective.TheVariants.{Gul as GulLosses, Il, Ri}
use Rattle.kt_ri.specs.Reinsurance.{reinsured}
use Rattle.kt_runs.specs.RunLosses.{run_loss}
use Rattle.kt_stream.specs.Losses.{IsLoss}
use Rattle.kt_alloc.specs.Insured.{insured_records}
use Rattle.kt_stream.specs.Summary.{summary_form, summary_shape}
use Rattle.kt_stream.specs.declared.entry.LossRecord.{LossRecord}
use Rattle.kt_stream.specs.declared.entry.SummaryRecord.{SummaryRecord}
use Rattle.kt_sum.specs.Summaries.{run_summaries}
use Rattle.kt_tables.specs.Lookups.{event_ids}
use Rattle.kt_fmtree.specs.Programme.{tree_of}
use Rattle.kt_words.specs.declared.command.Command.{Command}
use Rattle.kt_words.specs.declared.command.Command.TheVariants.{Fmcalc, FmcalcNet, Getmodel, Gulcalc, Summarycalc}
use Rattle.kt_split.proofs.SplitInsured.{IsTakenRun, LossesAt, insured_of, insured_stand, losses_join_parts, net_stand, summaries_at, summaries_join_parts}
use Rattle.kt_split.proofs.SplitRun.{IsGroundUp, are_ground_up, losses_at, losses_stand}
use Rattle.kt_split.proofs.SplitStages.{StandsAt, WholeFits}
use Rattle.kt_split.specs.SplitFacts.{GulFacts, InsuredFacts, ModelFacts, NetFacts, ReadsAll, SummaryFacts, good_summary}
use Rattle.kt_split.specs.SplitRuns.{IsServed, IsSplitRun, JoinsParts, footprint_of, ground_up_stages, loss_stages, split_stages}

module _ (files : FileMap) (terms : Terms) (rows : Rows) (are : AreTerms terms) (reads : ReadsAll) (together : PartsMakeTheEvents) (distinct : IsDistinct nat_eq (event_ids rows)) (in_range : AreInRange rows) (model : ModelFacts rows) (gul : GulFacts rows) where
  abbrev few : (1 ≤ terms.samples) × (terms.samples ≤ 1000)
  few = (are.some, are.few)

  module _ (rest : List Command) (is : IsSplitRun files terms.samples rows (ground_up_stages terms ++ rest)) where
    abbrev pub losses_of : ℕ → List LossRecord
    losses_of = losses_at files terms.samples terms.cut rows few reads together distinct in_range model gul is.parts is.unrefused

    abbrev AtLosses : Bool → List Command → (ℕ → List LossRecord) → Type 0
    AtLosses items stages of = LossesAt files terms.samples (footprint_of files) rows few reads together is.parts distinct items stages of

    abbrev IsGulEvent : ℕ → Type 0
    IsGulEvent = IsGroundUp files terms.samples terms.cut rows few reads together distinct in_range model gul is.parts is.unrefused

    gul_events : AllByRecursion IsGulEvent (event_ids rows)
    gul_events = are_ground_up files terms.samples terms.cut rows few reads together distinct in_range model gul is.parts is.unrefused

    -- the stages fit, so far
    fits_so_far : (more back : List Command) → rest ≡ more ++ back → WholeFits files (ground_up_stages terms ++ more)
    fits_so_far more back same = is.fits (ground_up_stages terms ++ more) (record { back = back; is = ap (λ (stages : List Command). ground_up_stages terms ++ stages) same })

    -- the ground-up losses
    gul_at : AtLosses true (ground_up_stages terms) losses_of
    gul_at = record {
      stands = losses_stand files terms.samples terms.cut rows few reads together distinct in_range model gul is.parts is.unrefused is.served.0 is.served.1.0
          (is.fits [] (record { back = ground_up_stages terms ++ rest; is = refl }))
          (is.fits (Getmodel ∷ []) (record { back = Gulcalc terms.samples terms.cut ∷ rest; is = refl }))
          (fits_so_far [] rest refl);
      runs = all_by IsGulEvent (λ (event : ℕ). IsTakenRun true rows terms.samples event (losses_of event))
          (λ event one. record {
            run = one.run;
            each = All-from_recursion (IsLoss terms.samples) (losses_of event) one.each;
            events = one.events;
            rising = one.rising;
            known = All-from_recursion (λ (entry : LossRecord). is_known true rows entry.id ≡ true) (losses_of event) one.run.known;
          }) (event_ids rows) gul_events;
    }

    gul_small : AllByRecursion (λ (event : ℕ). (sidx : ℤ) → run_loss sidx (losses_of event) ≤ 200000000000000) (event_ids rows)
    gul_small = all_by IsGulEvent (λ (event : ℕ). (sidx : ℤ) → run_loss sidx (losses_of event) ≤ 200000000000000) (λ event one. one.within) (event_ids rows) gul_events

    -- the insured losses
    insured_at : (insured : InsuredFacts rows terms.rule) → IsServed files terms.samples (footprint_of files) rows (Fmcalc terms.rule) → WholeFits files (ground_up_stages terms ++ Fmcalc terms.rule ∷ [])
        → AtLosses false (ground_up_stages terms ++ Fmcalc terms.rule ∷ []) (insured_of files terms.samples (footprint_of files) rows few reads together is.parts distinct terms.rule insured losses_of)
    insured_at insured served within =
        insured_stand files terms.samples (footprint_of files) rows few reads together is.parts distinct terms.rule insured (ground_up_stages terms) losses_of gul_at gul_small served within

  -- ---- the laws

  -- how far a split run is with summaries
  abbrev pub SummariesAt : (stages : List Command) → IsSplitRun files terms.samples rows stages → ℕ → (ℕ → List SummaryRecord) → Type 0
  SummariesAt stages is set of = StandsAt files stages summary_form good_summary summary_shape (record { samples = terms.samples; set = set }) of (event_ids rows)

  pub gul_summaries_at : (set : ℕ) → 1 ≤ set → set ≤ 9 → SummaryFacts rows terms.rule → (is : IsSplitRun files terms.samples rows (split_stages terms GulLosses set))
      → SummariesAt (split_stages terms GulLosses set) is set (λ event. run_summaries GulLosses rows terms.rule set (losses_of (Summarycalc true set terms.rule ∷ []) is event))
  gul_summaries_at set some most facts is =
      let command = Summarycalc true set terms.rule in
      summaries_at files terms.samples (footprint_of files) rows few reads together is.parts distinct true set terms.rule (some, most) facts (ground_up_stages terms) (losses_of (command ∷ []) is) (gul_at (command ∷ []) is) is.served.1.1.0
      (fits_so_far (command ∷ []) is (command ∷ []) [] refl)

  pub insured_join : InsuredFacts rows terms.rule → IsSplitRun files terms.samples rows (ground_up_stages terms ++ loss_stages Il terms.rule 0) → JoinsParts files (ground_up_stages terms ++ loss_stages Il terms.rule 0)
  insured_join insured is =
      let rest = loss_stages Il terms.rule 0 in
      losses_join_parts files terms.samples (footprint_of files) rows few reads together is.parts distinct (ground_up_stages terms ++ rest) _ (insured_at rest is insured is.served.1.1.0 (fits_so_far rest is rest [] refl))

  pub insured_summaries_at : (set : ℕ) → 1 ≤ set → set ≤ 9 → InsuredFacts rows terms.rule → SummaryFacts rows terms.rule → (is : IsSplitRun files terms.samples rows (split_stages terms Il set))
      → SummariesAt (split_stages terms Il set) is set (λ event. run_summaries Il rows terms.rule set (insured_records (tree_of rows 0) terms.rule terms.samples rows.fm_xref (losses_of (Fmcalc terms.rule ∷ Summarycalc false set terms.rule ∷ []) is event)))
  insured_summaries_at set some most insured facts is =
      let command = Summarycalc false set terms.rule in
      let rest = Fmcalc terms.rule ∷ command ∷ [] in
      summaries_at files terms.samples (footprint_of files) rows few reads together is.parts distinct false set terms.rule (some, most) facts (ground_up_stages terms ++ Fmcalc terms.rule ∷ []) _
      (insured_at rest is insured is.served.1.1.0 (fits_so_far rest is (Fmcalc terms.rule ∷ []) (command ∷ []) refl)) is.served.1.1.1.0 (fits_so_far rest is rest [] refl)

  -- the numbers of stages are none but those of reinsurance
  stage_numbers : (first count : ℕ) → 1 ≤ first → AllByRecursion (λ (stage : ℕ). (stage == 0) ≡ false) (range_with_len first count)
  stage_numbers first zero some = tt
  stage_numbers first (suc count) some = (ne_eqb first 0 (λ same. absurd (omega (arith, same, some))), stage_numbers (first + 1) count (omega (arith, some)))

  module _ (insured : InsuredFacts rows terms.rule) (net : NetFacts) (count : ℕ) (last : List Command) (is : IsSplitRun files terms.samples rows (ground_up_stages terms ++ (Fmcalc terms.rule ∷ (map (FmcalcNet 2) (range_with_len 1 count) ++ last)))) where
    abbrev numbers : List ℕ
    numbers = range_with_len 1 count

    abbrev stages_behind : List Command
    stages_behind = Fmcalc terms.rule ∷ (map (FmcalcNet 2) numbers ++ last)

    abbrev front_of : List Command
    front_of = ground_up_stages terms ++ Fmcalc terms.rule ∷ []

    -- the net losses
    net_at : LossesAt files terms.samples (footprint_of files) rows few reads together is.parts distinct false (front_of ++ map (FmcalcNet 2) numbers)
        (λ event. reinsured (map (tree_of rows) numbers) terms.samples (insured_of files terms.samples (footprint_of files) rows few reads together is.parts distinct terms.rule insured (losses_of stages_behind is) event))
    net_at =
        net_stand files terms.samples (footprint_of files) rows few reads together is.parts distinct net numbers front_of _ (stage_numbers 1 count (omega arith))
        (insured_at stages_behind is insured is.served.1.1.0 (fits_so_far stages_behind is (Fmcalc terms.rule ∷ []) (map (FmcalcNet 2) numbers ++ last) refl))
        (all_front (IsServed files terms.samples (footprint_of files) rows) (map (FmcalcNet 2) numbers) last is.served.1.1.1)
        (λ more back same. fits_so_far stages_behind is (Fmcalc terms.rule ∷ more) (back ++ last) (ap (λ (xs : List Command). Fmcalc terms.rule ∷ xs) (ap (λ (xs : List Command). xs ++ last) same ∙ append_assoc more back last)))

  pub net_join : (insured : InsuredFacts rows terms.rule) (net : NetFacts) (count : ℕ) → IsSplitRun files terms.samples rows (ground_up_stages terms ++ loss_stages Ri terms.rule count) → JoinsParts files (ground_up_stages terms ++ loss_stages Ri terms.rule count)
  net_join insured net count split =
      let same : loss_stages Ri terms.rule count ≡ Fmcalc terms.rule ∷ (map (FmcalcNet 2) (range_with_len 1 count) ++ []) = ap (λ (xs : List Command). Fmcalc terms.rule ∷ xs) (sym (append-nil (map (FmcalcNet 2) (range_with_len 1 count)))) in
      let is = subst (λ (xs : List Command). IsSplitRun files terms.samples rows (ground_up_stages terms ++ xs)) same split in
      losses_join_parts files terms.samples (footprint_of files) rows few reads together is.parts distinct (ground_up_stages terms ++ loss_stages Ri terms.rule count) _ (net_at insured net count [] is)

  abbrev pub net_rest : ℕ → List Command
  net_rest set = Fmcalc terms.rule ∷ (map (FmcalcNet 2) (range_with_len 1 terms.stages) ++ Summarycalc false set 2 ∷ [])

  pub net_summaries_at : (set : ℕ) → 1 ≤ set → set ≤ 9 → (insured : InsuredFacts rows terms.rule) (net : NetFacts) → SummaryFacts rows 2 → (is : IsSplitRun files terms.samples rows (split_stages terms Ri set))
      → SummariesAt (split_stages terms Ri set) is set
      (λ event. run_summaries Il rows 2 set (reinsured (map (tree_of rows) (range_with_len 1 terms.stages)) terms.samples (insured_records (tree_of rows 0) terms.rule terms.samples rows.fm_xref (losses_of (net_rest set) is event))))
  net_summaries_at set some most insured net facts is =
      let command = Summarycalc false set 2 in
      let numbers = range_with_len 1 terms.stages in
      summaries_at files terms.samples (footprint_of files) rows few reads together is.parts distinct false set 2 (some, most) facts (ground_up_stages terms ++ (Fmcalc terms.rule ∷ map (FmcalcNet 2) numbers)) _
      (net_at insured net terms.stages (command ∷ []) is)
      (all_back (IsServed files terms.samples (footprint_of files) rows) (map (FmcalcNet 2) numbers) (command ∷ []) is.served.1.1.1).0
      (fits_so_far (net_rest set) is (net_rest set) [] (sym (append-nil (net_rest set))))

  -- the streams of summaries are joined
  pub summaries_of_parts_join : (set : ℕ) → 1 ≤ set → set ≤ 9 → SummaryFacts rows terms.rule → (stages : List Command) (is : IsSplitRun files terms.samples rows stages) (of : ℕ → List SummaryRecord) → SummariesAt stages is set of → JoinsParts files stages
  summaries_of_parts_join set some most facts stages is of stands =
      summaries_join_parts files terms.samples (footprint_of files) rows few reads together is.parts distinct true set terms.rule (some, most) facts stages of stands
