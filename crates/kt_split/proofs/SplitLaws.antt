-- The laws of split runs.
use Rattle.std.proofs.Common.{◌≡◌, ◌≤◌, ◌≢◌, ℕ, true, List, [], ◌∷◌, ◌++◌}
use Rattle.kt_block.specs.Terms.{run_sets, summary_set}
use Rattle.kt_block.specs.declared.terms.Terms.{Terms}
use Rattle.kt_out.specs.NamedFiles.{FileMap}
use Rattle.kt_rec.specs.Rows.{Rows}
use Rattle.kt_rec.specs.declared.perspective.Perspective.TheVariants.{Gul, Il, Ri}
use Rattle.kt_stream.specs.declared.entry.SummaryRecord.{SummaryRecord}
use Rattle.kt_words.specs.declared.command.Command.{Command}
use Rattle.kt_words.specs.declared.command.Command.TheVariants.{Getmodel}
use Rattle.kt_split.proofs.SplitAll.{SummariesAt, gul_summaries_at, insured_join, insured_summaries_at, net_join, net_summaries_at, summaries_of_parts_join}
use Rattle.kt_split.proofs.SplitFiles.{joined_give}
use Rattle.kt_split.proofs.SplitInsured.{summary_facts_net}
use Rattle.kt_split.proofs.SplitRun.{cdf_parts_join, gul_parts_join}
use Rattle.kt_split.proofs.SplitTables.{gul_same, insured_same, net_same}
use Rattle.kt_split.specs.SplitFacts.{GroundUpFacts, LossFacts}
use Rattle.kt_split.specs.SplitRuns.{IsSplitRun, JoinedGiveTables, JoinsParts, ground_up_stages, has_set, loss_stages, split_stages}

module _ (terms : Terms) (rows : Rows) (files : FileMap) where
  module _ (facts : GroundUpFacts terms rows) where
    pub distributions_joined : IsSplitRun files terms.samples rows (Getmodel ∷ []) → JoinsParts files (Getmodel ∷ [])
    distributions_joined = cdf_parts_join files terms.samples terms.cut rows (facts.are.some, facts.are.few) facts.reads facts.together facts.distinct facts.in_range facts.model facts.gul

    pub ground_up_joined : IsSplitRun files terms.samples rows (ground_up_stages terms) → JoinsParts files (ground_up_stages terms)
    ground_up_joined = gul_parts_join files terms.samples terms.cut rows (facts.are.some, facts.are.few) facts.reads facts.together facts.distinct facts.in_range facts.model facts.gul

    -- streams of summaries are joined, and give the tables of their set
    any_joined : (set : ℕ) → 1 ≤ set → set ≤ 9 → (stages : List Command) (is : IsSplitRun files terms.samples rows stages) (of : ℕ → List SummaryRecord)
        → SummariesAt files terms rows facts.are facts.reads facts.together facts.distinct facts.in_range facts.model facts.gul stages is set of → JoinsParts files stages
    any_joined set some most stages is of stands =
        summaries_of_parts_join files terms rows facts.are facts.reads facts.together facts.distinct facts.in_range facts.model facts.gul set some most facts.summaries stages is of stands

    pub gul_summaries_joined : (set : ℕ) → 1 ≤ set → set ≤ 9 → IsSplitRun files terms.samples rows (split_stages terms Gul set) → JoinsParts files (split_stages terms Gul set)
    gul_summaries_joined set some most is =
        any_joined set some most (split_stages terms Gul set) is _
        (gul_summaries_at files terms rows facts.are facts.reads facts.together facts.distinct facts.in_range facts.model facts.gul set some most facts.summaries is)

    pub gul_tables_given : (set : ℕ) → 1 ≤ set → set ≤ 9 → has_set (summary_set Gul set) (run_sets rows terms.last) ≡ true → IsSplitRun files terms.samples rows (split_stages terms Gul set) → JoinedGiveTables files terms rows (summary_set Gul set)
    gul_tables_given set some most has is =
        joined_give files terms rows facts.reads facts.together facts.model is.parts (summary_set Gul set) _ (gul_same terms rows files facts.model set has) (split_stages terms Gul set)
        (gul_summaries_at files terms rows facts.are facts.reads facts.together facts.distinct facts.in_range facts.model facts.gul set some most facts.summaries is)
        (gul_summaries_joined set some most is)

  module _ (facts : LossFacts terms rows) where
    pub insured_joined : IsSplitRun files terms.samples rows (ground_up_stages terms ++ loss_stages Il terms.rule 0) → JoinsParts files (ground_up_stages terms ++ loss_stages Il terms.rule 0)
    insured_joined = let known = facts.ground_up in insured_join files terms rows known.are known.reads known.together known.distinct known.in_range known.model known.gul facts.insured

    pub net_joined : (stages : ℕ) → IsSplitRun files terms.samples rows (ground_up_stages terms ++ loss_stages Ri terms.rule stages) → JoinsParts files (ground_up_stages terms ++ loss_stages Ri terms.rule stages)
    net_joined stages = let known = facts.ground_up in net_join files terms rows known.are known.reads known.together known.distinct known.in_range known.model known.gul facts.insured facts.net stages

    pub insured_summaries_joined : (set : ℕ) → 1 ≤ set → set ≤ 9 → IsSplitRun files terms.samples rows (split_stages terms Il set) → JoinsParts files (split_stages terms Il set)
    insured_summaries_joined set some most is =
        let known = facts.ground_up in
        any_joined known set some most (split_stages terms Il set) is _
        (insured_summaries_at files terms rows known.are known.reads known.together known.distinct known.in_range known.model known.gul set some most facts.insured known.summaries is)

    pub insured_tables_given : (set : ℕ) → 1 ≤ set → set ≤ 9 → has_set (summary_set Il set) (run_sets rows terms.last) ≡ true → IsSplitRun files terms.samples rows (split_stages terms Il set) → JoinedGiveTables files terms rows (summary_set Il set)
    insured_tables_given set some most has is =
        let known = facts.ground_up in
        joined_give files terms rows known.reads known.together known.model is.parts (summary_set Il set) _ (insured_same terms rows files known.model set has) (split_stages terms Il set)
        (insured_summaries_at files terms rows known.are known.reads known.together known.distinct known.in_range known.model known.gul set some most facts.insured known.summaries is)
        (insured_summaries_joined set some most is)

    module _ (some_rule : terms.rule ≢ 0) where
      pub net_summaries_joined : (set : ℕ) → 1 ≤ set → set ≤ 9 → IsSplitRun files terms.samples rows (split_stages terms Ri set) → JoinsParts files (split_stages terms Ri set)
      net_summaries_joined set some most is =
          let known = facts.ground_up in
          any_joined known set some most (split_stages terms Ri set) is _
          (net_summaries_at files terms rows known.are known.reads known.together known.distinct known.in_range known.model known.gul set some most facts.insured facts.net (summary_facts_net rows terms.rule known.are.rule some_rule known.summaries) is)

      pub net_tables_given : (set : ℕ) → 1 ≤ set → set ≤ 9 → has_set (summary_set Ri set) (run_sets rows terms.last) ≡ true → IsSplitRun files terms.samples rows (split_stages terms Ri set) → JoinedGiveTables files terms rows (summary_set Ri set)
      net_tables_given set some most has is =
          let known = facts.ground_up in
          joined_give files terms rows known.reads known.together known.model is.parts (summary_set Ri set) _ (net_same terms rows files known.model set known.are.rule some_rule has) (split_stages terms Ri set)
          (net_summaries_at files terms rows known.are known.reads known.together known.distinct known.in_range known.model known.gul set some most facts.insured facts.net (summary_facts_net rows terms.rule known.are.rule some_rule known.summaries) is)
          (net_summaries_joined set some most is)
