-- The summary streams of the parts of a split run, joined, give the files of the run of all stages.
use Rattle.std.proofs.Common.{◌≡◌, ◌≤◌, ℕ, true, List, [], ◌∷◌, ◌++◌, refl, sym, ap, ap₂, ◌∙◌, subst, flat_map}
use Rattle.std.specs.List.{range_with_len}
use Rattle.kt_chain.specs.Events.{run_input}
use Rattle.kt_chain.specs.SetRecords.{set_records}
use Rattle.kt_elt.specs.PeriodLoss.{period_losses, plt_heading_text}
use Rattle.kt_ends.specs.Outcome.{Outcome}
use Rattle.kt_ends.specs.declared.status.Status.TheVariants.{Done}
use Rattle.kt_eve.specs.Laws.{PartsMakeTheEvents}
use Rattle.kt_block.specs.declared.terms.SummarySet.{SummarySet}
use Rattle.kt_block.specs.declared.terms.Terms.{Terms}
use Rattle.kt_kat.specs.Outcome.{kat_outcome}
use Rattle.kt_loop.specs.Contents.{Contents}
use Rattle.kt_loop.specs.EventStreams.{stream_bytes, stretch_is_read, whole_contents}
use Rattle.kt_loop.specs.ListLaws.{whole_stretch}
use Rattle.kt_loop.specs.Outcome.{gives}
use Rattle.kt_loop.specs.RecordStreams.{contents_of}
use Rattle.kt_out.specs.NamedFiles.{FileMap}
use Rattle.kt_periods.specs.PeriodTables.{contents_outcome}
use Rattle.kt_periods.specs.declared.table.PeriodTable.{PeriodTable}
use Rattle.kt_periods.specs.declared.table.PeriodTable.TheVariants.{AverageAnnualLoss, ExceedanceCurve}
use Rattle.kt_rec.specs.Rows.{Rows}
use Rattle.kt_stream.specs.Summary.{summary_form, summary_shape}
use Rattle.kt_stream.specs.declared.entry.SummaryRecord.{SummaryRecord}
use Rattle.kt_stream.specs.declared.kind.Head.{Head}
use Rattle.kt_tables.specs.Lookups.{event_ids, occurrences_of}
use Rattle.kt_words.specs.declared.command.Command.{Command}
use Rattle.kt_words.specs.declared.command.Command.TheVariants.{Aalcalc, Eve, Leccalc, Pltcalc}
use Rattle.kt_split.proofs.Piping.{command_is}
use Rattle.kt_split.proofs.SplitStages.{StandsAt, whole_is}
use Rattle.kt_split.proofs.SplitTables.{elt_text_is, plt_text_is}
use Rattle.kt_split.proofs.TablesByEvents.{elt_makes, plt_makes}
use Rattle.kt_tools.specs.Needs.{command_need}
use Rattle.kt_tools.specs.Outcome.{tool_outcome}
use Rattle.kt_split.specs.SplitFacts.{ModelFacts, ReadsAll, good_summary}
use Rattle.kt_split.specs.SplitRuns.{AreFiles, GivesTables, IsServed, JoinsParts, footprint_of, part_outcome, set_contents}

module _ (files : FileMap) (terms : Terms) (rows : Rows) (reads : ReadsAll) (together : PartsMakeTheEvents) (model : ModelFacts rows) (eve : (p n : ℕ) → IsServed files terms.samples (footprint_of files) rows (Eve p n)) (set : SummarySet) (of : ℕ → List SummaryRecord) (same : (event : ℕ) → of event ≡ set_records (run_input terms rows files) set event) where
  abbrev events_of : List ℕ
  events_of = event_ids rows

  abbrev set_head : Head
  set_head = record { samples = terms.samples; set = set.set }

  abbrev the_bytes : List ℕ
  the_bytes = stream_bytes summary_form summary_shape set_head of events_of

  records_same : (events : List ℕ) → flat_map of events ≡ flat_map (set_records (run_input terms rows files) set) events
  records_same [] = refl
  records_same (event ∷ later) = ap₂ (λ (xs ys : List SummaryRecord). xs ++ ys) (same event) (records_same later)

  module _ (stages : List Command) (stands : StandsAt files stages summary_form good_summary summary_shape set_head of events_of) where
    -- the period losses by the tool's own occurrences
    losses_same : (own : Rows) → ((event : ℕ) → occurrences_of own event ≡ occurrences_of rows event) → (events : List ℕ)
        → flat_map (λ (event : ℕ). flat_map (λ (entry : SummaryRecord). period_losses terms.samples entry (occurrences_of own entry.event)) (of event)) events ≡ flat_map (λ (event : ℕ). flat_map (λ (entry : SummaryRecord). period_losses terms.samples entry (occurrences_of rows entry.event)) (of event)) events
    losses_same own is [] = refl
    losses_same own is (event ∷ later) = ap₂ (λ (xs ys : List ℕ). xs ++ ys) (each (of event)) (losses_same own is later)
      where
        each : (entries : List SummaryRecord) → flat_map (λ (entry : SummaryRecord). period_losses terms.samples entry (occurrences_of own entry.event)) entries ≡ flat_map (λ (entry : SummaryRecord). period_losses terms.samples entry (occurrences_of rows entry.event)) entries
        each [] = refl
        each (entry ∷ entries) = ap₂ (λ (xs ys : List ℕ). xs ++ ys) (ap (period_losses terms.samples entry) (is entry.event)) (each entries)

    -- a table over all periods
    periods_give : (kind : PeriodTable) (own : Rows) → ((contents : Contents Head SummaryRecord) → contents_outcome kind own contents ≡ contents_outcome kind rows contents)
        → contents_outcome kind own (contents_of summary_form summary_shape the_bytes) ≡ contents_outcome kind rows (set_contents terms rows files set)
    periods_give kind own is =
        ap (contents_outcome kind own) (stretch_is_read summary_form good_summary summary_shape set_head of events_of stands.fits events_of (whole_stretch events_of) reads.summaries)
        ∙ is (whole_contents summary_form summary_shape set_head (flat_map of events_of))
        ∙ ap (λ (entries : List SummaryRecord). contents_outcome kind rows (whole_contents summary_form summary_shape set_head entries)) (records_same events_of)

    bytes_give : GivesTables files terms rows set the_bytes
    bytes_give = record {
      event_losses = elt_makes set_head of events_of reads.summaries stands.fits events_of (whole_stretch events_of) true ∙ ap (gives Done) (elt_text_is terms rows files model set of same events_of);
      period_losses = λ served.
          command_is files (command_need (Pltcalc true)) served.needed served.own (λ portfolio. tool_outcome [] (Pltcalc true) files portfolio the_bytes) served.is served.loads
          ∙ plt_makes set_head of events_of reads.summaries stands.fits events_of (whole_stretch events_of) true (record { rows = served.own; need = served.needed })
          ∙ ap (λ (text : List ℕ). gives Done (plt_heading_text ++ text)) (losses_same served.own served.says events_of)
          ∙ ap (gives Done) (plt_text_is terms rows files model set of same events_of);
      averages = λ served.
          command_is files (command_need Aalcalc) served.needed served.own (λ portfolio. tool_outcome [] Aalcalc files portfolio the_bytes) served.is served.loads
          ∙ periods_give AverageAnnualLoss served.own served.says;
      curves = λ curve served.
          command_is files (command_need (Leccalc curve)) served.needed served.own (λ portfolio. tool_outcome [] (Leccalc curve) files portfolio the_bytes) served.is served.loads
          ∙ periods_give (ExceedanceCurve curve) served.own served.says;
    }

    -- whatever is joined to the stream of all events gives these tables
    pub joined_give : JoinsParts files stages → (n : ℕ) (names : List (List ℕ)) (kept : FileMap) → 1 ≤ n → AreFiles kept (λ p. (part_outcome files stages p n).output) names (range_with_len 1 n) → GivesTables files terms rows set (kat_outcome names kept).output
    joined_give joins n names kept some are =
        let whole = whole_is files terms.samples (footprint_of files) rows reads together eve stages (stream_bytes summary_form summary_shape set_head of) stands.makes in
        subst (GivesTables files terms rows set) (sym (ap (λ (made : Outcome). made.output) ((joins n names kept some are).joined ∙ whole))) bytes_give
