-- A split run, stage after stage: of each stretch of the events each stage makes the stream of what the events give.
use Rattle.std.proofs.Common.{◌≡◌, ◌≤◌, ℕ, Bool, true, false, ◌==◌, List, [], ◌∷◌, ◌++◌, length, None, append-nil, refl, sym, ap, ap₂, ◌∙◌, subst, nat_eq, flat_map, arith, unwrap_or}
use Rattle.std.specs.List.{AllByRecursion, IsDistinct}
use Rattle.kt_ends.specs.Outcome.{Outcome}
use Rattle.kt_ends.specs.declared.status.Status.TheVariants.{Done}
use Rattle.kt_eve.specs.Laws.{PartsMakeTheEvents}
use Rattle.kt_eve.specs.Parts.{part_of}
use Rattle.kt_alloc.specs.Insured.{insured_records}
use Rattle.kt_kat.specs.StreamsJoined.{KatJoins}
use Rattle.kt_load.specs.EventRows.{event_rows, footprint_name}
use Rattle.kt_losses.specs.Judged.{is_known, judged_outcome, losses_kind}
use Rattle.kt_losses.specs.Tables.{insured_table, net_table, perspective_of, summary_table}
use Rattle.kt_loop.specs.EventRuns.{IsEventRun}
use Rattle.kt_loop.specs.EventStreams.{FitsStream, stream_bytes}
use Rattle.kt_loop.specs.ListLaws.{all_by}
use Rattle.kt_loop.specs.Outcome.{gives}
use Rattle.kt_loop.specs.Runs.{cdf_key}
use Rattle.kt_out.specs.NamedFiles.{FileMap}
use Rattle.kt_rec.specs.FootRows.{first_refused_row}
use Rattle.kt_rec.specs.Rows.{Rows}
use Rattle.kt_ri.specs.Reinsurance.{net_records}
use Rattle.kt_stream.specs.Bins.{cdf_form, cdf_shape}
use Rattle.kt_stream.specs.EventIds.{event_form, event_shape}
use Rattle.kt_stream.specs.Grammar.{records_bytes}
use Rattle.kt_stream.specs.Header.{IsHead, header_bytes}
use Rattle.kt_stream.specs.Losses.{loss_bytes, loss_form, loss_shape}
use Rattle.kt_stream.specs.Stream.{Form, stream_limit}
use Rattle.kt_stream.specs.Summary.{summary_bytes, summary_form, summary_shape}
use Rattle.kt_stream.specs.declared.entry.Cdf.{Cdf}
use Rattle.kt_stream.specs.declared.entry.LossRecord.{LossRecord}
use Rattle.kt_stream.specs.declared.event_id.EventId.{EventId}
use Rattle.kt_stream.specs.declared.kind.Head.{Head}
use Rattle.kt_stream.specs.declared.kind.Shape.{Shape}
use Rattle.kt_stream.specs.declared.kind.StreamKind.TheVariants.{Gul, Loss}
use Rattle.kt_sum.specs.Summaries.{run_summaries}
use Rattle.kt_tables.specs.Lookups.{event_ids}
use Rattle.kt_tables.specs.Portfolio.{PortfolioRows}
use Rattle.kt_fmtree.specs.Programme.{tree_of}
use Rattle.kt_words.specs.declared.command.Command.{Command}
use Rattle.kt_words.specs.declared.command.Command.TheVariants.{Eve, Fmcalc, FmcalcNet, Getmodel, Gulcalc, Summarycalc}
use Rattle.kt_split.proofs.GulByEvents.{gul_makes}
use Rattle.kt_split.proofs.LossesByEvents.{judged_makes}
use Rattle.kt_split.proofs.ModelByEvents.{IsUnrefused, model_makes}
use Rattle.kt_split.proofs.Piping.{Makes, MakesOne, command_is, eve_is, makes_more, parts_join, part_stretch}
use Rattle.kt_split.specs.ByEvents.{IsLossRun, cdfs_of, event_entry, losses_of_cdfs}
use Rattle.kt_front.specs.GulOutcome.{gul_head}
use Rattle.kt_front.specs.ModelOutcome.{model_tables, plain_head}
use Rattle.kt_tools.specs.Needs.{command_need}
use Rattle.kt_front.specs.EventList.{event_bytes}
use Rattle.kt_tools.specs.Outcome.{tool_outcome}
use Rattle.kt_split.specs.SplitFacts.{ReadsAll, good_cdf, good_event, good_loss}
use Rattle.kt_split.specs.SplitRuns.{IsServed, JoinsParts, part_outcome}

-- a stream depends on what each event gives alone
pub stream_same : {E : Type 0} (form : Form E) (shape : Shape) (head : Head) (of other : ℕ → List E) → ((event : ℕ) → of event ≡ other event) → (part : List ℕ) → stream_bytes form shape head of part ≡ stream_bytes form shape head other part
stream_same {E} form shape head of other same part = ap (λ (entries : List E). header_bytes shape.kind head ++ records_bytes form entries) (each part)
  where
    each : (events : List ℕ) → flat_map of events ≡ flat_map other events
    each [] = refl
    each (event ∷ later) = ap₂ (λ (xs ys : List E). xs ++ ys) (same event) (each later)

-- how far a split run is: of each stretch of the events its stages make a stream, which fits
pub record StandsAt {E : Type 0} (files : FileMap) (stages : List Command) (form : Form E) (Good : Shape → ℕ → E → Type 0) (shape : Shape) (head : Head) (of : ℕ → List E) (events : List ℕ) : Type 0 where
  pub makes : Makes files stages event_bytes (stream_bytes form shape head of) events
  pub fits : FitsStream E form Good shape head of events

-- what a whole run reads and writes fits
abbrev pub WholeFits : FileMap → List Command → Type 0
WholeFits files stages = length (part_outcome files stages 1 1).output ≤ stream_limit

module _ (files : FileMap) (samples : ℕ) (footprint : List ℕ) (rows : Rows) (reads : ReadsAll) (together : PartsMakeTheEvents) (eve : (p n : ℕ) → IsServed files samples footprint rows (Eve p n)) where
  abbrev events_of : List ℕ
  events_of = event_ids rows

  -- what the stages give of a part
  pub parts_are : (stages : List Command) (after : List ℕ → List ℕ) → Makes files stages event_bytes after events_of → (p n : ℕ) → part_outcome files stages p n ≡ gives Done (after (part_of events_of p n))
  parts_are stages after makes p n = eve_is files samples footprint rows p n stages (eve p n) ∙ makes (part_of events_of p n) (part_stretch events_of p n)

  whole_part : part_of events_of 1 1 ≡ events_of
  whole_part = sym (append-nil (part_of events_of 1 1)) ∙ together events_of 1 (omega arith)

  pub whole_is : (stages : List Command) (after : List ℕ → List ℕ) → Makes files stages event_bytes after events_of → part_outcome files stages 1 1 ≡ gives Done (after events_of)
  whole_is stages after makes = parts_are stages after makes 1 1 ∙ ap (λ (part : List ℕ). gives Done (after part)) whole_part

  -- one stage more
  pub next_stands : {E : Type 0} (stages : List Command) (command : Command) (middle : List ℕ → List ℕ) (form : Form E) (Good : Shape → ℕ → E → Type 0) (shape : Shape) (head : Head) (of : ℕ → List E)
      → Makes files stages event_bytes middle events_of → MakesOne files command middle (stream_bytes form shape head of) events_of → IsHead shape.kind head
      → AllByRecursion (λ (event : ℕ). AllByRecursion (Good shape head.samples) (of event)) events_of → WholeFits files (stages ++ command ∷ []) → StandsAt files (stages ++ command ∷ []) form Good shape head of events_of
  next_stands stages command middle form Good shape head of makes one in_range each within =
      let all = makes_more files stages command event_bytes middle (stream_bytes form shape head of) events_of makes one in
      record {
        makes = all;
        fits = record {
          in_range = in_range;
          each = each;
          within = subst (λ (made : Outcome). length made.output ≤ stream_limit) (whole_is (stages ++ command ∷ []) (stream_bytes form shape head of) all) within;
        };
      }

  -- the streams of its parts are joined by `kat`
  pub stands_join : {E : Type 0} (stages : List Command) (form : Form E) (Good : Shape → ℕ → E → Type 0) (shape : Shape) (head : Head) (of : ℕ → List E)
      → StandsAt files stages form Good shape head of events_of → KatJoins E form Good shape head → JoinsParts files stages
  stands_join stages form Good shape head of stands joins =
      parts_join form Good shape head of files stages events_of stands.fits (parts_are stages (stream_bytes form shape head of) stands.makes) joins together

  -- ---- each stage

  -- `getmodel`
  pub model_one : (bins : ℕ) → footprint ≡ unwrap_or (files footprint_name) [] → IsServed files samples footprint rows Getmodel → FitsStream EventId event_form good_event event_shape plain_head event_entry events_of
      → AllByRecursion (λ (event : ℕ). first_refused_row (event_rows rows footprint event) ≡ None) events_of
      → MakesOne files Getmodel event_bytes (stream_bytes cdf_form (cdf_shape bins) plain_head (cdfs_of rows footprint)) events_of
  model_one bins same served fits none part stretch =
      let foot = unwrap_or (files footprint_name) [] in
      let own = served.own in
      command_is files (command_need Getmodel) served.needed own (λ portfolio. tool_outcome [] Getmodel files portfolio (event_bytes part)) served.is served.loads
      ∙ model_makes files own bins events_of reads.events fits
      (all_by (λ (event : ℕ). first_refused_row (event_rows rows footprint event) ≡ None) (IsUnrefused (model_tables own foot))
      (λ event is. ap first_refused_row (ap (λ (bytes : List ℕ). event_rows own bytes event) (sym same) ∙ (served.says event).0) ∙ is) events_of none) part stretch
      ∙ ap (gives Done) (stream_same cdf_form (cdf_shape bins) plain_head (cdfs_of own foot) (cdfs_of rows footprint) (λ event. ap (λ (bytes : List ℕ). cdfs_of own bytes event) (sym same) ∙ (served.says event).1) part)

  -- `gulcalc`
  pub gul_one : (cut : Bool) (of : ℕ → List Cdf) → IsServed files samples footprint rows (Gulcalc samples cut) → IsDistinct nat_eq events_of
      → FitsStream Cdf cdf_form good_cdf (cdf_shape (length rows.damage_bin_dict)) plain_head of events_of → AllByRecursion (λ (event : ℕ). IsEventRun cdf_key event (of event)) events_of
      → MakesOne files (Gulcalc samples cut) (stream_bytes cdf_form (cdf_shape (length rows.damage_bin_dict)) plain_head of) (stream_bytes loss_form (loss_shape Gul) (gul_head samples) (λ event. losses_of_cdfs rows samples cut (of event))) events_of
  gul_one cut of served distinct fits runs part stretch =
      let own = served.own in
      command_is files (command_need (Gulcalc samples cut)) served.needed own (λ portfolio. tool_outcome [] (Gulcalc samples cut) files portfolio (stream_bytes cdf_form (cdf_shape (length rows.damage_bin_dict)) plain_head of part)) served.is served.loads
      ∙ gul_makes own samples cut of events_of reads.cdfs distinct (subst (λ (bins : ℕ). FitsStream Cdf cdf_form good_cdf (cdf_shape bins) plain_head of events_of) (sym served.says.0) fits) runs part stretch
      ∙ ap (gives Done) (stream_same loss_form (loss_shape Gul) (gul_head samples) (λ event. losses_of_cdfs own samples cut (of event)) (λ event. losses_of_cdfs rows samples cut (of event)) (λ event. served.says.1 (of event)) part)

  -- known ids by the tables of the tool
  own_runs : (items : Bool) (own : Rows) (of : ℕ → List LossRecord) → ((id : ℕ) → is_known items own id ≡ is_known items rows id) → (events : List ℕ) → AllByRecursion (λ (event : ℕ). IsLossRun items rows event (of event)) events → AllByRecursion (λ (event : ℕ). IsLossRun items own event (of event)) events
  own_runs items own of same events runs =
      all_by (λ (event : ℕ). IsLossRun items rows event (of event)) (λ (event : ℕ). IsLossRun items own event (of event))
      (λ event is. record {
        run = is.run;
        known = all_by (λ (entry : LossRecord). is_known items rows entry.id ≡ true) (λ (entry : LossRecord). is_known items own entry.id ≡ true) (λ entry known. same entry.id ∙ known) (of event) is.known;
        within = is.within;
      }) events runs

  -- `fmcalc`
  pub insured_one : (rule : ℕ) (of : ℕ → List LossRecord) → IsServed files samples footprint rows (Fmcalc rule) → insured_records (tree_of rows 0) rule samples rows.fm_xref [] ≡ [] → IsDistinct nat_eq events_of
      → FitsStream LossRecord loss_form good_loss (loss_shape Gul) (gul_head samples) of events_of → AllByRecursion (λ (event : ℕ). IsLossRun true rows event (of event)) events_of
      → MakesOne files (Fmcalc rule) (stream_bytes loss_form (loss_shape Gul) (gul_head samples) of) (stream_bytes loss_form (loss_shape Loss) (gul_head samples) (λ event. insured_records (tree_of rows 0) rule samples rows.fm_xref (of event))) events_of
  insured_one rule of served none distinct fits runs part stretch =
      let portfolio : PortfolioRows = record { rows = served.own; need = served.needed } in
      command_is files (command_need (Fmcalc rule)) served.needed served.own (λ one. tool_outcome [] (Fmcalc rule) files one (stream_bytes loss_form (loss_shape Gul) (gul_head samples) of part)) served.is served.loads
      ∙ judged_makes (insured_table rule) portfolio loss_form (loss_shape Loss) (gul_head samples) (gul_head samples) (insured_records (tree_of rows 0) rule samples rows.fm_xref) none refl
      (λ first later. ap (flat_map loss_bytes) (served.says.2 (first ∷ later))) of events_of reads.losses distinct fits served.says.0 (own_runs true served.own of served.says.1 events_of runs) part stretch

  -- `fmcalc -p -n`, over losses of outputs
  pub net_one : (rule stage : ℕ) (of : ℕ → List LossRecord) → (stage == 0) ≡ false → IsServed files samples footprint rows (FmcalcNet rule stage) → IsDistinct nat_eq events_of
      → FitsStream LossRecord loss_form good_loss (loss_shape Loss) (gul_head samples) of events_of → AllByRecursion (λ (event : ℕ). IsLossRun false rows event (of event)) events_of
      → MakesOne files (FmcalcNet rule stage) (stream_bytes loss_form (loss_shape Loss) (gul_head samples) of) (stream_bytes loss_form (loss_shape Loss) (gul_head samples) (λ event. net_records (tree_of rows stage) rule samples (of event))) events_of
  net_one rule stage of of_outputs served distinct fits runs part stretch =
      let portfolio : PortfolioRows = record { rows = served.own; need = served.needed } in
      let items = stage == 0 in
      let runs_too = own_runs items served.own of served.says.1 events_of (subst (λ (b : Bool). AllByRecursion (λ (event : ℕ). IsLossRun b rows event (of event)) events_of) (sym of_outputs) runs) in
      let fits_too = subst (λ (b : Bool). FitsStream LossRecord loss_form good_loss (loss_shape (losses_kind b)) (gul_head samples) of events_of) (sym of_outputs) fits in
      command_is files (command_need (FmcalcNet rule stage)) served.needed served.own (λ one. tool_outcome [] (FmcalcNet rule stage) files one (stream_bytes loss_form (loss_shape Loss) (gul_head samples) of part)) served.is served.loads
      ∙ ap (λ (b : Bool). judged_outcome (net_table rule stage) portfolio (stream_bytes loss_form (loss_shape (losses_kind b)) (gul_head samples) of part)) (sym of_outputs)
      ∙ judged_makes (net_table rule stage) portfolio loss_form (loss_shape Loss) (gul_head samples) (gul_head samples) (net_records (tree_of rows stage) rule samples) refl refl
      (λ first later. ap (flat_map loss_bytes) (served.says.2 (first ∷ later))) of events_of reads.losses distinct fits_too served.says.0 runs_too part stretch

  abbrev summary_head : ℕ → Head
  summary_head set = record { samples = samples; set = set }

  -- `summarycalc`
  pub summary_one : (items : Bool) (set rule : ℕ) (of : ℕ → List LossRecord) → IsServed files samples footprint rows (Summarycalc items set rule) → IsDistinct nat_eq events_of
      → FitsStream LossRecord loss_form good_loss (loss_shape (losses_kind items)) (gul_head samples) of events_of → AllByRecursion (λ (event : ℕ). IsLossRun items rows event (of event)) events_of
      → MakesOne files (Summarycalc items set rule) (stream_bytes loss_form (loss_shape (losses_kind items)) (gul_head samples) of) (stream_bytes summary_form summary_shape (summary_head set) (λ event. run_summaries (perspective_of items) rows rule set (of event))) events_of
  summary_one items set rule of served distinct fits runs part stretch =
      let portfolio : PortfolioRows = record { rows = served.own; need = served.needed } in
      command_is files (command_need (Summarycalc items set rule)) served.needed served.own (λ one. tool_outcome [] (Summarycalc items set rule) files one (stream_bytes loss_form (loss_shape (losses_kind items)) (gul_head samples) of part)) served.is served.loads
      ∙ judged_makes (summary_table items set) portfolio summary_form summary_shape (summary_head set) (gul_head samples) (run_summaries (perspective_of items) rows rule set) refl refl
      (λ first later. ap (flat_map summary_bytes) (served.says.2 (first ∷ later))) of events_of reads.losses distinct fits served.says.0 (own_runs items served.own of served.says.1 events_of runs) part stretch
