-- Runs of single tools over parts of the event list, joined by `kat`.
-- The rules: docs/COMMANDS.md, "Split runs".
use Rattle.std.specs.Prelude.{◌≡◌, ◌≤◌, ℕ, Bool, true, false, List, [], ◌∷◌, ◌++◌, length, map, Option, Some, None, Ok, ◌==◌, ◌&&◌, nat_eq, unwrap_or}
use Rattle.std.specs.List.{AllByRecursion, flat_map, list_any, range_with_len}
use Rattle.kt_chain.specs.Events.{run_input}
use Rattle.kt_chain.specs.Files.{text_whole}
use Rattle.kt_chain.specs.SetRecords.{set_records}
use Rattle.kt_checks.specs.Checks.{samples_refusal}
use Rattle.kt_ends.specs.Outcome.{Outcome}
use Rattle.kt_ends.specs.declared.status.Status.{Status}
use Rattle.kt_ends.specs.declared.status.Status.TheVariants.{Done}
use Rattle.kt_cell.specs.Losses.{same_perspective}
use Rattle.kt_block.specs.declared.terms.SummarySet.{SummarySet}
use Rattle.kt_block.specs.declared.terms.Terms.{Terms}
use Rattle.kt_files.specs.declared.file.OutputFile.TheVariants.{OfSet}
use Rattle.kt_files.specs.declared.file.SetTable.{SetTable}
use Rattle.kt_files.specs.declared.file.SetTable.TheVariants.{EventLoss, PeriodLoss}
use Rattle.kt_alloc.specs.Insured.{insured_records}
use Rattle.kt_kat.specs.Files.{file_limit}
use Rattle.kt_kat.specs.Outcome.{kat_outcome}
use Rattle.kt_keys.specs.declared.need.Need.{Need}
use Rattle.kt_load.specs.EventRows.{event_rows, footprint_name}
use Rattle.kt_load.specs.Loaded.{loaded}
use Rattle.kt_losses.specs.Judged.{is_known}
use Rattle.kt_losses.specs.Tables.{perspective_of}
use Rattle.kt_loop.specs.Contents.{Contents}
use Rattle.kt_loop.specs.EventStreams.{whole_contents}
use Rattle.kt_loop.specs.Outcome.{gives}
use Rattle.kt_out.specs.NamedFiles.{FileMap}
use Rattle.kt_periods.specs.PeriodTables.{contents_outcome}
use Rattle.kt_periods.specs.declared.table.PeriodTable.TheVariants.{AverageAnnualLoss, ExceedanceCurve}
use Rattle.kt_rec.specs.FootRows.{first_refused_row}
use Rattle.kt_rec.specs.Rows.{Rows}
use Rattle.kt_rec.specs.declared.curve.Curve.{Curve}
use Rattle.kt_rec.specs.declared.perspective.Perspective.{Perspective}
use Rattle.kt_rec.specs.declared.perspective.Perspective.TheVariants.{Gul, Il, Ri}
use Rattle.kt_ri.specs.Reinsurance.{net_records}
use Rattle.kt_stream.specs.Stream.{stream_limit}
use Rattle.kt_stream.specs.Summary.{summary_form, summary_shape}
use Rattle.kt_stream.specs.declared.entry.Cdf.{Cdf}
use Rattle.kt_stream.specs.declared.entry.LossRecord.{LossRecord}
use Rattle.kt_stream.specs.declared.entry.SummaryRecord.{SummaryRecord}
use Rattle.kt_stream.specs.declared.kind.Head.{Head}
use Rattle.kt_sum.specs.Summaries.{run_summaries}
use Rattle.kt_tables.specs.Lookups.{event_ids, occurrences_of}
use Rattle.kt_fmtree.specs.Programme.{tree_of}
use Rattle.kt_words.specs.declared.command.Command.{Command}
use Rattle.kt_words.specs.declared.command.Command.TheVariants.{Aalcalc, Eltcalc, Eve, Fmcalc, FmcalcNet, Getmodel, Gulcalc, Leccalc, Pltcalc, Summarycalc}
use Rattle.kt_split.specs.ByEvents.{cdfs_of, losses_of_cdfs}
use Rattle.kt_tools.specs.Needs.{command_need}
use Rattle.kt_tools.specs.Outcome.{command_outcome}

-- ---- tools one after the other

-- an outcome, or where it is done what the next makes of its output
abbrev pub handed_by : Status → Outcome → (List ℕ → Outcome) → Outcome
handed_by Done one next = next one.output
handed_by end one next = one

abbrev pub handed : Outcome → (List ℕ → Outcome) → Outcome
handed one next = handed_by one.status one next

-- what commands give one after the other, the first of a source and each other of what the one before gives
abbrev pub piped : FileMap → List Command → List ℕ → Outcome
piped files [] source = gives Done source
piped files (command ∷ later) source = handed (command_outcome [] command files source) (piped files later)

-- what comes of part p of n of the event list by these stages
abbrev pub part_outcome : FileMap → List Command → ℕ → ℕ → Outcome
part_outcome files stages p n = piped files (Eve p n ∷ stages) []

-- ---- the stages of a run

-- the losses of a perspective behind the ground-up losses: insured losses, and then net losses stage by stage
abbrev pub loss_stages : Perspective → ℕ → ℕ → List Command
loss_stages Gul rule stages = []
loss_stages Il rule stages = Fmcalc rule ∷ []
loss_stages Ri rule stages = Fmcalc rule ∷ map (FmcalcNet 2) (range_with_len 1 stages)

-- the summaries of a set of a perspective: of net losses by rule 2
abbrev pub summary_by : ℕ → ℕ → Perspective → Command
summary_by rule set Gul = Summarycalc true set rule
summary_by rule set Il = Summarycalc false set rule
summary_by rule set Ri = Summarycalc false set 2

-- the stages from event ids to the ground-up losses
abbrev pub ground_up_stages : Terms → List Command
ground_up_stages terms = Getmodel ∷ Gulcalc terms.samples terms.cut ∷ []

-- the stages from event ids to the losses of a perspective
abbrev pub losses_by_stages : Terms → Perspective → List Command
losses_by_stages terms perspective = ground_up_stages terms ++ loss_stages perspective terms.rule terms.stages

-- the stages from event ids to the summaries of a set of a perspective
abbrev pub split_stages : Terms → Perspective → ℕ → List Command
split_stages terms perspective set = losses_by_stages terms perspective ++ summary_by terms.rule set perspective ∷ []

-- ---- parts, joined

-- each name stands for what is made of a number, of at most 2^30 bytes
abbrev pub AreFiles : FileMap → (ℕ → List ℕ) → List (List ℕ) → List ℕ → Type 0
AreFiles kept made [] [] = Unit {0}
AreFiles kept made [] (number ∷ numbers) = ⊥
AreFiles kept made (name ∷ names) [] = ⊥
AreFiles kept made (name ∷ names) (number ∷ numbers) = (kept name ≡ Some (made number)) × (length (made number) ≤ file_limit) × AreFiles kept made names numbers

-- `kat` is done and gives what the stages give of the whole event list, where each name, in order, stands for what they give of a part
pub record IsJoined (files : FileMap) (stages : List Command) (n : ℕ) (names : List (List ℕ)) (kept : FileMap) : Type 0 where
  pub joined : kat_outcome names kept ≡ part_outcome files stages 1 1
  pub whole : (part_outcome files stages 1 1).status ≡ Done
  pub parts : AllByRecursion (λ (p : ℕ). (part_outcome files stages p n).status ≡ Done) (range_with_len 1 n)

-- the parts of every split run by these stages are joined so
abbrev pub JoinsParts : FileMap → List Command → Type 0
JoinsParts files stages = (n : ℕ) (names : List (List ℕ)) (kept : FileMap) → 1 ≤ n → AreFiles kept (λ p. (part_outcome files stages p n).output) names (range_with_len 1 n) → IsJoined files stages n names kept

-- ---- what the tools of a split run load

-- a command's tables load, and this is so of their rows
pub record Loads (files : FileMap) (need : Option Need) (Says : Rows → Need → Type 0) : Type 0 where
  pub needed : Need
  pub is : need ≡ Some needed
  pub own : Rows
  pub loads : loaded files needed ≡ Ok own
  pub says : Says own needed

-- in what a command uses of its tables they are as these rows, for streams of so many samples; nothing is said of commands of no stage
abbrev pub Serves : ℕ → List ℕ → Rows → Command → Rows → Need → Type 0
Serves samples footprint rows (Eve part parts) own need = event_ids own ≡ event_ids rows
Serves samples footprint rows Getmodel own need = (event : ℕ) → (event_rows own footprint event ≡ event_rows rows footprint event) × (cdfs_of own footprint event ≡ cdfs_of rows footprint event)
Serves samples footprint rows (Gulcalc of cut) own need =
    (length own.damage_bin_dict ≡ length rows.damage_bin_dict) × ((cdfs : List Cdf) → losses_of_cdfs own of cut cdfs ≡ losses_of_cdfs rows of cut cdfs)
Serves samples footprint rows (Fmcalc rule) own need =
    (samples_refusal own need samples ≡ None) × ((id : ℕ) → is_known true own id ≡ is_known true rows id)
    × ((records : List LossRecord) → insured_records (tree_of own 0) rule samples own.fm_xref records ≡ insured_records (tree_of rows 0) rule samples rows.fm_xref records)
Serves samples footprint rows (FmcalcNet rule stage) own need =
    (samples_refusal own need samples ≡ None) × ((id : ℕ) → is_known (stage == 0) own id ≡ is_known (stage == 0) rows id)
    × ((records : List LossRecord) → net_records (tree_of own stage) rule samples records ≡ net_records (tree_of rows stage) rule samples records)
Serves samples footprint rows (Summarycalc items set rule) own need =
    (samples_refusal own need samples ≡ None) × ((id : ℕ) → is_known items own id ≡ is_known items rows id)
    × ((records : List LossRecord) → run_summaries (perspective_of items) own need.rule set records ≡ run_summaries (perspective_of items) rows rule set records)
Serves samples footprint rows (Pltcalc heading) own need = (event : ℕ) → occurrences_of own event ≡ occurrences_of rows event
Serves samples footprint rows Aalcalc own need = (contents : Contents Head SummaryRecord) → contents_outcome AverageAnnualLoss own contents ≡ contents_outcome AverageAnnualLoss rows contents
Serves samples footprint rows (Leccalc curve) own need = (contents : Contents Head SummaryRecord) → contents_outcome (ExceedanceCurve curve) own contents ≡ contents_outcome (ExceedanceCurve curve) rows contents
Serves samples footprint rows command own need = Unit {0}

-- a command loads its tables, and in what it uses of them they are as these rows
abbrev pub IsServed : FileMap → ℕ → List ℕ → Rows → Command → Type 0
IsServed files samples footprint rows command = Loads files (command_need command) (Serves samples footprint rows command)

-- ---- sizes

-- some stages are the first of others
pub record IsFront (front stages : List Command) : Type 0 where
  pub back : List Command
  pub is : stages ≡ front ++ back

-- what the whole event list gives by these stages, and by the first of them, has at most 2^40 bytes
abbrev pub EachFits : FileMap → List Command → Type 0
EachFits files stages = (front : List Command) → IsFront front stages → length (part_outcome files front 1 1).output ≤ stream_limit

-- ---- a split run

-- the bytes of the footprint's file
abbrev pub footprint_of : FileMap → List ℕ
footprint_of files = unwrap_or (files footprint_name) []

-- stages over the files of a run whose tables have these rows: no event's footprint rows are refused, the stages load their tables, and
-- what they give of all events is not too long
pub record IsSplitRun (files : FileMap) (samples : ℕ) (rows : Rows) (stages : List Command) : Type 0 where
  pub unrefused : AllByRecursion (λ (event : ℕ). first_refused_row (event_rows rows (footprint_of files) event) ≡ None) (event_ids rows)
  pub parts : (p n : ℕ) → IsServed files samples (footprint_of files) rows (Eve p n)
  pub served : AllByRecursion (IsServed files samples (footprint_of files) rows) stages
  pub fits : EachFits files stages

-- ---- the sets of a run

-- whether a set is this one
abbrev pub same_set : SummarySet → SummarySet → Bool
same_set set one = same_perspective one.perspective set.perspective && nat_eq one.set set.set

-- whether a set is among others
abbrev pub has_set : SummarySet → List SummarySet → Bool
has_set set sets = list_any (same_set set) sets

-- ---- the tables of a set

-- the text of the file of a set in the run of all stages
abbrev pub file_text : Terms → Rows → FileMap → SummarySet → SetTable → List ℕ
file_text terms rows files set table = text_whole (run_input terms rows files) (event_ids rows) (OfSet set table)

-- a summary stream with the records of all events in a set, as it is read
abbrev pub set_contents : Terms → Rows → FileMap → SummarySet → Contents Head SummaryRecord
set_contents terms rows files set = whole_contents summary_form summary_shape (record { samples = terms.samples; set = set.set }) (flat_map (set_records (run_input terms rows files) set) (event_ids rows))

-- the tools over these bytes give the event and the period loss table that the run of all stages makes of the set, and over all periods
-- what comes of the records of all events in the set
pub record GivesTables (files : FileMap) (terms : Terms) (rows : Rows) (set : SummarySet) (summaries : List ℕ) : Type 0 where
  pub event_losses : command_outcome [] (Eltcalc true) files summaries ≡ gives Done (file_text terms rows files set EventLoss)
  pub period_losses : IsServed files terms.samples (footprint_of files) rows (Pltcalc true) → command_outcome [] (Pltcalc true) files summaries ≡ gives Done (file_text terms rows files set PeriodLoss)
  pub averages : IsServed files terms.samples (footprint_of files) rows Aalcalc → command_outcome [] Aalcalc files summaries ≡ contents_outcome AverageAnnualLoss rows (set_contents terms rows files set)
  pub curves : (curve : Curve) → IsServed files terms.samples (footprint_of files) rows (Leccalc curve) → command_outcome [] (Leccalc curve) files summaries ≡ contents_outcome (ExceedanceCurve curve) rows (set_contents terms rows files set)

-- so it is of the summary streams of all parts, joined
abbrev pub JoinedGiveTables : FileMap → Terms → Rows → SummarySet → Type 0
JoinedGiveTables files terms rows set =
    (n : ℕ) (names : List (List ℕ)) (kept : FileMap) → 1 ≤ n → AreFiles kept (λ p. (part_outcome files (split_stages terms set.perspective set.set) p n).output) names (range_with_len 1 n)
    → GivesTables files terms rows set (kat_outcome names kept).output
