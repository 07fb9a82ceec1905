-- What the laws of split runs stand on: what is known of the records that each stage makes of an event, and that they are read back.
-- The rules: docs/COMMANDS.md, "Split runs"; docs/STREAMS.md, "Runs".
use Rattle.std.specs.Prelude.{◌≡◌, ◌≤◌, ◌*◌, ◌+◌, ◌^◌, ℕ, ℤ, Bool, true, false, nat_eq, None, List, length, map, All}
use Rattle.std.specs.List.{IsDistinct}
use Rattle.std.specs.List.Sorted.{IsStrictlyIncreasing}
use Rattle.kt_eve.specs.Laws.{PartsMakeTheEvents}
use Rattle.kt_block.specs.Terms.{AreTerms}
use Rattle.kt_block.specs.declared.terms.Terms.{Terms}
use Rattle.kt_gul.specs.GroundUp.{ground_up_records}
use Rattle.kt_gul.specs.StruckItems.{AreCdfs}
use Rattle.kt_alloc.specs.Insured.{insured_records}
use Rattle.kt_losses.specs.Judged.{is_known}
use Rattle.kt_loop.specs.EventStreams.{ReadsBack}
use Rattle.kt_model.specs.Distribution.{distributions_of}
use Rattle.kt_rec.specs.FootRows.{first_refused_row}
use Rattle.kt_rec.specs.Ranges.{AreInRange}
use Rattle.kt_rec.specs.Rows.{Rows}
use Rattle.kt_rec.specs.declared.hazard.FootRow.{FootRow}
use Rattle.kt_rec.specs.declared.perspective.Perspective.{Perspective}
use Rattle.kt_ri.specs.Reinsurance.{reinsured}
use Rattle.kt_runs.specs.RunLosses.{AreWithin, event_of, run_loss}
use Rattle.kt_stream.specs.Bins.{IsCdf, cdf_form}
use Rattle.kt_stream.specs.EventIds.{event_form}
use Rattle.kt_stream.specs.Losses.{IsLoss, loss_form}
use Rattle.kt_stream.specs.Pairs.{IsId}
use Rattle.kt_stream.specs.Summary.{IsSummary, summary_form}
use Rattle.kt_stream.specs.declared.entry.Cdf.{Cdf}
use Rattle.kt_stream.specs.declared.entry.LossRecord.{LossRecord}
use Rattle.kt_stream.specs.declared.entry.SummaryRecord.{SummaryRecord}
use Rattle.kt_stream.specs.declared.event_id.EventId.{EventId}
use Rattle.kt_stream.specs.declared.kind.Shape.{Shape}
use Rattle.kt_sum.specs.Summaries.{run_summaries}
use Rattle.kt_tables.specs.Lookups.{event_ids}
use Rattle.kt_fmtree.specs.Programme.{tree_of}
use Rattle.kt_fmtree.specs.Tree.{Tree}

-- the records of each kind of stream
abbrev pub good_event : Shape → ℕ → EventId → Type 0
good_event shape samples entry = IsId entry.event

abbrev pub good_cdf : Shape → ℕ → Cdf → Type 0
good_cdf shape samples entry = IsCdf shape.bins entry

abbrev pub good_loss : Shape → ℕ → LossRecord → Type 0
good_loss shape samples entry = IsLoss samples entry

abbrev pub good_summary : Shape → ℕ → SummaryRecord → Type 0
good_summary shape samples entry = IsSummary samples entry

-- what is written of each kind is read back
pub record ReadsAll : Type 0 where
  pub events : ReadsBack EventId event_form good_event
  pub cdfs : ReadsBack Cdf cdf_form good_cdf
  pub losses : ReadsBack LossRecord loss_form good_loss
  pub summaries : ReadsBack SummaryRecord summary_form good_summary

-- ---- what is known of what each stage makes

-- distributions of an event: of a stream where no row of its footprint is refused, all of the event, and in order
pub record ModelFacts (rows : Rows) : Type 0 where
  pub good : (event : ℕ) (foot : List FootRow) → IsId event → first_refused_row foot ≡ None → All (IsCdf (length rows.damage_bin_dict)) (distributions_of rows event foot)
  pub event : (event : ℕ) (foot : List FootRow) → All (λ (cdf : Cdf). cdf.event ≡ event) (distributions_of rows event foot)
  pub rising : (event : ℕ) (foot : List FootRow) → IsStrictlyIncreasing (map (λ (cdf : Cdf). cdf.areaperil * 2 ^ 32 + cdf.vulnerability) (distributions_of rows event foot))

-- ground-up losses of an event: far within the limit of a run, of a stream, all of the event, and by rising id
pub record GulFacts (rows : Rows) : Type 0 where
  pub within : (samples event : ℕ) (cut : Bool) (cdfs : List Cdf) → AreCdfs (length rows.damage_bin_dict) cdfs → (sidx : ℤ) → run_loss sidx (ground_up_records rows samples cut event cdfs) ≤ 200000000000000
  pub good : (samples event : ℕ) (cut : Bool) (cdfs : List Cdf) → IsId event → AreCdfs (length rows.damage_bin_dict) cdfs → All (IsLoss samples) (ground_up_records rows samples cut event cdfs)
  pub event : (samples event : ℕ) (cut : Bool) (cdfs : List Cdf) → All (λ (entry : LossRecord). entry.event ≡ event) (ground_up_records rows samples cut event cdfs)
  pub rising : (samples event : ℕ) (cut : Bool) (cdfs : List Cdf) → IsStrictlyIncreasing (map (λ (entry : LossRecord). entry.id) (ground_up_records rows samples cut event cdfs))

-- insured losses of a run: within its limit where the ground-up losses are far within it, of a stream, all of the event of the run, by rising id, and of outputs
pub record InsuredFacts (rows : Rows) (rule : ℕ) : Type 0 where
  pub within : (samples : ℕ) (records : List LossRecord) → ((sidx : ℤ) → run_loss sidx records ≤ 200000000000000) → AreWithin (insured_records (tree_of rows 0) rule samples rows.fm_xref records)
  pub good : (samples : ℕ) (records : List LossRecord) → All (IsLoss samples) records → AreWithin records → All (IsLoss samples) (insured_records (tree_of rows 0) rule samples rows.fm_xref records)
  pub event : (samples : ℕ) (records : List LossRecord) → All (λ (entry : LossRecord). entry.event ≡ event_of records) (insured_records (tree_of rows 0) rule samples rows.fm_xref records)
  pub rising : (samples : ℕ) (records : List LossRecord) → IsStrictlyIncreasing (map (λ (entry : LossRecord). entry.id) (insured_records (tree_of rows 0) rule samples rows.fm_xref records))
  pub known : (samples : ℕ) (records : List LossRecord) → All (λ (entry : LossRecord). is_known false rows entry.id ≡ true) (insured_records (tree_of rows 0) rule samples rows.fm_xref records)

-- losses behind stages: what is known of the losses before
pub record NetFacts : Type 0 where
  pub good : (trees : List Tree) (samples : ℕ) (records : List LossRecord) → All (IsLoss samples) records → AreWithin records → All (IsLoss samples) (reinsured trees samples records)
  pub within : (trees : List Tree) (samples : ℕ) (records : List LossRecord) → AreWithin records → AreWithin (reinsured trees samples records)
  pub event : (trees : List Tree) (samples event : ℕ) (records : List LossRecord) → All (λ (entry : LossRecord). entry.event ≡ event) records → All (λ (entry : LossRecord). entry.event ≡ event) (reinsured trees samples records)
  pub rising : (trees : List Tree) (samples : ℕ) (records : List LossRecord) → IsStrictlyIncreasing (map (λ (entry : LossRecord). entry.id) records) → IsStrictlyIncreasing (map (λ (entry : LossRecord). entry.id) (reinsured trees samples records))
  pub known : (trees : List Tree) (samples : ℕ) (known : ℕ → Bool) (records : List LossRecord) → All (λ (entry : LossRecord). known entry.id ≡ true) records → All (λ (entry : LossRecord). known entry.id ≡ true) (reinsured trees samples records)

-- summaries of losses: of a stream where the losses are
pub record SummaryFacts (rows : Rows) (rule : ℕ) : Type 0 where
  pub good : (perspective : Perspective) (set samples : ℕ) (records : List LossRecord) → AreWithin records → All (IsLoss samples) records → All (IsSummary samples) (run_summaries perspective rows rule set records)

-- what is known of a run of these terms over these rows, up to the ground-up losses and the summaries of any losses
pub record GroundUpFacts (terms : Terms) (rows : Rows) : Type 0 where
  pub are : AreTerms terms
  pub reads : ReadsAll
  pub together : PartsMakeTheEvents
  pub distinct : IsDistinct nat_eq (event_ids rows)
  pub in_range : AreInRange rows
  pub model : ModelFacts rows
  pub gul : GulFacts rows
  pub summaries : SummaryFacts rows terms.rule

-- and behind them
pub record LossFacts (terms : Terms) (rows : Rows) : Type 0 where
  pub ground_up : GroundUpFacts terms rows
  pub insured : InsuredFacts rows terms.rule
  pub net : NetFacts
