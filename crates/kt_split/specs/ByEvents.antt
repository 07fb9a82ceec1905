-- What each event gives at each stage, and the streams of the records of events, as the tools read and write them.
-- The rules: docs/STREAMS.md, "Runs"; docs/CHAIN.md, "One event".
use Rattle.std.specs.Prelude.{◌≡◌, ℕ, Bool, true, List, [], ◌∷◌}
use Rattle.std.specs.List.{AllByRecursion}
use Rattle.kt_gul.specs.GroundUp.{ground_up_records}
use Rattle.kt_load.specs.EventRows.{event_rows}
use Rattle.kt_losses.specs.Judged.{is_known}
use Rattle.kt_loop.specs.EventRuns.{IsEventRun}
use Rattle.kt_loop.specs.Runs.{loss_key}
use Rattle.kt_model.specs.Distribution.{distributions_of}
use Rattle.kt_rec.specs.Rows.{Rows}
use Rattle.kt_runs.specs.RunLosses.{AreWithin}
use Rattle.kt_stream.specs.declared.entry.Cdf.{Cdf}
use Rattle.kt_stream.specs.declared.entry.LossRecord.{LossRecord}
use Rattle.kt_stream.specs.declared.event_id.EventId.{EventId}

-- an event as a record of a stream of ids
abbrev pub event_entry : ℕ → List EventId
event_entry event = record { event = event } ∷ []

-- the distributions of an event, by the rows of the tables and the footprint's file
abbrev pub cdfs_of : Rows → List ℕ → ℕ → List Cdf
cdfs_of rows footprint event = distributions_of rows event (event_rows rows footprint event)

-- losses of an event such as a tool over losses takes: one run, or none, of ids that there are, that add to at most 10^16 cents at each sidx
pub record IsLossRun (items : Bool) (rows : Rows) (event : ℕ) (records : List LossRecord) : Type 0 where
  pub run : IsEventRun loss_key event records
  pub known : AllByRecursion (λ (entry : LossRecord). is_known items rows entry.id ≡ true) records
  pub within : AreWithin records

-- the losses of a run of distributions: none where there are none
abbrev pub losses_of_cdfs : Rows → ℕ → Bool → List Cdf → List LossRecord
losses_of_cdfs rows samples cut [] = []
losses_of_cdfs rows samples cut (first ∷ later) = ground_up_records rows samples cut first.event (first ∷ later)
