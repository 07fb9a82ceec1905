-- The losses of a run by the places of their ids.
-- The rule: docs/FINANCIAL_MODULE.md, "Insured losses".
use Rattle.std.specs.Prelude.{ℕ, ◌+◌, List, length, map}
use Rattle.kt_stream.specs.declared.entry.LossRecord.{LossRecord}
use Rattle.kt_runs.specs.Sidx.{sidx_at}
use Rattle.kt_lanes.specs.Lanes.{AreLanes}
use Rattle.kt_runs.specs.Records.{id_loss}
use Rattle.kt_runs.specs.LaneRows.{row_place}

-- ids have a lane each, with the losses of records row by row
abbrev pub AreIdLanes : List ℕ → ℕ → List LossRecord → List (List ℕ) → Type 0
AreIdLanes ids samples records lanes = AreLanes (samples + 1) (length ids) (λ row. map (id_loss records (sidx_at (row_place row))) ids) lanes
