-- What is left of records by lanes where amounts are taken from their losses.
-- The rule: docs/FINANCIAL_MODULE.md, "Reinsurance".
use Rattle.std.specs.Prelude.{ℕ, ◌-◌, ◌<◌, List, Option, Some, None, length, slice_index}
use Rattle.std.specs.List.{filter_map, zip}
use Rattle.kt_stream.specs.declared.entry.LossRecord.{LossRecord}
use Rattle.kt_lanes.specs.Lanes.{column}
use Rattle.kt_runs.specs.RunLosses.{loss_of}
use Rattle.kt_runs.specs.Sidx.{sidx_at}
use Rattle.kt_runs.specs.LossLanes.{lane_of}
use Rattle.kt_runs.specs.Records.{record_with}
use Rattle.kt_runs.specs.LaneRows.{pairs_by_row, row_place}
use Rattle.kt_runs.specs.declared.heads.LossHead.{LossHead}

-- what a place of lanes that may be absent has in a row
abbrev pub amount_in : List (List ℕ) → Option ℕ → ℕ → ℕ
amount_in taken None row = 0
amount_in taken (Some place) row = slice_index (column row taken) place

-- a place that may be absent has a lane
abbrev pub IsPlaceIn : List (List ℕ) → Option ℕ → Type 0
IsPlaceIn taken None = Unit {0}
IsPlaceIn taken (Some place) = place < length taken

-- what is left of a record where amounts are taken row by row
abbrev pub record_less : ℕ → List (List ℕ) → LossRecord → Option ℕ → Option LossRecord
record_less rows taken entry place = record_with entry.event entry.id (pairs_by_row (λ row. loss_of (sidx_at (row_place row)) entry.pairs - amount_in taken place row) rows)

-- what is left of records, each with its place among what is taken
abbrev pub records_less : ℕ → List (List ℕ) → List LossRecord → List (Option ℕ) → List LossRecord
records_less rows taken records places = filter_map (λ both. record_less rows taken both.0 both.1) (zip records places)

-- the record of a head without its deviation, where its lane has a loss
abbrev pub left_record : List (List ℕ) → LossHead → Option LossRecord
left_record lanes head = record_with head.event head.id (pairs_by_row (slice_index (lane_of lanes head)) (length (lane_of lanes head)))
