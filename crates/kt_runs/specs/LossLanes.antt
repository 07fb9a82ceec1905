-- Records of losses by lanes: that of a record has the loss of the mean, and behind it those of the samples; its deviation stands beside
-- its event and id.
-- The rules: docs/FINANCIAL_MODULE.md, "Insured losses"; docs/STREAMS.md, "Records".
use Rattle.std.specs.Prelude.{◌≡◌, ℕ, ◌+◌, ◌<◌, ◌≤◌, List, [], All, length, map, slice_index_or}
use Rattle.kt_lanes.specs.Lanes.{AreWide}
use Rattle.kt_stream.specs.declared.entry.LossRecord.{LossRecord}
use Rattle.kt_runs.specs.LaneRun.{LaneRun}
use Rattle.kt_runs.specs.RunLosses.{loss_of}
use Rattle.kt_runs.specs.Sidx.{sidx_at}
use Rattle.kt_runs.specs.LaneRows.{pairs_with}
use Rattle.kt_runs.specs.declared.heads.LossHead.{LossHead}
use Rattle.kt_runs.specs.declared.loss_lanes.LossLanes.TheInside.{Inside}

-- the record of a lane
abbrev pub lane_record : LossHead → List ℕ → LossRecord
lane_record head lane = record { event = head.event; id = head.id; pairs = pairs_with head.deviation lane }

-- the deviation of a record: its loss at sidx -2
abbrev pub deviation_of : LossRecord → ℕ
deviation_of entry = loss_of (sidx_at 2147483646) entry.pairs

-- the lane of a head
abbrev pub lane_of : List (List ℕ) → LossHead → List ℕ
lane_of lanes head = slice_index_or lanes head.place []

-- the record of a head
abbrev pub head_record : List (List ℕ) → LossHead → LossRecord
head_record lanes head = lane_record head (lane_of lanes head)

-- those of heads
abbrev pub lane_records : List LossHead → List (List ℕ) → List LossRecord
lane_records heads lanes = map (head_record lanes) heads

-- each head has one of the lanes
abbrev pub HaveLanes : List (List ℕ) → List LossHead → Type 0
HaveLanes lanes heads = All (λ head. head.place < length lanes) heads

-- what is kept stands for these records
abbrev pub run_of : Inside → LaneRun
run_of kept = record { rows = kept.rows; records = lane_records kept.heads.items kept.lanes }

-- there is a lane for each record, and each has a loss for each of at most 1,001 rows; a lane may be that of no record
pub record AreLossLanes (kept : Inside) : Type 0 where
  pub few : kept.rows ≤ 1001
  pub have : HaveLanes kept.lanes kept.heads.items
  pub wide : AreWide kept.rows kept.lanes

-- a head for want of another
abbrev pub no_head : LossHead
no_head = record { event = 0; id = 0; deviation = 0; place = 0 }

-- the place of the lane of the head in a place
abbrev pub place_at : List LossHead → ℕ → ℕ
place_at heads k = (slice_index_or heads k no_head).place

-- heads have all of so many lanes, in their order
pub record AreInTurn (count : ℕ) (heads : List LossHead) : Type 0 where
  pub many : length heads ≡ count
  pub each : (k : ℕ) → k < length heads → place_at heads k ≡ k

-- the lanes of heads stand in their order, and no two heads have the same
abbrev pub AreApart : List LossHead → Type 0
AreApart heads = (k : ℕ) → k + 1 < length heads → place_at heads k < place_at heads (k + 1)

-- a head whose lane stands elsewhere
abbrev pub head_at : LossHead → ℕ → LossHead
head_at head place = record { event = head.event; id = head.id; deviation = head.deviation; place = place }
