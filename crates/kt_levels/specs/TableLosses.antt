-- Records of the shares of a table.
-- The rule: docs/FINANCIAL_MODULE.md, "Insured losses".
use Rattle.std.specs.Prelude.{ℕ, ◌<◌, List, All, length, map, slice_index}
use Rattle.kt_stream.specs.declared.entry.LossRecord.{LossRecord}
use Rattle.kt_runs.specs.LossLanes.{lane_record}
use Rattle.kt_levels.specs.Row.{Shared}
use Rattle.kt_levels.specs.TableRun.{TableRun}
use Rattle.kt_runs.specs.declared.heads.LossHead.{LossHead}
use Rattle.kt_levels.specs.declared.table_losses.TableLosses.TheInside.{Inside}

-- the shares in a place, row by row
abbrev pub share_lane : List Shared → ℕ → List ℕ
share_lane table place = map (λ row. slice_index row.shares place) table

-- a place has a share in each row
abbrev pub HasShare : List Shared → ℕ → Type 0
HasShare table place = All (λ row. place < length row.shares) table

-- the record of the shares in the place of a head
abbrev pub share_record : List Shared → LossHead → LossRecord
share_record table head = lane_record head (share_lane table head.place)

-- what is kept stands for these records
abbrev pub table_run_of : Inside → TableRun
table_run_of kept = record { table = kept.table; records = map (share_record kept.table) kept.heads.items }

-- each record has a share in each row
pub record AreTableLosses (kept : Inside) : Type 0 where
  pub have : All (λ head. HasShare kept.table head.place) kept.heads.items
