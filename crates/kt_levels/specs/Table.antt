-- The rows of all sidx.
-- The rule: docs/FINANCIAL_MODULE.md, "Insured losses".
use Rattle.std.specs.Prelude.{ℕ, ◌+◌, ◌-◌, ◌<◌, ◌≤◌, List, length, map, slice_index, slice_index_or}
use Rattle.std.specs.List.{range_with_len, sum_by}
use Rattle.kt_stream.specs.declared.entry.LossRecord.{LossRecord}
use Rattle.kt_runs.specs.LaneRows.{row_place}
use Rattle.kt_runs.specs.Sidx.{sidx_at}
use Rattle.kt_fmtree.specs.Tree.{Tree}
use Rattle.kt_levels.specs.Shares.{taken_loss}
use Rattle.kt_levels.specs.Row.{Shared, no_shares, row_for}

-- the rows of the mean and of so many samples
abbrev pub table_for : Tree → ℕ → ℕ → List LossRecord → List (ℕ × ℕ) → List Shared
table_for tree rule samples records layers = map (λ row. row_for tree (taken_loss tree records (sidx_at (row_place row))) rule layers) (range_with_len 0 (samples + 1))

-- the row in a place
abbrev pub row_at : List Shared → ℕ → Shared
row_at table row = slice_index_or table row no_shares

-- amounts of the samples added
abbrev pub sampled_sum : (Shared → ℕ) → List Shared → ℕ
sampled_sum amount table = sum_by (λ row. amount (row_at table row)) (range_with_len 1 (length table - 1))

-- a row has a policy loss and a total in a place, of at most 10^16 cents
pub record HasAmounts (place : ℕ) (row : Shared) : Type 0 where
  pub policy : place < length row.policies
  pub total : place < length row.totals
  pub policy_few : slice_index row.policies place ≤ 10000000000000000
  pub total_few : slice_index row.totals place ≤ 10000000000000000
