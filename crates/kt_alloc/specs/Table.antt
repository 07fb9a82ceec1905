-- What outputs and layers have in the rows of all sidx.
-- The rule: docs/FINANCIAL_MODULE.md, "Insured losses".
use Rattle.std.specs.Prelude.{ℕ, ◌+◌, List, [], ◌∷◌, length, Option, slice_index}
use Rattle.std.specs.List.{cons_option}
use Rattle.kt_stream.specs.declared.entry.LossRecord.{LossRecord}
use Rattle.kt_stream.specs.declared.entry.Pair.{Pair}
use Rattle.kt_levels.specs.Row.{Shared}
use Rattle.kt_runs.specs.Records.{record_with}
use Rattle.kt_levels.specs.Table.{row_at, sampled_sum}
use Rattle.kt_runs.specs.LaneRows.{pairs_by_row}
use Rattle.kt_levels.specs.declared.layers.TopLayer.{TopLayer}
use Rattle.kt_alloc.specs.Insured.{sum_with}
use Rattle.kt_alloc.specs.declared.outlets.Outlet.{Outlet}
use Rattle.kt_block.specs.declared.layer_sum.LayerSum.{LayerSum}

-- the pairs of the shares in a place
abbrev pub pairs_in : List Shared → ℕ → List Pair
pairs_in table place = pairs_by_row (λ row. slice_index (row_at table row).shares place) (length table)

-- the record of an output in a table
abbrev pub record_in : ℕ → List Shared → Outlet → Option LossRecord
record_in event table outlet = record_with event outlet.id (pairs_in table outlet.place)

-- the sum of the layer in a place
abbrev pub sum_in : ℕ → List Shared → TopLayer → ℕ → Option LayerSum
sum_in event table one place = sum_with event one.top one.layer (sampled_sum (λ row. slice_index row.policies place) table) (sampled_sum (λ row. slice_index row.totals place) table)

-- the sums of layers whose places begin at one
abbrev pub sums_in : ℕ → List Shared → ℕ → List TopLayer → List LayerSum
sums_in event table place [] = []
sums_in event table place (one ∷ layers) = cons_option (sum_in event table one place) (sums_in event table (place + 1) layers)
