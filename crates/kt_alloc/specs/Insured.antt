-- The insured losses of a run, output by output, and the sums of its layers.
-- The rule: docs/FINANCIAL_MODULE.md, "Insured losses".
use Rattle.std.specs.Prelude.{ℕ, suc, zero, ◌&&◌, cond, nat_eq, List, map, Option, Some, None}
use Rattle.std.specs.List.{filter_map, list_any, sum, sum_by}
use Rattle.std.specs.Map.{lookup}
use Rattle.kt_rec.specs.declared.financial.FmXref.{FmXref}
use Rattle.kt_keys.specs.Climbing.{climbed}
use Rattle.kt_stream.specs.declared.entry.LossRecord.{LossRecord}
use Rattle.kt_runs.specs.RunLosses.{event_of}
use Rattle.kt_runs.specs.Sidx.{pairs_of}
use Rattle.kt_rec.specs.Rising.{rising}
use Rattle.kt_fmtree.specs.Tree.{Tree, policy_loss}
use Rattle.kt_levels.specs.Shares.{layers_of, part_of_id, shares, taken_loss}
use Rattle.kt_runs.specs.Records.{insured_range, record_with, sample_range}
use Rattle.kt_block.specs.declared.layer_sum.LayerSum.{LayerSum}

-- ---- the loss of an output

-- an amount where a top has a layer, else nothing
abbrev pub of_layer : Tree → ℕ → ℕ → ℕ → ℕ
of_layer tree top layer amount = cond (list_any (nat_eq top) tree.tops && list_any (nat_eq layer) (tree.layers top)) amount 0

-- what an id has of a layer of the top that its losses come to
abbrev pub part_above : Tree → (ℕ → ℕ) → ℕ → ℕ → ℕ → Option ℕ → ℕ
part_above tree losses rule id layer None = 0
part_above tree losses rule id layer (Some top) = of_layer tree top layer (part_of_id tree losses rule top layer id)

-- the loss of the output of a unit and a layer: by rule 0 the policy loss of the top, by rules 1 and 2 the part of the item
abbrev pub output_loss : Tree → (ℕ → ℕ) → ℕ → ℕ → ℕ → ℕ
output_loss tree losses rule agg layer = cond (nat_eq rule 0) (of_layer tree agg layer (policy_loss tree losses agg layer)) (part_above tree losses rule agg layer (climbed tree.next tree.top_level 1 agg))

-- ---- the records

-- the record of an output: its losses at the mean and at the samples, where there are some
abbrev pub output_record : Tree → ℕ → ℕ → List LossRecord → FmXref → Option LossRecord
output_record tree rule samples records output =
    record_with (event_of records) output.output_id (pairs_of (λ sidx. output_loss tree (taken_loss tree records sidx) rule output.agg_id output.layer_id) (insured_range samples))

-- outputs by rising id
abbrev pub in_order : List FmXref → List FmXref
in_order outputs = filter_map (λ id. lookup (nat_eq id) (map (λ row. (row.output_id, row)) outputs)) (rising (map (λ row. row.output_id) outputs))

-- the insured losses of the records of a run
abbrev pub insured_records : Tree → ℕ → ℕ → List FmXref → List LossRecord → List LossRecord
insured_records tree rule samples outputs records = filter_map (output_record tree rule samples records) (in_order outputs)

-- ---- the sums of the layers

-- the sum of a layer, where its policy losses are not all 0
abbrev pub sum_with : ℕ → ℕ → ℕ → ℕ → ℕ → Option LayerSum
sum_with event top layer zero allocated = None
sum_with event top layer (suc less) allocated = Some (record { event = event; agg = top; layer = layer; policy = suc less; allocated = allocated })

-- over the samples, the policy losses of a layer added, and what they were shared out to
abbrev pub layer_sum : Tree → ℕ → ℕ → List LossRecord → ℕ × ℕ → Option LayerSum
layer_sum tree rule samples records key =
    sum_with (event_of records) key.0 key.1
    (sum_by (λ sidx. policy_loss tree (taken_loss tree records sidx) key.0 key.1) (sample_range samples))
    (sum_by (λ sidx. sum (shares tree (taken_loss tree records sidx) rule key.0 key.1)) (sample_range samples))

-- the sums of the layers, by top and then by layer
abbrev pub layer_sums : Tree → ℕ → ℕ → List LossRecord → List LayerSum
layer_sums tree rule samples records = filter_map (layer_sum tree rule samples records) (layers_of tree)
