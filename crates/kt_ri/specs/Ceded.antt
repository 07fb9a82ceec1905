-- What the ids of a programme cede of the losses of a run, row by row.
-- The rule: docs/FINANCIAL_MODULE.md, "Reinsurance".
use Rattle.std.specs.Prelude.{◌≡◌, ℕ, ◌+◌, ◌-◌, ◌<◌, Bool, cond, List, length, Option, slice_index}
use Rattle.std.specs.List.{filter_map}
use Rattle.kt_stream.specs.declared.entry.LossRecord.{LossRecord}
use Rattle.kt_stream.specs.declared.entry.Pair.{Pair}
use Rattle.kt_lanes.specs.Lanes.{AreWide, column}
use Rattle.kt_runs.specs.RunLosses.{loss_of}
use Rattle.kt_runs.specs.Sidx.{pairs_of, sidx_at}
use Rattle.kt_fmtree.specs.Tree.{Tree}
use Rattle.kt_fmtree.specs.Parts.{Parts, IsProgramme}
use Rattle.kt_runs.specs.Less.{amount_in}
use Rattle.kt_runs.specs.Records.{insured_range, record_with}
use Rattle.kt_runs.specs.LaneRows.{pairs_by_row, row_place}
use Rattle.kt_ri.specs.Reinsurance.{ceded_at}

-- a lane for each id, with amounts for the mean and for each sample
pub record AreRows (width samples : ℕ) (ceded : List (List ℕ)) : Type 0 where
  pub many : length ceded ≡ width
  pub each : AreWide (samples + 1) ceded

-- the amounts that the ids of a programme cede of the losses of a run
abbrev pub AreCeded : Parts → ℕ → ℕ → List LossRecord → List (List ℕ) → Type 0
AreCeded parts rule samples records ceded =
    (tree : Tree) → IsProgramme tree parts → (row place : ℕ) → row < samples + 1 → place < length parts.ids → slice_index (column row ceded) place ≡ ceded_at tree rule records (slice_index parts.ids place) (sidx_at (row_place row))

-- what is left of a loss of which so much is ceded, or that
abbrev pub part_behind : Bool → ℕ → ℕ → ℕ
part_behind left loss ceded = cond left (loss - ceded) ceded

-- what is left of a record, or what its id cedes, row by row
abbrev pub pairs_behind : Bool → List (List ℕ) → ℕ → Option ℕ → List Pair → List Pair
pairs_behind left ceded samples place pairs = pairs_by_row (λ row. part_behind left (loss_of (sidx_at (row_place row)) pairs) (amount_in ceded place row)) (samples + 1)

-- as a record: the net record, or the ceded one
abbrev pub record_behind : Bool → Tree → ℕ → ℕ → List LossRecord → LossRecord → Option LossRecord
record_behind left tree rule samples records entry =
    record_with entry.event entry.id (pairs_of (λ sidx. part_behind left (loss_of sidx entry.pairs) (ceded_at tree rule records entry.id sidx)) (insured_range samples))

-- those of a run
abbrev pub records_behind : Bool → Tree → ℕ → ℕ → List LossRecord → List LossRecord
records_behind left tree rule samples records = filter_map (record_behind left tree rule samples records) records
