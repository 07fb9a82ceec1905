-- What a stage cedes of the losses of a run, and what is left, stage after stage.
-- The rule: docs/FINANCIAL_MODULE.md, "Reinsurance".
use Rattle.std.specs.Prelude.{ℕ, ◌-◌, ℤ, List, [], ◌∷◌, Option}
use Rattle.std.specs.List.{filter_map, sum_by}
use Rattle.kt_stream.specs.declared.entry.LossRecord.{LossRecord}
use Rattle.kt_runs.specs.RunLosses.{loss_of}
use Rattle.kt_runs.specs.Sidx.{pairs_of}
use Rattle.kt_fmtree.specs.Tree.{Tree}
use Rattle.kt_levels.specs.Shares.{layers_of, part_of_id, taken_loss}
use Rattle.kt_runs.specs.Records.{insured_range, record_with}

-- what an id cedes: over the layers of all tops, what it has of the policy loss; an id that is beneath no top cedes nothing
abbrev pub ceded_loss : Tree → (ℕ → ℕ) → ℕ → ℕ → ℕ
ceded_loss tree losses rule id = sum_by (λ key. part_of_id tree losses rule key.0 key.1 id) (layers_of tree)

-- what an id cedes of the losses of a run at a sidx
abbrev pub ceded_at : Tree → ℕ → List LossRecord → ℕ → ℤ → ℕ
ceded_at tree rule records id sidx = ceded_loss tree (taken_loss tree records sidx) rule id

-- what is left of a record: at the mean and at the samples its loss less what its id cedes, and nothing where that is more
abbrev pub net_record : Tree → ℕ → ℕ → List LossRecord → LossRecord → Option LossRecord
net_record tree rule samples records entry =
    record_with entry.event entry.id (pairs_of (λ sidx. loss_of sidx entry.pairs - ceded_at tree rule records entry.id sidx) (insured_range samples))

-- what its id cedes
abbrev pub ceded_record : Tree → ℕ → ℕ → List LossRecord → LossRecord → Option LossRecord
ceded_record tree rule samples records entry = record_with entry.event entry.id (pairs_of (ceded_at tree rule records entry.id) (insured_range samples))

-- the net losses of the records of a run; a record without a loss that is left has none
abbrev pub net_records : Tree → ℕ → ℕ → List LossRecord → List LossRecord
net_records tree rule samples records = filter_map (net_record tree rule samples records) records

-- the ceded losses
abbrev pub ceded_records : Tree → ℕ → ℕ → List LossRecord → List LossRecord
ceded_records tree rule samples records = filter_map (ceded_record tree rule samples records) records

-- the net losses behind stages, by allocation rule 2, each stage on the net losses of the one before
abbrev pub reinsured : List Tree → ℕ → List LossRecord → List LossRecord
reinsured [] samples records = records
reinsured (tree ∷ later) samples records = reinsured later samples (net_records tree 2 samples records)
