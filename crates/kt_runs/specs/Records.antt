-- Records of losses: their ids, what an id has at a sidx, the sidx of the mean and of samples, and a record of pairs.
-- The rule: docs/STREAMS.md, "Runs".
use Rattle.std.specs.Prelude.{ℕ, cond, nat_eq, ℤ, pos, negsuc, List, [], ◌∷◌, map, Option, Some, None}
use Rattle.std.specs.List.{range_with_len, sum_by}
use Rattle.kt_stream.specs.declared.entry.LossRecord.{LossRecord}
use Rattle.kt_stream.specs.declared.entry.Pair.{Pair}
use Rattle.kt_runs.specs.RunLosses.{loss_of}

-- the ids of records
abbrev pub ids_of : List LossRecord → List ℕ
ids_of records = map (λ entry. entry.id) records

-- the losses of an id at a sidx among records, added
abbrev pub id_loss : List LossRecord → ℤ → ℕ → ℕ
id_loss records sidx id = sum_by (λ entry. cond (nat_eq entry.id id) (loss_of sidx entry.pairs) 0) records

-- the samples
abbrev pub sample_range : ℕ → List ℤ
sample_range samples = map pos (range_with_len 1 samples)

-- the sidx of insured losses: the mean, and the samples
abbrev pub insured_range : ℕ → List ℤ
insured_range samples = negsuc 0 ∷ sample_range samples

-- a record of pairs, where there are some
abbrev pub record_with : ℕ → ℕ → List Pair → Option LossRecord
record_with event id [] = None
record_with event id (pair ∷ pairs) = Some (record { event = event; id = id; pairs = pair ∷ pairs })
