-- The records that are held in others, by their places.
-- The rule: docs/STREAMS.md, "Runs".
use Rattle.std.proofs.Common.{◌≡◌, ℕ, ◌<◌, List, length, map, slice_index_or, sym, ap, ◌∙◌}
use Rattle.std.proofs.lemmas.List.{get_or-map}
use Rattle.kt_stream.specs.declared.entry.LossRecord.{LossRecord}

-- a record that is held at a place is there among all
pub entry_at : {T : Type 0} (entry_of : T → LossRecord) (records : List T) (i : ℕ) (item : T) (entry : LossRecord) → i < length records → item ≡ slice_index_or records i item → entry ≡ entry_of item → (d : LossRecord) → entry ≡ slice_index_or (map entry_of records) i d
entry_at entry_of records i item entry below item_is is d = is ∙ (ap entry_of item_is ∙ sym (get_or-map entry_of records i item d below))
