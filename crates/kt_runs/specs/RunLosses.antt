-- The losses of records, sidx by sidx.
-- The rules: docs/CALCULATION.md, "Summaries"; docs/STREAMS.md, "Runs".
use Rattle.std.specs.Prelude.{ℕ, ◌≤◌, Bool, cond, nat_lt, ℤ, List, [], ◌∷◌, ◌++◌}
use Rattle.std.specs.List.{list_any, sum_by}
use Rattle.std.specs.Ordering.{int_eq}
use Rattle.kt_stream.specs.declared.entry.LossRecord.{LossRecord}
use Rattle.kt_stream.specs.declared.entry.Pair.{Pair}

-- the losses of pairs at a sidx, added
abbrev pub loss_of : ℤ → List Pair → ℕ
loss_of sidx pairs = sum_by (λ pair. cond (int_eq pair.sidx sidx) pair.loss 0) pairs

-- the losses of records at a sidx, added
abbrev pub run_loss : ℤ → List LossRecord → ℕ
run_loss sidx records = sum_by (λ entry. loss_of sidx entry.pairs) records

-- a record behind others takes the losses of one sidx past 10^16 cents
abbrev pub goes_past : List LossRecord → LossRecord → Bool
goes_past records entry = list_any (λ pair. nat_lt 10000000000000000 (run_loss pair.sidx (records ++ entry ∷ []))) entry.pairs

-- the losses of records add to at most 10^16 cents at each sidx
abbrev pub AreWithin : List LossRecord → Type 0
AreWithin records = (sidx : ℤ) → run_loss sidx records ≤ 10000000000000000

-- the event of the records of a run
abbrev pub event_of : List LossRecord → ℕ
event_of [] = 0
event_of (entry ∷ later) = entry.event
