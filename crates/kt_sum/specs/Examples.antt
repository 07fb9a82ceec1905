-- The worked examples of docs/CALCULATION.md and docs/EXAMPLES.md, by computing.
-- The rule: docs/CALCULATION.md, "Summaries".
use Rattle.std.specs.Prelude.{◌≡◌, ℕ, cond, nat_lt, pos, negsuc, List, [], ◌∷◌, Some}
use Rattle.std.proofs.Common.{refl}
use Rattle.kt_stream.specs.declared.entry.LossRecord.{LossRecord}
use Rattle.kt_sum.specs.Summaries.{summaries_by}

-- a sample of an output in event 4
sampled : ℕ → ℕ → LossRecord
sampled id loss = record { event = 4; id = id; pairs = record { sidx = pos 1; loss = loss } ∷ [] }

-- four outputs in one summary, which is worth 2,000.00
four_outputs : summaries_by (λ id. Some 1) (λ summary. 200000) (sampled 1 3461 ∷ sampled 2 1730 ∷ sampled 3 1539 ∷ sampled 4 770 ∷ []) ≡ record { event = 4; summary = 1; exposure = 200000; pairs = record { sidx = pos 1; loss = 7500 } ∷ [] } ∷ []
unfolding sampled
four_outputs = refl

-- three items
items : List LossRecord
items =
    record { event = 1; id = 1; pairs = record { sidx = negsuc 0; loss = 100 } ∷ record { sidx = pos 2; loss = 300 } ∷ [] }
    ∷ record { event = 1; id = 2; pairs = record { sidx = negsuc 0; loss = 200 } ∷ [] }
    ∷ record { event = 1; id = 3; pairs = record { sidx = pos 1; loss = 900 } ∷ [] }
    ∷ []

-- the first two in summary 5, the third in summary 3
two_summaries : summaries_by (λ id. Some (cond (nat_lt id 3) 5 3)) (λ summary. 0) items ≡ record { event = 1; summary = 3; exposure = 0; pairs = record { sidx = pos 1; loss = 900 } ∷ [] } ∷ record { event = 1; summary = 5; exposure = 0; pairs = record { sidx = negsuc 0; loss = 300 } ∷ record { sidx = pos 2; loss = 300 } ∷ [] } ∷ []
unfolding items
two_summaries = refl
