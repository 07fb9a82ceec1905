-- The worked examples of docs/FINANCIAL_MODULE.md on insured losses, and those of docs/CALCULATION.md, "Share-out", by computing.
-- The rule: docs/FINANCIAL_MODULE.md, "Insured losses".
use Rattle.std.specs.Prelude.{◌≡◌, ℕ, pos, List, [], ◌∷◌}
use Rattle.std.proofs.Common.{refl}
use Rattle.kt_money.specs.Sharing.{share_out}
use Rattle.kt_rec.specs.declared.financial.FmXref.{FmXref}
use Rattle.kt_rules.specs.Rules.{rule_of}
use Rattle.kt_stream.specs.declared.entry.LossRecord.{LossRecord}
use Rattle.kt_fmtree.specs.Programme.{tree_of}
use Rattle.kt_fmtree.specs.ExampleRows.{two_layers, given_back}
use Rattle.kt_levels.specs.Shares.{taken_loss}
use Rattle.kt_alloc.specs.Insured.{insured_records, layer_sums}
use Rattle.kt_alloc.specs.Whole.{outputs_loss, records_loss}

-- a row of the outputs
abbrev output : ℕ → ℕ → ℕ → FmXref
output id agg layer = record { output_id = id; agg_id = agg; layer_id = layer }

-- a sample of an id in event 4
sampled : ℕ → ℕ → LossRecord
sampled id loss = record { event = 4; id = id; pairs = record { sidx = pos 1; loss = loss } ∷ [] }

-- losses of 100.00 and 50.00 in sample 1
losses : List LossRecord
losses = sampled 1 10000 ∷ sampled 2 5000 ∷ []

-- the outputs of the two layers of the top, and those of the two items, not in order
top_outputs : List FmXref
top_outputs = output 2 1 2 ∷ output 1 1 1 ∷ []

item_outputs : List FmXref
item_outputs = output 3 2 1 ∷ output 1 1 1 ∷ output 2 1 2 ∷ output 4 2 2 ∷ output 5 9 1 ∷ []

-- by rule 0 the outputs have the policy losses
whole : insured_records (tree_of two_layers 0) 0 1 top_outputs losses ≡ sampled 1 5000 ∷ sampled 2 2500 ∷ []
unfolding two_layers losses top_outputs sampled rule_of
whole = refl

-- by rule 1 they are shared by ground-up losses; an output whose item the programme does not name has no record
at_once : insured_records (tree_of two_layers 0) 1 1 item_outputs losses ≡ sampled 1 3333 ∷ sampled 2 1666 ∷ sampled 3 1667 ∷ sampled 4 834 ∷ []
unfolding two_layers losses item_outputs sampled rule_of
at_once = refl

-- by rule 2 by what the units carry
down : insured_records (tree_of two_layers 0) 2 1 item_outputs losses ≡ sampled 1 3461 ∷ sampled 2 1730 ∷ sampled 3 1539 ∷ sampled 4 770 ∷ []
unfolding two_layers losses item_outputs sampled rule_of
down = refl

-- the layers' sums are 50.00 and 25.00, and all of them is shared out
sums : layer_sums (tree_of two_layers 0) 2 1 losses ≡ record { event = 4; agg = 1; layer = 1; policy = 5000; allocated = 5000 } ∷ record { event = 4; agg = 1; layer = 2; policy = 2500; allocated = 2500 } ∷ []
unfolding two_layers losses sampled rule_of
sums = refl

-- the outputs 1 and 3 have the 50.00 of the first layer, and so have their records
first_layer : outputs_loss (tree_of two_layers 0) (taken_loss (tree_of two_layers 0) losses (pos 1)) 2 item_outputs 1 1 ≡ 5000
unfolding two_layers losses item_outputs sampled rule_of
first_layer = refl

first_records : records_loss (tree_of two_layers 0) 2 item_outputs (insured_records (tree_of two_layers 0) 2 1 item_outputs losses) 1 1 (pos 1) ≡ 5000
unfolding two_layers losses item_outputs sampled rule_of
first_records = refl

-- deductibles of 60.00 take both losses of 50.00, and a maximum of 30.00 gives 70.00 back, by the ground-up losses
back : insured_records (tree_of given_back 0) 2 1 item_outputs (sampled 1 5000 ∷ sampled 2 5000 ∷ []) ≡ sampled 1 3500 ∷ sampled 3 3500 ∷ []
unfolding given_back item_outputs sampled rule_of
back = refl

-- 100 over three equal weights: the last cent is that of the last
hundred_over_three : share_out 100 (1 ∷ 1 ∷ 1 ∷ []) ≡ 33 ∷ 33 ∷ 34 ∷ []
hundred_over_three = refl

-- 2 over the same: the first has nothing
two_over_three : share_out 2 (1 ∷ 1 ∷ 1 ∷ []) ≡ 0 ∷ 1 ∷ 1 ∷ []
two_over_three = refl

-- nothing over no weights
nothing_over_none : share_out 0 (0 ∷ 0 ∷ []) ≡ 0 ∷ 0 ∷ []
nothing_over_none = refl
