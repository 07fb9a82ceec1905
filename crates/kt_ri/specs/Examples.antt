-- The worked examples of docs/FINANCIAL_MODULE.md on reinsurance, by computing.
-- The rule: docs/FINANCIAL_MODULE.md, "Reinsurance".
use Rattle.std.specs.Prelude.{◌≡◌, ℕ, pos, negsuc, [], ◌∷◌}
use Rattle.std.proofs.Common.{refl}
use Rattle.kt_rec.specs.declared.financial.FmProfile.{FmProfile}
use Rattle.kt_rec.specs.Rows.{Rows, no_rows}
use Rattle.kt_rules.specs.Rules.{rule_of}
use Rattle.kt_stream.specs.declared.entry.LossRecord.{LossRecord}
use Rattle.kt_fmtree.specs.Programme.{tree_of}
use Rattle.kt_fmtree.specs.ExampleRows.{layer_terms, step, terms, two_layers}
use Rattle.kt_levels.specs.Shares.{part_of_id, taken_loss}
use Rattle.kt_ri.specs.Reinsurance.{ceded_records, net_records, reinsured}

-- a quota share
abbrev quota : ℕ → ℕ → FmProfile
quota id share = record { policytc_id = id; calcrule_id = 25; deductible1 = 0; deductible2 = 0; deductible3 = 0; attachment1 = 0; limit1 = 0; share1 = share; share2 = 1000000; share3 = 1000000 }

-- a loss of an id at sample 1 of event 4
sampled : ℕ → ℕ → LossRecord
sampled id loss = record { event = 4; id = id; pairs = record { sidx = pos 1; loss = loss } ∷ [] }

-- ---- one output under two quota shares

-- output 1 under the layers of one top, of which one takes 0.7 and one 0.6
two_quotas : Rows
two_quotas = record no_rows {
  financial = record {
    programme = step 1 1 1 ∷ [];
    policytc = terms 1 1 1 1 ∷ terms 2 1 1 2 ∷ [];
    profile = quota 1 700000 ∷ quota 2 600000 ∷ [];
  } ∷ [];
}

-- of 100.00 the one layer takes 70.00, the other 60.00
first_quota : part_of_id (tree_of two_quotas 0) (taken_loss (tree_of two_quotas 0) (sampled 1 10000 ∷ []) (pos 1)) 2 1 1 1 ≡ 7000
unfolding two_quotas sampled rule_of
first_quota = refl

second_quota : part_of_id (tree_of two_quotas 0) (taken_loss (tree_of two_quotas 0) (sampled 1 10000 ∷ []) (pos 1)) 2 1 2 1 ≡ 6000
unfolding two_quotas sampled rule_of
second_quota = refl

-- together 130.00 are ceded, and nothing is left: there is no record
over_ceded : ceded_records (tree_of two_quotas 0) 2 1 (sampled 1 10000 ∷ []) ≡ sampled 1 13000 ∷ []
unfolding two_quotas sampled rule_of
over_ceded = refl

nothing_left : net_records (tree_of two_quotas 0) 2 1 (sampled 1 10000 ∷ []) ≡ []
unfolding two_quotas sampled rule_of
nothing_left = refl

-- output 2, which the stage does not name, passes, but for the deviation
with_deviation : ℕ → ℕ → ℕ → LossRecord
with_deviation id deviation loss = record { event = 4; id = id; pairs = record { sidx = negsuc 1; loss = deviation } ∷ record { sidx = pos 1; loss = loss } ∷ [] }

passes : net_records (tree_of two_quotas 0) 2 1 (with_deviation 1 300 10000 ∷ with_deviation 2 400 5000 ∷ []) ≡ sampled 2 5000 ∷ []
unfolding two_quotas sampled with_deviation rule_of
passes = refl

-- ---- two items under two layers

-- of 100.00 and 50.00 the items cede 34.61 + 17.30 and 15.39 + 7.70
ceded : ceded_records (tree_of two_layers 0) 2 1 (sampled 1 10000 ∷ sampled 2 5000 ∷ []) ≡ sampled 1 5191 ∷ sampled 2 2309 ∷ []
unfolding two_layers sampled rule_of
ceded = refl

left : net_records (tree_of two_layers 0) 2 1 (sampled 1 10000 ∷ sampled 2 5000 ∷ []) ≡ sampled 1 4809 ∷ sampled 2 2691 ∷ []
unfolding two_layers sampled rule_of
left = refl

-- ---- one stage after the other

-- stage 1 takes a quota of 0.4, and stage 2 what is above 50.00
two_stages : Rows
two_stages = record no_rows {
  financial = record { programme = []; policytc = []; profile = [] } ∷ record {
    programme = step 1 1 1 ∷ [];
    policytc = terms 1 1 1 1 ∷ [];
    profile = quota 1 400000 ∷ [];
  } ∷ record {
    programme = step 1 1 1 ∷ [];
    policytc = terms 1 1 1 1 ∷ [];
    profile = layer_terms 1 5000 5000 1000000 ∷ [];
  } ∷ [];
}

-- of 100.00 stage 1 leaves 60.00, and stage 2 leaves 50.00 of these
in_turn : reinsured (tree_of two_stages 1 ∷ tree_of two_stages 2 ∷ []) 1 (sampled 1 10000 ∷ []) ≡ sampled 1 5000 ∷ []
unfolding two_stages sampled rule_of
in_turn = refl
