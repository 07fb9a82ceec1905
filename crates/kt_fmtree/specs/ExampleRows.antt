-- Rows of the worked examples of docs/FINANCIAL_MODULE.md, from which each crate computes its own part.
-- The rules: docs/FINANCIAL_MODULE.md, "Levels", "Policy losses", "Allocation".
use Rattle.std.specs.Prelude.{ℕ, [], ◌∷◌}
use Rattle.kt_rec.specs.Rows.{Rows, no_rows}
use Rattle.kt_rec.specs.declared.financial.FmProgramme.{FmProgramme}
use Rattle.kt_rec.specs.declared.financial.FmPolicytc.{FmPolicytc}
use Rattle.kt_rec.specs.declared.financial.FmProfile.{FmProfile}

-- a row of the programme
abbrev pub step : ℕ → ℕ → ℕ → FmProgramme
step from level to = record { from_agg_id = from; level_id = level; to_agg_id = to }

-- a row of the policy terms
abbrev pub terms : ℕ → ℕ → ℕ → ℕ → FmPolicytc
terms layer level agg id = record { layer_id = layer; level_id = level; agg_id = agg; policytc_id = id }

-- a deductible
abbrev pub deductible : ℕ → ℕ → FmProfile
deductible id cents = record { policytc_id = id; calcrule_id = 12; deductible1 = cents; deductible2 = 0; deductible3 = 0; attachment1 = 0; limit1 = 0; share1 = 0; share2 = 0; share3 = 0 }

-- a share of what is between an attachment and a limit above it
abbrev pub layer_terms : ℕ → ℕ → ℕ → ℕ → FmProfile
layer_terms id attachment limit share = record { policytc_id = id; calcrule_id = 2; deductible1 = 0; deductible2 = 0; deductible3 = 0; attachment1 = attachment; limit1 = limit; share1 = share; share2 = 0; share3 = 0 }

-- a maximum deductible
abbrev pub maximum : ℕ → ℕ → FmProfile
maximum id cents = record { policytc_id = id; calcrule_id = 10; deductible1 = 0; deductible2 = 0; deductible3 = cents; attachment1 = 0; limit1 = 0; share1 = 0; share2 = 0; share3 = 0 }

-- items 1 and 2, each with a deductible of 10.00 of its own, and above them two layers: 50.00, and a half of 50.00 above 50.00
unfoldable pub two_layers : Rows
two_layers = record no_rows {
  financial = record {
    programme = step 1 1 1 ∷ step 2 1 2 ∷ step 1 2 1 ∷ step 2 2 1 ∷ [];
    policytc = terms 1 1 1 1 ∷ terms 1 1 2 1 ∷ terms 1 2 1 2 ∷ terms 2 2 1 3 ∷ [];
    profile = deductible 1 1000 ∷ layer_terms 2 0 5000 1000000 ∷ layer_terms 3 5000 5000 500000 ∷ [];
  } ∷ [];
}

-- items 1 and 2, each with a deductible of 60.00, and above them a maximum of 30.00
unfoldable pub given_back : Rows
given_back = record no_rows {
  financial = record {
    programme = step 1 1 1 ∷ step 2 1 2 ∷ step 1 2 1 ∷ step 2 2 1 ∷ [];
    policytc = terms 1 1 1 1 ∷ terms 1 1 2 1 ∷ terms 1 2 1 2 ∷ [];
    profile = deductible 1 6000 ∷ maximum 2 3000 ∷ [];
  } ∷ [];
}
