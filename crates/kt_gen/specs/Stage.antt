-- The reinsurance stage of a generated set.
-- The rules: docs/GENERATOR.md, "Reinsurance".
use Rattle.std.specs.Prelude.{ℕ, List, [], ◌∷◌, map}
use Rattle.std.specs.List.{range_with_len}
use Rattle.kt_gen.specs.Financial.{output_count}

-- a reinsurance stage adds all outputs to one unit
abbrev pub stage_programme_row : ℕ → List ℕ
stage_programme_row output = output ∷ 1 ∷ 1 ∷ []

-- its programme
unfoldable pub stage_programme_rows : ℕ → List (List ℕ)
stage_programme_rows items = map stage_programme_row (range_with_len 1 (output_count items))

-- its one layer
unfoldable pub stage_policytc_rows : List (List ℕ)
stage_policytc_rows = (1 ∷ 1 ∷ 1 ∷ 1 ∷ []) ∷ []

-- its profile: three quarters of the 10,000,000.00 above 1,000,000.00
unfoldable pub stage_profile_rows : List (List ℕ)
stage_profile_rows = (1 ∷ 2 ∷ 0 ∷ 0 ∷ 0 ∷ 100000000 ∷ 1000000000 ∷ 750000 ∷ 0 ∷ 0 ∷ []) ∷ []
