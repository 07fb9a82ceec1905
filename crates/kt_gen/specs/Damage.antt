-- The vulnerabilities and the damage bins of a generated set.
-- The rules: docs/GENERATOR.md, "Damage".
use Rattle.std.specs.Prelude.{ℕ, ◌+◌, ◌-◌, ◌*◌, List, [], ◌∷◌, ◌++◌, map}
use Rattle.std.specs.List.{flat_map, range_with_len}

-- a vulnerability at an intensity: no damage, a part that rises with the intensity, and a total loss
abbrev pub damage_rows : ℕ → ℕ → List (List ℕ)
damage_rows vulnerability intensity =
    (vulnerability ∷ intensity ∷ 1 ∷ (600000 - 50000 * intensity) ∷ [])
    ∷ (vulnerability ∷ intensity ∷ (intensity + 1) ∷ (400000 + 50000 * intensity - 10000 * vulnerability) ∷ [])
    ∷ (vulnerability ∷ intensity ∷ 12 ∷ (10000 * vulnerability) ∷ [])
    ∷ []

-- a vulnerability at the ten intensities
unfoldable pub intensity_damage_rows : ℕ → List (List ℕ)
intensity_damage_rows vulnerability = flat_map (damage_rows vulnerability) (range_with_len 1 10)

-- the three vulnerabilities
unfoldable pub vulnerability_rows : List (List ℕ)
vulnerability_rows = flat_map intensity_damage_rows (range_with_len 1 3)

-- a damage bin between no damage and total loss: a tenth of the value wide, and its middle
abbrev pub damage_bin_row : ℕ → List ℕ
damage_bin_row bin = bin ∷ (100000 * (bin - 2)) ∷ (100000 * (bin - 1)) ∷ (100000 * (bin - 2) + 50000) ∷ 1 ∷ []

-- the damage bins: none, the tenths, and all
unfoldable pub damage_bin_rows : List (List ℕ)
damage_bin_rows =
    (1 ∷ 0 ∷ 0 ∷ 0 ∷ 1 ∷ []) ∷ (map damage_bin_row (range_with_len 2 10) ++ (12 ∷ 1000000 ∷ 1000000 ∷ 1000000 ∷ 1 ∷ []) ∷ [])
