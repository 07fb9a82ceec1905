-- The pairs of rows that rise, as far as they are made.
-- The rules: docs/TABLES.md, "Tables".
use Rattle.std.specs.Prelude.{◌≡◌, ℕ, ◌*◌, ◌+◌, ◌-◌, ◌^◌, ◌<◌, ◌≤◌, List, All, length, slice_index_or}

-- a pair is not above another, by the number that joins its parts
abbrev pub IsPairUpto : ℕ × ℕ → ℕ × ℕ → Type 0
IsPairUpto top pair = (pair.1 < 2 ^ 32) × (pair.0 * 2 ^ 32 + pair.1 ≤ top.0 * 2 ^ 32 + top.1)

-- no pair is above one
abbrev pub ArePairsUpto : ℕ × ℕ → List (ℕ × ℕ) → Type 0
ArePairsUpto top pairs = All (IsPairUpto top) pairs

-- there are pairs, and the last of them is this one
abbrev pub IsLastPair : List (ℕ × ℕ) → ℕ × ℕ → Type 0
IsLastPair pairs pair = (0 < length pairs) × ((d : ℕ × ℕ) → ((slice_index_or pairs (length pairs - 1) d).0 ≡ pair.0) × ((slice_index_or pairs (length pairs - 1) d).1 ≡ pair.1))

-- where there are pairs, the last of them is another one
abbrev pub IsNotLastPair : List (ℕ × ℕ) → ℕ × ℕ → Type 0
IsNotLastPair pairs pair = (d : ℕ × ℕ) → 0 < length pairs → (slice_index_or pairs (length pairs - 1) d).0 ≡ pair.0 → (slice_index_or pairs (length pairs - 1) d).1 ≡ pair.1 → ⊥
