-- Counts of 64 bits that never fall, and stay at their last value once they have reached it.
-- The rule: docs/ARCHITECTURE.md, "The outside".
use Rattle.std.proofs.Common.{subst, sym, le_refl}
use Rattle.std.specs.Prelude.{◌≡◌, ℕ, ◌+◌, ◌-◌, ◌^◌, ◌≤◌, min}

-- one more, on a count of 64 bits that stays at its last value
abbrev pub one_more : ℕ → ℕ
one_more count = min (count + 1) (2 ^ 64 - 1)

-- a count rose by one; one that stands at its last value stays there, and counts as risen
abbrev pub Rose : ℕ → ℕ → Type 0
Rose before now = now ≡ one_more before

-- a count has risen, by one or more; one that stands at its last value counts as risen
abbrev pub HasRisen : ℕ → ℕ → Type 0
HasRisen before now = one_more before ≤ now

-- one that rose by one has risen
pub rose_has_risen : (before now : ℕ) → Rose before now → HasRisen before now
rose_has_risen before now rose = subst (λ (count : ℕ). one_more before ≤ count) (sym rose) (le_refl (one_more before))
