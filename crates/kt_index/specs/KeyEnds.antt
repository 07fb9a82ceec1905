-- Where the rows of a range of keys stand among rows by rising key.
-- The rule: docs/TABLES.md, "Lookups".
use Rattle.std.specs.Prelude.{◌≡◌, ℕ, ◌≤◌, true, false, nat_lt, nat_le, List, length}
use Rattle.std.specs.List.Sorted.{IsPartitionPoint}

-- the rows before a place have lower keys than one, and those from it on have not
abbrev pub IsBelow : {X : Type 0} → (X → ℕ) → List X → ℕ → ℕ → Type 0
IsBelow key rows low place = IsPartitionPoint (λ row. nat_lt (key row) low ≡ true) (λ row. nat_lt (key row) low ≡ false) rows place

-- the rows before a place have keys up to a greatest, and those from it on have higher ones
abbrev pub IsUpto : {X : Type 0} → (X → ℕ) → List X → ℕ → ℕ → Type 0
IsUpto key rows top place = IsPartitionPoint (λ row. nat_le (key row) top ≡ true) (λ row. nat_le (key row) top ≡ false) rows place

-- the rows of lower keys stand before a first place, and those of higher keys from a last one on
pub record KeyEnds {X : Type 0} (key : X → ℕ) (rows : List X) (low top start last : ℕ) : Type 0 where
  pub start_within : start ≤ length rows
  pub last_within : last ≤ length rows
  pub below : IsBelow key rows low start
  pub upto : IsUpto key rows top last
