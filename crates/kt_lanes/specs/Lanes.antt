-- Lanes: the amounts of a unit sidx by sidx, and those of units at one sidx.
-- The rules: docs/FINANCIAL_MODULE.md, "Levels".
use Rattle.std.specs.Prelude.{◌≡◌, ℕ, ◌<◌, List, All, length, map, slice_index}

-- the amounts of units at one sidx
abbrev pub column : ℕ → List (List ℕ) → List ℕ
column k lanes = map (λ lane. slice_index lane k) lanes

-- each lane has so many amounts
abbrev pub AreWide : ℕ → List (List ℕ) → Type 0
AreWide width lanes = All (λ lane. length lane ≡ width) lanes

-- a lane has an amount for each of so many sidx
pub record IsLane (width : ℕ) (amount : ℕ → ℕ) (lane : List ℕ) : Type 0 where
  pub wide : length lane ≡ width
  pub each : (k : ℕ) → k < width → slice_index lane k ≡ amount k

-- so many lanes have the amounts of units for each of so many sidx
pub record AreLanes (width count : ℕ) (amounts : ℕ → List ℕ) (lanes : List (List ℕ)) : Type 0 where
  pub count_is : length lanes ≡ count
  pub wide : AreWide width lanes
  pub each : (k : ℕ) → k < width → column k lanes ≡ amounts k
