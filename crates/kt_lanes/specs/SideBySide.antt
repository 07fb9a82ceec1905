-- Lanes that stand one behind the other in one list.
-- The rules: docs/FINANCIAL_MODULE.md, "Levels".
use Rattle.std.specs.Prelude.{◌≡◌, ℕ, zero, suc, ◌+◌, ◌-◌, List, [], ◌∷◌, ◌++◌, length, take, drop, slice_index, slice_index_or, slice_set}
use Rattle.kt_lanes.specs.Lanes.{AreLanes, IsLane}

-- the first so many lanes of a list, each of so many amounts
abbrev pub cut : ℕ → ℕ → List ℕ → List (List ℕ)
cut width zero amounts = []
cut width (suc count) amounts = take width amounts ∷ cut width count (drop width amounts)

-- the lanes that were there stand in front, and maybe more behind them
abbrev pub BeginsWith : List (List ℕ) → List (List ℕ) → Type 0
BeginsWith old now = (more : List (List ℕ)) × (now ≡ old ++ more)

-- amounts for so many sidx were added to those of the lane in a place
pub record HasMore (place width : ℕ) (amount : ℕ → ℕ) (before now : List (List ℕ)) : Type 0 where
  pub lane : List ℕ
  pub lane_is : IsLane width (λ k. slice_index (slice_index_or before place []) k + amount k) lane
  pub now_is : now ≡ slice_set before place lane

-- the amounts of a lane were added to those of the one in a place
abbrev pub IsAdded : ℕ → List ℕ → List (List ℕ) → List (List ℕ) → Type 0
IsAdded place more = HasMore place (length more) (slice_index more)

-- the amounts of a lane were taken from those of the one in a place: one of which more was taken is 0
pub record IsLessened (place : ℕ) (less : List ℕ) (before now : List (List ℕ)) : Type 0 where
  pub lane : List ℕ
  pub lane_is : IsLane (length less) (λ k. slice_index (slice_index_or before place []) k - slice_index less k) lane
  pub now_is : now ≡ slice_set before place lane

-- lanes of so many amounts of units stand behind others
pub record AreBehind (width count : ℕ) (amounts : ℕ → List ℕ) (before now : List (List ℕ)) : Type 0 where
  pub more : List (List ℕ)
  pub more_are : AreLanes width count amounts more
  pub now_is : now ≡ before ++ more
