-- Sharing a total out over weights, to the last cent: each share ends where the total's part of all weights up to it ends.
-- The rule: docs/CALCULATION.md, "Share-out".
use Rattle.std.specs.Prelude.{◌≡◌, ◌⊎◌, ℕ, ◌+◌, ◌-◌, ◌*◌, ◌/◌, ◌^◌, ◌<◌, ◌≤◌, List, [], ◌∷◌}
use Rattle.std.specs.List.{sum}

-- the part of the total that falls to the first weights, which add to `upto`, rounded down
abbrev pub share_to : ℕ → ℕ → ℕ → ℕ
share_to total weights upto = total * upto / weights

-- the share of one weight behind those that were given
abbrev pub share_of : ℕ → ℕ → ℕ → ℕ → ℕ
share_of total weights given weight = share_to total weights (given + weight) - share_to total weights given

-- the shares of further weights, one after the other
abbrev pub shares_after : ℕ → ℕ → ℕ → List ℕ → List ℕ
shares_after total weights given [] = []
shares_after total weights given (weight ∷ rest) = share_of total weights given weight ∷ shares_after total weights (given + weight) rest

-- the shares of a total by weights
abbrev pub share_out : ℕ → List ℕ → List ℕ
share_out total weights = shares_after total (sum weights) 0 weights

-- a total that is being shared out: its weights in all, and those that were given their share
pub record Sharing : Type 0 where
  pub total : ℕ
  pub weights : ℕ
  pub given : ℕ

-- what such a total keeps: what it has paid so far, within its bounds
pub record IsSharing (total weights given paid : ℕ) : Type 0 where
  pub some : (0 < weights) ⊎ (total ≡ 0)
  pub most : total ≤ 10 ^ 17
  pub bound : weights ≤ 10 ^ 20
  pub within : given ≤ weights
  pub paid_is : paid ≡ share_to total weights given
