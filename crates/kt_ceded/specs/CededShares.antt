-- What ids have of the shares of a table, row by row.
-- The rule: docs/FINANCIAL_MODULE.md, "Reinsurance".
use Rattle.std.specs.Prelude.{◌≡◌, ℕ, ◌<◌, ◌^◌, cond, nat_eq, List, length, take, All}
use Rattle.std.specs.List.{sum_by, zip}
use Rattle.kt_lanes.specs.Lanes.{AreWide, column}
use Rattle.kt_runs.specs.Adding.{Holds}
use Rattle.kt_levels.specs.Row.{Shared}
use Rattle.kt_levels.specs.Table.{row_at}

-- what a place has of shares whose places are these
abbrev pub share_at : List ℕ → List ℕ → ℕ → ℕ
share_at places shares place = sum_by (λ pair. cond (nat_eq pair.0 place) pair.1 0) (zip places shares)

-- there is a place below a width for each of some shares, and what a place has of them fits its type
pub record HasShares (width : ℕ) (places shares : List ℕ) : Type 0 where
  pub many : length shares ≡ length places
  pub within : All (λ place. place < width) places
  pub few : (place : ℕ) → place < width → share_at places shares place < 2 ^ 64

-- what a place has of the first so many shares
abbrev pub shares_at : List ℕ → List ℕ → ℕ → ℕ → ℕ
shares_at places shares count place = sum_by (λ pair. cond (nat_eq pair.0 place) pair.1 0) (take count (zip places shares))

-- lanes have what each place has of the first so many shares in each row of a table
pub record AreCededShares (width : ℕ) (places : List ℕ) (table : List Shared) (count : ℕ) (ceded : List (List ℕ)) : Type 0 where
  pub count_is : length ceded ≡ width
  pub wide : AreWide (length table) ceded
  pub each : (row : ℕ) → row < length table → Holds width (shares_at places (row_at table row).shares count) (column row ceded)
