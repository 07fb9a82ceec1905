-- What a table keeps: the shares and the policy losses of layers, each in all rows.
-- The rule: docs/FINANCIAL_MODULE.md, "Insured losses".
use Rattle.std.specs.Prelude.{ℕ, ◌≤◌, List, map}
use Rattle.std.specs.List.{range_with_len}
use Rattle.kt_lanes.specs.Lanes.{AreWide, column}
use Rattle.kt_levels.specs.Row.{Shared}
use Rattle.kt_levels.specs.declared.table.Table.TheInside.{Inside}

-- what lanes have in a row: the shares of a layer add to its policy loss
abbrev pub lane_row : List (List ℕ) → List (List ℕ) → ℕ → Shared
lane_row shares policies row = record { shares = column row shares; policies = column row policies; totals = column row policies }

-- the rows of what is kept
abbrev pub rows_in : Inside → List Shared
rows_in kept = map (lane_row kept.shares kept.policies) (range_with_len 0 kept.rows)

-- there is a row for the mean, and one for each of at most 1,000 samples, and each lane reaches over all
pub record IsTable (kept : Inside) : Type 0 where
  pub some : 1 ≤ kept.rows
  pub most : kept.rows ≤ 1001
  pub shares : AreWide kept.rows kept.shares
  pub policies : AreWide kept.rows kept.policies
