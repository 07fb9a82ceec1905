-- The coverages beneath units, as rows of units with coverages.
-- The rule: docs/FINANCIAL_MODULE.md, "Levels".
use Rattle.std.specs.Prelude.{ℕ, zero, suc, ◌+◌, List, [], ◌∷◌, Option, Some, None, option_map}
use Rattle.kt_rec.specs.declared.exposure.Coverage.{Coverage}
use Rattle.kt_exposure.specs.declared.exposure.SummaryUnit.{SummaryUnit}
use Rattle.kt_exposure.specs.declared.exposure.UnitCoverage.{UnitCoverage}

-- what follows a unit that may be absent: it with a coverage, and the rows behind
abbrev pub row_and : ℕ → ℕ → Option ℕ → (ℕ → List SummaryUnit) → List SummaryUnit
row_and level coverage None rest = []
row_and level coverage (Some unit) rest = record { set = level; summary = unit; unit = coverage } ∷ rest unit

-- the units that a unit's losses come to, over so many levels from a level on, with a coverage
abbrev pub climb_rows : (ℕ × ℕ → Option ℕ) → ℕ → ℕ → ℕ → ℕ → List SummaryUnit
climb_rows next zero level unit coverage = []
climb_rows next (suc levels) level unit coverage = row_and level coverage (next (level, unit)) (λ reached. climb_rows next levels (level + 1) reached coverage)

-- those of an id and a coverage, where it has one
abbrev pub covered_rows : (ℕ × ℕ → Option ℕ) → ℕ → ℕ → Option ℕ → List SummaryUnit
covered_rows next top id None = []
covered_rows next top id (Some coverage) = climb_rows next top 1 id coverage

-- those of an id with its coverage
abbrev pub rows_for : (ℕ × ℕ → Option ℕ) → ℕ → ℕ × Option ℕ → List SummaryUnit
rows_for next top pair = covered_rows next top pair.0 pair.1

-- an id with its coverage, where it has one, as a unit of level 0
abbrev pub start_row : ℕ × Option ℕ → Option SummaryUnit
start_row pair = option_map (λ coverage. record { set = 0; summary = pair.0; unit = coverage }) pair.1

-- the unit of a level that the losses of a unit below go to, where they go to one, with the same coverage
abbrev pub row_up : (ℕ × ℕ → Option ℕ) → ℕ → SummaryUnit → Option SummaryUnit
row_up next level row = option_map (λ unit. record { set = level; summary = unit; unit = row.unit }) (next (level, row.summary))

-- a coverage with itself
abbrev pub own_pair : Coverage → UnitCoverage
own_pair row = record { unit = row.coverage_id; coverage = row.coverage_id }
