-- The coverages of summaries, and what they are worth.
-- The rule: docs/CALCULATION.md, "Summary".
use Rattle.std.specs.Prelude.{◌≡◌, ℕ, ◌<◌, ◌^◌, ◌&&◌, nat_eq, Bool, List, unwrap_or}
use Rattle.std.specs.List.{IsDistinct, list_any, sum_by}
use Rattle.kt_keys.specs.UnitTable.{value_of}
use Rattle.kt_keys.specs.declared.unit_table.UnitTable.{UnitTable}
use Rattle.kt_exposure.specs.declared.exposure.SummaryUnit.{SummaryUnit}
use Rattle.kt_exposure.specs.declared.exposure.UnitCoverage.{UnitCoverage}

-- whether a unit is of a coverage
abbrev pub unit_covers : List UnitCoverage → ℕ → ℕ → Bool
unit_covers pairs unit coverage = list_any (λ pair. nat_eq pair.unit unit && nat_eq pair.coverage coverage) pairs

-- whether a summary of a set, given by the pair of both, is of a coverage
abbrev pub summary_covers : List SummaryUnit → List UnitCoverage → ℕ × ℕ → ℕ → Bool
summary_covers rows pairs key coverage = list_any (λ row. nat_eq row.set key.0 && nat_eq row.summary key.1 && unit_covers pairs row.unit coverage) rows

-- the insured value of a coverage, which is a unit of level 0, and 0 where it is unknown
abbrev pub value_in : UnitTable ℕ → ℕ → ℕ
value_in tivs coverage = unwrap_or (value_of tivs (0, coverage)) 0

-- a total is the sum of the values of those that pass a test, each once
pub record IsTotalOf (test : ℕ → Bool) (value : ℕ → ℕ) (total : ℕ) : Type 0 where
  pub ids : List ℕ
  pub distinct : IsDistinct nat_eq ids
  pub passing : (id : ℕ) → list_any (nat_eq id) ids ≡ test id
  pub is : total ≡ sum_by value ids

-- the values of no distinct ids add to 2^64
abbrev pub AddsUp : (ℕ → ℕ) → Type 0
AddsUp value = (ids : List ℕ) → IsDistinct nat_eq ids → sum_by value ids < 2 ^ 64

-- two rows are of one summary of a set
pub record AreOfOneSummary (one other : SummaryUnit) : Type 0 where
  pub sets : one.set ≡ other.set
  pub summaries : one.summary ≡ other.summary
