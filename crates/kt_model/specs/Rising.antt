-- What footprint rows have come to that stand by rising areaperil and then intensity.
-- The rules: docs/CHECKS.md, "Footprint rows of an event".
use Rattle.std.specs.Prelude.{◌≡◌, ℕ, ◌<◌, ◌≤◌, ◌⊎◌, false, List}
use Rattle.std.specs.List.{list_any}
use Rattle.kt_rec.specs.declared.hazard.FootRow.{FootRow}
use Rattle.kt_rec.specs.FootRows.{areaperil_total, is_at}
use Rattle.kt_model.specs.declared.rising_rows.Reached.{Reached}

-- an areaperil and an intensity stand above what rows have come to
abbrev pub StandsAbove : Reached → ℕ → ℕ → Type 0
StandsAbove reached areaperil intensity = (reached.areaperil < areaperil) ⊎ ((areaperil ≡ reached.areaperil) × (reached.intensity < intensity))

-- a row does
abbrev pub IsAbove : Reached → FootRow → Type 0
IsAbove reached row = StandsAbove reached row.areaperil row.intensity

-- what rows have come to: none of them stands above it, and the probabilities of the last areaperil are its total
pub record IsReached (rows : List FootRow) (reached : Reached) : Type 0 where
  pub above : (areaperil intensity : ℕ) → StandsAbove reached areaperil intensity → list_any (is_at areaperil intensity) rows ≡ false
  pub later : (areaperil : ℕ) → reached.areaperil < areaperil → areaperil_total rows areaperil ≡ 0
  pub total : areaperil_total rows reached.areaperil ≡ reached.total
  pub within : (areaperil : ℕ) → areaperil_total rows areaperil ≤ 1001000

-- a row is of no earlier areaperil and intensity, and its areaperil has these probabilities before it
pub record IsNext (rows : List FootRow) (row : FootRow) (before : ℕ) : Type 0 where
  pub new : list_any (is_at row.areaperil row.intensity) rows ≡ false
  pub total : areaperil_total rows row.areaperil ≡ before
