-- What the curves of one set share.
-- The rules: docs/CALCULATION.md, "Kinds of exceedance curves".
use Rattle.std.specs.Prelude.{Bool, ℕ, ◌≤◌, ◌≡◌, List, All}
use Rattle.kt_rec.specs.declared.perspective.Perspective.{Perspective}
use Rattle.kt_period_cells.specs.SummaryRows.{IsOwnSet, IsPart}
use Rattle.kt_cell.specs.Standing.{KeptCells}
use Rattle.kt_period_cells.specs.declared.group.SetCells.{SetCells}
use Rattle.kt_curve.specs.LossesOfSamples.{AreSampleLosses}
use Rattle.kt_curve.specs.declared.sample_losses.SampleLosses.{SampleLosses}

-- the cells of a set, whether the maxima are taken of them or the totals, and the return periods of the curves
pub record KeptCurves : Type 0 where
  pub cells : SetCells
  pub maxima : Bool
  pub returns : List ℕ

-- the cells are within their bounds, the return periods above 0, and the losses those that the curves ask for
pub record AreShared (part : SetCells) (maxima : Bool) (returns : List ℕ) (samples : SampleLosses) : Type 0 where
  pub part_is : IsPart part
  pub some : All (λ period. 1 ≤ period) returns
  pub losses : AreSampleLosses part maxima returns samples

-- the curves are of a perspective and set, and of its maxima or its totals
abbrev pub IsMeasure : Perspective → ℕ → Bool → KeptCurves → Type 0
IsMeasure perspective set maxima curves = (curves.cells.perspective ≡ perspective) × (curves.cells.set ≡ set) × (curves.maxima ≡ maxima)

-- the curves are those of a set among kept cells, of its maxima or its totals, at these return periods
pub record AreCurvesOf (kept : KeptCells) (perspective : Perspective) (set : ℕ) (maxima : Bool) (periods : List ℕ) (curves : KeptCurves) : Type 0 where
  pub own : IsOwnSet kept perspective set curves.cells
  pub measure : curves.maxima ≡ maxima
  pub returns : curves.returns ≡ periods

-- the curves are those of their own set among kept cells, at these return periods
abbrev pub AreSomeCurves : KeptCells → List ℕ → KeptCurves → Type 0
AreSomeCurves kept periods curves = AreCurvesOf kept curves.cells.perspective curves.cells.set curves.maxima periods curves
