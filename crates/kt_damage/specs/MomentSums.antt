-- How far the sums of a distribution's mean and deviation have come.
-- The rule: docs/CALCULATION.md, "Mean and deviation of an item".
use Rattle.std.specs.Prelude.{◌≡◌, ℕ, ◌+◌, ◌*◌, ◌≤◌, List}
use Rattle.kt_stream.specs.Bins.{AreBins}
use Rattle.kt_stream.specs.declared.entry.Bin.{Bin}
use Rattle.kt_damage.specs.ItemMoments.{means_behind, squares_behind}

-- the sums of the bins before some last ones, which begin at the probability `before`
pub record AreSums (bins rest : List Bin) (before means squares : ℕ) : Type 0 where
  pub means_are : means + means_behind before rest ≡ means_behind 0 bins
  pub squares_are : squares + squares_behind before rest ≡ squares_behind 0 bins
  pub rising : AreBins before rest
  pub means_within : means ≤ before * 1000000
  pub squares_within : squares ≤ before * 1000000000000
  pub whole : before ≤ 1002001000000
