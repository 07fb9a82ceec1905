-- The steps of the distributions of an event, distribution by distribution.
-- The rule: docs/CALCULATION.md, "Sampled loss".
use Rattle.std.specs.Prelude.{◌≡◌, ℕ, ◌-◌, ◌<◌, ◌≤◌, List, length, take, drop, slice_index_or}
use Rattle.kt_damage.specs.Steps.{AreSteps}
use Rattle.kt_damage.specs.declared.steps.Step.{Step}
use Rattle.kt_rec.specs.declared.hazard.DamageBin.{DamageBin}
use Rattle.kt_stream.specs.declared.entry.Bin.{Bin}
use Rattle.kt_stream.specs.declared.entry.Cdf.{Cdf}
use Rattle.kt_gul.specs.declared.tables.StepTable.{StepTable}

-- the steps of a distribution are those at its places among all
pub record IsTable (dictionary : List DamageBin) (bins : List Bin) (steps : List Step) (table : StepTable) : Type 0 where
  pub order : table.start ≤ table.end
  pub within : table.end ≤ length steps
  pub steps_are : AreSteps dictionary bins (take (table.end - table.start) (drop table.start steps))

-- the steps of the first so many distributions
pub record AreTables (dictionary : List DamageBin) (cdfs : List Cdf) (upto : ℕ) (tables : List StepTable) (steps : List Step) : Type 0 where
  pub count : length tables ≡ upto
  pub each : (k : ℕ) (t : StepTable) (d : Cdf) → k < upto → IsTable dictionary (slice_index_or cdfs k d).bins steps (slice_index_or tables k t)
