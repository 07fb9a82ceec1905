-- What the units of a programme carry at many sidx.
-- The rules: docs/FINANCIAL_MODULE.md, "Levels".
use Rattle.std.specs.Prelude.{◌≡◌, ℕ, zero, suc, ◌+◌, ◌<◌, ◌≤◌, ◌^◌, false, List, [], All, length, slice_index_or}
use Rattle.std.specs.List.{sum}
use Rattle.kt_rules.specs.LossAlone.{looks_back}
use Rattle.kt_fmtree.specs.Parts.{Parts, units_at}
use Rattle.kt_fmtree.specs.Carried.{Carried, leaf_row, row_of, climbed_rows}
use Rattle.kt_fmtree.specs.declared.node.Node.{Node}
use Rattle.kt_lanes.specs.Lanes.{column, AreWide, AreLanes}
use Rattle.kt_levels.specs.Units.{losses_of}
use Rattle.kt_levels.specs.declared.climbing.Climbed.{Climbed}
use Rattle.kt_levels.specs.declared.climbing.Leaves.{Leaves}
use Rattle.kt_levels.specs.declared.climbing.Leaves.TheVariants as leaves
use Rattle.kt_levels.specs.declared.climbing.Levels.{Levels}

-- the rules of units see the losses alone
abbrev pub ArePlain : List Node → Type 0
ArePlain nodes = All (λ node. looks_back node.profile.rule ≡ false) nodes

-- and those of all units
abbrev pub HasPlainUnits : Parts → Type 0
HasPlainUnits parts = (level : ℕ) → level < length parts.levels → ArePlain (slice_index_or parts.levels level [])

-- what is carried at one sidx, from the losses of the ids
abbrev pub carried_at : Parts → List (List ℕ) → ℕ → Carried
carried_at parts lanes k = climbed_rows parts.levels (leaf_row parts.leaves (column k lanes))

-- the lanes of level 0, where those of the ids are these
abbrev pub leaf_lanes : List (List ℕ) → Leaves → List (List ℕ)
leaf_lanes lanes leaves.Ids = lanes
leaf_lanes lanes (leaves.Own own) = own

-- the lanes of a level, where those of the ids are these
abbrev pub level_lanes : List (List ℕ) → Levels → ℕ → List (List ℕ)
level_lanes lanes levels zero = leaf_lanes lanes levels.leaves
level_lanes lanes levels (suc level) = slice_index_or levels.rows.items level []

-- the lanes of a level are the losses that its units carry
abbrev pub AreLevel : Parts → List (List ℕ) → ℕ → ℕ → List (List ℕ) → Type 0
AreLevel parts lanes width level row = AreLanes width (length (units_at parts level)) (λ k. losses_of (row_of parts (column k lanes) level)) row

-- the ids have a lane each, of some sidx, and their losses are not too much
pub record AreLosses (parts : Parts) (width : ℕ) (lanes : List (List ℕ)) : Type 0 where
  pub some : 0 < width
  pub count_is : length lanes ≡ length parts.ids
  pub wide : AreWide width lanes
  pub few : (k : ℕ) → k < width → sum (column k lanes) ≤ 10 ^ 16

-- the lanes of each level below the top level, from those of the ids, by rules that see the losses alone
pub record IsClimbed (parts : Parts) (lanes : List (List ℕ)) (climbed : Climbed) : Type 0 where
  pub losses : AreLosses parts climbed.width lanes
  pub plain : HasPlainUnits parts
  pub enough : length parts.levels ≤ length climbed.levels.rows.items + 1
  pub rows : (level : ℕ) → level < length parts.levels → AreLevel parts lanes climbed.width level (level_lanes lanes climbed.levels level)
