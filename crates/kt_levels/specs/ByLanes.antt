-- What layers have at all sidx of a run, by lanes.
-- The rules: docs/FINANCIAL_MODULE.md, "Allocation", "Insured losses".
use Rattle.std.specs.Prelude.{◌≡◌, ℕ, ◌<◌, false, List, [], Vec, All, length, map, slice_index, slice_index_or}
use Rattle.std.specs.declared.alloc.Global.{Global}
use Rattle.kt_rules.specs.LossAlone.{looks_back}
use Rattle.kt_fmtree.specs.Tree.{Tree}
use Rattle.kt_fmtree.specs.Carried.{loss_by}
use Rattle.kt_fmtree.specs.Parts.{Parts, IsProgramme}
use Rattle.kt_lanes.specs.Lanes.{AreWide, column}
use Rattle.kt_levels.specs.Down.{HasLevelRoom}
use Rattle.kt_levels.specs.Policies.{HasSums}
use Rattle.kt_levels.specs.Row.{HasRow}
use Rattle.kt_levels.specs.declared.by_lanes.LayerLanes.{LayerLanes}
use Rattle.kt_levels.specs.declared.by_lanes.LayerRoom.{LayerRoom}
use Rattle.kt_levels.specs.declared.by_rows.LayerRows.{LayerRows}
use Rattle.kt_levels.specs.declared.layers.TopLayer.{TopLayer}

-- the rules of layers see the losses alone
abbrev pub IsPlainLayer : Parts → TopLayer → Type 0
IsPlainLayer parts one = (tree : Tree) → IsProgramme tree parts → looks_back (tree.layer_profile (slice_index tree.tops one.node) one.layer).rule ≡ false

-- lanes have what layers of tops have, from the lanes of the losses of the ids
pub record AreLayers (parts : Parts) (lanes : List (List ℕ)) (width rule : ℕ) (layers : List TopLayer) (made : LayerLanes) : Type 0 where
  pub shares_wide : AreWide width made.shares
  pub policies_wide : AreWide width made.policies
  pub rows : (tree : Tree) → IsProgramme tree parts → (k : ℕ) → k < width → HasRow tree (loss_by tree.ids (column k lanes)) rule layers (column k made.shares) (column k made.policies)

-- there is room for what a layer has at so many sidx, from the lanes of the losses of the ids
pub record HasLayerRoom (parts : Parts) (lanes : List (List ℕ)) (width : ℕ) (room : LayerRoom) : Type 0 where
  pub sums : HasSums parts lanes width room.sums
  pub levels : HasLevelRoom width room.levels
  pub policies : length room.policies.items ≡ width

-- each row has so many amounts
abbrev pub AreLong : ℕ → List (Vec ℕ Global) → Type 0
AreLong count rows = All (λ row. length row.items ≡ count) rows

-- what rows have at a place
abbrev pub amounts_at : ℕ → List (Vec ℕ Global) → List ℕ
amounts_at place rows = map (λ row. slice_index row.items place) rows

-- the amounts of a row
abbrev pub row_in : List (Vec ℕ Global) → ℕ → List ℕ
row_in rows k = slice_index_or (map (λ row. row.items) rows) k []

-- so many rows have what layers of tops have
pub record AreRows (parts : Parts) (lanes : List (List ℕ)) (rule : ℕ) (layers : List TopLayer) (count : ℕ) (made : LayerRows) : Type 0 where
  pub shares_many : length made.shares.items ≡ count
  pub policies_many : length made.policies.items ≡ count
  pub rows : (tree : Tree) → IsProgramme tree parts → (k : ℕ) → k < count → HasRow tree (loss_by tree.ids (column k lanes)) rule layers (row_in made.shares.items k) (row_in made.policies.items k)
