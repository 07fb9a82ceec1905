-- Amounts of units that are given down by lanes, level by level.
-- The rule: docs/FINANCIAL_MODULE.md, "Allocation".
use Rattle.std.specs.Prelude.{◌≡◌, ℕ, suc, ◌<◌, ◌≤◌, false, List, [], ◌∷◌, All, length, map, take, slice_index_or}
use Rattle.std.specs.List.{AllByRecursion, flat_map, range_with_len, sum}
use Rattle.kt_money.specs.Sharing.{share_out}
use Rattle.kt_fmtree.specs.Carried.{row_of}
use Rattle.kt_fmtree.specs.Parts.{Parts}
use Rattle.kt_fmtree.specs.declared.node.Node.{Node}
use Rattle.kt_fmtree.specs.Placed.{CanShare, node_at, parts_from}
use Rattle.kt_fmtree.specs.declared.part.PlacedPart.{PlacedPart}
use Rattle.kt_lanes.specs.Lanes.{column, AreWide, IsLane}
use Rattle.kt_levels.specs.Units.{CanTake, child_losses, losses_of}
use Rattle.kt_lanes.specs.Shares.{HasRoom}
use Rattle.kt_lanes.specs.SideBySide.{AreBehind}
use Rattle.kt_levels.specs.declared.down.LevelRoom.{LevelRoom}
use Rattle.kt_levels.specs.declared.down.PlacedLanes.{PlacedLanes}

-- amounts of units in places
abbrev pub placed : List ℕ → List ℕ → List PlacedPart
placed (place ∷ places) (amount ∷ amounts) = record { place = place; amount = amount } ∷ placed places amounts
placed places amounts = []

-- those of lanes at one sidx
abbrev pub placed_at : ℕ → PlacedLanes → List PlacedPart
placed_at k parts = placed parts.places.items (column k parts.lanes)

-- each place has a lane
pub record ArePlaced (width : ℕ) (parts : PlacedLanes) : Type 0 where
  pub count_is : length parts.places.items ≡ length parts.lanes
  pub wide : AreWide width parts.lanes

-- the amounts of units in places
abbrev pub amounts_of : List PlacedPart → List ℕ
amounts_of parts = map (λ part. part.amount) parts

-- the places of the children of the unit in a place
abbrev pub child_places : List Node → ℕ → List ℕ
child_places nodes place = range_with_len (node_at nodes place).start (node_at nodes place).width

-- what the amount of a unit gives to its children, by the losses that they carry
abbrev pub given_losses : List Node → List ℕ → PlacedPart → List PlacedPart
given_losses nodes row part = parts_from (node_at nodes part.place).start (share_out part.amount (child_losses row (node_at nodes part.place)))

-- amounts of units are not above the losses that their children carry
abbrev pub AreBacked : List Node → List ℕ → List PlacedPart → Type 0
AreBacked nodes row parts = AllByRecursion (λ part. part.amount ≤ sum (child_losses row (node_at nodes part.place))) parts

-- lanes of amounts of units can be given to those of the level below, from the lanes of the losses that these carry
pub record CanGiveBy (width : ℕ) (nodes : List Node) (below : List (List ℕ)) (parts : PlacedLanes) : Type 0 where
  pub can : All (CanTake width below) nodes
  pub wide : AreWide width below
  pub placed : ArePlaced width parts
  pub within : All (λ place. place < length nodes) parts.places.items
  pub backed : (k : ℕ) → k < width → AreBacked nodes (column k below) (placed_at k parts)

-- a lane has what the children of each of some units carry in all
abbrev pub AreSumsOf : ℕ → List Node → List (List ℕ) → List ℕ → List ℕ → Type 0
AreSumsOf width nodes below places sums = All (λ place. IsLane width (λ k. sum (child_losses (column k below) (node_at nodes place))) sums) places

-- and that of each of some units of the level above one
abbrev pub AreLevelSums : Parts → List (List ℕ) → ℕ → ℕ → List ℕ → List ℕ → Type 0
AreLevelSums parts lanes width level places sums =
    All (λ place. IsLane width (λ k. sum (child_losses (losses_of (row_of parts (column k lanes) level)) (node_at (slice_index_or parts.levels level []) place))) sums) places

-- lanes of what the first so many units give stand behind others
abbrev pub AreGivenBehind : ℕ → List Node → List (List ℕ) → PlacedLanes → ℕ → List (List ℕ) → List (List ℕ) → Type 0
AreGivenBehind width nodes below parts at =
    AreBehind width (length (flat_map (child_places nodes) (take at parts.places.items))) (λ k. amounts_of (flat_map (given_losses nodes (column k below)) (take at (placed_at k parts))))

-- amounts of units of a level can be given down, from the losses of the ids at one sidx
pub record CanGive (parts : Parts) (losses : List ℕ) (level : ℕ) (amounts : List PlacedPart) : Type 0 where
  pub can : CanShare parts false level amounts
  pub backed : (next : ℕ) → level ≡ suc next → AreBacked (slice_index_or parts.levels next []) (losses_of (row_of parts losses next)) amounts

-- there is room to give lanes of some width down
abbrev pub HasLevelRoom : ℕ → LevelRoom → Type 0
HasLevelRoom width it = HasRoom width it.room

-- lanes of amounts of units of a level stand in such room, and can be given down
pub record GivesAt (parts : Parts) (lanes : List (List ℕ)) (width level : ℕ) (it : LevelRoom) : Type 0 where
  pub has_room : HasLevelRoom width it
  pub placed : ArePlaced width it.parts
  pub can : (k : ℕ) → k < width → CanGive parts (column k lanes) level (placed_at k it.parts)
