-- Parts by places: what units give to their children, level by level.
-- The rule: docs/FINANCIAL_MODULE.md, "Allocation".
use Rattle.std.specs.Prelude.{◌≡◌, ℕ, zero, suc, ◌+◌, ◌≤◌, ◌<◌, ◌^◌, Bool, false, cond, nat_eq, List, [], ◌∷◌, length, map, take, drop, slice_index, slice_index_or}
use Rattle.std.specs.List.{AllByRecursion, flat_map, sum_by}
use Rattle.kt_money.specs.Sharing.{share_out}
use Rattle.kt_rules.specs.Amounts.{total, weight}
use Rattle.kt_rules.specs.declared.carry.Carry.{Carry}
use Rattle.kt_fmtree.specs.Programme.{no_terms}
use Rattle.kt_fmtree.specs.Sharing.{Part}
use Rattle.kt_fmtree.specs.Parts.{Parts, units_at}
use Rattle.kt_fmtree.specs.declared.node.Node.{Node}
use Rattle.kt_fmtree.specs.declared.part.PlacedPart.{PlacedPart}

-- ---- what a unit gives to its children

-- the weights of children
abbrev pub weights : List Carry → List ℕ
weights children = map (weight (sum_by (λ carry. carry.loss) children)) children

-- what is shared out over weights: where they add to nothing, nothing
abbrev pub due : ℕ → ℕ → ℕ
due amount weights = cond (nat_eq weights 0) 0 amount

-- what children have: their ground-up losses, or their shares of an amount
abbrev pub amounts_for : Bool → ℕ → List Carry → List ℕ
amounts_for whole amount children = cond whole (map total children) (share_out amount (weights children))

-- amounts of units whose places begin at one
abbrev pub parts_from : ℕ → List ℕ → List PlacedPart
parts_from place [] = []
parts_from place (amount ∷ amounts) = record { place = place; amount = amount } ∷ parts_from (place + 1) amounts

-- what the children of a node carry
abbrev pub children_of : List Carry → Node → List Carry
children_of below node = take node.width (drop node.start below)

-- ---- level by level

-- a node without children
abbrev pub no_node : Node
no_node = record { unit = 0; start = 0; width = 0; tiv = 0; profile = no_terms }

-- the node in a place
abbrev pub node_at : List Node → ℕ → Node
node_at nodes place = slice_index_or nodes place no_node

-- what the part of a unit gives to its children
abbrev pub given_by : Bool → List Node → List Carry → PlacedPart → List PlacedPart
given_by whole nodes below part = parts_from (node_at nodes part.place).start (amounts_for whole part.amount (children_of below (node_at nodes part.place)))

-- what parts of units of a level give to the level below
abbrev pub level_down : Bool → List Node → List Carry → List PlacedPart → List PlacedPart
level_down whole nodes below parts = flat_map (given_by whole nodes below) parts

-- what parts of units of a level give to the ids
abbrev pub levels_down : Bool → List (List Node) → List (List Carry) → ℕ → List PlacedPart → List PlacedPart
levels_down whole levels rows zero parts = parts
levels_down whole levels rows (suc level) parts = levels_down whole levels rows level (level_down whole (slice_index_or levels level []) (slice_index_or rows level []) parts)

-- parts can be given down: their units have places, and what is shared out is not too much
pub record CanShare (programme : Parts) (whole : Bool) (level : ℕ) (parts : List PlacedPart) : Type 0 where
  pub within : level ≤ length programme.levels
  pub places : AllByRecursion (λ part. part.place < length (units_at programme level)) parts
  pub few : whole ≡ false → sum_by (λ part. part.amount) parts ≤ 10 ^ 17

-- ---- by unit

-- parts of units in places, by their units
abbrev pub unit_parts : List ℕ → List PlacedPart → List Part
unit_parts units parts = map (λ part. record { unit = slice_index units part.place; amount = part.amount }) parts
