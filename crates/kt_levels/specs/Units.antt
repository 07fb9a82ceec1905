-- What units carry, and what their terms leave of the losses of their children.
-- The rules: docs/FINANCIAL_MODULE.md, "Levels".
use Rattle.std.specs.Prelude.{ℕ, ◌+◌, ◌<◌, ◌≤◌, ◌^◌, List, length, map, take, drop}
use Rattle.std.specs.List.{sum}
use Rattle.kt_rules.specs.LossAlone.{loss_after}
use Rattle.kt_rules.specs.Profiles.{IsProfile}
use Rattle.kt_rules.specs.declared.carry.Carry.{Carry}
use Rattle.kt_fmtree.specs.declared.node.Node.{Node}
use Rattle.kt_lanes.specs.Lanes.{column}

-- the losses of what units carry
abbrev pub losses_of : List Carry → List ℕ
losses_of row = map (λ carry. carry.loss) row

-- the losses of the children of a unit, among those of the level below
abbrev pub child_losses : List ℕ → Node → List ℕ
child_losses row node = take node.width (drop node.start row)

-- what the terms of a unit leave of the losses of its children
abbrev pub unit_loss : List ℕ → Node → ℕ
unit_loss row node = loss_after node.profile node.tiv (sum (child_losses row node))

-- a unit's children stand below it, their losses are not too much, and its terms are a profile
pub record CanTake (width : ℕ) (below : List (List ℕ)) (node : Node) : Type 0 where
  pub within : node.start + node.width ≤ length below
  pub few : (k : ℕ) → k < width → sum (child_losses (column k below) node) ≤ 10 ^ 16
  pub profile : IsProfile node.profile
  pub value : node.tiv ≤ 10 ^ 14
