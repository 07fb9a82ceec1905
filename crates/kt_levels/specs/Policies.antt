-- Policy losses by lanes.
-- The rule: docs/FINANCIAL_MODULE.md, "Policy losses".
use Rattle.std.specs.Prelude.{◌≡◌, ℕ, ◌-◌, ◌<◌, ◌≤◌, List, [], length, slice_index, slice_index_or, Some}
use Rattle.std.specs.List.{sum}
use Rattle.kt_fmtree.specs.Tree.{Tree, policy_loss}
use Rattle.kt_fmtree.specs.Carried.{loss_by, row_of}
use Rattle.kt_fmtree.specs.Parts.{Parts, IsProgramme}
use Rattle.kt_fmtree.specs.Placed.{node_at}
use Rattle.kt_lanes.specs.Lanes.{column, IsLane}
use Rattle.kt_levels.specs.Units.{child_losses, losses_of}
use Rattle.kt_levels.specs.declared.policy.TopSums.{TopSums}

-- the losses that come to a top at one sidx
abbrev pub top_losses : Parts → List (List ℕ) → ℕ → ℕ → List ℕ
top_losses parts lanes node k =
    child_losses (losses_of (row_of parts (column k lanes) (length parts.levels - 1))) (node_at (slice_index_or parts.levels (length parts.levels - 1) []) node)

-- a lane has the losses that come to a top
abbrev pub IsTopBase : Parts → List (List ℕ) → ℕ → ℕ → List ℕ → Type 0
IsTopBase parts lanes width node lane = IsLane width (λ k. sum (top_losses parts lanes node k)) lane

-- losses that are kept are as many as the sidx, and where they are of a top, they are those that come to it
pub record HasSums (parts : Parts) (lanes : List (List ℕ)) (width : ℕ) (kept : TopSums) : Type 0 where
  pub wide : length kept.sums.items ≡ width
  pub each : (node : ℕ) → kept.node ≡ Some node → IsTopBase parts lanes width node kept.sums.items

-- a lane has the policy losses of a layer of a top, which are not above the losses that come to it
pub record IsPolicy (parts : Parts) (lanes : List (List ℕ)) (width node layer : ℕ) (policy : List ℕ) : Type 0 where
  pub wide : length policy ≡ width
  pub backed : (k : ℕ) → k < width → slice_index policy k ≤ sum (top_losses parts lanes node k)
  pub policy_is : (tree : Tree) → IsProgramme tree parts → (k : ℕ) → k < width → slice_index policy k ≡ policy_loss tree (loss_by tree.ids (column k lanes)) (slice_index tree.tops node) layer
