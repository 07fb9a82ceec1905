-- Laws of lanes of what units give, behind others.
-- The rule: docs/FINANCIAL_MODULE.md, "Allocation".
use Rattle.std.specs.Prelude.{◌≡◌, ℕ, ◌+◌, ◌<◌, ◌≤◌, List, ◌++◌, length, take, slice_index, slice_index_or}
use Rattle.std.specs.List.{flat_map}
use Rattle.std.proofs.Common.{refl, ap}
use Rattle.std.proofs.lemmas.List.{take_all}
use Rattle.kt_money.specs.Sharing.{share_out}
use Rattle.kt_fmtree.specs.declared.node.Node.{Node}
use Rattle.kt_fmtree.specs.Placed.{node_at}
use Rattle.kt_lanes.specs.Lanes.{column}
use Rattle.kt_lanes.specs.BehindLaws.{behind-are, behind-more, behind-none}
use Rattle.kt_lanes.specs.SideBySide.{AreBehind}
use Rattle.kt_levels.specs.Units.{child_losses}
use Rattle.kt_levels.specs.Down.{amounts_of, child_places, given_losses, placed_at, AreGivenBehind, ArePlaced}
use Rattle.kt_levels.specs.DownLaws.{count-more, gives-more, placed-all}
use Rattle.kt_levels.specs.declared.down.PlacedLanes.{PlacedLanes}

module _ (width : ℕ) (nodes : List Node) (below : List (List ℕ)) (parts : PlacedLanes) where
  -- no unit has given
  pub none-given : (before : List (List ℕ)) → AreGivenBehind width nodes below parts 0 before before
  none-given before = behind-none width (λ k. amounts_of (flat_map (given_losses nodes (column k below)) (take 0 (placed_at k parts)))) before (λ k less. refl)

  module _ (are : ArePlaced width parts) where
    -- one more has
    pub more-given : (at : ℕ) → at < length parts.places.items → (lane : List ℕ) → lane ≡ slice_index_or parts.lanes at lane → (node : Node) → node ≡ node_at nodes (slice_index parts.places.items at) → (before between now : List (List ℕ)) → AreGivenBehind width nodes below parts at before between → AreBehind width node.width (λ k. share_out (slice_index lane k) (child_losses (column k below) node)) between now → AreGivenBehind width nodes below parts (at + 1) before now
    more-given at inside lane lane_is node node_is before between now so_far next =
        behind-are width (length (flat_map (child_places nodes) (take at parts.places.items)) + node.width) (length (flat_map (child_places nodes) (take (at + 1) parts.places.items)))
        (λ k. amounts_of (flat_map (given_losses nodes (column k below)) (take at (placed_at k parts))) ++ share_out (slice_index lane k) (child_losses (column k below) node))
        (λ k. amounts_of (flat_map (given_losses nodes (column k below)) (take (at + 1) (placed_at k parts)))) before now
        (behind-more width (length (flat_map (child_places nodes) (take at parts.places.items))) node.width (λ k. amounts_of (flat_map (given_losses nodes (column k below)) (take at (placed_at k parts)))) (λ k. share_out (slice_index lane k) (child_losses (column k below) node)) before between now so_far next)
        (count-more width parts are at inside 0 nodes node node_is)
        (λ k less. gives-more width parts are at inside k nodes (column k below) lane lane_is node node_is)

    -- all have
    pub all-given : (at : ℕ) → length parts.places.items ≤ at → (before now : List (List ℕ)) → AreGivenBehind width nodes below parts at before now → AreBehind width (length (flat_map (child_places nodes) parts.places.items)) (λ k. amounts_of (flat_map (given_losses nodes (column k below)) (placed_at k parts))) before now
    all-given at past before now so_far =
        behind-are width (length (flat_map (child_places nodes) (take at parts.places.items))) (length (flat_map (child_places nodes) parts.places.items))
        (λ k. amounts_of (flat_map (given_losses nodes (column k below)) (take at (placed_at k parts)))) (λ k. amounts_of (flat_map (given_losses nodes (column k below)) (placed_at k parts))) before now so_far
        (ap (λ places. length (flat_map (child_places nodes) places)) (take_all at parts.places.items past))
        (λ k less. ap (λ all. amounts_of (flat_map (given_losses nodes (column k below)) all)) (placed-all width parts are at past k))
