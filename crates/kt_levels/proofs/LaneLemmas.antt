-- Lanes that are found one by one, as units or places are gone through.
use Rattle.std.proofs.Common.{◌≡◌, ◌∙◌, ℕ, ◌+◌, ◌<◌, ◌≤◌, List, [], ◌∷◌, ◌++◌, length, map, take, drop, slice_index, slice_index_or, refl, sym, ap, subst, arith}
use Rattle.std.proofs.lemmas.List.{map-append, take-append-le, take_all, take_more}
use Rattle.kt_lanes.specs.Lanes.{column, AreWide, AreLanes, IsLane}
use Rattle.kt_lanes.specs.LaneLaws.{column-at, lanes-are, lanes-more, lanes-none}

-- what is written over the whole of a list stands there alone
pub written-over : (len : ℕ) (new old : List ℕ) → length new ≡ len → take len (new ++ drop (length new) old) ≡ new
written-over len new old long =
    take-append-le len new (drop (length new) old) (omega (arith, long)) ∙ take_all len new (omega (arith, long))

module _ {X : Type 0} (width : ℕ) (amount : ℕ → X → ℕ) (xs : List X) where
  -- the lanes of none
  pub mapped-none : (lanes : List (List ℕ)) → lanes ≡ [] → AreLanes width 0 (λ k. map (amount k) (take 0 xs)) lanes
  mapped-none lanes none = subst (AreLanes width 0 (λ k. map (amount k) (take 0 xs))) (sym none) (lanes-none width (λ k. map (amount k) (take 0 xs)) (λ k below. refl))

  -- those of one more
  pub mapped-more : (i : ℕ) (d : X) → i < length xs → (lanes more : List (List ℕ)) (lane : List ℕ) → AreLanes width i (λ k. map (amount k) (take i xs)) lanes → IsLane width (λ k. amount k (slice_index_or xs i d)) lane → more ≡ lanes ++ lane ∷ []
      → AreLanes width (i + 1) (λ k. map (amount k) (take (i + 1) xs)) more
  mapped-more i d inside lanes more lane so_far is more_is =
      lanes-more width i (λ k. map (amount k) (take i xs)) (λ k. map (amount k) (take (i + 1) xs)) (λ k. amount k (slice_index_or xs i d)) lanes more lane so_far is more_is
      (λ k below. sym (ap (map (amount k)) (take_more xs i d inside) ∙ map-append (amount k) (take i xs) (slice_index_or xs i d ∷ [])))

  -- those of all
  pub mapped-all : (i : ℕ) → i ≤ length xs → length xs ≤ i → (lanes : List (List ℕ)) → AreLanes width i (λ k. map (amount k) (take i xs)) lanes → AreLanes width (length xs) (λ k. map (amount k) xs) lanes
  mapped-all i within end lanes are =
      lanes-are width i (length xs) (λ k. map (amount k) (take i xs)) (λ k. map (amount k) xs) lanes are (omega (arith, within, end)) (λ k below. ap (map (amount k)) (take_all i xs end))

-- the lane in a place, by the amounts of all at each sidx
pub lane-in : (width : ℕ) (lanes : List (List ℕ)) (place : ℕ) (lane : List ℕ) → AreWide width lanes → place < length lanes → lane ≡ slice_index_or lanes place lane → IsLane width (λ k. slice_index (column k lanes) place) lane
lane-in width lanes place lane wide inside lane_is = record {
  wide = ap length lane_is ∙ wide place lane inside;
  each = λ k below. ap (λ (one : List ℕ). slice_index one k) lane_is ∙ sym (column-at k place lanes lane inside);
}
