-- Lanes that are taken by their places.
-- The rules: docs/FINANCIAL_MODULE.md, "Levels".
use Rattle.std.specs.Prelude.{◌≡◌, ℕ, ◌<◌, List, [], All, length, map, slice_index, slice_index_or}

-- the lanes in places, in the order of the places
abbrev pub lanes_at : List (List ℕ) → List ℕ → List (List ℕ)
lanes_at lanes places = map (λ place. slice_index_or lanes place []) places

-- each is the place of one of so many lanes
abbrev pub ArePlaces : ℕ → List ℕ → Type 0
ArePlaces lanes places = All (λ place. place < lanes) places

-- For each of so many lanes which of some places is that of the lane, or a number that is none of theirs where none is. So no two of the
-- places are the same.
pub record AreOwners (lanes : ℕ) (places owners : List ℕ) : Type 0 where
  pub many : length owners ≡ lanes
  pub own : (k : ℕ) → k < length places → slice_index owners (slice_index places k) ≡ k
  pub back : (place : ℕ) → place < lanes → slice_index owners place < length places → slice_index places (slice_index owners place) ≡ place

-- Lanes are being put in the order of places: each place names the lane that it named at first, and the first so many are their own.
pub record AreTurning (first_places : List ℕ) (first_lanes : List (List ℕ)) (at : ℕ) (places owners : List ℕ) (lanes : List (List ℕ)) : Type 0 where
  pub as_many : length places ≡ length first_places
  pub lanes_many : length lanes ≡ length first_lanes
  pub within : (k : ℕ) → k < length places → slice_index places k < length lanes
  pub owners_are : AreOwners (length lanes) places owners
  pub done : (k : ℕ) → k < at → k < length places → slice_index places k ≡ k
  pub holds : (k : ℕ) → k < length places → slice_index_or lanes (slice_index places k) [] ≡ slice_index_or first_lanes (slice_index first_places k) []
