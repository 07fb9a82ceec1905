-- The records of the shares of a table, by the lanes of the shares.
use Rattle.std.proofs.Common.{◌≡◌, ℕ, ◌<◌, ◌≤◌, List, [], ◌∷◌, length, map, slice_index, slice_index_or, refl, sym, ap, ◌∙◌, arith}
use Rattle.std.specs.List.{All, AllByRecursion}
use Rattle.std.proofs.lemmas.List.{ext_get_or, get_or-map, length-map}
use Rattle.std.proofs.lemmas.List.Elements.{recursion_from_All}
use Rattle.kt_lanes.specs.Lanes.{AreWide, column}
use Rattle.kt_lanes.specs.LaneLaws.{column-at}
use Rattle.kt_runs.specs.LossLanes.{HaveLanes, lane_record, lane_records}
use Rattle.kt_levels.specs.Row.{Shared, no_shares}
use Rattle.kt_levels.specs.Table.{row_at}
use Rattle.kt_levels.specs.TableLosses.{HasShare, share_lane, share_record}
use Rattle.kt_runs.specs.declared.heads.LossHead.{LossHead}

module _ (table : List Shared) (shares : List (List ℕ)) (some : 1 ≤ length table) (wide : AreWide (length table) shares) (each : (row : ℕ) → row < length table → column row shares ≡ (row_at table row).shares) where
  -- a share in each row has a lane
  lane-inside : (place : ℕ) → HasShare table place → place < length shares
  lane-inside place has =
      omega (arith, has 0 no_shares (omega (arith, some)), ap (λ (all : List ℕ). length all) (each 0 (omega (arith, some))), length-map shares (λ (lane : List ℕ). slice_index lane 0))

  -- which is what it is row by row
  lane-is : (place : ℕ) → HasShare table place → slice_index_or shares place [] ≡ share_lane table place
  lane-is place has =
      let inside = lane-inside place has in
      let long : length (slice_index_or shares place []) ≡ length table = wide place [] inside in
      ext_get_or 0 (slice_index_or shares place []) (share_lane table place) (long ∙ sym (length-map table (λ (row : Shared). slice_index row.shares place)))
      (λ row below.
      let within : row < length table = omega (arith, below, long) in
      sym (column-at row place shares [] inside)
      ∙ (ap (λ (all : List ℕ). slice_index all place) (each row within) ∙ sym (get_or-map (λ (row : Shared). slice_index row.shares place) table row no_shares 0 within)))

  module _ (heads : List LossHead) (have : All (λ (head : LossHead). HasShare table head.place) heads) where
    -- so heads have lanes
    pub shares-have : HaveLanes shares heads
    shares-have = λ k d below. lane-inside (slice_index_or heads k d).place (have k d below)

    -- and the same records
    pub shares-records : lane_records heads shares ≡ map (share_record table) heads
    shares-records = over heads (recursion_from_All (λ (head : LossHead). HasShare table head.place) heads have)
      where
        over : (heads : List LossHead) → AllByRecursion (λ (head : LossHead). HasShare table head.place) heads → lane_records heads shares ≡ map (share_record table) heads
        over [] have = refl
        over (head ∷ heads) have = λ i. lane_record head (lane-is head.place have.0 i) ∷ over heads have.1 i
