-- The rows of a table, and the lanes that it keeps of them.
use Rattle.std.proofs.Common.{◌≡◌, ℕ, zero, suc, ◌+◌, ◌-◌, ◌*◌, ◌<◌, ◌≤◌, ◌^◌, List, [], ◌∷◌, length, map, slice_index, slice_index_or, refl, sym, ap, subst, ◌∙◌, arith, add-one}
use Rattle.std.specs.List.{All, AllByRecursion, range_with_len, sum_by}
use Rattle.std.proofs.lemmas.List.{get_or-map, length-map}
use Rattle.std.proofs.lemmas.List.FromFn.{fill_by_all, get_or-map-range_with_len, length-map-range_with_len}
use Rattle.std.proofs.lemmas.List.Sums.{sum_by-cons}
use Rattle.kt_stream.specs.declared.entry.LossRecord.{LossRecord}
use Rattle.kt_runs.specs.Sidx.{sidx_at}
use Rattle.kt_rec.specs.Sums.{sum_by-agree}
use Rattle.kt_fmtree.specs.Tree.{Tree}
use Rattle.kt_rec.specs.ListLaws.{map-map}
use Rattle.kt_fmtree.specs.Parts.{Parts, IsProgramme}
use Rattle.kt_lanes.specs.Lanes.{AreWide, column}
use Rattle.kt_lanes.specs.LaneLaws.{column-at}
use Rattle.kt_levels.specs.ByLanes.{AreLayers}
use Rattle.kt_levels.specs.Kept.{IsTable, lane_row, rows_in}
use Rattle.kt_levels.specs.Layers.{key_of}
use Rattle.kt_levels.specs.Row.{Shared, no_shares, row_for}
use Rattle.kt_runs.specs.RowLaws.{each-range, pairs-agree}
use Rattle.kt_levels.specs.Shares.{taken_loss}
use Rattle.kt_levels.specs.Table.{HasAmounts, row_at, sampled_sum, table_for}
use Rattle.kt_runs.specs.LaneRows.{pairs_by_row, row_place}
use Rattle.kt_runs.specs.Taken.{AreIdLanes}
use Rattle.kt_levels.specs.declared.by_lanes.LayerLanes.{LayerLanes}
use Rattle.kt_levels.specs.declared.layers.TopLayer.{TopLayer}
use Rattle.kt_levels.specs.declared.table.Table.TheInside.{Inside}
use Rattle.kt_levels.proofs.IdLemmas.{taken-by}
use Rattle.kt_levels.proofs.RowLemmas.{whole-row}

-- ---- the rows of a run

-- what agrees at each row of a range makes the same rows
rows-agree : {Y : Type 0} (f g : ℕ → Y) (n : ℕ) → ((row : ℕ) → row < n → f row ≡ g row) → map f (range_with_len 0 n) ≡ map g (range_with_len 0 n)
rows-agree f g n same = each f g (range_with_len 0 n) (each-range (λ row. f row ≡ g row) 0 n (λ row low high. same row (omega arith)))
  where
    each : {Y : Type 0} (f g : ℕ → Y) (rows : List ℕ) → AllByRecursion (λ row. f row ≡ g row) rows → map f rows ≡ map g rows
    each f g [] same = refl
    each f g (row ∷ rows) same = λ i. same.0 i ∷ each f g rows same.1 i

-- lanes of what layers have of the losses of a run are its rows
pub table-are : (tree : Tree) (parts : Parts) → IsProgramme tree parts → (samples : ℕ) (records : List LossRecord) (lanes : List (List ℕ)) → AreIdLanes parts.ids samples records lanes → (rule : ℕ) (layers : List TopLayer) (made : LayerLanes) → AreLayers parts lanes (samples + 1) rule layers made → map (lane_row made.shares made.policies) (range_with_len 0 (samples + 1)) ≡ table_for tree rule samples records (map key_of layers)
table-are tree parts is samples records lanes are rule layers made made_are =
    rows-agree (lane_row made.shares made.policies) (λ row. row_for tree (taken_loss tree records (sidx_at (row_place row))) rule (map key_of layers)) (samples + 1)
    (λ row below.
    whole-row tree is.is _ rule layers (column row made.shares) (column row made.policies) (made_are.rows tree is row below)
    ∙ ap (λ losses. row_for tree losses rule (map key_of layers)) (taken-by tree parts is samples records lanes are row below))

-- ---- the lanes of a table

module _ (kept : Inside) (is : IsTable kept) (table : List Shared) (table_is : rows_in kept ≡ table) where
  pub table-long : length table ≡ kept.rows
  table-long = sym (ap length table_is) ∙ length-map-range_with_len (lane_row kept.shares kept.policies) 0 kept.rows

  pub table-row : (row : ℕ) → row < kept.rows → lane_row kept.shares kept.policies row ≡ row_at table row
  table-row row below =
      sym (get_or-map-range_with_len (lane_row kept.shares kept.policies) 0 kept.rows row row no_shares below (omega arith)) ∙ ap (λ table. row_at table row) table_is

  -- what holds of each row holds of the first
  at-first : (P : Shared → Type 0) → All P table → P (lane_row kept.shares kept.policies 0)
  at-first P all = let some = is.some in subst P (sym (table-row 0 some)) (all 0 no_shares (omega (arith, some, table-long)))

  -- a share in a place has a lane
  pub shares-inside : (place : ℕ) → All (λ row. place < length row.shares) table → place < length kept.shares
  shares-inside place all = omega (arith, at-first (λ row. place < length row.shares) all, length-map kept.shares (λ (lane : List ℕ). slice_index lane 0))

  -- and so has a policy loss
  pub policies-inside : (place : ℕ) → All (HasAmounts place) table → place < length kept.policies
  policies-inside place all = omega (arith, (at-first (HasAmounts place) all).policy, length-map kept.policies (λ (lane : List ℕ). slice_index lane 0))

  -- a lane has the amounts of all rows
  lane-are : (lanes : List (List ℕ)) → AreWide kept.rows lanes → (amount : Shared → ℕ) (place : ℕ) → place < length lanes → ((row : ℕ) → amount (lane_row kept.shares kept.policies row) ≡ slice_index (column row lanes) place) → (lane : List ℕ) → lane ≡ slice_index_or lanes place lane → lane ≡ map amount table
  lane-are lanes wide amount place inside same lane is =
      fill_by_all (λ row. amount (lane_row kept.shares kept.policies row)) lane kept.rows 0 (ap (λ (one : List ℕ). length one) is ∙ wide place lane inside)
      (λ row below. ap (λ (one : List ℕ). slice_index one row) is ∙ (sym (column-at row place lanes lane inside) ∙ sym (same row)))
      ∙ (sym (map-map amount (lane_row kept.shares kept.policies) (range_with_len 0 kept.rows)) ∙ ap (map amount) table_is)

  module _ (place : ℕ) (lane : List ℕ) where
    pub shares-are : All (λ row. place < length row.shares) table → lane ≡ slice_index_or kept.shares place lane → lane ≡ map (λ row. slice_index row.shares place) table
    shares-are all = lane-are kept.shares is.shares (λ row. slice_index row.shares place) place (shares-inside place all) (λ row. refl) lane

    pub policies-are : All (HasAmounts place) table → lane ≡ slice_index_or kept.policies place lane → lane ≡ map (λ row. slice_index row.policies place) table
    policies-are all = lane-are kept.policies is.policies (λ row. slice_index row.policies place) place (policies-inside place all) (λ row. refl) lane

    pub totals-are : All (HasAmounts place) table → lane ≡ slice_index_or kept.policies place lane → lane ≡ map (λ row. slice_index row.totals place) table
    totals-are all = lane-are kept.policies is.policies (λ row. slice_index row.totals place) place (policies-inside place all) (λ row. refl) lane

-- ---- amounts of all rows

module _ (amount : Shared → ℕ) (table : List Shared) (lane : List ℕ) (lane_is : lane ≡ map amount table) where
  pub lane-long : length lane ≡ length table
  lane-long = ap length lane_is ∙ length-map table amount

  lane-at : (row : ℕ) → row < length table → slice_index lane row ≡ amount (row_at table row)
  lane-at row below = ap (λ all. slice_index all row) lane_is ∙ get_or-map amount table row no_shares 0 below

  -- their pairs
  pub lane-pairs : pairs_by_row (slice_index lane) (length lane) ≡ pairs_by_row (λ row. amount (row_at table row)) (length table)
  lane-pairs =
      ap (pairs_by_row (slice_index lane)) lane-long ∙ pairs-agree (slice_index lane) (λ row. amount (row_at table row)) (length table) lane-at

  -- their sum over the samples
  pub lane-sampled : sum_by (slice_index lane) (range_with_len 1 (length lane - 1)) ≡ sampled_sum amount table
  lane-sampled =
      ap (λ n. sum_by (slice_index lane) (range_with_len 1 (n - 1))) lane-long
      ∙ sum_by-agree (slice_index lane) (λ row. amount (row_at table row)) (range_with_len 1 (length table - 1)) (each-range (λ row. slice_index lane row ≡ amount (row_at table row)) 1 (length table - 1) (λ row low high. lane-at row (omega (arith, low, high))))

  pub lane-few : ((row : ℕ) → row < length table → amount (row_at table row) ≤ 10000000000000000) → (row : ℕ) → row < length lane → slice_index lane row ≤ 10000000000000000
  lane-few few row below = let inside : row < length table = omega (arith, below, lane-long) in omega (arith, lane-at row inside, few row inside)

-- ---- numbers of a range, added

summed-last : (f : ℕ → ℕ) (a n : ℕ) → sum_by f (range_with_len a (n + 1)) ≡ sum_by f (range_with_len a n) + f (a + n)
summed-last f a n = ap (λ m. sum_by f (range_with_len a m)) (add-one n) ∙ from a n
  where
    from : (a n : ℕ) → sum_by f (range_with_len a (suc n)) ≡ sum_by f (range_with_len a n) + f (a + n)
    from a zero = let e : a + 0 ≡ a = omega arith in omega (arith, sum_by-cons f a [], ap f e)
    from a (suc n) = let e : a + 1 + n ≡ a + suc n = omega arith in omega (arith, sum_by-cons f a (range_with_len (a + 1) (suc n)), sum_by-cons f a (range_with_len (a + 1) n), from (a + 1) n, ap f e)

summed-few : (f : ℕ → ℕ) (a n : ℕ) → ((k : ℕ) → a ≤ k → k < a + n → f k ≤ 10000000000000000) → sum_by f (range_with_len a n) ≤ n * 10000000000000000
summed-few f a zero few = omega arith
summed-few f a (suc n) few = omega (arith, sum_by-cons f a (range_with_len (a + 1) n), few a (omega arith) (omega arith), summed-few f (a + 1) n (λ k low high. few k (omega arith) (omega arith)))

module _ (f : ℕ → ℕ) (row sum : ℕ) (some : 1 ≤ row) (so_far : sum ≡ sum_by f (range_with_len 1 (row - 1))) where
  -- one more row
  pub summed-more : sum + f row ≡ sum_by f (range_with_len 1 (row + 1 - 1))
  summed-more =
      let here : row + 1 - 1 ≡ row - 1 + 1 = omega arith in
      let last : 1 + (row - 1) ≡ row = omega arith in
      omega (arith, so_far, ap (λ n. sum_by f (range_with_len 1 n)) here, summed-last f 1 (row - 1), ap f last)

  -- it fits
  pub summed-fits : row < 1001 → ((k : ℕ) → k ≤ row → f k ≤ 10000000000000000) → sum + f row < 2 ^ 64
  summed-fits below few = omega (arith, so_far, few row (omega arith), summed-few f 1 (row - 1) (λ k low high. few k (omega (arith, high, some))))
