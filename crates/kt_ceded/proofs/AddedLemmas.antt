-- The shares of a table are added, share by share.
use Rattle.std.proofs.Common.{◌≡◌, ℕ, ◌+◌, ◌<◌, ◌^◌, cond, nat_eq, List, length, map, slice_index, slice_index_or, slice_set, take, sym, ap, subst, ◌∙◌, arith}
use Rattle.std.specs.Prelude.{All}
use Rattle.std.specs.Cmp.{nat_eq_equiv}
use Rattle.std.specs.List.{sum_by, zip}
use Rattle.std.proofs.lemmas.List.{get_or-map, length-map, length-set}
use Rattle.std.proofs.lemmas.List.Sums.{sum_by-take-le, sum_by_more}
use Rattle.std.proofs.lemmas.Slice.Zip.{get_or-zip}
use Rattle.kt_runs.specs.Adding.{Holds}
use Rattle.kt_runs.specs.HoldsLaws.{holds-more}
use Rattle.kt_lanes.specs.LaneLaws.{column-at, set-column, set-wide}
use Rattle.kt_lanes.specs.Lanes.{AreWide, IsLane, column}
use Rattle.kt_levels.specs.Row.{Shared, no_shares}
use Rattle.kt_levels.specs.Table.{row_at}
use Rattle.kt_ceded.specs.CededShares.{AreCededShares, HasShares, shares_at}
use Rattle.kt_ceded.specs.CededLaws.{length-paired}

-- ---- the amounts of a row, share by share

module _ (width : ℕ) (places shares : List ℕ) (has : HasShares width places shares) where
  -- what a place has of so many shares
  abbrev so_far : ℕ → ℕ → ℕ
  so_far k place = sum_by (λ (pair : ℕ × ℕ). cond (nat_eq pair.0 place) pair.1 0) (take k (zip places shares))

  module _ (k : ℕ) (below : k < length places) (ceded : List ℕ) (held : Holds width (so_far k) ceded) where
    -- with one more
    share-more : (place : ℕ) → so_far (k + 1) place ≡ so_far k place + cond (nat_eq (slice_index places k) place) (slice_index shares k) 0
    share-more place =
        sum_by_more (λ (pair : ℕ × ℕ). cond (nat_eq pair.0 place) pair.1 0) (zip places shares) k (0, 0) (omega (arith, length-paired places shares has.many))
        ∙ ap (λ (pair : ℕ × ℕ). so_far k place + cond (nat_eq pair.0 place) pair.1 0) (get_or-zip places shares k (0, 0) below (omega (arith, has.many)))

    pub ceded-set : Holds width (so_far (k + 1)) (slice_set ceded (slice_index places k) (slice_index_or ceded (slice_index places k) 0 + slice_index shares k))
    ceded-set = holds-more width (so_far k) (so_far (k + 1)) ceded held (slice_index places k) (slice_index shares k) (has.within k 0 below) share-more

    -- it fits
    pub ceded-fits : slice_index_or ceded (slice_index places k) 0 + slice_index shares k < 2 ^ 64
    ceded-fits =
        let place = slice_index places k in
        omega (
          arith,
          held.each place (has.within k 0 below),
          share-more place,
          ap (λ b. cond b (slice_index shares k) 0) (nat_eq_equiv.refl place),
          sum_by-take-le (λ (pair : ℕ × ℕ). cond (nat_eq pair.0 place) pair.1 0) (zip places shares) (k + 1),
          has.few place (has.within k 0 below),
        )

-- ---- lane by lane

module _ (width : ℕ) (places : List ℕ) (table : List Shared) where
  module _ (has : All (λ row. HasShares width places row.shares) table) (k : ℕ) (below : k < length places) (ceded : List (List ℕ)) (so_far : AreCededShares width places table k ceded) (place : ℕ) (place_is : place ≡ slice_index places k) (before : List ℕ) (before_is : before ≡ slice_index_or ceded place before) (lane : List ℕ) (lane_is : lane ≡ map (λ (row : Shared). slice_index row.shares k) table) where
    fits-in : (row : ℕ) → row < length table → HasShares width places (row_at table row).shares
    fits-in row inside = has row no_shares inside

    old : (row : ℕ) → row < length table → place < length ceded → slice_index before row ≡ slice_index (column row ceded) place
    old row inside within = ap (λ (one : List ℕ). slice_index one row) before_is ∙ sym (column-at row place ceded before within)

    more : (row : ℕ) → row < length table → slice_index lane row ≡ slice_index (row_at table row).shares k
    more row inside = ap (λ all. slice_index all row) lane_is ∙ get_or-map (λ (row : Shared). slice_index row.shares k) table row no_shares 0 inside

    module _ (within : place < length ceded) where
      pub before-wide : length before ≡ length table
      before-wide = ap (λ (one : List ℕ). length one) before_is ∙ so_far.wide place before within

      -- its lane has as many rows
      pub lane-wide : length lane ≡ length before
      lane-wide = ap length lane_is ∙ (length-map table (λ (row : Shared). slice_index row.shares k) ∙ sym before-wide)

      -- the next share fits
      pub lane-fits : (row : ℕ) → row < length before → slice_index before row + slice_index lane row < 2 ^ 64
      lane-fits row less =
          let inside : row < length table = omega (arith, less, before-wide) in
          let fits = ceded-fits width places (row_at table row).shares (fits-in row inside) k below (column row ceded) (so_far.each row inside) in
          omega (arith, old row inside within, more row inside, ap (slice_index (column row ceded)) place_is, fits)

      -- with it
      pub lane-more : (now : List ℕ) → IsLane (length before) (λ row. slice_index before row + slice_index lane row) now → (all : List (List ℕ)) → all ≡ slice_set ceded place now → AreCededShares width places table (k + 1) all
      lane-more now now_is all all_is = record {
        count_is = ap length all_is ∙ (length-set ceded place now ∙ so_far.count_is);
        wide = subst (AreWide (length table)) (sym all_is) (set-wide (length table) place ceded so_far.wide within now (now_is.wide ∙ before-wide));
        each = λ row inside.
            let set = ceded-set width places (row_at table row).shares (fits-in row inside) k below (column row ceded) (so_far.each row inside) in
            let amount : slice_index now row ≡ slice_index (column row ceded) (slice_index places k) + slice_index (row_at table row).shares k =
            omega (arith, now_is.each row (omega (arith, inside, before-wide)), old row inside within, more row inside, ap (slice_index (column row ceded)) place_is) in
            subst (Holds width (shares_at places (row_at table row).shares (k + 1)))
            (sym (ap (column row) all_is
            ∙ (set-column (length table) place ceded so_far.wide within now row
            ∙ (ap (slice_set (column row ceded) place) amount ∙ ap (λ n. slice_set (column row ceded) n (slice_index (column row ceded) (slice_index places k) + slice_index (row_at table row).shares k)) place_is))))
            set;
      }
