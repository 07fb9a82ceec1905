-- Where each id has one share, in the order of the ids, the shares are what the ids have.
use Rattle.std.proofs.Common.{◌≡◌, ℕ, zero, suc, ◌+◌, ◌<◌, ◌≤◌, cond, nat_eq, List, [], ◌∷◌, length, slice_index, refl, sym, ap, subst, ◌∙◌, arith}
use Rattle.std.specs.Prelude.{All}
use Rattle.std.specs.Cmp.{nat_eq_equiv}
use Rattle.std.specs.List.{range_with_len, sum_by, zip}
use Rattle.std.proofs.lemmas.List.{length-map, take_all}
use Rattle.std.proofs.lemmas.List.FromFn.{length-range_with_len}
use Rattle.std.proofs.lemmas.List.Sums.{sum_by-cons}
use Rattle.kt_lanes.specs.Lanes.{AreWide, column}
use Rattle.kt_runs.specs.Adding.{Holds}
use Rattle.kt_runs.specs.HoldsLaws.{apart}
use Rattle.kt_levels.specs.Row.{Shared, no_shares}
use Rattle.kt_levels.specs.Table.{row_at}
use Rattle.kt_ceded.specs.CededShares.{AreCededShares, HasShares, share_at, shares_at}
use Rattle.kt_ceded.specs.CededLaws.{length-paired}

-- a place before all of them has no share
share-before : (from n place : ℕ) (shares : List ℕ) → place < from → share_at (range_with_len from n) shares place ≡ 0
share-before from zero place shares less = refl
share-before from (suc n) place [] less = refl
share-before from (suc n) place (amount ∷ shares) less =
    omega (
      arith,
      sum_by-cons (λ (pair : ℕ × ℕ). cond (nat_eq pair.0 place) pair.1 0) (from, amount) (zip (range_with_len (from + 1) n) shares),
      ap (λ b. cond b amount 0) (apart from place (λ same. omega (arith, same, less))),
      share-before (from + 1) n place shares (omega (arith, less)),
    )

-- a place has the share that stands there
share-own : (from n k place : ℕ) (shares : List ℕ) → length shares ≡ n → place ≡ from + k → k < n → share_at (range_with_len from n) shares place ≡ slice_index shares k
share-own from zero k place shares long is below = absurd (omega (arith, below))
share-own from (suc n) k place [] long is below = absurd (omega (arith, long))
share-own from (suc n) zero place (amount ∷ shares) long is below =
    let here : from ≡ place = omega (arith, is) in
    omega (
      arith,
      sum_by-cons (λ (pair : ℕ × ℕ). cond (nat_eq pair.0 place) pair.1 0) (from, amount) (zip (range_with_len (from + 1) n) shares),
      ap (λ b. cond b amount 0) (ap (λ one. nat_eq one place) here ∙ nat_eq_equiv.refl place),
      share-before (from + 1) n place shares (omega (arith, here)),
    )
share-own from (suc n) (suc k) place (amount ∷ shares) long is below =
    omega (
      arith,
      sum_by-cons (λ (pair : ℕ × ℕ). cond (nat_eq pair.0 place) pair.1 0) (from, amount) (zip (range_with_len (from + 1) n) shares),
      ap (λ b. cond b amount 0) (apart from place (λ same. omega (arith, same, is))),
      share-own (from + 1) n k place shares (omega (arith, long)) (omega (arith, is)) (omega (arith, below)),
    )

module _ (width : ℕ) (places : List ℕ) (in_turn : places ≡ range_with_len 0 width) where
  -- the shares of a row are what the ids have
  turn-shares : (shares : List ℕ) → HasShares width places shares → Holds width (shares_at places shares (length places)) shares
  turn-shares shares has = record {
    width_is = long;
    each = λ place below.
        sym (ap (sum_by (λ (pair : ℕ × ℕ). cond (nat_eq pair.0 place) pair.1 0)) (take_all (length places) (zip places shares) (omega (arith, length-paired places shares has.many)))
        ∙ (ap (λ places. share_at places shares place) in_turn ∙ share-own 0 width place place shares long (omega arith) below));
  }
    where
      long : length shares ≡ width
      long = has.many ∙ (ap length in_turn ∙ length-range_with_len 0 width)

  -- those of a table as they stand
  pub turn-lanes : (table : List Shared) → 1 ≤ length table → All (λ row. HasShares width places row.shares) table → (lanes : List (List ℕ)) → AreWide (length table) lanes → ((row : ℕ) → row < length table → column row lanes ≡ (row_at table row).shares) → AreCededShares width places table (length places) lanes
  turn-lanes table some has lanes wide each = record {
    count_is = sym (length-map lanes (λ (lane : List ℕ). slice_index lane 0)) ∙ (ap length (each 0 (omega (arith, some))) ∙ (own 0 (omega (arith, some))).width_is);
    wide = wide;
    each = λ row inside. subst (Holds width (shares_at places (row_at table row).shares (length places))) (sym (each row inside)) (own row inside);
  }
    where
      own : (row : ℕ) → row < length table → Holds width (shares_at places (row_at table row).shares (length places)) (row_at table row).shares
      own row inside = turn-shares (row_at table row).shares (has row no_shares inside)
