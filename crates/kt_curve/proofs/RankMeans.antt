-- The samples' means at each rank fall, so that the ranked ones are they themselves.
use Rattle.std.proofs.Common.{◌≡◌, ⊎_elim, ℕ, zero, suc, ◌+◌, ◌*◌, ◌/◌, ◌<◌, ◌≤◌, List, [], ◌∷◌, map, length, get_or, arith, refl, sym, ap, ◌∙◌, All, ℤ, sum_by}
use Rattle.std.specs.List.{range_with_len}
use Rattle.std.specs.List.Sorted.{IsPermutation}
use Rattle.std.proofs.lemmas.Bool.{cases_lt}
use Rattle.std.proofs.lemmas.List.{get_or_past}
use Rattle.std.proofs.lemmas.List.Sums.{sum_by-cons, sum_by-le-sum_by}
use Rattle.std.proofs.lemmas.List.FromFn.{length-map-range_with_len, get_or-map-range_with_len}
use Rattle.std.proofs.lemmas.List.Elements.{All-nil, All-cons}
use Rattle.std.proofs.lemmas.List.Sorted.{All-permutation, IsPermutation-sym}
use Rattle.std.proofs.lemmas.Nat.{div_below, le-div}
use Rattle.std.proofs.Math.Nat.{mul-div-le}
use Rattle.kt_money.specs.Rounding.{half_up}
use Rattle.kt_rec.specs.declared.perspective.CellKey.{CellKey}
use Rattle.kt_rec.specs.declared.perspective.Perspective.{Perspective}
use Rattle.kt_ranks.specs.RankedLosses.{falling, ranked_loss}
use Rattle.kt_curve.specs.Exceedance.{rank_means, sidx_values}
use Rattle.kt_curve.specs.Grid.{sample_sidx}
use Rattle.kt_ranks.specs.Ranks.{Falls, HasLosses, curve_ranks}
use Rattle.kt_curve.proofs.Grids.{length_values}
use Rattle.kt_ranks.specs.RankLaws.{falls_falling, falls_next, loss_is_ranked}
use Rattle.kt_ranks.specs.SelectLaws.{all_asked, length_falling}

-- ---- means

-- a mean of a greater sum is no smaller
half_up-le : (a b n : ℕ) → 1 ≤ n → a ≤ b → half_up a n ≤ half_up b n
half_up-le a b n some more =
    let part : (2 * n) * ((2 * a + n) / (2 * n)) ≤ 2 * a + n = mul-div-le (2 * a + n) (2 * n) in
    le-div ((2 * a + n) / (2 * n)) (2 * b + n) (2 * n) (omega (arith, some)) (turned (2 * n) ((2 * a + n) / (2 * n)) (omega (arith, part, more)))
  where
    turned : (x y : ℕ) → x * y ≤ 2 * b + n → y * x ≤ 2 * b + n
    turned x y low = omega (arith, low)

-- the mean of nothing
half_up-none : (n : ℕ) → 1 ≤ n → half_up 0 n ≡ 0
half_up-none n some = let low : (2 * 0 + n) / (2 * n) < 1 = div_below (2 * 0 + n) (2 * n) 1 (omega (arith, some)) (omega (arith, some)) in omega (arith, low)

-- a sum of nothing
none_sum : (g : ℤ → ℕ) → ((x : ℤ) → g x ≡ 0) → (xs : List ℤ) → sum_by g xs ≡ 0
none_sum g none [] = refl
none_sum g none (x ∷ xs) = omega (arith, sum_by-cons g x xs, none x, none_sum g none xs)

-- ---- what falls from place to place

-- later ones are no greater than a bound
range_below : (f : ℕ → ℕ) → ((k : ℕ) → f (k + 1) ≤ f k) → (most a n : ℕ) → f a ≤ most → All (λ later. later ≤ most) (map f (range_with_len a n))
range_below f fall most a zero low = All-nil (λ later. later ≤ most)
range_below f fall most a (suc n) low = All-cons (λ later. later ≤ most) (f a) (map f (range_with_len (a + 1) n)) low (range_below f fall most (a + 1) n (omega (arith, low, fall a)))

-- they fall
range_falls : (f : ℕ → ℕ) → ((k : ℕ) → f (k + 1) ≤ f k) → (a n : ℕ) → Falls (map f (range_with_len a n))
range_falls f fall a zero = tt
range_falls f fall a (suc n) = (range_below f fall (f a) (a + 1) n (fall a), range_falls f fall (a + 1) n)

-- and the ranked ones are they themselves
range_ranked : (f : ℕ → ℕ) → ((k : ℕ) → f (k + 1) ≤ f k) → (n rank : ℕ) → (n ≤ rank → f rank ≡ 0) → ranked_loss (map f (range_with_len 0 n)) rank ≡ f rank
range_ranked f fall n rank none = sym (loss_is_ranked values values (range_falls f fall 0 n) (λ least some. refl) rank) ∙ there
  where
    values : List ℕ
    values = map f (range_with_len 0 n)

    there : get_or values rank 0 ≡ f rank
    there =
        ⊎_elim (λ (low : rank < n). get_or-map-range_with_len f 0 n rank rank 0 low (omega arith))
        (λ (high : n ≤ rank). get_or_past values rank 0 (omega (arith, high, length-map-range_with_len f 0 n)) ∙ sym (none high)) (cases_lt rank n)

-- ---- the means of the ranks

module _ (p : Perspective) (s n samples u : ℕ) (amount : CellKey → ℕ) (some : 1 ≤ samples) where
  -- the values of a sample
  abbrev values_of : ℤ → List ℕ
  values_of sidx = sidx_values p s n amount u sidx

  -- the sum of the samples' losses of a rank
  abbrev pub sum_of : ℕ → ℕ
  sum_of rank = sum_by (λ sidx. ranked_loss (sidx_values p s n amount u sidx) rank) (sample_sidx samples)

  -- it falls from rank to rank
  sum_falls : (rank : ℕ) → sum_of (rank + 1) ≤ sum_of rank
  sum_falls rank = sum_by-le-sum_by (λ sidx. ranked_loss (values_of sidx) (rank + 1)) (λ sidx. ranked_loss (values_of sidx) rank) (sample_sidx samples) one
    where
      one : (sidx : ℤ) → ranked_loss (values_of sidx) (rank + 1) ≤ ranked_loss (values_of sidx) rank
      one sidx = let next : rank + 1 ≡ suc rank = omega arith in rw next (falls_next (falling (values_of sidx)) rank (falls_falling (values_of sidx)))

  -- and is 0 behind the last period
  sum_past : (rank : ℕ) → n ≤ rank → sum_of rank ≡ 0
  sum_past rank past = none_sum (λ sidx. ranked_loss (values_of sidx) rank) none (sample_sidx samples)
    where
      none : (sidx : ℤ) → ranked_loss (values_of sidx) rank ≡ 0
      none sidx =
          get_or_past (falling (values_of sidx)) rank 0 (omega (arith, past, length_values p s n u amount sidx, length_falling (values_of sidx)))

  -- the loss of a rank among the means is the mean of the losses of that rank
  mean_ranked : (rank : ℕ) → ranked_loss (rank_means p s n samples amount u) rank ≡ half_up (sum_of rank) samples
  mean_ranked rank =
      range_ranked (λ rank. half_up (sum_of rank) samples) (λ k. half_up-le (sum_of (k + 1)) (sum_of k) samples some (sum_falls k)) n rank
      (λ past. ap (λ total. half_up total samples) (sum_past rank past) ∙ half_up-none samples some)

  -- the means of the sums of some ranks
  pub ranked_means : (sums ranks : List ℕ) → length sums ≡ length ranks → ((i : ℕ) → i < length ranks → get_or sums i 0 ≡ sum_of (get_or ranks i 0)) →
      map (λ total. half_up total samples) sums ≡ map (ranked_loss (rank_means p s n samples amount u)) ranks
  ranked_means [] [] len at = refl
  ranked_means [] (r ∷ ranks) len at = absurd (omega (arith, len))
  ranked_means (x ∷ sums) [] len at = absurd (omega (arith, len))
  ranked_means (x ∷ sums) (r ∷ ranks) len at =
      let here : half_up x samples ≡ ranked_loss (rank_means p s n samples amount u) r = ap (λ total. half_up total samples) (at 0 (omega arith)) ∙ sym (mean_ranked r) in
      let later = ranked_means sums ranks (omega (arith, len)) (λ i inside. at (suc i) (omega (arith, inside))) in
      λ i. here i ∷ later i

-- ---- at their places

-- where the losses of the ranks that a curve asks for stand at their places, so do the two of each return period
pub placed_asked : (placed whole ranks returns : List ℕ) (count : ℕ) → IsPermutation (curve_ranks count returns) ranks → All (λ rank. get_or placed rank 0 ≡ ranked_loss whole rank) ranks → All (λ period. period ≤ count → HasLosses placed whole count period) returns
placed_asked placed whole ranks returns count moved at =
    all_asked (λ rank. get_or placed rank 0 ≡ ranked_loss whole rank) count returns (All-permutation (λ rank. get_or placed rank 0 ≡ ranked_loss whole rank) ranks (curve_ranks count returns) (IsPermutation-sym (curve_ranks count returns) ranks moved) at)
