-- The samples' means in each period and at each rank, from sums by place.
use Rattle.std.proofs.Common.{◌≡◌, ℕ, zero, suc, ◌+◌, ◌-◌, ◌*◌, ◌^◌, ◌<◌, ◌≤◌, List, [], ◌∷◌, map, length, get_or, arith, refl, sym, ap, ◌∙◌, cond, add-mul, Bool, true, false, All, ℤ, pos, Some, sum, sum_by}
use Rattle.std.specs.List.{filter, range_with_len}
use Rattle.std.proofs.lemmas.List.Sums.{sum_by-le, sum-map}
use Rattle.std.proofs.lemmas.List.FromFn.{length-map-range_with_len, sum_by-map-range_with_len_more}
use Rattle.std.proofs.lemmas.List.Elements.{All-head, All-tail, All-from_get_or}
use Rattle.kt_money.specs.Rounding.{half_up}
use Rattle.kt_rec.specs.declared.perspective.Perspective.{Perspective}
use Rattle.kt_rec.specs.declared.perspective.CellKey.{CellKey}
use Rattle.kt_cell.specs.declared.cell.Cell.{Cell}
use Rattle.kt_cell.specs.Losses.{same_key, key_of}
use Rattle.kt_cell.specs.Sets.{IsGroup}
use Rattle.kt_curve.specs.Grid.{sample_sidx}
use Rattle.kt_cell.specs.Standing.{cell_at, most_total, FitsCells}
use Rattle.kt_cell.specs.Amounts.{amount_in, amounts_of, of_period}
use Rattle.kt_curve.specs.Exceedance.{period_means}
use Rattle.kt_curve.proofs.Grids.{at_choice}
use Rattle.kt_curve.proofs.Moments.{no_amount}
use Rattle.kt_curve.proofs.Periods.{period_sum}

-- ---- lists by place

-- what is given by place
pub by_places : (h f : ℕ → ℕ) (a n : ℕ) (xs : List ℕ) → length xs ≡ n → ((i : ℕ) → i < n → get_or xs i 0 ≡ f (a + i)) → map h xs ≡ map (λ t. h (f t)) (range_with_len a n)
by_places h f a zero [] len at = refl
by_places h f a (suc n) [] len at = absurd (omega (arith, len))
by_places h f a zero (x ∷ xs) len at = absurd (omega (arith, len))
by_places h f a (suc n) (x ∷ xs) len at =
    let here : x ≡ f a = at 0 (omega arith) ∙ ap f (let e : a + 0 ≡ a = omega arith in e) in
    let later : map h xs ≡ map (λ t. h (f t)) (range_with_len (a + 1) n) =
    by_places h f (a + 1) n xs (omega (arith, len)) (λ i inside. at (suc i) (omega (arith, inside)) ∙ ap f (let e : a + suc i ≡ (a + 1) + i = omega arith in e)) in
    λ i. h (here i) ∷ later i

-- what holds at each place holds of all
pub all_places : (m : ℕ) (xs : List ℕ) → ((i : ℕ) → i < length xs → get_or xs i 0 ≤ m) → All (λ x. x ≤ m) xs
all_places m xs at = All-from_get_or (λ x. x ≤ m) xs 0 at

-- ---- bounds

-- what cells have for a key is within its bound
cell_most : (maxima : Bool) (n samples : ℕ) (es : List (CellKey × Cell)) (key : CellKey) → All (λ e. FitsCells n samples e.0 e.1) es → amount_in maxima (cell_at es key) ≤ most_total
cell_most true n samples [] key fits = omega arith
cell_most false n samples [] key fits = omega arith
cell_most maxima n samples (e ∷ es) key fits =
    rw (at_choice (amount_in maxima) (same_key key e.0) (Some e.1) (cell_at es key))
    (by_test (same_key key e.0) (either maxima (All-head (λ (e : CellKey × Cell). FitsCells n samples e.0 e.1) e es fits)) (cell_most maxima n samples es key (All-tail (λ (e : CellKey × Cell). FitsCells n samples e.0 e.1) e es fits)))
  where
    either : (b : Bool) → FitsCells n samples e.0 e.1 → amount_in b (Some e.1) ≤ most_total
    either true fits = fits.greatest
    either false fits = fits.most

    by_test : (b : Bool) → amount_in maxima (Some e.1) ≤ most_total → amount_in maxima (cell_at es key) ≤ most_total → cond b (amount_in maxima (Some e.1)) (amount_in maxima (cell_at es key)) ≤ most_total
    by_test true here later = here
    by_test false here later = later

-- the sum of a period, over its samples
period_amounts : (p : Perspective) (s n samples u : ℕ) (group : List (CellKey × Cell)) (maxima : Bool) (t : ℕ) → IsGroup p s n samples u group →
    sum (amounts_of maxima (of_period t) group) ≡ sum_by (λ x. amount_in maxima (cell_at group (key_of p s u x t))) (sample_sidx samples)
period_amounts p s n samples u group maxima t is =
    sum-map (λ (e : CellKey × Cell). amount_in maxima (Some e.1)) (filter (of_period t) group) ∙ sym (period_sum (amount_in maxima) (no_amount maxima) p s n samples u group t is)

-- the sum of a period is within its bound
pub period_most : (p : Perspective) (s n samples u : ℕ) (group : List (CellKey × Cell)) (maxima : Bool) (t : ℕ) → IsGroup p s n samples u group → sum (amounts_of maxima (of_period t) group) ≤ samples * most_total
period_most p s n samples u group maxima t is =
    let each : All (λ x. amount_in maxima (cell_at group (key_of p s u x t)) ≤ most_total) (sample_sidx samples) =
    All-from_get_or (λ x. amount_in maxima (cell_at group (key_of p s u x t)) ≤ most_total) (sample_sidx samples) (pos 0) (λ i inside. cell_most maxima n samples group _ is.fitting) in
    let bound = sum_by-le (λ x. amount_in maxima (cell_at group (key_of p s u x t))) most_total (sample_sidx samples) each in
    rw (period_amounts p s n samples u group maxima t is) (rw (length-map-range_with_len pos 1 samples) at bound)

-- ---- the means of the periods

-- the sums by place are within their bounds
pub sums_most : (p : Perspective) (s n samples u : ℕ) (group : List (CellKey × Cell)) (maxima : Bool) (sums : List ℕ) → IsGroup p s n samples u group → length sums ≡ n →
    ((place : ℕ) → place < n → get_or sums place 0 ≡ sum (amounts_of maxima (of_period (place + 1)) group)) → All (λ total. total ≤ samples * (2 ^ 64 - 1)) sums
sums_most p s n samples u group maxima sums is len at =
    all_places (samples * (2 ^ 64 - 1)) sums (λ i inside. omega (arith, at i (omega (arith, inside, len)), period_most p s n samples u group maxima (i + 1) is))

-- their means are those of the periods
pub means_of_periods : (p : Perspective) (s n samples u : ℕ) (group : List (CellKey × Cell)) (maxima : Bool) (sums : List ℕ) → IsGroup p s n samples u group → length sums ≡ n →
    ((place : ℕ) → place < n → get_or sums place 0 ≡ sum (amounts_of maxima (of_period (place + 1)) group)) →
    map (λ total. half_up total samples) sums ≡ period_means p s n samples (λ key. amount_in maxima (cell_at group key)) u
means_of_periods p s n samples u group maxima sums is len at =
    by_places (λ total. half_up total samples) (λ t. sum_by (λ sidx. amount_in maxima (cell_at group (key_of p s u sidx t))) (sample_sidx samples)) 1 n sums len
    (λ i inside. at i inside ∙ ap (λ t. sum (amounts_of maxima (of_period t) group)) (let e : i + 1 ≡ 1 + i = omega arith in e) ∙ period_amounts p s n samples u group maxima (1 + i) is)

-- ---- the means of the ranks

-- the sums of one sample more
pub sample_more : (f : ℤ → ℕ) (sample old new : ℕ) → 1 ≤ sample → old ≡ sum_by f (map pos (range_with_len 1 (sample - 1))) → new ≡ old + f (pos sample) → new ≡ sum_by f (map pos (range_with_len 1 ((sample + 1) - 1)))
sample_more f sample old new some is more =
    let longer : (sample + 1) - 1 ≡ (sample - 1) + 1 = omega arith in
    more ∙ ap (λ m. m + f (pos sample)) is ∙ sym (sum_by-map-range_with_len_more f pos 1 (sample - 1) sample (omega arith)) ∙ ap (λ k. sum_by f (map pos (range_with_len 1 k))) (sym longer)

-- a bound that grows by one amount for each sample
pub bound_more : (m sample old new : ℕ) → 1 ≤ sample → old ≤ (sample - 1) * m → new ≤ old + m → new ≤ ((sample + 1) - 1) * m
bound_more m sample old new some low more =
    let longer : (sample + 1) - 1 ≡ (sample - 1) + 1 = omega arith in
    rw longer (one_more (sample - 1) low)
  where
    one_more : (k : ℕ) → old ≤ k * m → new ≤ (k + 1) * m
    one_more k low = simp (add-mul) (omega (arith, low, more))
