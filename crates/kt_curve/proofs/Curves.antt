-- The losses of a summary's entries have the ranks of those of all its keys.
use Rattle.std.proofs.Common.{◌≡◌, ℕ, zero, suc, ◌+◌, ◌-◌, ◌≤◌, List, [], ◌∷◌, ◌++◌, map, arith, sym, ap, ◌∙◌, append_assoc, append-nil, Bool, true, false, nat_le, All, ℤ, pos, Some, None, int_eq}
use Rattle.std.specs.List.{filter, flat_map, range_with_len}
use Rattle.std.proofs.lemmas.Grind.{flat_map-append}
use Rattle.std.proofs.lemmas.List.Concat.{flat_map-cons}
use Rattle.std.proofs.lemmas.Bool.Decides.{nat_tests}
use Rattle.std.proofs.lemmas.List.Elements.{All-map, All-filter, All-weaker}
use Rattle.kt_rec.specs.declared.perspective.Perspective.{Perspective}
use Rattle.kt_rec.specs.declared.perspective.CellKey.{CellKey}
use Rattle.kt_cell.specs.declared.cell.Cell.{Cell}
use Rattle.kt_cell.specs.Losses.{one_if}
use Rattle.kt_curve.specs.Grid.{keys_for, sidx_of_kind}
use Rattle.kt_cell.specs.Sets.{of_kind, IsGroup}
use Rattle.kt_cell.specs.Standing.{cell_at, most_total, FitsCells, sidx_in_range}
use Rattle.kt_cell.specs.Amounts.{amount_in, amounts_of, of_sample}
use Rattle.kt_ranks.specs.RankedLosses.{curve_rows}
use Rattle.kt_ranks.specs.Ranks.{SameRanks, reaching}
use Rattle.kt_curve.proofs.Grids.{group_sum_by, kind_times, single_times, times}
use Rattle.kt_curve.proofs.Moments.{no_amount, sum_by_map}

-- what is not there reaches no amount above 0
none_reaches : (maxima : Bool) (least : ℕ) → 1 ≤ least → one_if (nat_le least (amount_in maxima None)) ≡ 0
none_reaches maxima least some = let no : nat_le least 0 ≡ false = grind (arith, nat_tests) in ap (λ n. one_if (nat_le least n)) (no_amount maxima) ∙ ap one_if no

-- the amounts of the entries of some sidx have the ranks of those of all their keys
ranks_by : (p : Perspective) (s n samples u : ℕ) (group : List (CellKey × Cell)) (maxima : Bool) (sidxs : List ℤ) (test : CellKey × Cell → Bool) → IsGroup p s n samples u group →
    ((e : CellKey × Cell) → sidx_in_range samples e.0.sidx ≡ true → times (λ x. int_eq x e.0.sidx) sidxs ≡ one_if (test e)) →
    SameRanks (amounts_of maxima test group) (map (λ key. amount_in maxima (cell_at group key)) (keys_for p s u sidxs n))
ranks_by p s n samples u group maxima sidxs test is tested = λ least some.
    sum_by_map (λ value. one_if (nat_le least value)) (λ (entry : CellKey × Cell). amount_in maxima (Some entry.1)) (filter test group)
    ∙ sym (group_sum_by (λ found. one_if (nat_le least (amount_in maxima found))) (none_reaches maxima least some) p s n samples u group sidxs test is tested)
    ∙ sym (sum_by_map (λ value. one_if (nat_le least value)) (λ key. amount_in maxima (cell_at group key)) (keys_for p s u sidxs n))

-- those of the means, or of all samples
pub ranks_of_kind : (p : Perspective) (s n samples u : ℕ) (group : List (CellKey × Cell)) (maxima mean : Bool) → IsGroup p s n samples u group →
    SameRanks (amounts_of maxima (of_kind mean) group) (map (λ key. amount_in maxima (cell_at group key)) (keys_for p s u (sidx_of_kind mean samples) n))
ranks_of_kind p s n samples u group maxima mean is =
    ranks_by p s n samples u group maxima (sidx_of_kind mean samples) (of_kind mean) is (λ e within. kind_times mean samples e.0.sidx within)

-- those of one sample
pub ranks_of_sample : (p : Perspective) (s n samples u : ℕ) (group : List (CellKey × Cell)) (maxima : Bool) (sample : ℕ) → IsGroup p s n samples u group →
    SameRanks (amounts_of maxima (of_sample sample) group) (map (λ key. amount_in maxima (cell_at group key)) (keys_for p s u (pos sample ∷ []) n))
ranks_of_sample p s n samples u group maxima sample is =
    ranks_by p s n samples u group maxima (pos sample ∷ []) (of_sample sample) is (λ e within. single_times (pos sample) e.0.sidx)

-- the amounts are within their bounds
pub amounts_most : (p : Perspective) (s n samples u : ℕ) (group : List (CellKey × Cell)) (maxima : Bool) (test : CellKey × Cell → Bool) → IsGroup p s n samples u group →
    All (λ value. value ≤ most_total) (amounts_of maxima test group)
amounts_most p s n samples u group maxima test is =
    All-map (λ value. value ≤ most_total) (λ (entry : CellKey × Cell). amount_in maxima (Some entry.1)) (filter test group)
    (All-filter test (λ (entry : CellKey × Cell). amount_in maxima (Some entry.1) ≤ most_total) group
    (All-weaker (λ (e : CellKey × Cell). FitsCells n samples e.0 e.1) (λ (e : CellKey × Cell). amount_in maxima (Some e.1) ≤ most_total) (λ e fits. either maxima e fits) group is.fitting))
  where
    either : (b : Bool) (e : CellKey × Cell) → FitsCells n samples e.0 e.1 → amount_in b (Some e.1) ≤ most_total
    either true e fits = fits.greatest
    either false e fits = fits.most

-- values that are equal have the same ranks as what they are equal to
pub ranks_of_equal : (xs ys whole : List ℕ) → xs ≡ ys → SameRanks ys whole → SameRanks xs whole
ranks_of_equal xs ys whole is same = λ least some. ap (reaching least) is ∙ same least some

-- two texts, one behind the other
pub two_texts : (new middle old first second : List ℕ) → new ≡ middle ++ second → middle ≡ old ++ first → new ≡ old ++ (first ++ second)
two_texts new middle old first second a b = a ∙ ap (λ t. t ++ second) b ∙ append_assoc old first second

-- a range with one number more
range_more : (a n : ℕ) → range_with_len a (suc n) ≡ range_with_len a n ++ (a + n) ∷ []
range_more a zero = let same : a ≡ a + 0 = omega arith in ap (λ m. m ∷ []) same
range_more a (suc n) = let same : (a + 1) + n ≡ a + suc n = omega arith in ap (λ ms. a ∷ ms) (range_more (a + 1) n ∙ ap (λ m. range_with_len (a + 1) n ++ m ∷ []) same)

-- the text of one sample more
pub samples_more : (f : ℕ → List ℕ) (sample : ℕ) (base out new : List ℕ) → 1 ≤ sample → out ≡ base ++ flat_map f (range_with_len 1 (sample - 1)) → new ≡ out ++ f sample →
    new ≡ base ++ flat_map f (range_with_len 1 ((sample + 1) - 1))
samples_more f sample base out new some is more =
    let longer : (sample + 1) - 1 ≡ suc (sample - 1) = omega arith in
    let last : 1 + (sample - 1) ≡ sample = omega arith in
    more ∙ ap (λ t. t ++ f sample) is ∙ append_assoc base (flat_map f (range_with_len 1 (sample - 1))) (f sample)
    ∙ ap (λ t. base ++ t) (
    ap (λ t. flat_map f (range_with_len 1 (sample - 1)) ++ t) (sym (flat_map-cons f sample [] ∙ append-nil (f sample)))
    ∙ sym (flat_map-append f (range_with_len 1 (sample - 1)) (sample ∷ []))
    ∙ ap (λ m. flat_map f (range_with_len 1 (sample - 1) ++ m ∷ [])) (sym last)
    ∙ ap (flat_map f) (sym (range_more 1 (sample - 1))) ∙ ap (λ k. flat_map f (range_with_len 1 k)) (sym longer))

-- the text of all samples
pub samples_all : (f : ℕ → List ℕ) (sample samples : ℕ) (base out : List ℕ) → sample ≡ samples + 1 → out ≡ base ++ flat_map f (range_with_len 1 (sample - 1)) → out ≡ base ++ flat_map f (range_with_len 1 samples)
samples_all f sample samples base out end is =
    let same : sample - 1 ≡ samples = omega arith in is ∙ ap (λ k. base ++ flat_map f (range_with_len 1 k)) same

-- the rows of a curve, by an equal number of values
pub rows_of_count : (new old : List ℕ) (summary column count number : ℕ) (whole returns : List ℕ) → new ≡ old ++ curve_rows summary column count whole returns → count ≡ number → new ≡ old ++ curve_rows summary column number whole returns
rows_of_count new old summary column count number whole returns is same = is ∙ ap (λ n. old ++ curve_rows summary column n whole returns) same
