-- The pairs of one sum more.
use Rattle.std.proofs.Common.{◌≡◌, ℕ, zero, suc, ◌+◌, List, [], ◌∷◌, ◌++◌, Option, slice_index, ap, arith, ◌∙◌, add-one}
use Rattle.std.specs.List.{cons_option, filter_map, range_with_len}
use Rattle.std.proofs.lemmas.List.Elements.{filter_map-append}
use Rattle.kt_runs.specs.Sidx.{pair_of, sidx_at}
use Rattle.kt_runs.specs.PairSums.{pairs_upto}

-- one more number of a range
pub range_more : (a n : ℕ) → range_with_len a (n + 1) ≡ range_with_len a n ++ (a + n) ∷ []
range_more a n = ap (range_with_len a) (add-one n) ∙ from a n
  where
    from : (a n : ℕ) → range_with_len a (suc n) ≡ range_with_len a n ++ (a + n) ∷ []
    from a zero = ap (λ x. x ∷ []) (omega arith)
    from a (suc n) = ap (λ xs. a ∷ xs) (from (a + 1) n ∙ ap (λ x. range_with_len (a + 1) n ++ x ∷ []) (omega arith))

-- what is made of one more number
number_more : {A : Type 0} (f : ℕ → Option A) (n : ℕ) → filter_map f (range_with_len 0 (n + 1)) ≡ filter_map f (range_with_len 0 n) ++ cons_option (f n) []
number_more f n = ap (filter_map f) (range_more 0 n ∙ ap (λ x. range_with_len 0 n ++ x ∷ []) (omega arith)) ∙ filter_map-append f (range_with_len 0 n) (n ∷ [])

-- the pairs of one more sum
pub pairs_more : (least : ℕ) (sums : List ℕ) (n : ℕ) → pairs_upto least sums (n + 1) ≡ pairs_upto least sums n ++ cons_option (pair_of (sidx_at (least + n)) (slice_index sums n)) []
pairs_more least sums n = number_more (λ k. pair_of (sidx_at (least + k)) (slice_index sums k)) n
