-- The pairs of losses are the same from any least place to any greatest, where no other place has a loss.
use Rattle.std.proofs.Common.{◌≡◌, ℕ, zero, suc, ◌+◌, ◌-◌, ◌<◌, ◌≤◌, Bool, true, false, cond, ℤ, List, [], ◌∷◌, ◌++◌, Option, None, Some, map, refl, sym, ap, subst, arith, ◌∙◌, append-nil}
use Rattle.std.specs.Prelude.{All, not}
use Rattle.std.specs.List.{AllByRecursion, cons_option, filter_map, range_with_len}
use Rattle.std.specs.Ordering.{int_eq}
use Rattle.std.proofs.lemmas.Bool.Decides.{Decides-int_eq}
use Rattle.std.proofs.lemmas.List.Elements.{recursion_from_All}
use Rattle.std.proofs.lemmas.List.Filters.{sum_by-filter_both}
use Rattle.std.proofs.lemmas.List.Sums.{sum_by-cons}
use Rattle.kt_stream.specs.declared.entry.LossRecord.{LossRecord}
use Rattle.kt_stream.specs.declared.entry.Pair.{Pair}
use Rattle.kt_runs.specs.Adding.{AreInside, IsInside}
use Rattle.kt_runs.specs.RunLosses.{loss_of, run_loss}
use Rattle.kt_runs.specs.Sidx.{pair_of, pairs_of, place_of, sidx_at}
use Rattle.kt_runs.specs.SidxLaws.{place_back}
use Rattle.kt_sum.specs.Adding.{IsSpan}
use Rattle.kt_sum.specs.Summaries.{end_place, is_summary, least_place, members, places, sidx_range}
use Rattle.kt_sum.proofs.SpanLemmas.{span_inside}

-- ---- the pairs of places side by side

-- what is made place by place, by their numbers and by their sidx
pub shifted : {A : Type 0} (f : ℕ → Option A) (g : ℤ → Option A) (a b n : ℕ) → ((k : ℕ) → k < n → f (a + k) ≡ g (sidx_at (b + k))) → filter_map f (range_with_len a n) ≡ filter_map g (map sidx_at (range_with_len b n))
shifted f g a b zero same = refl
shifted f g a b (suc n) same =
    let first : f a ≡ g (sidx_at b) = ap f (omega arith) ∙ (same 0 (omega arith) ∙ ap (λ n. g (sidx_at n)) (omega arith)) in
    let rest = shifted f g (a + 1) (b + 1) n (λ k below. ap f (omega arith) ∙ (same (k + 1) (omega arith) ∙ ap (λ n. g (sidx_at n)) (omega arith))) in
    ap (λ x. cons_option x (filter_map f (range_with_len (a + 1) n))) first ∙ ap (λ xs. cons_option (g (sidx_at b)) xs) rest

module _ (loss : ℤ → ℕ) where
  -- the pairs of so many places from one on
  abbrev from : ℕ → ℕ → List Pair
  from a n = pairs_of loss (map sidx_at (range_with_len a n))

  -- a pair more in front
  in_front : (pair : Option Pair) (front back : List Pair) → cons_option pair (front ++ back) ≡ cons_option pair front ++ back
  in_front None front back = refl
  in_front (Some pair) front back = refl

  -- those of places behind others
  joined : (a m n : ℕ) → from a (m + n) ≡ from a m ++ from (a + m) n
  joined a zero n = ap (λ k. from a k) {x = zero + n} {y = n} (omega arith) ∙ ap (λ b. from b n) {x = a} {y = a + zero} (omega arith)
  joined a (suc m) n =
      ap (λ k. from a k) {x = suc m + n} {y = suc (m + n)} (omega arith)
      ∙ (ap (cons_option (pair_of (sidx_at a) (loss (sidx_at a)))) (joined (a + 1) m n ∙ ap (λ b. from (a + 1) m ++ from b n) {x = a + 1 + m} {y = a + suc m} (omega arith))
      ∙ in_front (pair_of (sidx_at a) (loss (sidx_at a))) (from (a + 1) m) (from (a + suc m) n))

  -- places without a loss have none
  empty : (a n : ℕ) → ((p : ℕ) → a ≤ p → p < a + n → loss (sidx_at p) ≡ 0) → from a n ≡ []
  empty a zero none = refl
  empty a (suc n) none =
      ap (λ amount. cons_option (pair_of (sidx_at a) amount) (from (a + 1) n)) (none a (omega arith) (omega arith))
      ∙ empty (a + 1) n (λ p low high. none p (omega arith) (omega arith))

  -- so the pairs of all places are those of the places that may have a loss
  wide : (b w r : ℕ) → ((p : ℕ) → p < b → loss (sidx_at p) ≡ 0) → ((p : ℕ) → b + w ≤ p → loss (sidx_at p) ≡ 0) → from 0 (b + (w + r)) ≡ from b w
  wide b w r before behind =
      joined 0 b (w + r)
      ∙ (ap (λ xs. xs ++ from (0 + b) (w + r)) (empty 0 b (λ p low high. before p (omega arith)))
      ∙ (ap (λ a. from a (w + r)) {x = 0 + b} {y = b} (omega arith)
      ∙ (joined b w r
      ∙ (ap (λ xs. from b w ++ xs) (empty (b + w) r (λ p low high. behind p low))
      ∙ append-nil (from b w)))))

-- ---- where a run has losses

-- losses of some records are no more than those of all
pub members_within : (sidx : ℤ) (find : ℕ → Option ℕ) (records : List LossRecord) (summary : ℕ) → run_loss sidx (members find records summary) ≤ run_loss sidx records
members_within sidx find records summary =
    omega (arith, sum_by-filter_both (λ entry. is_summary summary (find entry.id)) (λ entry. not (is_summary summary (find entry.id))) (λ entry. refl) (λ (entry : LossRecord). loss_of sidx entry.pairs) records)

-- pairs have no loss at a place that none of theirs is
loss_outside : (least width p : ℕ) → (IsInside least width p → ⊥) → (pairs : List Pair) → AllByRecursion (λ pair. IsInside least width (place_of pair.sidx)) pairs → loss_of (sidx_at p) pairs ≡ 0
loss_outside least width p apart [] each = refl
loss_outside least width p apart (pair ∷ pairs) each = sum_by-cons (λ (pair : Pair). cond (int_eq pair.sidx (sidx_at p)) pair.loss 0) pair pairs ∙ by (int_eq pair.sidx (sidx_at p)) refl (loss_outside least width p apart pairs each.1)
  where
    by : (b : Bool) → int_eq pair.sidx (sidx_at p) ≡ b → loss_of (sidx_at p) pairs ≡ 0 → cond b pair.loss 0 + loss_of (sidx_at p) pairs ≡ 0
    by true is rest = absurd (apart (subst (IsInside least width) (ap place_of ((Decides-int_eq pair.sidx (sidx_at p)).0 is) ∙ place_back p) each.0))
    by false is rest = omega (arith, rest)

-- nor have records
run_outside : (least width p : ℕ) → (IsInside least width p → ⊥) → (records : List LossRecord) → AllByRecursion (λ entry. AreInside least width entry.pairs) records → run_loss (sidx_at p) records ≡ 0
run_outside least width p apart [] each = refl
run_outside least width p apart (entry ∷ records) each =
    sum_by-cons (λ (entry : LossRecord). loss_of (sidx_at p) entry.pairs) entry records
    ∙ omega (arith, loss_outside least width p apart entry.pairs (recursion_from_All (λ (pair : Pair). IsInside least width (place_of pair.sidx)) entry.pairs each.0), run_outside least width p apart records each.1)

module _ (records : List LossRecord) (loss : ℤ → ℕ) (most : (sidx : ℤ) → loss sidx ≤ run_loss sidx records) where
  -- outside the places of a run no loss is
  nothing : (least width p : ℕ) → All (λ entry. AreInside least width entry.pairs) records → (IsInside least width p → ⊥) → loss (sidx_at p) ≡ 0
  nothing least width p inside apart = omega (arith, most (sidx_at p), run_outside least width p apart records (recursion_from_All (λ (entry : LossRecord). AreInside least width entry.pairs) records inside))

  -- the pairs of all places are those of the places of a run
  all_places : (least width more : ℕ) → All (λ entry. AreInside least width entry.pairs) records → from loss 0 (least + (width + more)) ≡ from loss least width
  all_places least width more inside = wide loss least width more
      (λ p before. nothing least width p inside (λ is. let low = is.low in omega arith))
      (λ p behind. nothing least width p inside (λ is. let high = is.high in omega arith))

  -- sums that have a place for each sidx of a run give the pairs from its least sidx to its greatest
  pub span_pairs : (least width : ℕ) → IsSpan records least width → pairs_of loss (map sidx_at (range_with_len least width)) ≡ pairs_of loss (sidx_range records)
  span_pairs least width span =
      let a = least_place (places records) in
      let m = end_place (places records) - least_place (places records) in
      sym (all_places least width (a + m) span.inside)
      ∙ (ap (λ n. from loss 0 n) {x = least + (width + (a + m))} {y = a + (m + (least + width))} (omega arith)
      ∙ all_places a m (least + width) (span_inside records))
