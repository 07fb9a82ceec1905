-- Losses of pairs are added to the sums of their sidx.
use Rattle.std.proofs.Common.{◌≡◌, ◌≢◌, ◌⊎◌, inl, inr, ℕ, ◌+◌, ◌-◌, ◌^◌, ◌<◌, ◌≤◌, Bool, true, false, cond, List, length, take, slice_index, slice_index_or, slice_set, refl, sym, ap, arith, ◌∙◌, ℤ}
use Rattle.std.specs.Ordering.{int_eq}
use Rattle.std.proofs.lemmas.Bool.{cases_eq}
use Rattle.std.proofs.lemmas.Bool.Decides.{Decides-int_eq}
use Rattle.std.proofs.lemmas.List.{get_or-set_same, get_or-set_other, length-set}
use Rattle.std.proofs.lemmas.List.Sums.{sum_by_more, sum_by-take-le}
use Rattle.kt_stream.specs.declared.entry.Pair.{Pair}
use Rattle.kt_runs.specs.RunLosses.{loss_of}
use Rattle.kt_runs.specs.Sidx.{sidx_at}
use Rattle.kt_runs.specs.Adding.{IsAdded}
use Rattle.kt_runs.specs.SidxLaws.{one_place}

-- a sidx is itself
pub same_sidx : (sidx other : ℤ) → sidx ≡ other → int_eq sidx other ≡ true
same_sidx sidx other same = (Decides-int_eq sidx other).1 same

-- and no other
pub other_sidx : (sidx other : ℤ) → (sidx ≡ other → ⊥) → int_eq sidx other ≡ false
other_sidx sidx other apart = by (int_eq sidx other) refl
  where
    by : (b : Bool) → int_eq sidx other ≡ b → b ≡ false
    by true is = absurd (apart ((Decides-int_eq sidx other).0 is))
    by false is = refl

module _ (least : ℕ) (pairs : List Pair) (i place : ℕ) (d : Pair) (below : i < length pairs) (low : least ≤ place) (back : sidx_at place ≡ (slice_index_or pairs i d).sidx) where
  -- what a sidx had
  abbrev was : ℕ → ℕ
  was k = loss_of (sidx_at (least + k)) (take i pairs)

  -- a pair more
  more : (k : ℕ) → loss_of (sidx_at (least + k)) (take (i + 1) pairs) ≡ was k + cond (int_eq (slice_index_or pairs i d).sidx (sidx_at (least + k))) (slice_index_or pairs i d).loss 0
  more k = sum_by_more (λ pair. cond (int_eq pair.sidx (sidx_at (least + k))) pair.loss 0) pairs i d below

  -- its own sidx has its loss more
  pub own_more : loss_of (sidx_at (least + (place - least))) (take (i + 1) pairs) ≡ was (place - least) + (slice_index_or pairs i d).loss
  own_more = more (place - least) ∙ ap (λ b. was (place - least) + cond b (slice_index_or pairs i d).loss 0) (same_sidx _ _ (sym back ∙ ap sidx_at (omega arith)))

  -- another has no more
  other_more : (k : ℕ) → (k ≡ place - least → ⊥) → loss_of (sidx_at (least + k)) (take (i + 1) pairs) ≡ was k
  other_more k apart =
      more k ∙ (ap (λ b. was k + cond b (slice_index_or pairs i d).loss 0) (other_sidx _ _ (λ same. apart (let one = one_place place (least + k) (back ∙ same) in omega arith))) ∙ omega arith)

  -- the sums with the pair
  pub added_more : (before now : List ℕ) → IsAdded least before (take i pairs) now → place < least + length before → IsAdded least before (take (i + 1) pairs) (slice_set now (place - least) (slice_index_or now (place - least) 0 + (slice_index_or pairs i d).loss))
  added_more before now added high = record {
    width_is = length-set now (place - least) _ ∙ added.width_is;
    each = λ k inside. by k inside (cases_eq k (place - least));
  }
    where
      by : (k : ℕ) → k < length before → (k ≡ place - least) ⊎ (k ≢ place - least) → slice_index (slice_set now (place - least) (slice_index_or now (place - least) 0 + (slice_index_or pairs i d).loss)) k ≡ slice_index before k + loss_of (sidx_at (least + k)) (take (i + 1) pairs)
      by k inside (inl same) =
          let value = slice_index_or now (place - least) 0 + (slice_index_or pairs i d).loss in
          ap (slice_index (slice_set now (place - least) value)) same
          ∙ (get_or-set_same now (place - least) value 0 (omega (arith, added.width_is))
          ∙ (omega (arith, added.each (place - least) (omega arith), own_more)
          ∙ ap (λ k. slice_index before k + loss_of (sidx_at (least + k)) (take (i + 1) pairs)) (sym same)))
      by k inside (inr apart) =
          get_or-set_other now (place - least) k _ 0 apart ∙ (added.each k inside ∙ ap (λ n. slice_index before k + n) (sym (other_more k apart)))

  -- it fits
  pub fits_more : (before now : List ℕ) → IsAdded least before (take i pairs) now → place < least + length before → ((k : ℕ) → k < length before → slice_index before k + loss_of (sidx_at (least + k)) pairs < 2 ^ 64) → slice_index_or now (place - least) 0 + (slice_index_or pairs i d).loss < 2 ^ 64
  fits_more before now added high fits =
      omega (arith, added.each (place - least) (omega arith), own_more, sum_by-take-le (λ pair. cond (int_eq pair.sidx (sidx_at (least + (place - least)))) pair.loss 0) pairs (i + 1), fits (place - least) (omega arith))
