-- The losses of the samples: their sums, when one more pair comes behind pairs with lower sidx, and their bounds.
use Rattle.std.proofs.Common.{◌≡◌, ℕ, zero, suc, ◌+◌, ◌*◌, ◌<◌, ◌≤◌, false, pos, List, [], ◌∷◌, ◌++◌, length, map, arith, refl, sym, ap, ◌∙◌, ⊎_elim, add-one}
use Rattle.std.specs.Prelude.{All, sum, sum_by}
use Rattle.std.specs.Ordering.{int_eq}
use Rattle.std.proofs.lemmas.Bool.{cases_lt}
use Rattle.std.proofs.lemmas.Bool.Decides.{Decides-int_eq}
use Rattle.std.proofs.lemmas.List.FromFn.{map-range_with_len_more, sum_by-map-range_with_len_more, length-map-range_with_len}
use Rattle.std.proofs.lemmas.List.Sums.{sum-map}
use Rattle.kt_money.specs.RoundingLaws.{squares-sum-le}
use Rattle.kt_stream.specs.declared.entry.Pair.{Pair}
use Rattle.kt_elt.specs.Losses.{loss_at, sample_losses}
use Rattle.kt_elt.proofs.LossAtLemmas.{Below, loss_at-other, loss_at-absent, loss_at-new, loss_at-le}

-- one sample more
losses_more : (n : ℕ) (pairs : List Pair) → sample_losses (suc n) pairs ≡ sample_losses n pairs ++ loss_at (pos (suc n)) pairs ∷ []
losses_more n pairs = rw add-one at (map-range_with_len_more (λ k. loss_at (pos k) pairs) 1 n (suc n) (omega arith))

-- a sum over one sample more
sum_more : (f : ℕ → ℕ) (n : ℕ) (pairs : List Pair) →
    sum_by f (sample_losses (suc n) pairs) ≡ sum_by f (sample_losses n pairs) + f (loss_at (pos (suc n)) pairs)
sum_more f n pairs = rw add-one at (sum_by-map-range_with_len_more f (λ k. loss_at (pos k) pairs) 1 n (suc n) (omega arith))

-- a pair of none of the samples changes none of them
pub losses_same : (n : ℕ) (seen : List Pair) (pair : Pair) → ((k : ℕ) → k < n → int_eq pair.sidx (pos (suc k)) ≡ false) →
    sample_losses n (seen ++ pair ∷ []) ≡ sample_losses n seen
losses_same zero seen pair other = refl
losses_same (suc n) seen pair other =
    losses_more n (seen ++ pair ∷ [])
    ∙ ap (λ losses. losses ++ loss_at (pos (suc n)) (seen ++ pair ∷ []) ∷ []) (losses_same n seen pair (λ k below. other k (omega arith)))
    ∙ ap (λ loss. sample_losses n seen ++ loss ∷ []) (loss_at-other (pos (suc n)) seen pair (other n (omega arith)))
    ∙ sym (losses_more n seen)

-- other samples have another sidx
other_sample : (k j : ℕ) → (k ≡ j → ⊥) → int_eq (pos k) (pos j) ≡ false
other_sample k j differ = grind (arith, Decides-int_eq (pos k) (pos j))

-- behind lower pairs a pair adds its loss to a sum over the samples
pub sum_new : (f : ℕ → ℕ) → f 0 ≡ 0 → (k : ℕ) (loss : ℕ) (seen : List Pair) → Below (pos (suc k)) seen → (n : ℕ) → k < n →
    sum_by f (sample_losses n (seen ++ (record { sidx = pos (suc k); loss = loss }) ∷ [])) ≡ sum_by f (sample_losses n seen) + f loss
sum_new f none k loss seen below zero within = absurd (omega arith)
sum_new f none k loss seen below (suc n) within =
    let pair : Pair = record { sidx = pos (suc k); loss = loss } in
    let new : List Pair = seen ++ pair ∷ [] in
    let more : sum_by f (sample_losses (suc n) new) ≡ sum_by f (sample_losses n new) + f (loss_at (pos (suc n)) new) = sum_more f n new in
    let before : sum_by f (sample_losses (suc n) seen) ≡ sum_by f (sample_losses n seen) + f (loss_at (pos (suc n)) seen) = sum_more f n seen in
    ⊎_elim
    (λ (earlier : k < n).
    let kept : f (loss_at (pos (suc n)) new) ≡ f (loss_at (pos (suc n)) seen) =
    ap f (loss_at-other (pos (suc n)) seen pair (other_sample (suc k) (suc n) (λ same. omega arith))) in
    let rest : sum_by f (sample_losses n new) ≡ sum_by f (sample_losses n seen) + f loss = sum_new f none k loss seen below n earlier in
    omega (arith, more, before, kept, rest))
    (λ (last : n ≤ k).
    let same : k ≡ n = omega arith in
    let rest : sum_by f (sample_losses n new) ≡ sum_by f (sample_losses n seen) =
    ap (sum_by f) (losses_same n seen pair (λ j earlier. other_sample (suc k) (suc j) (λ equal. omega arith))) in
    let taken : f (loss_at (pos (suc n)) new) ≡ f loss =
    ap f (sym (ap (λ z. loss_at (pos (suc z)) new) same) ∙ loss_at-new (pos (suc k)) seen pair refl below) in
    let absent : f (loss_at (pos (suc n)) seen) ≡ 0 =
    ap f (sym (ap (λ z. loss_at (pos (suc z)) seen) same) ∙ loss_at-absent (pos (suc k)) seen below) ∙ none in
    omega (arith, more, before, rest, taken, absent))
    (cases_lt k n)

-- a sum over the samples is at most their number times the greatest term
pub sum-le : (f : ℕ → ℕ) (greatest most : ℕ) → ((loss : ℕ) → loss ≤ greatest → f loss ≤ most) → (n : ℕ) (pairs : List Pair) →
    All (λ pair. pair.loss ≤ greatest) pairs → sum_by f (sample_losses n pairs) ≤ n * most
sum-le f greatest most bounded zero pairs losses = omega arith
sum-le f greatest most bounded (suc n) pairs losses =
    let last : f (loss_at (pos (suc n)) pairs) ≤ most = bounded (loss_at (pos (suc n)) pairs) (loss_at-le (pos (suc n)) greatest pairs losses) in
    let before : sum_by f (sample_losses n pairs) ≤ n * most = sum-le f greatest most bounded n pairs losses in
    let more : sum_by f (sample_losses (suc n) pairs) ≡ sum_by f (sample_losses n pairs) + f (loss_at (pos (suc n)) pairs) = sum_more f n pairs in
    omega (arith, more, last, before)

-- the square of the sum of the samples is at most their number times the sum of their squares
pub samples_spread : (n : ℕ) (pairs : List Pair) →
    sum (sample_losses n pairs) * sum (sample_losses n pairs) ≤ n * sum_by (λ loss. loss * loss) (sample_losses n pairs)
samples_spread n pairs =
    let losses : List ℕ = sample_losses n pairs in
    let count : length losses ≡ n = length-map-range_with_len (λ k. loss_at (pos k) pairs) 1 n in
    let squares : sum (map (λ loss. loss * loss) losses) ≡ sum_by (λ loss. loss * loss) losses = sum-map (λ loss. loss * loss) losses in
    rw (count, squares) at (squares-sum-le losses)
