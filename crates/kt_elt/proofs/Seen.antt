-- The running values of a record's losses, pair by pair.
use Rattle.std.proofs.Common.{◌≡◌, ℕ, zero, suc, ◌+◌, ◌*◌, ◌^◌, ◌<◌, ◌≤◌, false, ℤ, pos, negsuc, ◌<ℤ◌, ◌≤ℤ◌, List, [], ◌∷◌, ◌++◌, length, take, get_or, arith, refl, sym, ap, length-take}
use Rattle.std.specs.Prelude.{sum, sum_by, All, AllPairs}
use Rattle.std.specs.Ordering.{int_eq}
use Rattle.std.proofs.lemmas.Bool.Decides.{Decides-int_eq}
use Rattle.std.proofs.lemmas.Int.{ints}
use Rattle.std.proofs.lemmas.List.{get_or-take, get_or_default, take_more}
use Rattle.std.proofs.lemmas.List.Elements.{All-nil, All-take}
use Rattle.std.proofs.lemmas.Nat.{mul-le}
use Rattle.kt_stream.specs.declared.entry.Pair.{Pair}
use Rattle.kt_elt.specs.declared.sidx.Role.TheVariants.{Mean, Deviation, Sample, Other}
use Rattle.kt_elt.specs.Sidx.{role_of}
use Rattle.kt_elt.specs.Losses.{loss_at, sample_losses, FitsSamples}
use Rattle.kt_elt.proofs.LossAtLemmas.{Below, loss_at-other, loss_at-new}
use Rattle.kt_elt.proofs.SampleLemmas.{losses_same, sum_new, sum-le}

-- the mean, the deviation, and the sums of the samples and of their squares, after the pairs that were seen
pub record Seen (samples : ℕ) (seen : List Pair) (mean sd total squares : ℕ) : Type 0 where
  pub mean_is : mean ≡ loss_at (negsuc 0) seen
  pub sd_is : sd ≡ loss_at (negsuc 1) seen
  pub total_is : total ≡ sum (sample_losses samples seen)
  pub squares_is : squares ≡ sum_by (λ loss. loss * loss) (sample_losses samples seen)

-- a pair with another role than this sidx has another sidx
other_role : (pair : Pair) (sidx : ℤ) → (role_of pair.sidx ≡ role_of sidx → ⊥) → int_eq pair.sidx sidx ≡ false
other_role pair sidx differ =
    let same : pair.sidx ≡ sidx → ⊥ = λ (e : pair.sidx ≡ sidx). differ (ap role_of e) in
    grind (arith, Decides-int_eq pair.sidx sidx)

-- the sidx of a mean
sidx_of_mean : (sidx : ℤ) → role_of sidx ≡ Mean → sidx ≡ negsuc 0
sidx_of_mean (pos zero) is = cc
sidx_of_mean (pos (suc k)) is = cc
sidx_of_mean (negsuc zero) is = refl
sidx_of_mean (negsuc (suc zero)) is = cc
sidx_of_mean (negsuc (suc (suc k))) is = cc

-- the sidx of a deviation
sidx_of_deviation : (sidx : ℤ) → role_of sidx ≡ Deviation → sidx ≡ negsuc 1
sidx_of_deviation (pos zero) is = cc
sidx_of_deviation (pos (suc k)) is = cc
sidx_of_deviation (negsuc zero) is = cc
sidx_of_deviation (negsuc (suc zero)) is = refl
sidx_of_deviation (negsuc (suc (suc k))) is = cc

-- a pair that is no sample changes none of them
not_a_sample : (n : ℕ) (seen : List Pair) (pair : Pair) → (role_of pair.sidx ≡ Sample → ⊥) →
    sample_losses n (seen ++ pair ∷ []) ≡ sample_losses n seen
not_a_sample n seen pair other = losses_same n seen pair (λ k below. other_role pair (pos (suc k)) other)

-- a pair with another role than this sidx leaves its loss
kept : (sidx : ℤ) (seen : List Pair) (pair : Pair) → (role_of pair.sidx ≡ role_of sidx → ⊥) →
    loss_at sidx (seen ++ pair ∷ []) ≡ loss_at sidx seen
kept sidx seen pair differ = loss_at-other sidx seen pair (other_role pair sidx differ)

-- behind lower pairs a sample adds its loss to a sum over the samples
sum_sample : (f : ℕ → ℕ) → f 0 ≡ 0 → (n : ℕ) (seen : List Pair) (sidx : ℤ) (loss : ℕ) → Below sidx seen → role_of sidx ≡ Sample → sidx ≤ℤ pos n →
    sum_by f (sample_losses n (seen ++ (record { sidx = sidx; loss = loss }) ∷ [])) ≡ sum_by f (sample_losses n seen) + f loss
sum_sample f none n seen (pos zero) loss below is within = cc
sum_sample f none n seen (pos (suc k)) loss below is within = sum_new f none k loss seen below n (omega (arith, ints))
sum_sample f none n seen (negsuc zero) loss below is within = cc
sum_sample f none n seen (negsuc (suc zero)) loss below is within = cc
sum_sample f none n seen (negsuc (suc (suc k))) loss below is within = cc

-- no pair yet
pub seen_none : (n : ℕ) → Seen n [] 0 0 0 0
seen_none n =
    let total : sum (sample_losses n []) ≤ n * 0 = sum-le (λ loss. loss) 0 0 (λ loss none. none) n [] (All-nil (λ (pair : Pair). pair.loss ≤ 0)) in
    let squares : sum_by (λ loss. loss * loss) (sample_losses n []) ≤ n * 0 =
    sum-le (λ loss. loss * loss) 0 0 (λ loss none. mul-le loss loss 0 0 none none) n [] (All-nil (λ (pair : Pair). pair.loss ≤ 0)) in
    record { mean_is = refl; sd_is = refl; total_is = omega (arith, total); squares_is = omega (arith, squares) }

-- a mean behind lower pairs
pub seen_mean : (n : ℕ) (seen : List Pair) (pair : Pair) (mean sd total squares : ℕ) → Seen n seen mean sd total squares →
    Below pair.sidx seen → role_of pair.sidx ≡ Mean → Seen n (seen ++ pair ∷ []) pair.loss sd total squares
seen_mean n seen pair mean sd total squares before below is =
    let here : pair.sidx ≡ negsuc 0 = sidx_of_mean pair.sidx is in
    let same : sample_losses n (seen ++ pair ∷ []) ≡ sample_losses n seen = not_a_sample n seen pair (λ sampled. cc) in
    record {
      mean_is = sym (loss_at-new (negsuc 0) seen pair here (rw here at below));
      sd_is = rw (kept (negsuc 1) seen pair (λ deviates. cc)) before.sd_is;
      total_is = rw same before.total_is;
      squares_is = rw same before.squares_is;
    }

-- a deviation behind lower pairs
pub seen_deviation : (n : ℕ) (seen : List Pair) (pair : Pair) (mean sd total squares : ℕ) → Seen n seen mean sd total squares →
    Below pair.sidx seen → role_of pair.sidx ≡ Deviation → Seen n (seen ++ pair ∷ []) mean pair.loss total squares
seen_deviation n seen pair mean sd total squares before below is =
    let here : pair.sidx ≡ negsuc 1 = sidx_of_deviation pair.sidx is in
    let same : sample_losses n (seen ++ pair ∷ []) ≡ sample_losses n seen = not_a_sample n seen pair (λ sampled. cc) in
    record {
      mean_is = rw (kept (negsuc 0) seen pair (λ average. cc)) before.mean_is;
      sd_is = sym (loss_at-new (negsuc 1) seen pair here (rw here at below));
      total_is = rw same before.total_is;
      squares_is = rw same before.squares_is;
    }

-- a sample behind lower pairs
pub seen_sample : (n : ℕ) (seen : List Pair) (pair : Pair) (mean sd total squares : ℕ) → Seen n seen mean sd total squares →
    Below pair.sidx seen → role_of pair.sidx ≡ Sample → pair.sidx ≤ℤ pos n →
    Seen n (seen ++ pair ∷ []) mean sd (total + pair.loss) (squares + pair.loss * pair.loss)
seen_sample n seen pair mean sd total squares before below is within =
    record {
      mean_is = rw (kept (negsuc 0) seen pair (λ average. cc)) before.mean_is;
      sd_is = rw (kept (negsuc 1) seen pair (λ deviates. cc)) before.sd_is;
      total_is = rw (sum_sample (λ loss. loss) refl n seen pair.sidx pair.loss below is within) (ap (λ x. x + pair.loss) before.total_is);
      squares_is = rw (sum_sample (λ loss. loss * loss) refl n seen pair.sidx pair.loss below is within) (ap (λ x. x + pair.loss * pair.loss) before.squares_is);
    }

-- a pair that is passed over
pub seen_other : (n : ℕ) (seen : List Pair) (pair : Pair) (mean sd total squares : ℕ) → Seen n seen mean sd total squares →
    role_of pair.sidx ≡ Other → Seen n (seen ++ pair ∷ []) mean sd total squares
seen_other n seen pair mean sd total squares before is =
    let same : sample_losses n (seen ++ pair ∷ []) ≡ sample_losses n seen = not_a_sample n seen pair (λ sampled. cc) in
    record {
      mean_is = rw (kept (negsuc 0) seen pair (λ average. cc)) before.mean_is;
      sd_is = rw (kept (negsuc 1) seen pair (λ deviates. cc)) before.sd_is;
      total_is = rw same before.total_is;
      squares_is = rw same before.squares_is;
    }

-- the pairs in front of one are below it
pub below_next : (pairs : List Pair) (i : ℕ) (none : Pair) → AllPairs (λ earlier later. earlier.sidx <ℤ later.sidx) pairs → i < length pairs →
    Below (get_or pairs i none).sidx (take i pairs)
below_next pairs i none rising inside k d within =
    let early : k < i = omega (arith, length-take i pairs) in
    rw (get_or-take i pairs k d early, get_or_default pairs k d none (omega arith)) (rising k i none early inside)

-- the sums of a part of a record have room
pub seen_room : (n j : ℕ) (pairs : List Pair) (mean sd total squares : ℕ) → Seen n (take j pairs) mean sd total squares →
    All (λ pair. pair.loss ≤ 10 ^ 16) pairs → (total ≤ n * 10 ^ 16) × (squares ≤ n * 10 ^ 32)
seen_room n j pairs mean sd total squares here losses =
    let part : All (λ (pair : Pair). pair.loss ≤ 10 ^ 16) (take j pairs) = All-take (λ (pair : Pair). pair.loss ≤ 10 ^ 16) j pairs losses in (
      rw here.total_is (sum-le (λ loss. loss) (10 ^ 16) (10 ^ 16) (λ loss small. small) n (take j pairs) part),
      rw here.squares_is (sum-le (λ loss. loss * loss) (10 ^ 16) (10 ^ 32) (λ loss small. mul-le loss loss (10 ^ 16) (10 ^ 16) small small) n (take j pairs) part),
    )

-- a sample leaves room for the sums
pub sample_room : (n i : ℕ) (pairs : List Pair) (none : Pair) (mean sd total squares : ℕ) → FitsSamples n pairs → i < length pairs →
    Seen n (take i pairs) mean sd total squares → role_of (get_or pairs i none).sidx ≡ Sample →
    (total + (get_or pairs i none).loss ≤ n * 10 ^ 16) × (squares + (get_or pairs i none).loss * (get_or pairs i none).loss ≤ n * 10 ^ 32)
sample_room n i pairs none mean sd total squares fits inside here is =
    let next = seen_sample n (take i pairs) (get_or pairs i none) mean sd total squares here
    (below_next pairs i none fits.rising inside) is (fits.within i none inside) in
    seen_room n (i + 1) pairs mean sd _ _ (rw (take_more pairs i none inside) next) fits.losses
