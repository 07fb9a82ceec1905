-- The sums of a run, with the losses of one record more.
use Rattle.std.proofs.Common.{◌≡◌, ◌≢◌, ◌⊎◌, inl, inr, ℕ, zero, suc, ◌+◌, ◌-◌, ◌<◌, ◌≤◌, ◌||◌, Bool, true, false, cond, nat_lt, ℤ, pos, negsuc, List, [], ◌∷◌, ◌++◌, length, take, slice_index, slice_index_or, slice_set, refl, sym, ap, subst, arith, ◌∙◌}
use Rattle.std.specs.List.{AllByRecursion, list_any}
use Rattle.std.proofs.lemmas.Bool.{cases_eq, cases_lt}
use Rattle.std.proofs.lemmas.Bool.Decides.{nat_tests}
use Rattle.std.proofs.lemmas.Int.{ints}
use Rattle.std.proofs.lemmas.List.{get_or-set_same, get_or-set_other}
use Rattle.std.proofs.lemmas.List.Sums.{sum_by_push, sum_by-take-le}
use Rattle.std.specs.Ordering.{int_eq}
use Rattle.kt_stream.specs.declared.entry.LossRecord.{LossRecord}
use Rattle.kt_stream.specs.declared.entry.Pair.{Pair}
use Rattle.kt_stream.specs.Losses.{IsLoss}
use Rattle.kt_stream.specs.Pairs.{IsSidx}
use Rattle.kt_runs.specs.RunLosses.{AreWithin, goes_past, loss_of, run_loss}
use Rattle.kt_runs.specs.RunSums.{AreRunSums, AreSums}
use Rattle.kt_runs.specs.Sidx.{place_of, sidx_at}
use Rattle.kt_runs.specs.Adding.{Holds, IsAdded}
use Rattle.kt_runs.proofs.AddLemmas.{own_more}
use Rattle.kt_runs.specs.LossLaws.{pair_sidx, sidx_inside}

-- and is found at it
sidx_back : (samples : ℕ) (sidx : ℤ) → IsSidx samples sidx → sidx_at (place_of sidx) ≡ sidx
sidx_back samples (pos n) is = ap (λ b. cond b (negsuc (2147483647 - (2147483648 + n))) (pos (2147483648 + n - 2147483648))) (above n) ∙ ap pos (omega arith)
  where
    above : (n : ℕ) → nat_lt (2147483648 + n) 2147483648 ≡ false
    above n = grind (arith, nat_tests)
sidx_back samples (negsuc n) is = let low = is.lowest in ap (λ b. cond b (negsuc (2147483647 - (2147483647 - n))) (pos (2147483647 - n - 2147483648))) (below n) ∙ ap negsuc (omega (arith, ints, low))
  where
    below : (n : ℕ) → nat_lt (2147483647 - n) 2147483648 ≡ true
    below n = grind (arith, nat_tests)

-- the losses of records with one more
pub run_more : (sidx : ℤ) (records : List LossRecord) (entry : LossRecord) → run_loss sidx (records ++ entry ∷ []) ≡ run_loss sidx records + loss_of sidx entry.pairs
run_more sidx records entry = sum_by_push (λ (entry : LossRecord). loss_of sidx entry.pairs) records entry

-- an element that passes a test is one of those
any_at : {A : Type 0} (test : A → Bool) (xs : List A) (i : ℕ) (d : A) → i < length xs → test (slice_index_or xs i d) ≡ true → list_any test xs ≡ true
any_at test [] i d below is = absurd (omega arith)
any_at test (x ∷ xs) zero d below is = ap (λ b. b || list_any test xs) is
any_at test (x ∷ xs) (suc i) d below is = by (test x) (any_at test xs i d (omega arith) is)
  where
    by : (b : Bool) → list_any test xs ≡ true → (b || list_any test xs) ≡ true
    by true rest = refl
    by false rest = rest

-- none of those that all fail a test passes it
any_none : {A : Type 0} (test : A → Bool) (xs : List A) → AllByRecursion (λ x. test x ≡ false) xs → list_any test xs ≡ false
any_none test [] each = refl
any_none test (x ∷ xs) each = ap (λ b. b || list_any test xs) each.0 ∙ any_none test xs each.1

-- behind the last number there is 0
behind_last : (numbers : List ℕ) (k : ℕ) → length numbers ≤ k → slice_index numbers k ≡ 0
behind_last [] k above = refl
behind_last (number ∷ numbers) zero above = absurd (omega arith)
behind_last (number ∷ numbers) (suc k) above = behind_last numbers k (omega arith)

-- a sum that is set is within the limit where all were and its value is
pub set_few : (sums : List ℕ) (place value : ℕ) → ((k : ℕ) → slice_index sums k ≤ 10000000000000000) → place < length sums → value ≤ 10000000000000000 → (k : ℕ) → slice_index (slice_set sums place value) k ≤ 10000000000000000
set_few sums place value few below most k = by (cases_eq k place)
  where
    by : (k ≡ place) ⊎ (k ≢ place) → slice_index (slice_set sums place value) k ≤ 10000000000000000
    by (inl same) = omega (arith, ap (slice_index (slice_set sums place value)) same, get_or-set_same sums place value 0 below)
    by (inr apart) = omega (arith, get_or-set_other sums place k value 0 apart, few k)

module _ (samples : ℕ) (entry : LossRecord) (is : IsLoss samples entry) (before : List ℕ) (sums_are : AreSums samples before) (records : List LossRecord) (run_are : AreRunSums samples records before) where
  -- what a sum is behind the record, at a sidx that it has
  run_at : (k : ℕ) → k < samples + 3 → run_loss (sidx_at (2147483646 + k)) (records ++ entry ∷ []) ≡ slice_index before k + loss_of (sidx_at (2147483646 + k)) entry.pairs
  run_at k below = run_more (sidx_at (2147483646 + k)) records entry ∙ ap (λ n. n + loss_of (sidx_at (2147483646 + k)) entry.pairs) (sym (run_are.sums_are.each k below))

  -- a sum that passes the limit before the last pair is added shows that the record does
  pub past : (now : List ℕ) (i place : ℕ) (d : Pair) → i < length entry.pairs → IsAdded 2147483646 before (take i entry.pairs) now → 2147483646 ≤ place → place < 2147483646 + (samples + 3) → sidx_at place ≡ (slice_index_or entry.pairs i d).sidx → 10000000000000000 < slice_index_or now (place - 2147483646) 0 + (slice_index_or entry.pairs i d).loss → goes_past records entry ≡ true
  past now i place d below added low high back above =
      any_at (λ pair. nat_lt 10000000000000000 (run_loss pair.sidx (records ++ entry ∷ []))) entry.pairs i d below (test _ (subst (λ sidx. 10000000000000000 < run_loss sidx (records ++ entry ∷ [])) here (omega (
        arith,
        above,
        run_at (place - 2147483646) (omega arith),
        added.each (place - 2147483646) (omega (arith, sums_are.width_is)),
        own_more 2147483646 entry.pairs i place d below low back,
        sum_by-take-le (λ (pair : Pair). cond (int_eq pair.sidx (sidx_at (2147483646 + (place - 2147483646)))) pair.loss 0) entry.pairs (i + 1),
      ))))
    where
      here : sidx_at (2147483646 + (place - 2147483646)) ≡ (slice_index_or entry.pairs i d).sidx
      here = ap sidx_at (omega arith) ∙ back

      test : (n : ℕ) → 10000000000000000 < n → nat_lt 10000000000000000 n ≡ true
      test n above = grind (arith, nat_tests)

  module _ (now : List ℕ) (added : IsAdded 2147483646 before entry.pairs now) (few : (k : ℕ) → slice_index now k ≤ 10000000000000000) where
    -- at a sidx of a stream the sum is within the limit
    known_within : (sidx : ℤ) → IsSidx samples sidx → run_loss sidx (records ++ entry ∷ []) ≤ 10000000000000000
    known_within sidx at =
        let inside = sidx_inside samples sidx at in
        let low = inside.0 in
        let high = inside.1 in
        let k = place_of sidx - 2147483646 in
        let here : sidx_at (2147483646 + k) ≡ sidx = ap sidx_at (omega arith) ∙ sidx_back samples sidx at in
        subst (λ sidx. run_loss sidx (records ++ entry ∷ []) ≤ 10000000000000000) here
        (omega (arith, run_at k (omega arith), added.each k (omega (arith, sums_are.width_is)), few k))

    -- and so it is at each
    all_within : AreWithin (records ++ entry ∷ [])
    all_within = λ sidx. by sidx (loss_of sidx entry.pairs) refl
      where
        by : (sidx : ℤ) (n : ℕ) → loss_of sidx entry.pairs ≡ n → run_loss sidx (records ++ entry ∷ []) ≤ 10000000000000000
        by sidx zero none = omega (arith, run_more sidx records entry, none, run_are.within sidx)
        by sidx (suc n) some = known_within sidx (pair_sidx samples sidx entry.pairs is.pairs.each (omega (arith, some)))

    -- the sums are those with the record
    pub run_kept : AreRunSums samples (records ++ entry ∷ []) now
    run_kept = record {
      sums_are = record {
        width_is = added.width_is ∙ sums_are.width_is;
        each = λ k below. added.each k (omega (arith, below, sums_are.width_is)) ∙ sym (run_at k below);
      };
      within = all_within;
    }

    -- the record does not pass the limit
    pub not_past : goes_past records entry ≡ false
    not_past = any_none (λ pair. nat_lt 10000000000000000 (run_loss pair.sidx (records ++ entry ∷ []))) entry.pairs (each entry.pairs)
      where
        test : (n : ℕ) → n ≤ 10000000000000000 → nat_lt 10000000000000000 n ≡ false
        test n most = grind (arith, nat_tests)

        each : (pairs : List Pair) → AllByRecursion (λ pair. nat_lt 10000000000000000 (run_loss pair.sidx (records ++ entry ∷ [])) ≡ false) pairs
        each [] = tt
        each (pair ∷ pairs) = (test (run_loss pair.sidx (records ++ entry ∷ [])) (all_within pair.sidx), each pairs)
