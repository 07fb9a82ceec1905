-- The pairs that losses make have at no sidx more than the loss there.
-- The rule: docs/STREAMS.md, "Records".
use Rattle.std.specs.Prelude.{◌≡◌, ℕ, zero, suc, ◌+◌, ◌≤◌, Bool, true, false, cond, ℤ, pos, negsuc, List, map}
use Rattle.std.specs.List.{cons_option, range_with_len}
use Rattle.std.specs.Ordering.{int_eq}
use Rattle.std.proofs.Common.{refl, ap, arith}
use Rattle.std.proofs.lemmas.Bool.Decides.{Decides-int_eq}
use Rattle.std.proofs.lemmas.Int.{ints}
use Rattle.std.proofs.lemmas.List.Sums.{sum_by-cons}
use Rattle.kt_stream.specs.declared.entry.Pair.{Pair}
use Rattle.kt_runs.specs.RunLosses.{loss_of}
use Rattle.kt_runs.specs.Sidx.{pair_of, pairs_of}
use Rattle.kt_runs.specs.Records.{insured_range, sample_range}

module _ (loss : ℤ → ℕ) where
  -- at a sidx below those of samples there is nothing
  samples-none : (sidx : ℤ) (a n : ℕ) → ((k : ℕ) → a ≤ k → int_eq (pos k) sidx ≡ false) → loss_of sidx (pairs_of loss (map pos (range_with_len a n))) ≡ 0
  samples-none sidx a zero apart = refl
  samples-none sidx a (suc n) apart = by (loss (pos a)) (samples-none sidx (a + 1) n (λ k low. apart k (omega arith)))
    where
      by : (amount : ℕ) → loss_of sidx (pairs_of loss (map pos (range_with_len (a + 1) n))) ≡ 0 → loss_of sidx (cons_option (pair_of (pos a) amount) (pairs_of loss (map pos (range_with_len (a + 1) n)))) ≡ 0
      by zero rest = rest
      by (suc less) rest =
          omega (
            arith,
            sum_by-cons (λ (pair : Pair). cond (int_eq pair.sidx sidx) pair.loss 0) (record { sidx = pos a; loss = suc less }) (pairs_of loss (map pos (range_with_len (a + 1) n))),
            rest,
            ap (λ b. cond b (suc less) 0) (apart a (omega arith)),
          )

  -- sidx that differ are not equal
  other-sidx : (one other : ℤ) → (one ≡ other → ⊥) → int_eq one other ≡ false
  other-sidx one other differ = by (int_eq one other) refl
    where
      by : (b : Bool) → int_eq one other ≡ b → b ≡ false
      by true is = absurd (differ ((Decides-int_eq one other).0 is))
      by false is = refl

  -- one pair in front of pairs that have at most that, or nothing at its sidx
  front-le : (sidx one : ℤ) (pairs : List Pair) → loss_of sidx pairs ≤ loss sidx → (one ≡ sidx → loss_of sidx pairs ≡ 0) → loss_of sidx (cons_option (pair_of one (loss one)) pairs) ≤ loss sidx
  front-le sidx one pairs rest none = by (loss one) refl
    where
      here : (less : ℕ) → loss one ≡ suc less → (b : Bool) → int_eq one sidx ≡ b → cond b (suc less) 0 + loss_of sidx pairs ≤ loss sidx
      here less is true same = let e = (Decides-int_eq one sidx).0 same in omega (arith, none e, is, ap loss e)
      here less is false apart = omega (arith, rest)

      by : (amount : ℕ) → loss one ≡ amount → loss_of sidx (cons_option (pair_of one amount) pairs) ≤ loss sidx
      by zero is = rest
      by (suc less) is = omega (arith, sum_by-cons (λ (pair : Pair). cond (int_eq pair.sidx sidx) pair.loss 0) (record { sidx = one; loss = suc less }) pairs, here less is (int_eq one sidx) refl)

  -- so those of samples have at most the loss of their sidx
  samples-le : (sidx : ℤ) (a n : ℕ) → loss_of sidx (pairs_of loss (map pos (range_with_len a n))) ≤ loss sidx
  samples-le sidx a zero = omega arith
  samples-le sidx a (suc n) = front-le sidx (pos a) (pairs_of loss (map pos (range_with_len (a + 1) n))) (samples-le sidx (a + 1) n) (λ same. samples-none sidx (a + 1) n (λ k low. other-sidx (pos k) sidx (λ also. omega (arith, ints, also, same, low))))

  -- pairs that losses make at the mean and at the samples have at no sidx more than the loss there
  pub pairs-le : (sidx : ℤ) (samples : ℕ) → loss_of sidx (pairs_of loss (insured_range samples)) ≤ loss sidx
  pairs-le sidx samples = front-le sidx (negsuc 0) (pairs_of loss (sample_range samples)) (samples-le sidx 1 samples) (λ same. samples-none sidx 1 samples (λ k low. other-sidx (pos k) sidx (λ also. omega (arith, ints, also, same))))
