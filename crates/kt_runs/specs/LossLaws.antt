-- Which sidx have a loss, and where they stand among the sums of a stream.
-- The rule: docs/STREAMS.md, "Records".
use Rattle.std.proofs.Common.{◌≡◌, ℕ, zero, suc, ◌+◌, ◌<◌, ◌≤◌, Bool, true, false, cond, ℤ, pos, negsuc, List, [], ◌∷◌, refl, subst, arith}
use Rattle.std.specs.List.{AllByRecursion}
use Rattle.std.specs.Ordering.{int_eq}
use Rattle.std.proofs.lemmas.Bool.Decides.{Decides-int_eq}
use Rattle.std.proofs.lemmas.Int.{ints}
use Rattle.std.proofs.lemmas.List.Sums.{sum_by-cons}
use Rattle.kt_stream.specs.declared.entry.LossRecord.{LossRecord}
use Rattle.kt_stream.specs.declared.entry.Pair.{Pair}
use Rattle.kt_stream.specs.Losses.{IsLoss}
use Rattle.kt_stream.specs.Pairs.{IsPair, IsSidx}
use Rattle.kt_runs.specs.Sidx.{place_of}
use Rattle.kt_runs.specs.RunLosses.{loss_of, run_loss}

-- a sidx of a stream has its place among the sums
pub sidx_inside : (samples : ℕ) (sidx : ℤ) → IsSidx samples sidx → (2147483646 ≤ place_of sidx) × (place_of sidx < 2147483646 + (samples + 3))
sidx_inside samples (pos n) is = let high = is.highest in (omega arith, omega (arith, ints, high))
sidx_inside samples (negsuc n) is = let low = is.lowest in (omega (arith, ints, low), omega (arith, ints, low))

-- a sidx at which pairs have a loss is that of a pair
pub pair_sidx : (samples : ℕ) (sidx : ℤ) (pairs : List Pair) → AllByRecursion (IsPair samples) pairs → 0 < loss_of sidx pairs → IsSidx samples sidx
pair_sidx samples sidx [] each some = absurd (omega arith)
pair_sidx samples sidx (pair ∷ pairs) each some =
    by (int_eq pair.sidx sidx) refl (pair_sidx samples sidx pairs each.1) (subst (λ n. 0 < n) (sum_by-cons (λ (pair : Pair). cond (int_eq pair.sidx sidx) pair.loss 0) pair pairs) some)
  where
    by : (b : Bool) → int_eq pair.sidx sidx ≡ b → (0 < loss_of sidx pairs → IsSidx samples sidx) → 0 < cond b pair.loss 0 + loss_of sidx pairs → IsSidx samples sidx
    by true is later some = subst (IsSidx samples) ((Decides-int_eq pair.sidx sidx).0 is) each.0.sidx
    by false is later some = later (omega arith)

-- and so is one at which records have a loss
pub record_sidx : (samples : ℕ) (sidx : ℤ) (records : List LossRecord) → AllByRecursion (IsLoss samples) records → 0 < run_loss sidx records → IsSidx samples sidx
record_sidx samples sidx [] each some = absurd (omega arith)
record_sidx samples sidx (entry ∷ records) each some = by (loss_of sidx entry.pairs) refl (record_sidx samples sidx records each.1) (subst (λ n. 0 < n) (sum_by-cons (λ (entry : LossRecord). loss_of sidx entry.pairs) entry records) some)
  where
    by : (n : ℕ) → loss_of sidx entry.pairs ≡ n → (0 < run_loss sidx records → IsSidx samples sidx) → 0 < n + run_loss sidx records → IsSidx samples sidx
    by zero is later some = later (omega arith)
    by (suc n) is later some = pair_sidx samples sidx entry.pairs each.0.pairs.each (omega (arith, is))
