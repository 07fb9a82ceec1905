-- Records of the losses at the mean and at the samples are records of a stream.
-- The rule: docs/STREAMS.md, "Records".
use Rattle.std.specs.Prelude.{◌≡◌, ℕ, zero, suc, ◌+◌, ◌<◌, ◌≤◌, ◌<ℤ◌, ℤ, pos, negsuc, List, [], ◌∷◌, length, map, slice_index_or}
use Rattle.std.specs.List.{AllByRecursion, cons_option, range_with_len}
use Rattle.std.proofs.Common.{refl, ap, ◌∙◌, arith}
use Rattle.std.proofs.lemmas.Int.{ints}
use Rattle.std.proofs.lemmas.List.Sums.{get_or-le-sum_by}
use Rattle.kt_stream.specs.declared.entry.LossRecord.{LossRecord}
use Rattle.kt_stream.specs.declared.entry.Pair.{Pair}
use Rattle.kt_stream.specs.Losses.{IsLoss}
use Rattle.kt_stream.specs.Pairs.{BeginsAbove, IsId, IsPair, IsSidx, RisingSidx}
use Rattle.kt_runs.specs.RunLosses.{AreWithin, loss_of}
use Rattle.kt_runs.specs.Sidx.{pair_of, pairs_of}
use Rattle.kt_rec.specs.RisingLaws.{KeepsId}
use Rattle.kt_runs.specs.Records.{insured_range, record_with, sample_range}

-- records that are held in themselves
pub map-same : (records : List LossRecord) → map (λ (entry : LossRecord). entry) records ≡ records
map-same [] = refl
map-same (entry ∷ records) = ap (λ later. entry ∷ later) (map-same records)

-- the losses of one record are not more than those of all
pub one-few : (records : List LossRecord) → AreWithin records → (i : ℕ) (d : LossRecord) → i < length records → (entry : LossRecord) → entry ≡ slice_index_or records i d → (sidx : ℤ) → loss_of sidx entry.pairs ≤ 10000000000000000
one-few records within i d below entry is sidx =
    omega (arith, within sidx, get_or-le-sum_by (λ (one : LossRecord). loss_of sidx one.pairs) records i d below, ap (λ (one : LossRecord). loss_of sidx one.pairs) is)

-- a record that is made has its id
pub record-id : (event id : ℕ) (pairs : List Pair) → KeepsId (λ (entry : LossRecord). entry.id) id (record_with event id pairs)
record-id event id [] = tt
record-id event id (pair ∷ pairs) = refl

-- and its event, as those behind it have
pub record-event : (event own id : ℕ) (pairs : List Pair) → own ≡ event → (later : List LossRecord) → AllByRecursion (λ (entry : LossRecord). entry.event ≡ event) later → AllByRecursion (λ (entry : LossRecord). entry.event ≡ event) (cons_option (record_with own id pairs) later)
record-event event own id [] same later all = all
record-event event own id (pair ∷ pairs) same later all = (same, all)

-- no loss gives no pair
pub pairs-none : (loss : ℤ → ℕ) → ((sidx : ℤ) → loss sidx ≡ 0) → (range : List ℤ) → pairs_of loss range ≡ []
pairs-none loss none [] = refl
pairs-none loss none (sidx ∷ range) = ap (λ n. cons_option (pair_of sidx n) (pairs_of loss range)) (none sidx) ∙ pairs-none loss none range

module _ (samples : ℕ) (loss : ℤ → ℕ) (few : (sidx : ℤ) → loss sidx ≤ 10000000000000000) where
  -- each pair is in its ranges where each sidx is
  pairs-each : (range : List ℤ) → AllByRecursion (IsSidx samples) range → AllByRecursion (IsPair samples) (pairs_of loss range)
  pairs-each [] are = tt
  pairs-each (sidx ∷ range) are = by (loss sidx) (few sidx) (pairs-each range are.1)
    where
      by : (amount : ℕ) → amount ≤ 10000000000000000 → AllByRecursion (IsPair samples) (pairs_of loss range) → AllByRecursion (IsPair samples) (cons_option (pair_of sidx amount) (pairs_of loss range))
      by zero most rest = rest
      by (suc less) most rest = (record { sidx = are.0; some = omega arith; most = most }, rest)

  -- those of samples begin above what each sample is above
  pairs-above : (sidx : ℤ) (a n : ℕ) → ((k : ℕ) → a ≤ k → sidx <ℤ pos k) → BeginsAbove sidx (pairs_of loss (map pos (range_with_len a n)))
  pairs-above sidx a zero above = tt
  pairs-above sidx a (suc n) above = by (loss (pos a)) (pairs-above sidx (a + 1) n (λ k low. above k (omega arith)))
    where
      by : (amount : ℕ) → BeginsAbove sidx (pairs_of loss (map pos (range_with_len (a + 1) n))) → BeginsAbove sidx (cons_option (pair_of (pos a) amount) (pairs_of loss (map pos (range_with_len (a + 1) n))))
      by zero rest = rest
      by (suc less) rest = above a (omega arith)

  -- and rise
  pairs-rise : (a n : ℕ) → RisingSidx (pairs_of loss (map pos (range_with_len a n)))
  pairs-rise a zero = tt
  pairs-rise a (suc n) = by (loss (pos a)) (pairs-rise (a + 1) n)
    where
      higher : (one other : ℕ) → one < other → pos one <ℤ pos other
      higher one other less = omega (arith, ints)

      by : (amount : ℕ) → RisingSidx (pairs_of loss (map pos (range_with_len (a + 1) n))) → RisingSidx (cons_option (pair_of (pos a) amount) (pairs_of loss (map pos (range_with_len (a + 1) n))))
      by zero rest = rest
      by (suc less) rest = (pairs-above (pos a) (a + 1) n (λ k low. higher a k (omega arith)), rest)

  -- with the mean in front
  all-rise : RisingSidx (pairs_of loss (insured_range samples))
  all-rise = by (loss (negsuc 0))
    where
      below : (k : ℕ) → negsuc 0 <ℤ pos k
      below k = omega (arith, ints)

      by : (amount : ℕ) → RisingSidx (cons_option (pair_of (negsuc 0) amount) (pairs_of loss (sample_range samples)))
      by zero = pairs-rise 1 samples
      by (suc less) = (pairs-above (negsuc 0) 1 samples (λ k low. below k), pairs-rise 1 samples)

  -- the sidx are in their ranges
  range-sidx : AllByRecursion (IsSidx samples) (insured_range samples)
  range-sidx = (mean, from 1 samples (omega arith) (omega arith))
    where
      mean : IsSidx samples (negsuc 0)
      mean = record { lowest = omega (arith, ints); highest = omega (arith, ints); other = λ same. omega (arith, ints, same) }

      one : (k : ℕ) → 1 ≤ k → k ≤ samples → IsSidx samples (pos k)
      one k low high = record { lowest = omega (arith, ints); highest = omega (arith, ints); other = λ same. omega (arith, ints, same) }

      from : (a n : ℕ) → 1 ≤ a → a + n ≤ samples + 1 → AllByRecursion (IsSidx samples) (map pos (range_with_len a n))
      from a zero low high = tt
      from a (suc n) low high = (one a low (omega arith), from (a + 1) n (omega arith) (omega arith))

  -- a record of them is one of a stream
  pub record-good : (event id : ℕ) → IsId event → IsId id → (later : List LossRecord) → AllByRecursion (IsLoss samples) later → AllByRecursion (IsLoss samples) (cons_option (record_with event id (pairs_of loss (insured_range samples))) later)
  record-good event id event_is id_is later good = by (pairs_of loss (insured_range samples)) (pairs-each (insured_range samples) range-sidx) all-rise
    where
      by : (pairs : List Pair) → AllByRecursion (IsPair samples) pairs → RisingSidx pairs → AllByRecursion (IsLoss samples) (cons_option (record_with event id pairs) later)
      by [] each rise = good
      by (pair ∷ pairs) each rise = (record { event = event_is; id = id_is; pairs = record { some = omega arith; each = each; rising = rise } }, good)
