-- The records of summaries are records of a stream: their ids, their exposures, their sidx and their losses are in their ranges.
use Rattle.std.proofs.Common.{◌≡◌, ℕ, zero, suc, ◌+◌, ◌-◌, ◌<◌, ◌≤◌, ℤ, List, [], ◌∷◌, map, Option, Some, None, refl, arith}
use Rattle.std.specs.Prelude.{All}
use Rattle.std.specs.List.{AllByRecursion, cons_option, filter_map, range_with_len}
use Rattle.std.proofs.lemmas.List.Elements.{All-from_recursion, recursion_from_All}
use Rattle.kt_stream.specs.declared.entry.LossRecord.{LossRecord}
use Rattle.kt_stream.specs.declared.entry.Pair.{Pair}
use Rattle.kt_stream.specs.declared.entry.SummaryRecord.{SummaryRecord}
use Rattle.kt_stream.specs.Losses.{IsLoss}
use Rattle.kt_stream.specs.Pairs.{BeginsAbove, IsId, IsPair, IsSidx, RisingSidx}
use Rattle.kt_stream.specs.Summary.{IsSummary}
use Rattle.kt_runs.specs.RunLosses.{AreWithin, run_loss}
use Rattle.kt_rec.specs.Rising.{rising, rising-all}
use Rattle.kt_sum.specs.Summaries.{end_place, found_summaries, least_place, members, places, record_with, sidx_range, summaries_by, summary_of_run}
use Rattle.kt_runs.specs.RunLosses.{event_of}
use Rattle.kt_runs.specs.Sidx.{pair_of, pairs_of, sidx_at}
use Rattle.kt_sum.proofs.WideLemmas.{members_within}
use Rattle.kt_runs.specs.LossLaws.{record_sidx}
use Rattle.kt_runs.specs.SidxLaws.{sidx_rises}

-- ---- the pairs

module _ (samples : ℕ) (loss : ℤ → ℕ) (known : (sidx : ℤ) → 0 < loss sidx → IsSidx samples sidx) (most : (sidx : ℤ) → loss sidx ≤ 10000000000000000) where
  -- the pairs from a place on
  abbrev pairs_from : ℕ → ℕ → List Pair
  pairs_from a n = pairs_of loss (map sidx_at (range_with_len a n))

  -- each is in its ranges
  pairs_each : (a n : ℕ) → AllByRecursion (IsPair samples) (pairs_from a n)
  pairs_each a zero = tt
  pairs_each a (suc n) = by (loss (sidx_at a)) (known (sidx_at a)) (most (sidx_at a)) (pairs_each (a + 1) n)
    where
      by : (amount : ℕ) → (0 < amount → IsSidx samples (sidx_at a)) → amount ≤ 10000000000000000 → AllByRecursion (IsPair samples) (pairs_from (a + 1) n) → AllByRecursion (IsPair samples) (cons_option (pair_of (sidx_at a) amount) (pairs_from (a + 1) n))
      by zero has few rest = rest
      by (suc less) has few rest = (record { sidx = has (omega arith); some = omega arith; most = few }, rest)

  -- they begin above any earlier place
  pairs_above : (place a n : ℕ) → place < a → BeginsAbove (sidx_at place) (pairs_from a n)
  pairs_above place a zero before = tt
  pairs_above place a (suc n) before = by (loss (sidx_at a)) (pairs_above place (a + 1) n (omega arith))
    where
      by : (amount : ℕ) → BeginsAbove (sidx_at place) (pairs_from (a + 1) n) → BeginsAbove (sidx_at place) (cons_option (pair_of (sidx_at a) amount) (pairs_from (a + 1) n))
      by zero rest = rest
      by (suc less) rest = sidx_rises place a before

  -- and rise
  pairs_rise : (a n : ℕ) → RisingSidx (pairs_from a n)
  pairs_rise a zero = tt
  pairs_rise a (suc n) = by (loss (sidx_at a)) (pairs_rise (a + 1) n)
    where
      by : (amount : ℕ) → RisingSidx (pairs_from (a + 1) n) → RisingSidx (cons_option (pair_of (sidx_at a) amount) (pairs_from (a + 1) n))
      by zero rest = rest
      by (suc less) rest = (pairs_above a (a + 1) n (omega arith), rest)

-- ---- the records

-- a record with such pairs is a record of a stream
record_good : (event summary exposure samples : ℕ) (pairs : List Pair) → IsId event → IsId summary → exposure ≤ 100000000000000 → AllByRecursion (IsPair samples) pairs → RisingSidx pairs → (later : List SummaryRecord) → AllByRecursion (IsSummary samples) later → AllByRecursion (IsSummary samples) (cons_option (record_with event summary exposure pairs) later)
record_good event summary exposure samples [] event_is summary_is few each rise later good = good
record_good event summary exposure samples (pair ∷ pairs) event_is summary_is few each rise later good =
    (record { event = event_is; summary = summary_is; exposure = few; pairs = record { some = omega arith; each = each; rising = rise } }, good)

module _ (find : ℕ → Option ℕ) (exposure : ℕ → ℕ) (known : (id summary : ℕ) → find id ≡ Some summary → IsId summary) (bounded : (summary : ℕ) → exposure summary ≤ 100000000000000) where
  -- the summaries to which records come are ids
  found_ids : (records : List LossRecord) → AllByRecursion IsId (found_summaries find records)
  found_ids [] = tt
  found_ids (entry ∷ records) = by (find entry.id) refl (found_ids records)
    where
      by : (option : Option ℕ) → find entry.id ≡ option → AllByRecursion IsId (found_summaries find records) → AllByRecursion IsId (cons_option option (found_summaries find records))
      by None is rest = rest
      by (Some summary) is rest = (known entry.id summary is, rest)

  -- the records of ids are in their ranges
  ids_good : (samples : ℕ) (records : List LossRecord) → IsId (event_of records) → AreWithin records → AllByRecursion (IsLoss samples) records → (ids : List ℕ) → AllByRecursion IsId ids → AllByRecursion (IsSummary samples) (filter_map (summary_of_run find exposure records) ids)
  ids_good samples records event_is within are [] each = tt
  ids_good samples records event_is within are (summary ∷ ids) each =
      let loss : ℤ → ℕ = λ sidx. run_loss sidx (members find records summary) in
      let has : (sidx : ℤ) → 0 < loss sidx → IsSidx samples sidx = λ sidx some. record_sidx samples sidx records are (omega (arith, members_within sidx find records summary)) in
      let most : (sidx : ℤ) → loss sidx ≤ 10000000000000000 = λ sidx. omega (arith, members_within sidx find records summary, within sidx) in
      let a = least_place (places records) in
      let n = end_place (places records) - least_place (places records) in
      record_good (event_of records) summary (exposure summary) samples (pairs_of loss (sidx_range records)) event_is each.0 (bounded summary)
      (pairs_each samples loss has most a n) (pairs_rise samples loss has most a n)
      (filter_map (summary_of_run find exposure records) ids) (ids_good samples records event_is within are ids each.1)

  -- the records of all summaries are records of a stream
  pub summaries_good : (samples : ℕ) (records : List LossRecord) → AreWithin records → All (IsLoss samples) records → All (IsSummary samples) (summaries_by find exposure records)
  summaries_good samples [] within are = All-from_recursion (IsSummary samples) [] tt
  summaries_good samples (entry ∷ records) within are =
      let each = recursion_from_All (IsLoss samples) (entry ∷ records) are in
      All-from_recursion (IsSummary samples) (summaries_by find exposure (entry ∷ records))
      (ids_good samples (entry ∷ records) each.0.event within each (rising (found_summaries find (entry ∷ records))) (rising-all IsId (found_summaries find (entry ∷ records)) (found_ids (entry ∷ records))))
