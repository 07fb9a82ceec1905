-- The records of ground-up losses are records of a stream: their ids, their sidx and their losses are in their ranges.
use Rattle.std.proofs.Common.{◌≡◌, ℕ, zero, suc, ◌+◌, ◌<◌, ◌≤◌, Bool, pos, ◌<ℤ◌, List, [], ◌∷◌, length, Option, Some, None, refl, subst, arith}
use Rattle.std.specs.List.{All, AllByRecursion, cons_option, filter_map, range_with_len}
use Rattle.std.proofs.lemmas.Int.{ints}
use Rattle.std.proofs.lemmas.List.Elements.{recursion_from_All, All-from_recursion}
use Rattle.kt_rec.specs.Ranges.{AreInRange, IsItem}
use Rattle.kt_rec.specs.Rows.{Rows}
use Rattle.kt_rec.specs.declared.exposure.Item.{Item}
use Rattle.kt_stream.specs.Bins.{IsCdf}
use Rattle.kt_stream.specs.Losses.{IsLoss}
use Rattle.kt_stream.specs.Pairs.{IsId, IsSidx, IsPair, BeginsAbove, RisingSidx}
use Rattle.kt_stream.specs.declared.entry.Cdf.{Cdf}
use Rattle.kt_stream.specs.declared.entry.LossRecord.{LossRecord}
use Rattle.kt_stream.specs.declared.entry.Pair.{Pair}
use Rattle.kt_gul.specs.GroundUp.{by_id, ground_up_loss, ground_up_records, item_record, pair_at, pairs_of, record_with, sidx_at}
use Rattle.kt_gul.specs.StruckItems.{AreCdfs}
use Rattle.kt_gul.proofs.BoundLemmas.{ground_up_loss-le}
use Rattle.kt_gul.proofs.FinalLemmas.{by_id_each}
use Rattle.kt_gul.proofs.StruckLemmas.{tiv_within}

-- ---- the pairs

-- a later place has a higher sidx
pub sidx_rises : (place later : ℕ) → place < later → sidx_at place <ℤ sidx_at later
sidx_rises place zero less = absurd (omega arith)
sidx_rises zero (suc zero) less = omega (arith, ints)
sidx_rises zero (suc (suc later)) less = omega (arith, ints)
sidx_rises (suc zero) (suc zero) less = absurd (omega arith)
sidx_rises (suc zero) (suc (suc later)) less = omega (arith, ints)
sidx_rises (suc (suc place)) (suc zero) less = absurd (omega arith)
sidx_rises (suc (suc place)) (suc (suc later)) less = omega (arith, ints)

-- the sidx of a place
is_sidx : (samples place : ℕ) → place < samples + 2 → IsSidx samples (sidx_at place)
is_sidx samples zero inside = record { lowest = omega (arith, ints); highest = omega (arith, ints); other = λ h. absurd cc }
is_sidx samples (suc zero) inside = record { lowest = omega (arith, ints); highest = omega (arith, ints); other = λ h. absurd cc }
is_sidx samples (suc (suc earlier)) inside = record { lowest = omega (arith, ints); highest = omega (arith, ints); other = λ h. positive h }
  where
    positive : pos (earlier + 1) ≡ pos 0 → ⊥
    positive h = let same : earlier + 1 ≡ 0 = cc in omega arith

module _ (loss : ℕ → ℕ) (samples : ℕ) (most : (place : ℕ) → loss place ≤ 10000000000000000) where
  -- the pairs from a place on
  abbrev pairs_from : ℕ → ℕ → List Pair
  pairs_from a n = filter_map (λ place. pair_at place (loss place)) (range_with_len a n)

  -- each is in its ranges
  pub pairs_each : (a n : ℕ) → a + n ≤ samples + 2 → AllByRecursion (IsPair samples) (pairs_from a n)
  pairs_each a zero inside = tt
  pairs_each a (suc n) inside = by (loss a) (most a) (pairs_each (a + 1) n (omega arith))
    where
      by : (amount : ℕ) → amount ≤ 10000000000000000 → AllByRecursion (IsPair samples) (pairs_from (a + 1) n) → AllByRecursion (IsPair samples) (cons_option (pair_at a amount) (pairs_from (a + 1) n))
      by zero few rest = rest
      by (suc less) few rest = (record { sidx = is_sidx samples a (omega arith); some = omega arith; most = few }, rest)

  -- they begin above any earlier place
  pairs_above : (place a n : ℕ) → place < a → BeginsAbove (sidx_at place) (pairs_from a n)
  pairs_above place a zero before = tt
  pairs_above place a (suc n) before = by (loss a) (pairs_above place (a + 1) n (omega arith))
    where
      by : (amount : ℕ) → BeginsAbove (sidx_at place) (pairs_from (a + 1) n) → BeginsAbove (sidx_at place) (cons_option (pair_at a amount) (pairs_from (a + 1) n))
      by zero rest = rest
      by (suc less) rest = sidx_rises place a before

  -- and rise
  pub pairs_rise : (a n : ℕ) → RisingSidx (pairs_from a n)
  pairs_rise a zero = tt
  pairs_rise a (suc n) = by (loss a) (pairs_rise (a + 1) n)
    where
      by : (amount : ℕ) → RisingSidx (pairs_from (a + 1) n) → RisingSidx (cons_option (pair_at a amount) (pairs_from (a + 1) n))
      by zero rest = rest
      by (suc less) rest = (pairs_above a (a + 1) n (omega arith), rest)

-- a record with such pairs is a record of a stream
record_good : (event id samples : ℕ) (pairs : List Pair) (entry : LossRecord) → IsId event → IsId id → AllByRecursion (IsPair samples) pairs → RisingSidx pairs → record_with event id pairs ≡ Some entry → IsLoss samples entry
record_good event id samples [] entry event_is id_is each rise is = absurd cc
record_good event id samples (pair ∷ pairs) entry event_is id_is each rise is =
    subst (IsLoss samples) (same _ entry is) (record { event = event_is; id = id_is; pairs = record { some = omega arith; each = each; rising = rise } })
  where
    same : (x y : LossRecord) → Some x ≡ Some y → x ≡ y
    same x y is = cc

-- the records of an event are records of a stream
pub records_good : (rows : Rows) (samples : ℕ) (cut : Bool) (event : ℕ) (cdfs : List Cdf) → AreInRange rows → AreCdfs (length rows.damage_bin_dict) cdfs → IsId event → All (IsLoss samples) (ground_up_records rows samples cut event cdfs)
records_good rows samples cut event cdfs ranges are event_is =
    All-from_recursion (IsLoss samples) (filter_map made (by_id rows.items)) (good (by_id rows.items) (by_id_each IsItem rows.items (recursion_from_All IsItem rows.items ranges.items)))
  where
    made : Item → Option LossRecord
    made = item_record rows samples cut event cdfs

    each : AllByRecursion (IsCdf (length rows.damage_bin_dict)) cdfs
    each = recursion_from_All (IsCdf (length rows.damage_bin_dict)) cdfs are.each

    bounded : (row : Item) (place : ℕ) → ground_up_loss rows cut event cdfs row place ≤ 10000000000000000
    bounded row place = omega (arith, ground_up_loss-le rows event cdfs ranges.damage_bin_dict (length rows.damage_bin_dict) each cut row place, tiv_within rows.coverages row.coverage_id ranges.coverages)

    good : (items : List Item) → AllByRecursion IsItem items → AllByRecursion (IsLoss samples) (filter_map (item_record rows samples cut event cdfs) items)
    good [] in_range = tt
    good (row ∷ items) in_range = by (item_record rows samples cut event cdfs row) refl (good items in_range.1)
      where
        by : (option : Option LossRecord) → item_record rows samples cut event cdfs row ≡ option → AllByRecursion (IsLoss samples) (filter_map (item_record rows samples cut event cdfs) items) → AllByRecursion (IsLoss samples) (cons_option option (filter_map (item_record rows samples cut event cdfs) items))
        by None is rest = rest
        by (Some entry) is rest =
            let loss = ground_up_loss rows cut event cdfs row in
            let id = in_range.0.item_id in
            (record_good event row.item_id samples (pairs_of loss samples) entry event_is (id.least, id.most) (pairs_each loss samples (bounded row) 0 (samples + 2) (omega arith)) (pairs_rise loss samples (bounded row) 0 (samples + 2)) is, rest)
