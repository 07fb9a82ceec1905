-- The ground-up losses of an event at one sidx add to at most twice the insured values of its items.
use Rattle.std.proofs.Common.{◌≡◌, ℕ, zero, suc, ◌+◌, ◌*◌, ◌<◌, ◌≤◌, Bool, true, false, cond, ℤ, ◌<ℤ◌, List, [], ◌∷◌, length, refl, sym, ap, subst, arith, ◌∙◌}
use Rattle.std.specs.List.{All, AllByRecursion, cons_option, filter_map, range_with_len, sum_by}
use Rattle.std.specs.Ordering.{int_eq}
use Rattle.std.proofs.lemmas.Bool.Decides.{Decides-int_eq}
use Rattle.std.proofs.lemmas.Int.{ints}
use Rattle.std.proofs.lemmas.List.Elements.{recursion_from_All}
use Rattle.std.proofs.lemmas.List.Sums.{sum_by-cons}
use Rattle.kt_rec.specs.Ranges.{AreInRange, IsDamageBin}
use Rattle.kt_rec.specs.Rows.{Rows}
use Rattle.kt_rec.specs.declared.exposure.Item.{Item}
use Rattle.kt_runs.specs.RunLosses.{loss_of, run_loss}
use Rattle.kt_stream.specs.Bins.{IsCdf}
use Rattle.kt_stream.specs.declared.entry.Cdf.{Cdf}
use Rattle.kt_stream.specs.declared.entry.LossRecord.{LossRecord}
use Rattle.kt_stream.specs.declared.entry.Pair.{Pair}
use Rattle.kt_gul.specs.GroundUp.{by_id, ground_up_loss, ground_up_records, item_record, item_tiv, pair_at, pairs_of, record_with, sidx_at}
use Rattle.kt_gul.specs.StruckItems.{AreCdfs}
use Rattle.kt_gul.proofs.BoundLemmas.{ground_up_loss-le}
use Rattle.kt_gul.proofs.FinalLemmas.{by_id_sum}
use Rattle.kt_gul.proofs.GoodLemmas.{sidx_rises}

-- a sidx is not a lower one
apart : (high low : ℤ) → low <ℤ high → int_eq high low ≡ false
apart high low less = by (int_eq high low) refl
  where
    by : (b : Bool) → int_eq high low ≡ b → b ≡ false
    by false is = refl
    by true is = let same = (Decides-int_eq high low).0 is in absurd (omega (arith, ints))

module _ (loss : ℕ → ℕ) where
  -- the pairs from a place on
  abbrev pairs_from : ℕ → ℕ → List Pair
  pairs_from a n = filter_map (λ place. pair_at place (loss place)) (range_with_len a n)

  -- the losses at a sidx, with a pair in front
  first_pair : (sidx : ℤ) (a less : ℕ) (pairs : List Pair) → loss_of sidx (record { sidx = sidx_at a; loss = suc less } ∷ pairs) ≡ cond (int_eq (sidx_at a) sidx) (suc less) 0 + loss_of sidx pairs
  first_pair sidx a less pairs = sum_by-cons (λ (pair : Pair). cond (int_eq pair.sidx sidx) pair.loss 0) (record { sidx = sidx_at a; loss = suc less }) pairs

  -- none of them has the sidx of an earlier place
  loss_before : (place a n : ℕ) → place < a → loss_of (sidx_at place) (pairs_from a n) ≡ 0
  loss_before place a zero before = refl
  loss_before place a (suc n) before = by (loss a) (loss_before place (a + 1) n (omega arith))
    where
      by : (amount : ℕ) → loss_of (sidx_at place) (pairs_from (a + 1) n) ≡ 0 → loss_of (sidx_at place) (cons_option (pair_at a amount) (pairs_from (a + 1) n)) ≡ 0
      by zero rest = rest
      by (suc less) rest =
          first_pair (sidx_at place) a less (pairs_from (a + 1) n)
          ∙ (ap (λ b. cond b (suc less) 0 + loss_of (sidx_at place) (pairs_from (a + 1) n)) (apart (sidx_at a) (sidx_at place) (sidx_rises place a before)) ∙ omega arith)

  -- so at one sidx they have at most the greatest loss
  pairs_within : (most : ℕ) → ((place : ℕ) → loss place ≤ most) → (sidx : ℤ) (a n : ℕ) → loss_of sidx (pairs_from a n) ≤ most
  pairs_within most bounded sidx a zero = omega arith
  pairs_within most bounded sidx a (suc n) = by (loss a) (bounded a) (pairs_within most bounded sidx (a + 1) n)
    where
      with_first : (amount : ℕ) (b : Bool) → int_eq (sidx_at a) sidx ≡ b → amount ≤ most → loss_of sidx (pairs_from (a + 1) n) ≤ most → cond b amount 0 + loss_of sidx (pairs_from (a + 1) n) ≤ most
      with_first amount true is few rest =
          let none = subst (λ sidx. loss_of sidx (pairs_from (a + 1) n) ≡ 0) ((Decides-int_eq (sidx_at a) sidx).0 is) (loss_before a (a + 1) n (omega arith)) in
          omega arith
      with_first amount false is few rest = omega arith

      by : (amount : ℕ) → amount ≤ most → loss_of sidx (pairs_from (a + 1) n) ≤ most → loss_of sidx (cons_option (pair_at a amount) (pairs_from (a + 1) n)) ≤ most
      by zero few rest = rest
      by (suc less) few rest = subst (λ n. n ≤ most) (sym (first_pair sidx a less (pairs_from (a + 1) n))) (with_first (suc less) (int_eq (sidx_at a) sidx) refl few rest)

-- what a record adds to a run
record_adds : (event id : ℕ) (pairs : List Pair) (sidx : ℤ) (later : List LossRecord) → run_loss sidx (cons_option (record_with event id pairs) later) ≡ loss_of sidx pairs + run_loss sidx later
record_adds event id [] sidx later = omega arith
record_adds event id (pair ∷ pairs) sidx later = sum_by-cons (λ (entry : LossRecord). loss_of sidx entry.pairs) (record { event = event; id = id; pairs = pair ∷ pairs }) later

-- the losses of items at a sidx
items_within : (rows : Rows) (samples : ℕ) (cut : Bool) (event : ℕ) (cdfs : List Cdf) → All IsDamageBin rows.damage_bin_dict → (most : ℕ) → AllByRecursion (IsCdf most) cdfs → (sidx : ℤ) (items : List Item) → run_loss sidx (filter_map (item_record rows samples cut event cdfs) items) ≤ 2 * sum_by (λ row. item_tiv rows row) items
items_within rows samples cut event cdfs ends most each sidx [] = omega arith
items_within rows samples cut event cdfs ends most each sidx (row ∷ items) =
    let loss = ground_up_loss rows cut event cdfs row in
    let own = pairs_within loss (2 * item_tiv rows row) (λ place. ground_up_loss-le rows event cdfs ends most each cut row place) sidx 0 (samples + 2) in
    let added = record_adds event row.item_id (pairs_of loss samples) sidx (filter_map (item_record rows samples cut event cdfs) items) in
    omega (arith, own, added, sum_by-cons (λ row. item_tiv rows row) row items, items_within rows samples cut event cdfs ends most each sidx items)

-- the ground-up losses of an event at a sidx
pub losses_within : (rows : Rows) (samples : ℕ) (cut : Bool) (event : ℕ) (cdfs : List Cdf) → AreInRange rows → AreCdfs (length rows.damage_bin_dict) cdfs → sum_by (λ row. item_tiv rows row) rows.items ≤ 100000000000000 → (sidx : ℤ) → run_loss sidx (ground_up_records rows samples cut event cdfs) ≤ 200000000000000
losses_within rows samples cut event cdfs ranges are values sidx =
    let most = length rows.damage_bin_dict in
    omega (arith, items_within rows samples cut event cdfs ranges.damage_bin_dict most (recursion_from_All (IsCdf most) cdfs are.each) sidx (by_id rows.items), by_id_sum (λ row. item_tiv rows row) rows.items, values)
