-- Where an event has no distribution, no item has a ground-up loss.
use Rattle.std.proofs.Common.{◌≡◌, ℕ, zero, suc, ◌+◌, ◌-◌, ◌*◌, ◌/◌, ◌^◌, min, Bool, true, false, cond, ◌&&◌, not, nat_eq, nat_lt, List, [], ◌∷◌, refl, sym, ap, ◌∙◌, arith, filter_map}
use Rattle.std.specs.List.{AllByRecursion, cons_option, range_with_len}
use Rattle.kt_gul.specs.GroundUp.{by_id, final_loss, ground_up_loss, ground_up_records, item_record, item_tiv, loss_by, pair_at, record_with}
use Rattle.kt_gul.specs.ItemMoments.{loss_deviation, mean_loss}
use Rattle.kt_gul.specs.SampledLoss.{sampled_loss}
use Rattle.kt_money.specs.Rounding.{root}
use Rattle.kt_money.specs.Sharing.{share_of, share_to}
use Rattle.kt_rec.specs.Rows.{Rows}
use Rattle.kt_rec.specs.declared.exposure.Item.{Item}
use Rattle.kt_rec.specs.declared.hazard.DamageBin.{DamageBin}
use Rattle.kt_stream.specs.declared.entry.Cdf.{Cdf}
use Rattle.kt_stream.specs.declared.entry.Pair.{Pair}
use Rattle.kt_tables.specs.Lookups.{random_of}
use Rattle.kt_split.specs.ByEvents.{losses_of_cdfs}

times_none : (tiv : ℕ) → tiv * 0 ≡ 0
times_none tiv = omega arith

deviation_none : (tiv : ℕ) → loss_deviation tiv [] ≡ 0
unfolding root
deviation_none tiv = ap (λ n. n / 10 ^ 18) (times_none tiv)

mean_none : (tiv : ℕ) → mean_loss tiv [] ≡ 0
mean_none tiv = ap (λ n. min tiv ((2 * n + 10 ^ 18) / (2 * 10 ^ 18))) (times_none tiv) ∙ omega arith

sample_none : (tiv number : ℕ) (dictionary : List DamageBin) → sampled_loss tiv dictionary [] number ≡ 0
sample_none tiv number [] = ap (λ n. (2 * n + 1000000) / (2 * 1000000)) (times_none tiv)
sample_none tiv number (bin ∷ dictionary) = ap (λ n. (2 * n + 1000000) / (2 * 1000000)) (times_none tiv)

loss_none : (rows : Rows) (event : ℕ) (row : Item) (place : ℕ) → loss_by rows event [] row place ≡ 0
loss_none rows event row zero = deviation_none (item_tiv rows row)
loss_none rows event row (suc zero) = mean_none (item_tiv rows row)
loss_none rows event row (suc (suc earlier)) = sample_none (item_tiv rows row) (random_of rows event row.group_id (earlier + 1) * 1000000) rows.damage_bin_dict

share_none : (tiv total before : ℕ) → share_of tiv total before 0 ≡ 0
share_none tiv total before = ap (λ n. share_to tiv total n - share_to tiv total before) (add_none before) ∙ itself (share_to tiv total before)
  where
    add_none : (n : ℕ) → n + 0 ≡ n
    add_none n = omega arith

    itself : (n : ℕ) → n - n ≡ 0
    itself n = omega arith

final_none : (cut : Bool) (tiv total before loss place : ℕ) → loss ≡ 0 → final_loss cut tiv total before loss place ≡ 0
final_none cut tiv total before loss place none = ap (λ n. final_loss cut tiv total before n place) none ∙ by (cut && not (nat_eq place 0)) (nat_lt tiv total)
  where
    by : (a b : Bool) → cond a (cond b (share_of tiv total before 0) 0) 0 ≡ 0
    by false b = refl
    by true false = refl
    by true true = share_none tiv total before

module _ (rows : Rows) (samples : ℕ) (cut : Bool) (event : ℕ) where
  item_none : (row : Item) (place : ℕ) → ground_up_loss rows cut event [] row place ≡ 0
  item_none row place = final_none cut _ _ _ _ place (loss_none rows event row place)

  pairs_none : (row : Item) (places : List ℕ) → filter_map (λ place. pair_at place (ground_up_loss rows cut event [] row place)) places ≡ []
  pairs_none row [] = refl
  pairs_none row (place ∷ later) = ap (λ n. cons_option (pair_at place n) (filter_map (λ place. pair_at place (ground_up_loss rows cut event [] row place)) later)) (item_none row place) ∙ pairs_none row later

  records_none : (items : List Item) → filter_map (item_record rows samples cut event []) items ≡ []
  records_none [] = refl
  records_none (row ∷ items) =
      ap (λ (pairs : List Pair). cons_option (record_with event row.item_id pairs) (filter_map (item_record rows samples cut event []) items)) (pairs_none row (range_with_len 0 (samples + 2)))
      ∙ records_none items

  -- the losses of the distributions of an event are those of its run
  pub losses_are : (cdfs : List Cdf) → AllByRecursion (λ (cdf : Cdf). cdf.event ≡ event) cdfs → losses_of_cdfs rows samples cut cdfs ≡ ground_up_records rows samples cut event cdfs
  losses_are [] are = sym (records_none (by_id rows.items))
  losses_are (first ∷ later) are = ap (λ (id : ℕ). ground_up_records rows samples cut id (first ∷ later)) are.0
