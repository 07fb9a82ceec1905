-- The losses of a coverage with one struck item.
use Rattle.std.proofs.Common.{◌≡◌, ℕ, zero, suc, ◌+◌, ◌*◌, ◌≤◌, List, [], ◌∷◌, ◌++◌, length, map, get_or, ap, arith, sym, ◌∙◌, append-nil}
use Rattle.std.specs.List.{All, flat_map, range_with_len}
use Rattle.std.proofs.lemmas.List.Sums.{sum_by-cons}
use Rattle.kt_rec.specs.Ranges.{IsDamageBin}
use Rattle.kt_rec.specs.Rows.{Rows}
use Rattle.kt_rec.specs.declared.exposure.Item.{Item}
use Rattle.kt_stream.specs.declared.entry.Cdf.{Cdf}
use Rattle.kt_tables.specs.Lookups.{random_of}
use Rattle.kt_gul.specs.Coverage.{group_total}
use Rattle.kt_gul.specs.GroundUp.{bins_of, item_tiv, raw_loss}
use Rattle.kt_gul.specs.declared.struck.StruckItem.{StruckItem}
use Rattle.kt_gul.proofs.BoundLemmas.{loss_behind-le}

-- a mean and a sample are at most the insured value
raw_within : (rows : Rows) (event : ℕ) (cdfs : List Cdf) (row : Item) (place : ℕ) → All IsDamageBin rows.damage_bin_dict → 1 ≤ place → raw_loss rows event cdfs row place ≤ item_tiv rows row
raw_within rows event cdfs row zero ends later = absurd (omega arith)
raw_within rows event cdfs row (suc zero) ends later = omega arith
raw_within rows event cdfs row (suc (suc earlier)) ends later = loss_behind-le (item_tiv rows row) (random_of rows event row.group_id (earlier + 1) * 1000000) 0 0 rows.damage_bin_dict (bins_of cdfs row) ends (omega arith)

-- the total of one item is its loss
pub total_of_one : (rows : Rows) (event : ℕ) (cdfs : List Cdf) (group : List StruckItem) (tiv place : ℕ) (d : StruckItem) → length group ≡ 1 → All IsDamageBin rows.damage_bin_dict → tiv ≡ item_tiv rows (get_or group 0 d).item → 1 ≤ place → group_total rows event cdfs group place ≤ tiv
total_of_one rows event cdfs [] tiv place d single ends value later = absurd (omega arith)
total_of_one rows event cdfs (struck ∷ []) tiv place d single ends value later =
    omega (arith, sum_by-cons (λ (struck : StruckItem). raw_loss rows event cdfs struck.item place) struck [], raw_within rows event cdfs struck.item place ends later)
total_of_one rows event cdfs (struck ∷ (other ∷ group)) tiv place d single ends value later = absurd (omega arith)

-- the losses of one item are all
pub losses_of_one : (rows : Rows) (event width : ℕ) (cdfs : List Cdf) (group : List StruckItem) (d : StruckItem) (losses longer : List ℕ) → length group ≡ 1 → losses ≡ [] → longer ≡ losses ++ map (raw_loss rows event cdfs (get_or group 0 d).item) (range_with_len 0 width) → longer ≡ flat_map (λ struck. map (raw_loss rows event cdfs struck.item) (range_with_len 0 width)) group
losses_of_one rows event width cdfs [] d losses longer single empty longer_is = absurd (omega arith)
losses_of_one rows event width cdfs (struck ∷ []) d losses longer single empty longer_is =
    let row = map (raw_loss rows event cdfs struck.item) (range_with_len 0 width) in
    longer_is ∙ (ap (λ (losses : List ℕ). losses ++ row) empty ∙ sym (append-nil row))
losses_of_one rows event width cdfs (struck ∷ (other ∷ group)) d losses longer single empty longer_is = absurd (omega arith)
