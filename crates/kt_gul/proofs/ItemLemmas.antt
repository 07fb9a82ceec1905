-- The losses of an item, place by place.
use Rattle.std.proofs.Common.{◌≡◌, ◌⊎◌, inl, inr, ℕ, zero, suc, ◌+◌, ◌*◌, ◌<◌, ◌≤◌, List, [], ◌∷◌, ◌++◌, length, map, slice_index_or, refl, sym, ap, arith, ◌∙◌, append_assoc}
use Rattle.std.specs.List.{range_with_len}
use Rattle.std.proofs.lemmas.Bool.{cases_lt}
use Rattle.std.proofs.lemmas.List.FromFn.{map-range_with_len_more}
use Rattle.kt_rec.specs.Rows.{Rows}
use Rattle.kt_rec.specs.declared.exposure.Item.{Item}
use Rattle.kt_rec.specs.declared.hazard.DamageBin.{DamageBin}
use Rattle.kt_rec.specs.declared.hazard.Random.{Random}
use Rattle.kt_stream.specs.declared.entry.Bin.{Bin}
use Rattle.kt_tables.specs.Lookups.{random_place, random_of}
use Rattle.kt_damage.specs.SampledLoss.{sampled_loss}
use Rattle.kt_gul.specs.GroundUp.{item_tiv, loss_by}
use Rattle.kt_gul.specs.ItemLosses.{AreMade}

-- the loss at the place of a sample
pub loss_by-sample : (rows : Rows) (event : ℕ) (bins : List Bin) (row : Item) (made : ℕ) → loss_by rows event bins row (made + 2) ≡ sampled_loss (item_tiv rows row) rows.damage_bin_dict bins (random_of rows event row.group_id (made + 1) * 1000000)
loss_by-sample rows event bins row made = let e : made + 2 ≡ suc (suc made) = omega arith in rw e refl

-- a loss that was sampled from what a portfolio has is that at the sample's place
pub sample_is : (rows : Rows) (event : ℕ) (bins : List Bin) (row : Item) (made tiv : ℕ) (dictionary : List DamageBin) (numbers : List Random) (place random value : ℕ) → tiv ≡ item_tiv rows row → dictionary ≡ rows.damage_bin_dict → numbers ≡ rows.random → place ≡ random_place (length numbers) event row.group_id (made + 1) → random ≡ slice_index_or (map (λ row. row.random) numbers) place 0 → value ≡ sampled_loss tiv dictionary bins (random * 1000000) → value ≡ loss_by rows event bins row (made + 2)
sample_is rows event bins row made tiv dictionary numbers place random value tiv_is dictionary_is numbers_are place_is random_is value_is =
    let drawn : random ≡ random_of rows event row.group_id (made + 1) = random_is ∙ (ap (λ at. slice_index_or (map (λ (row : Random). row.random) numbers) at 0) place_is ∙ ap (λ (numbers : List Random). slice_index_or (map (λ row. row.random) numbers) (random_place (length numbers) event row.group_id (made + 1)) 0) numbers_are) in
    value_is ∙ (ap (λ tiv. sampled_loss tiv dictionary bins (random * 1000000)) tiv_is ∙ (ap (λ dictionary. sampled_loss (item_tiv rows row) dictionary bins (random * 1000000)) dictionary_is
    ∙ (ap (λ random. sampled_loss (item_tiv rows row) rows.damage_bin_dict bins (random * 1000000)) drawn ∙ sym (loss_by-sample rows event bins row made))))

-- the deviation and the mean, before any sample
pub made_first : (first : List ℕ) (loss place_of : ℕ → ℕ) (numbers : ℕ) (one two : List ℕ) (deviation mean place : ℕ) → one ≡ first ++ deviation ∷ [] → two ≡ one ++ mean ∷ [] → deviation ≡ loss 0 → mean ≡ loss 1 → place ≡ place_of 1 → place < numbers → deviation ≤ 100200100000000 → mean ≤ 100200100000000 → AreMade first loss place_of numbers 0 two place
made_first first loss place_of numbers one two deviation mean place one_is two_is deviation_is mean_is place_is within deviation_few mean_few = record {
  losses_are = two_is ∙ (ap (λ one. one ++ mean ∷ []) one_is ∙ (append_assoc first (deviation ∷ []) (mean ∷ []) ∙ ap (λ both. first ++ both) (rw deviation_is (rw mean_is refl))));
  place_is = place_is;
  within = within;
  most = λ k under. most k under;
}
  where
    most : (k : ℕ) → k < 2 → loss k ≤ 100200100000000
    most zero under = omega (arith, deviation_is, deviation_few)
    most (suc zero) under = omega (arith, mean_is, mean_few)
    most (suc (suc k)) under = absurd (omega arith)

-- one more sample
pub made_more : (first : List ℕ) (loss place_of : ℕ → ℕ) (numbers made : ℕ) (losses longer : List ℕ) (place next value : ℕ) → AreMade first loss place_of numbers made losses place → longer ≡ losses ++ value ∷ [] → value ≡ loss (made + 2) → next ≡ place_of (made + 2) → next < numbers → value ≤ 100200100000000 → AreMade first loss place_of numbers (made + 1) longer next
made_more first loss place_of numbers made losses longer place next value here longer_is value_is next_is within few = record {
  losses_are =
      let e : made + 1 + 2 ≡ (made + 2) + 1 = omega arith in
      let more = map-range_with_len_more loss 0 (made + 2) (made + 2) (omega arith) in
      longer_is ∙ (ap (λ losses. losses ++ value ∷ []) here.losses_are ∙ (append_assoc first (map loss (range_with_len 0 (made + 2))) (value ∷ []) ∙ ap (λ row. first ++ row) (rw e cc)));
  place_is = next_is ∙ ap place_of (omega arith);
  within = within;
  most = λ k under. by k (cases_lt k (made + 2)) under;
}
  where
    by : (k : ℕ) → (k < made + 2) ⊎ (made + 2 ≤ k) → k < made + 1 + 2 → loss k ≤ 100200100000000
    by k (inl earlier) under = here.most k earlier
    by k (inr last) under = let same : k ≡ made + 2 = omega arith in omega (arith, ap loss same, value_is, few)
