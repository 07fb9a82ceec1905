-- The items of one coverage that an event strikes, and their losses side by side.
-- The rule: docs/CALCULATION.md, "Coverage cut".
use Rattle.std.specs.Prelude.{◌≡◌, ℕ, ◌<◌, ◌≤◌, List, length, take, All, slice_index, slice_index_or}
use Rattle.std.specs.List.{sum_by}
use Rattle.kt_rec.specs.Rows.{Rows}
use Rattle.kt_stream.specs.declared.entry.Cdf.{Cdf}
use Rattle.kt_gul.specs.declared.struck.StruckItem.{StruckItem}
use Rattle.kt_gul.specs.declared.sums.Scratch.{Scratch}
use Rattle.kt_gul.specs.GroundUp.{item_tiv, bins_of, raw_loss, coverage_total, total_before}
use Rattle.kt_damage.specs.DamageMoments.{AreMoments}
use Rattle.kt_damage.specs.Sampled.{CanSample}

-- numbers, one for each place
pub record IsRow (loss : ℕ → ℕ) (width : ℕ) (losses : List ℕ) : Type 0 where
  pub width_is : length losses ≡ width
  pub each : (place : ℕ) → place < width → slice_index losses place ≡ loss place

-- what is kept from coverage to coverage has rows of so many places
pub record IsScratch (width : ℕ) (scratch : Scratch) : Type 0 where
  pub totals : length scratch.totals.items ≡ width
  pub before : length scratch.before.items ≡ width
  pub cut : length scratch.cut.items ≡ width

-- an item has the distribution at its place among those of the event, with the moments of the damage
pub record IsStruck (rows : Rows) (cdfs : List Cdf) (struck : StruckItem) : Type 0 where
  pub known : struck.cdf < length cdfs
  pub bins_are : (d : Cdf) → (slice_index_or cdfs struck.cdf d).bins ≡ bins_of cdfs struck.item
  pub moments_are : AreMoments (bins_of cdfs struck.item) struck.moments
  pub ranges : CanSample (item_tiv rows struck.item) rows.damage_bin_dict (bins_of cdfs struck.item)

-- the losses of struck items at a place, added
abbrev pub group_total : Rows → ℕ → List Cdf → List StruckItem → ℕ → ℕ
group_total rows event cdfs group place = sum_by (λ struck. raw_loss rows event cdfs struck.item place) group

-- struck items are all those of one coverage, by rising id
pub record IsGroup (rows : Rows) (event : ℕ) (cdfs : List Cdf) (coverage : ℕ) (group : List StruckItem) : Type 0 where
  pub struck : All (IsStruck rows cdfs) group
  pub together : All (λ struck. struck.item.coverage_id ≡ coverage) group
  pub few : length group ≤ 100000
  pub total_is : (place : ℕ) → group_total rows event cdfs group place ≡ coverage_total (λ row. raw_loss rows event cdfs row place) rows.items coverage
  pub before_is : (place i : ℕ) (d : StruckItem) → i < length group → group_total rows event cdfs (take i group) place ≡ total_before (λ row. raw_loss rows event cdfs row place) rows.items (slice_index_or group i d).item
