-- What a sample stands on: values and bins in their ranges.
-- The rule: docs/CALCULATION.md, "Sampled loss".
use Rattle.std.specs.Prelude.{ℕ, zero, suc, ◌+◌, ◌*◌, ◌^◌, ◌<◌, ◌≤◌, max, List, length, All, slice_index_or}
use Rattle.kt_rec.specs.Ranges.{IsDamageBin}
use Rattle.kt_rec.specs.declared.hazard.DamageBin.{DamageBin}
use Rattle.kt_stream.specs.Bins.{AreBins}
use Rattle.kt_stream.specs.declared.entry.Bin.{Bin}

-- a number falls into a bin, and all is in its ranges
pub record IsInBin (tiv low high before upto number : ℕ) : Type 0 where
  pub value : tiv ≤ 10 ^ 14
  pub least : low ≤ 1000000
  pub most : high ≤ 1000000
  pub wide : before < upto
  pub whole : upto ≤ 1002001000000
  pub above : before ≤ number
  pub below : number ≤ upto

-- a random number and some behind it fall into a bin, and all is in its ranges
pub record IsLine (low high before upto first span : ℕ) : Type 0 where
  pub least : low ≤ 1000000
  pub most : high ≤ 1000000
  pub wide : before < upto
  pub whole : upto ≤ 1002001000000
  pub above : before < max (first * 1000000) 1
  pub from : before ≤ first * 1000000
  pub below : (first + span) * 1000000 ≤ upto

-- an insured value, the damage bins and the bins of a distribution are in their ranges, and each bin is a damage bin
pub record CanSample (tiv : ℕ) (dictionary : List DamageBin) (bins : List Bin) : Type 0 where
  pub value : tiv ≤ 10 ^ 14
  pub ends : All IsDamageBin dictionary
  pub few : length bins ≤ length dictionary
  pub rising : AreBins 0 bins

-- where the bin before a place ends, for bins behind a probability
abbrev pub end_before : ℕ → List Bin → ℕ → Bin → ℕ
end_before before bins zero b = before
end_before before bins (suc k) b = (slice_index_or bins k b).prob_to

-- where the damage of the bin before a place ends
abbrev pub damage_before : ℕ → List DamageBin → ℕ → DamageBin → ℕ
damage_before high dictionary zero d = high
damage_before high dictionary (suc k) d = (slice_index_or dictionary k d).bin_to
