-- How far the losses of a coverage's items have come.
-- The rule: docs/CALCULATION.md, "Coverage cut".
use Rattle.std.specs.Prelude.{◌≡◌, ℕ, ◌*◌, ◌<◌, ◌≤◌, List, length, map, take, drop}
use Rattle.std.specs.List.{flat_map, range_with_len}
use Rattle.kt_rec.specs.Rows.{Rows}
use Rattle.kt_stream.specs.declared.entry.Cdf.{Cdf}
use Rattle.kt_gul.specs.declared.struck.StruckItem.{StruckItem}
use Rattle.kt_gul.specs.GroundUp.{raw_loss}
use Rattle.kt_gul.specs.Coverage.{IsRow, group_total}

-- the losses of some struck items one behind the other, and their totals
pub record AreAdded (rows : Rows) (event : ℕ) (cdfs : List Cdf) (width : ℕ) (done : List StruckItem) (losses totals : List ℕ) : Type 0 where
  pub losses_are : losses ≡ flat_map (λ struck. map (raw_loss rows event cdfs struck.item) (range_with_len 0 width)) done
  pub totals_are : IsRow (group_total rows event cdfs done) width totals
  pub within : (place : ℕ) → place < width → group_total rows event cdfs done place ≤ length done * 100200100000000

-- the records of the first struck items are appended; the losses of the others are left
pub record ArePushed (rows : Rows) (event : ℕ) (cdfs : List Cdf) (width : ℕ) (group : List StruckItem) (i : ℕ) (rest before : List ℕ) : Type 0 where
  pub rest_are : rest ≡ flat_map (λ struck. map (raw_loss rows event cdfs struck.item) (range_with_len 0 width)) (drop i group)
  pub before_are : IsRow (group_total rows event cdfs (take i group)) width before
