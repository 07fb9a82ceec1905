-- Lists of amounts with room, and what stands in them.
-- The rules: docs/CALCULATION.md, "Kinds of exceedance curves".
use Rattle.std.specs.Prelude.{◌≡◌, ◌<◌, ◌≤◌, ◌+◌, ◌-◌, ◌++◌, Bool, ℕ, List, length, take, slice_index_or}
use Rattle.kt_rec.specs.declared.perspective.CellKey.{CellKey}
use Rattle.kt_cell.specs.declared.cell.Cell.{Cell}
use Rattle.kt_cell.specs.Amounts.{amounts_of, of_sample}
use Rattle.kt_ranks.specs.declared.amount_list.AmountList.{AmountList}

-- the amounts of a list with room
abbrev pub listed : AmountList → List ℕ
listed list = take list.used list.values.items

-- whether a list has room for one amount more
abbrev pub HasRoom : AmountList → Type 0
HasRoom list = list.used < length list.values.items

-- a list without amounts, with room for so many
pub record IsRoom (room : ℕ) (list : AmountList) : Type 0 where
  pub none : list.used ≡ 0
  pub size : length list.values.items ≡ room

-- a list that has something more, one amount at the most
pub record HasMore (more : List ℕ) (old new : AmountList) : Type 0 where
  pub amounts : listed new ≡ listed old ++ more
  pub one : new.used ≤ old.used + 1
  pub size : length new.values.items ≡ length old.values.items

-- lists of the amounts of samples: the first has those of the last sample, and each other those of the sample before
abbrev pub AreSamplesDown : Bool → List (CellKey × Cell) → ℕ → List AmountList → Type 0
AreSamplesDown maxima entries last lists = (k : ℕ) (d : AmountList) → k < length lists → listed (slice_index_or lists k d) ≡ amounts_of maxima (of_sample (last - k)) entries

-- each list has something more, one amount at the most
abbrev pub HaveMore : (ℕ → List ℕ) → List AmountList → List AmountList → Type 0
HaveMore more old new = (k : ℕ) (d : AmountList) → k < length old → HasMore (more k) (slice_index_or old k d) (slice_index_or new k d)
