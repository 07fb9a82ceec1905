-- What kept cells stand for: the totals and maxima of a list of losses.
-- The rules: docs/CALCULATION.md, "Periods".
use Rattle.std.specs.Prelude.{ℕ, zero, suc, ℤ, pos, negsuc, Bool, true, false, ◌&&◌, ◌+◌, ◌≤◌, ◌≡◌, List, [], ◌∷◌, ◌++◌, length, max, nat_eq, nat_lt, nat_le, not, is_some, if◌then◌else◌, Option, Some, None}
use Rattle.std.specs.Map.{lookup}
use Rattle.kt_rec.specs.declared.perspective.CellKey.{CellKey}
use Rattle.kt_cell.specs.declared.cell.Cell.{Cell}
use Rattle.kt_cell.specs.declared.cell.CellStop.{CellStop}
use Rattle.kt_cell.specs.declared.cell.CellStop.TheVariants as cell_stop
use Rattle.kt_cell.specs.Losses.{KeyLoss, Added, all_losses, same_key, total, maximum, opens, cell_count}

-- the most cells
abbrev pub most_cells : ℕ
most_cells = 20000000

-- the greatest total of a period, in cents
abbrev pub most_total : ℕ
most_total = 1000000000000000

-- why the cells of some losses refuse one more: it makes one cell too many, or the total of its key too great
abbrev pub stop_at : List KeyLoss → KeyLoss → Option CellStop
stop_at before one =
    if opens before one && nat_le most_cells (cell_count before) then Some (cell_stop.Cells (cell_count before))
    else (if nat_lt most_total (total before one.key + one.loss) then Some (cell_stop.Period one.key (total before one.key) one.loss)
    else None)

-- the first of two causes
abbrev pub or_else : Option CellStop → Option CellStop → Option CellStop
or_else (Some stop) later = Some stop
or_else None later = later

-- why the cells of some losses refuse further ones: the first cause in their order
abbrev pub first_stop : List KeyLoss → List KeyLoss → Option CellStop
first_stop before [] = None
first_stop before (one ∷ rest) = or_else (stop_at before one) (first_stop (before ++ one ∷ []) rest)

-- the cell of a key with this total and this maximum; a key with a total of 0 has none
abbrev pub cell_of : ℕ → ℕ → Option Cell
cell_of sum greatest = if nat_eq sum 0 then None else Some (record { total = sum; maximum = greatest })

-- the cell that entries have for a key
abbrev pub cell_at : List (CellKey × Cell) → CellKey → Option Cell
cell_at entries key = lookup (same_key key) entries

-- whether a place has a cell
abbrev pub has_total : Cell → Bool
has_total one = not (nat_eq one.total 0)

-- how many cells there are of a key: one or none
abbrev pub one_of : Option Cell → ℕ
one_of found = if is_some found then 1 else 0

-- the total of a key's cell, 0 where it has none
abbrev pub total_in : Option Cell → ℕ
total_in None = 0
total_in (Some cell) = cell.total

-- the maximum of a key's cell, 0 where it has none
abbrev pub maximum_in : Option Cell → ℕ
maximum_in None = 0
maximum_in (Some cell) = cell.maximum

-- why so many cells, among them this one of the key, refuse a loss
abbrev pub refusal_of : ℕ → Option Cell → CellKey → ℕ → Option CellStop
refusal_of held None key loss = if nat_le most_cells held then Some (cell_stop.Cells held) else (if nat_lt most_total loss then Some (cell_stop.Period key 0 loss) else None)
refusal_of held (Some cell) key loss = if nat_lt most_total (cell.total + loss) then Some (cell_stop.Period key cell.total loss) else None

-- the cell of a key after one more loss
abbrev pub raised : Option Cell → ℕ → Cell
raised old loss = record { total = total_in old + loss; maximum = max (maximum_in old) loss }

-- entries that hold the totals and maxima of these losses, for each key with a total above 0
pub record Standing (losses : List KeyLoss) (entries : List (CellKey × Cell)) : Type 0 where
  pub cells : (key : CellKey) → cell_at entries key ≡ cell_of (total losses key) (maximum losses key)
  pub count : length entries ≡ cell_count losses

-- cells, as contracts see them: the number of periods and of samples, and an entry for each key with a total above 0, in an
-- order that is not promised
pub record KeptCells : Type 0 where
  pub periods : ℕ
  pub samples : ℕ
  pub entries : List (CellKey × Cell)

-- cells that stand for these records
abbrev pub StandsFor : List Added → KeptCells → Type 0
StandsFor history kept = Standing (all_losses history) kept.entries

-- whether a sidx has cells, with so many samples
abbrev pub sidx_in_range : ℕ → ℤ → Bool
sidx_in_range samples (pos zero) = false
sidx_in_range samples (pos (suc k)) = nat_lt k samples
sidx_in_range samples (negsuc zero) = true
sidx_in_range samples (negsuc (suc k)) = false

-- an entry within the bounds of its cells
pub record FitsCells (periods samples : ℕ) (key : CellKey) (cell : Cell) : Type 0 where
  pub first : 1 ≤ key.period
  pub last : key.period ≤ periods
  pub sidx : sidx_in_range samples key.sidx ≡ true
  pub some : 1 ≤ cell.total
  pub most : cell.total ≤ most_total
  pub greatest : cell.maximum ≤ most_total
