-- The cells of a row: what one summary has in one period, by rising sample.
-- The rules: docs/CALCULATION.md, "Periods".
use Rattle.std.specs.Prelude.{ℕ, suc, ◌≡◌, ◌+◌, ◌<◌, ◌≤◌, Bool, true, false, List, [], ◌∷◌, length, All, Option, Some, None, nat_eq, nat_le, slice_index_or, if◌then◌else◌, IfSome, ◌-◌}
use Rattle.std.specs.Map.{lookup}
use Rattle.kt_cell.specs.declared.cell.Cell.{Cell}
use Rattle.kt_period_cells.specs.declared.row.Row.{Row}
use Rattle.kt_cell.specs.Standing.{most_total, one_of}

-- cells, each with its sample, that of the mean being 0
abbrev pub SampleCells : Type 0
SampleCells = List (ℕ × Cell)

-- cells of higher samples, with that of a sample before them, unless it has none
abbrev pub with_place : Bool → ℕ → Cell → SampleCells → SampleCells
with_place true sample one rest = rest
with_place false sample one rest = (sample, one) ∷ rest

-- the cells of places, from that of a sample up: a total of 0 is no cell
abbrev pub placed : ℕ → List Cell → SampleCells
placed sample [] = []
placed sample (one ∷ rest) = with_place (nat_eq one.total 0) sample one (placed (suc sample) rest)

-- the cells of places where there are any, else those that are listed
abbrev pub listed_or_placed : SampleCells → List Cell → SampleCells
listed_or_placed listed [] = listed
listed_or_placed listed (one ∷ rest) = placed 0 (one ∷ rest)

-- the cells of a row
abbrev pub cells_of : Row → SampleCells
cells_of row = listed_or_placed row.listed.items row.places.items

-- a sample has a place where there are any
abbrev pub HasPlace : ℕ → List Cell → Type 0
HasPlace sample [] = Unit {0}
HasPlace sample (one ∷ rest) = sample < length (one ∷ rest)

-- each sample has a place, or none has
abbrev pub IsWide : ℕ → List Cell → Type 0
IsWide samples [] = Unit {0}
IsWide samples (one ∷ rest) = length (one ∷ rest) ≡ samples + 1

-- the cell of a sample
abbrev pub cell_in : SampleCells → ℕ → Option Cell
cell_in cells sample = lookup (nat_eq sample) cells

-- the sample of the cell at a place
abbrev pub sample_at : SampleCells → ℕ → ℕ
sample_at cells place = let one = slice_index_or cells place (0, record { total = 0; maximum = 0 }) in one.0

-- the samples rise, so none has two cells
abbrev pub IsRising : SampleCells → Type 0
IsRising cells = (i j : ℕ) → i < j → j < length cells → sample_at cells i < sample_at cells j

-- the cell of a sample stands at a place
pub record IsAt (cells : SampleCells) (sample place : ℕ) : Type 0 where
  pub within : place < length cells
  pub same : sample_at cells place ≡ sample

-- the cell of a sample would go to a place: lower samples before it, and higher ones from it on
pub record IsGap (cells : SampleCells) (sample place : ℕ) : Type 0 where
  pub within : place ≤ length cells
  pub lower : (j : ℕ) → j < place → sample_at cells j < sample
  pub higher : (j : ℕ) → place ≤ j → j < length cells → sample < sample_at cells j

-- no total of places is above a bound
abbrev pub AreLow : ℕ → List Cell → Type 0
AreLow most places = All (λ one. one.total ≤ most) places

-- no total of the places of a row is above the bound that it keeps
abbrev pub HasBound : Row → Type 0
HasBound row = AreLow row.most row.places.items

-- a cell within the bounds
pub record CellFits (samples : ℕ) (one : ℕ × Cell) : Type 0 where
  pub sample : one.0 ≤ samples
  pub some : 1 ≤ one.1.total
  pub most : one.1.total ≤ most_total
  pub greatest : one.1.maximum ≤ most_total

-- a row within the bounds
pub record RowFits (periods samples : ℕ) (row : Row) : Type 0 where
  pub first : 1 ≤ row.key.period
  pub last : row.key.period ≤ periods
  pub wide : IsWide samples row.places.items
  pub rising : IsRising (cells_of row)
  pub cells : All (CellFits samples) (cells_of row)

-- the second row has the cells of the first but for one sample, which has this cell, or none
pub record Changes (old new : Row) (sample : ℕ) (cell : Option Cell) : Type 0 where
  pub key : new.key ≡ old.key
  pub wide : (samples : ℕ) → IsWide samples old.places.items → IsWide samples new.places.items
  pub cells : (other : ℕ) → cell_in (cells_of new) other ≡ (if nat_eq sample other then cell else cell_in (cells_of old) other)
  pub count : length (cells_of new) + one_of (cell_in (cells_of old) sample) ≡ length (cells_of old) + one_of cell
  pub rising : IsRising (cells_of new)
  pub fits : (samples : ℕ) → All (CellFits samples) (cells_of old) → IfSome cell (λ one. CellFits samples (sample, one)) → All (CellFits samples) (cells_of new)

-- a cell without a loss, with the greatest loss before; none where nothing is left
abbrev pub lowered : Cell → ℕ → ℕ → Option Cell
lowered cell loss greatest = if nat_le cell.total loss then None else Some (record { total = cell.total - loss; maximum = greatest })

-- the second row is the first without a loss of a sample, and has so many cells fewer
pub record Lowers (old new : Row) (sample loss greatest gone : ℕ) : Type 0 where
  pub some : (cell : Cell) → cell_in (cells_of old) sample ≡ Some cell → Changes old new sample (lowered cell loss greatest)
  pub none : cell_in (cells_of old) sample ≡ None → new ≡ old
  pub count : length (cells_of new) + gone ≡ length (cells_of old)
