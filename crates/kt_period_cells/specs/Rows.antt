-- The rows of cells, and the entries that they hold.
-- The rules: docs/CALCULATION.md, "Periods".
use Rattle.std.specs.Prelude.{ℕ, zero, suc, ℤ, pos, negsuc, Bool, ◌&&◌, ◌≡◌, ◌≤◌, List, [], ◌∷◌, ◌++◌, map, length, All, Option, Some, None, nat_eq, if◌then◌else◌}
use Rattle.std.specs.Option.{option_map}
use Rattle.std.specs.Map.{lookup}
use Rattle.kt_rec.specs.declared.perspective.Perspective.{Perspective}
use Rattle.kt_rec.specs.declared.perspective.Perspective.TheVariants.{Gul, Il, Ri}
use Rattle.kt_rec.specs.declared.perspective.CellKey.{CellKey}
use Rattle.kt_cell.specs.declared.cell.Cell.{Cell}
use Rattle.kt_period_cells.specs.declared.row_key.RowKey.{RowKey}
use Rattle.kt_period_cells.specs.declared.row_key.IndexKey.{IndexKey}
use Rattle.kt_period_cells.specs.declared.row.Row.{Row}
use Rattle.kt_period_cells.specs.declared.rows.Spot.{Spot}
use Rattle.kt_stream.specs.declared.entry.Pair.{Pair}
use Rattle.kt_cell.specs.Losses.{KeyLoss, key_of, is_added}
use Rattle.kt_period_cells.specs.RowCells.{HasBound, RowFits, cells_of}

-- the number of a perspective
abbrev pub perspective_number : Perspective → ℕ
perspective_number Gul = 0
perspective_number Il = 1
perspective_number Ri = 2

-- a row's key in the index
abbrev pub index_key : RowKey → IndexKey
index_key row = record { perspective = perspective_number row.perspective; set = row.set; summary = row.summary; period = row.period }

-- whether two keys of the index are the same
abbrev pub same_index : IndexKey → IndexKey → Bool
same_index one other = nat_eq one.perspective other.perspective && (nat_eq one.set other.set && (nat_eq one.summary other.summary && nat_eq one.period other.period))

-- whether two rows are the same
abbrev pub same_row : RowKey → RowKey → Bool
same_row one other = same_index (index_key one) (index_key other)

-- the row of a perspective, set, summary and period
abbrev pub row_for : Perspective → ℕ → ℕ → ℕ → RowKey
row_for perspective set summary period = record { perspective = perspective; set = set; summary = summary; period = period }

-- the row to which a cell belongs
abbrev pub row_of : CellKey → RowKey
row_of key = row_for key.perspective key.set key.summary key.period

-- the sidx of a sample, that of the mean for 0
abbrev pub sidx_of : ℕ → ℤ
sidx_of zero = negsuc 0
sidx_of (suc k) = pos (suc k)

-- the key of a sample's cell in a row
abbrev pub key_in : RowKey → ℕ → CellKey
key_in row sample = key_of row.perspective row.set row.summary (sidx_of sample) row.period

-- the entries that a row holds
abbrev pub row_entries : Row → List (CellKey × Cell)
row_entries row = map (λ one. (key_in row.key one.0, one.1)) (cells_of row)

-- the entries that rows hold
abbrev pub entries_of : List Row → List (CellKey × Cell)
entries_of [] = []
entries_of (row ∷ rows) = row_entries row ++ entries_of rows

-- the keys of rows
abbrev pub row_keys : List Row → List RowKey
row_keys rows = map (λ row. row.key) rows

-- where a row stands among rows with these keys
abbrev pub place_of : RowKey → List RowKey → Option ℕ
place_of row [] = None
place_of row (first ∷ rest) = if same_row row first then Some 0 else option_map suc (place_of row rest)

-- no row stands twice
abbrev pub Apart : List RowKey → Type 0
Apart [] = Unit {0}
Apart (first ∷ rest) = (place_of first rest ≡ None) × Apart rest

-- none of these keys is among others
abbrev pub AreAbsent : List RowKey → List RowKey → Type 0
AreAbsent [] rows = Unit {0}
AreAbsent (first ∷ rest) rows = (place_of first rows ≡ None) × AreAbsent rest rows

-- an index finds each of these rows, and no other
abbrev pub IsIndexOf : List (IndexKey × ℕ) → List Row → Type 0
IsIndexOf index rows = (row : RowKey) → lookup (same_index (index_key row)) index ≡ place_of row (row_keys rows)

-- rows as contracts see them: for so many periods and samples
pub record KeptRows : Type 0 where
  pub periods : ℕ
  pub samples : ℕ
  pub rows : List Row

-- rows within their bounds, each once and found by the index, and so many cells
pub record IsTable (periods samples held : ℕ) (index : List (IndexKey × ℕ)) (rows : List Row) : Type 0 where
  pub some : 1 ≤ periods
  pub few : periods ≤ 100000
  pub some_samples : 1 ≤ samples
  pub few_samples : samples ≤ 1000
  pub fits : All (RowFits periods samples) rows
  pub bounds : All HasBound rows
  pub found : IsIndexOf index rows
  pub apart : Apart (row_keys rows)
  pub count : held ≡ length (entries_of rows)

-- the same rows stand at the same places, with others behind them or none
abbrev pub Keeps : List RowKey → List RowKey → Type 0
Keeps old new = (row : RowKey) (place : ℕ) → place_of row old ≡ Some place → place_of row new ≡ Some place

-- where a summary's row of a period stands
abbrev pub IsSpot : Perspective → ℕ → ℕ → List RowKey → Spot → Type 0
IsSpot perspective set summary rows spot = place_of (row_for perspective set summary spot.period) rows ≡ Some spot.row

-- the loss of a pair in the period of a row
abbrev pub spot_loss : Perspective → ℕ → ℕ → Pair → Spot → KeyLoss
spot_loss perspective set summary pair spot = record { key = key_of perspective set summary pair.sidx spot.period; loss = pair.loss }

-- the losses of a pair, one for each row
abbrev pub spot_losses : Perspective → ℕ → ℕ → List Spot → Pair → List KeyLoss
spot_losses perspective set summary spots pair = if is_added pair then map (spot_loss perspective set summary pair) spots else []
