-- Whether rows have room for all losses of a record.
-- The rules: docs/CALCULATION.md, "Periods"; docs/LIMITS.md, "Cells".
use Rattle.std.specs.Prelude.{ℕ, ◌+◌, ◌≤◌, ◌≡◌, true, false, List, [], ◌∷◌, ◌++◌, length, All, Option, Some, None, sum_by, slice_index_or, slice_set, if◌then◌else◌}
use Rattle.std.specs.List.{flat_map}
use Rattle.kt_rec.specs.declared.perspective.Perspective.{Perspective}
use Rattle.kt_stream.specs.declared.entry.Pair.{Pair}
use Rattle.kt_period_cells.specs.declared.row.Row.{Row}
use Rattle.kt_period_cells.specs.declared.rows.Spot.{Spot}
use Rattle.kt_cell.specs.Losses.{KeyLoss, is_added}
use Rattle.kt_cell.specs.Standing.{Standing, most_total}
use Rattle.kt_period_cells.specs.RowCells.{AreLow, RowFits, cells_of}
use Rattle.kt_period_cells.specs.Rows.{Apart, entries_of, place_of, row_for, row_keys, spot_losses}
use Rattle.kt_period_cells.specs.SummaryRows.{row_at}

-- the samples of a row have places, and the total of each has room for so much more
pub record IsRoomy (more : ℕ) (row : Row) : Type 0 where
  pub some : 1 ≤ length row.places.items
  pub room : All (λ one. one.total + more ≤ most_total) row.places.items

-- a row that is there has room for so much more
abbrev pub IsRoomyAt : ℕ → Option Row → Type 0
IsRoomyAt more None = true ≡ false
IsRoomyAt more (Some row) = IsRoomy more row

-- so have the rows at spots
abbrev pub AreRoomy : ℕ → List Spot → List Row → Type 0
AreRoomy more spots rows = All (λ spot. IsRoomyAt more (row_at rows spot.row)) spots

-- the sum of the losses that are added up
abbrev pub added_sum : List Pair → ℕ
added_sum pairs = sum_by (λ pair. if is_added pair then pair.loss else 0) pairs

-- rows in one of which the losses of pairs were added stand for these losses too
abbrev pub AddsTo : ℕ → Row → List Pair → Row → Type 0
AddsTo samples old pairs new =
    (rows : List Row) (place : ℕ) (perspective : Perspective) (set summary period : ℕ) (before : List KeyLoss) → Apart (row_keys rows) → place_of (row_for perspective set summary period) (row_keys rows) ≡ Some place →
    old ≡ slice_index_or rows place old → Standing before (entries_of rows) →
    Standing (before ++ flat_map (spot_losses perspective set summary (record { period = period; row = place } ∷ [])) pairs) (entries_of (slice_set rows place new))

-- a row with a place for each sample, after the losses of pairs were added, by which so many cells are new
pub record Raises (samples : ℕ) (old new : Row) (pairs : List Pair) (opened : ℕ) : Type 0 where
  pub key : new.key ≡ old.key
  pub len : length new.places.items ≡ length old.places.items
  pub count : length (cells_of new) ≡ length (cells_of old) + opened
  pub few : opened ≤ length pairs
  pub fits : (periods : ℕ) → RowFits periods samples old → RowFits periods samples new
  pub totals : (most : ℕ) → AreLow most old.places.items → AreLow (most + added_sum pairs) new.places.items
  pub room : (more : ℕ) → All (λ one. one.total + (added_sum pairs + more) ≤ most_total) old.places.items → All (λ one. one.total + more ≤ most_total) new.places.items
  pub adds : AddsTo samples old pairs new
