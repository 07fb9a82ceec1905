-- The rows of a summary, and the entries and amounts that they have.
-- The rules: docs/CALCULATION.md, "Periods".
use Rattle.std.specs.Prelude.{ℕ, zero, suc, Bool, true, false, ◌&&◌, ◌||◌, ◌≡◌, ◌≤◌, ◌-◌, length, slice_index, List, [], ◌∷◌, ◌++◌, map, All, Option, Some, None, not, nat_eq, if◌then◌else◌}
use Rattle.std.specs.List.{filter, list_any}
use Rattle.std.specs.Map.{keys_of}
use Rattle.kt_rec.specs.declared.perspective.Perspective.{Perspective}
use Rattle.kt_rec.specs.declared.perspective.CellKey.{CellKey}
use Rattle.kt_rec.specs.Rising.{IsRising as IdsRise}
use Rattle.kt_cell.specs.declared.cell.Cell.{Cell}
use Rattle.kt_period_cells.specs.declared.row.Row.{Row}
use Rattle.kt_period_cells.specs.declared.group.SummaryRow.{SummaryRow}
use Rattle.kt_period_cells.specs.declared.group.SummaryCells.{SummaryCells}
use Rattle.kt_period_cells.specs.declared.group.SetCells.{SetCells}
use Rattle.kt_cell.specs.Losses.{same_perspective}
use Rattle.kt_cell.specs.Sets.{same_bool, in_set, set_entries, summary_entries, IsGroup}
use Rattle.kt_cell.specs.Amounts.{amount_in}
use Rattle.kt_period_cells.specs.RowCells.{SampleCells, cells_of, IsRising, RowFits}
use Rattle.kt_period_cells.specs.Rows.{row_entries, entries_of, KeptRows}
use Rattle.kt_cell.specs.Standing.{KeptCells, has_total}

-- the amount of a place that has a cell
abbrev pub cell_amount : Bool → Cell → List ℕ
cell_amount maxima one = if has_total one then amount_in maxima (Some one) ∷ [] else []

-- whether there is a cell
abbrev pub has_any : SampleCells → Bool
has_any [] = false
has_any (one ∷ rest) = true

-- the amounts of the mean's cell among these, or of the samples' cells
abbrev pub cell_amounts : Bool → Bool → SampleCells → List ℕ
cell_amounts maxima mean cells = map (λ one. amount_in maxima (Some one.1)) (filter (λ one. same_bool (nat_eq one.0 0) mean) cells)

-- the row at a place
abbrev pub row_at : List Row → ℕ → Option Row
row_at [] place = None
row_at (row ∷ rows) zero = Some row
row_at (row ∷ rows) (suc place) = row_at rows place

-- the entries of a row, none where there is none
abbrev pub entries_in : Option Row → List (CellKey × Cell)
entries_in None = []
entries_in (Some row) = row_entries row

-- the entries of the rows at places
abbrev pub place_entries : List Row → List SummaryRow → List (CellKey × Cell)
place_entries rows [] = []
place_entries rows (place ∷ places) = entries_in (row_at rows place.row) ++ place_entries rows places

-- the entries of a summary
abbrev pub group_entries : SummaryCells → List (CellKey × Cell)
group_entries group = place_entries group.rows.now group.places.now

-- whether a key is of a summary of a set
abbrev pub of_summary : Perspective → ℕ → ℕ → CellKey → Bool
of_summary perspective set summary key = in_set perspective set key && nat_eq summary key.summary

-- whether a place is of a row of a summary
abbrev pub of_row : ℕ → SummaryRow → Bool
of_row summary place = nat_eq place.summary summary

-- the entries of a summary of a set
abbrev pub part_entries : SetCells → ℕ → List (CellKey × Cell)
part_entries part summary = place_entries part.rows.now (filter (of_row summary) part.places)

-- the rows of a set: those of each summary are within their bounds
pub record IsPart (part : SetCells) : Type 0 where
  pub groups : (summary : ℕ) → IsGroup part.perspective part.set part.periods part.samples summary (part_entries part summary)
  pub fits : All (RowFits part.periods part.samples) part.rows.now

-- the rows of a summary are within their bounds
pub record IsSummary (group : SummaryCells) : Type 0 where
  pub cells : IsGroup group.perspective group.set group.periods group.samples group.summary (group_entries group)
  pub fits : All (RowFits group.periods group.samples) group.rows.now

-- the samples of the cells of each row rise
abbrev pub AreRising : List Row → Type 0
AreRising rows = All (λ row. IsRising (cells_of row)) rows

-- the periods of rows are from 1 to this one
abbrev pub ArePeriods : ℕ → List Row → Type 0
ArePeriods periods rows = All (λ row. (1 ≤ row.key.period) × (row.key.period ≤ periods)) rows

-- whether a row is of a perspective and set and has cells
abbrev pub is_listed : Perspective → ℕ → Row → Bool
is_listed perspective set row = (same_perspective row.key.perspective perspective && nat_eq row.key.set set) && has_any (cells_of row)

-- these are places of the rows of a perspective and set: those of each summary are within their bounds, and have its entries
pub record IsSetOf (kept : KeptRows) (perspective : Perspective) (set : ℕ) (places : List SummaryRow) : Type 0 where
  pub groups : (summary : ℕ) → IsGroup perspective set kept.periods kept.samples summary (place_entries kept.rows (filter (of_row summary) places))
  pub entries : (summary : ℕ) → place_entries kept.rows (filter (of_row summary) places) ≡ summary_entries summary (set_entries perspective set (entries_of kept.rows))
  pub members : (id : ℕ) → list_any (λ place. nat_eq id place.summary) places ≡ list_any (of_summary perspective set id) (keys_of (set_entries perspective set (entries_of kept.rows)))

-- a summary and the place of a row
abbrev pub summary_row : ℕ → ℕ → SummaryRow
summary_row summary place = record { summary = summary; row = place }

-- the rows of a perspective and set that have cells, where the first of these rows stands at a place
abbrev pub places_from : ℕ → Perspective → ℕ → List Row → List SummaryRow
places_from place perspective set [] = []
places_from place perspective set (row ∷ rows) =
    if is_listed perspective set row then summary_row row.key.summary place ∷ places_from (suc place) perspective set rows else places_from (suc place) perspective set rows

-- whether an id is not the last of these
abbrev pub is_new : ℕ → List ℕ → Bool
is_new id ids = nat_eq (length ids) 0 || not (nat_eq (slice_index ids (length ids - 1)) id)

-- the cells of a perspective and set among kept ones, by summary: each summary's, and the ids of those that have one, rising
pub record IsOwnSet (kept : KeptCells) (perspective : Perspective) (set : ℕ) (part : SetCells) : Type 0 where
  pub inside : IsPart part
  pub whose : (part.perspective ≡ perspective) × (part.set ≡ set)
  pub size : (part.periods ≡ kept.periods) × (part.samples ≡ kept.samples)
  pub entries : (summary : ℕ) → part_entries part summary ≡ summary_entries summary (set_entries perspective set kept.entries)
  pub rising : IdsRise part.ids.items
  pub members : (id : ℕ) → list_any (nat_eq id) part.ids.items ≡ list_any (of_summary perspective set id) (keys_of (set_entries perspective set kept.entries))
