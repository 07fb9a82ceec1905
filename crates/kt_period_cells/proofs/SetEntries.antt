-- The entries of rows: their bounds, and that no key comes twice.
use Rattle.std.proofs.Common.{◌≡◌, ℕ, zero, suc, ◌≤◌, List, [], ◌∷◌, ◌++◌, map, arith, refl, ap, ◌∙◌, cond, Some, None, Option}
use Rattle.std.specs.Prelude.{Bool, true, false, All}
use Rattle.std.specs.Option.{option_or}
use Rattle.std.specs.List.{AllByRecursion, IsDistinct}
use Rattle.std.specs.Map.{keys_of}
use Rattle.std.proofs.lemmas.Bool.Decides.{nat_tests}
use Rattle.std.proofs.lemmas.List.Elements.{All-head, All-tail, All-nil, All-cons, All-append}
use Rattle.kt_rec.specs.declared.perspective.CellKey.{CellKey}
use Rattle.kt_cell.specs.declared.cell.Cell.{Cell}
use Rattle.kt_period_cells.specs.declared.row_key.RowKey.{RowKey}
use Rattle.kt_period_cells.specs.declared.row.Row.{Row}
use Rattle.kt_cell.specs.Losses.{same_key}
use Rattle.kt_cell.specs.Standing.{FitsCells, cell_at, sidx_in_range}
use Rattle.kt_cell.specs.Amounts.{sample_of}
use Rattle.kt_period_cells.specs.RowCells.{SampleCells, cells_of, CellFits, RowFits, IsRising, cell_in}
use Rattle.kt_period_cells.specs.Rows.{sidx_of, key_in, row_entries, entries_of, row_keys, Apart}
use Rattle.kt_period_cells.proofs.RowCells.{cell_absent}
use Rattle.kt_period_cells.proofs.OneRow.{row_cell}
use Rattle.kt_period_cells.proofs.Tables.{nowhere, found_append}

-- an entry
abbrev Entry : Type 0
Entry = CellKey × Cell

-- ---- the entries of a table

-- the sidx of a sample within the samples
sidx_within : (samples s : ℕ) → s ≤ samples → sidx_in_range samples (sidx_of s) ≡ true
sidx_within samples zero low = refl
sidx_within samples (suc k) low = grind (arith, nat_tests)

-- a row's entries are within their bounds
row_fitting : (periods samples : ℕ) (row : RowKey) (cells : SampleCells) → 1 ≤ row.period → row.period ≤ periods → All (CellFits samples) cells → All (λ (e : Entry). FitsCells periods samples e.0 e.1) (map (λ one. (key_in row one.0, one.1)) cells)
row_fitting periods samples row [] first last fits = All-nil _
row_fitting periods samples row (one ∷ cells) first last fits =
    let here : CellFits samples one = All-head (CellFits samples) one cells fits in
    All-cons (λ (e : Entry). FitsCells periods samples e.0 e.1) (key_in row one.0, one.1) (map (λ one. (key_in row one.0, one.1)) cells)
    (record { first = first; last = last; sidx = sidx_within samples one.0 here.sample; some = here.some; most = here.most; greatest = here.greatest })
    (row_fitting periods samples row cells first last (All-tail (CellFits samples) one cells fits))

-- and so are those of all rows
pub fitting : (periods samples : ℕ) (rows : List Row) → All (RowFits periods samples) rows → All (λ (e : Entry). FitsCells periods samples e.0 e.1) (entries_of rows)
fitting periods samples [] fits = All-nil _
fitting periods samples (row ∷ rows) fits =
    let here : RowFits periods samples row = All-head (RowFits periods samples) row rows fits in
    All-append (λ (e : Entry). FitsCells periods samples e.0 e.1) (row_entries row) (entries_of rows) (row_fitting periods samples row.key (cells_of row) here.first here.last here.cells)
    (fitting periods samples rows (All-tail (RowFits periods samples) row rows fits))

-- a key that is not found is none of the keys
none_found : (key : CellKey) (es : List Entry) → cell_at es key ≡ None → AllByRecursion (λ y. same_key key y ≡ false) (keys_of es)
none_found key [] missing = tt
none_found key (e ∷ es) missing = by_test (same_key key e.0) refl missing (none_found key es)
  where
    by_test : (b : Bool) → same_key key e.0 ≡ b → cond b (Some e.1) (cell_at es key) ≡ None → (cell_at es key ≡ None → AllByRecursion (λ y. same_key key y ≡ false) (keys_of es)) → AllByRecursion (λ y. same_key key y ≡ false) (keys_of (e ∷ es))
    by_test true same missing later = cc
    by_test false other missing later = (other, later missing)

-- the keys of a row and of entries that have none of them differ
row_distinct : (row : RowKey) (cells : SampleCells) (es : List Entry) → IsRising cells → ((s : ℕ) → cell_at es (key_in row s) ≡ None) → IsDistinct same_key (keys_of es) → IsDistinct same_key (keys_of (map (λ one. (key_in row one.0, one.1)) cells ++ es))
unfolding IsDistinct
row_distinct row [] es rising missing distinct = distinct
row_distinct row (one ∷ cells) es rising missing distinct = (
  none_found (key_in row one.0) (map (λ one. (key_in row one.0, one.1)) cells ++ es) (found_append (map (λ one. (key_in row one.0, one.1)) cells) es (key_in row one.0) ∙ ap (λ o. option_or o (cell_at es (key_in row one.0))) own ∙ missing one.0),
  row_distinct row cells es (λ i j less within. rising (suc i) (suc j) (omega (arith, less)) (omega (arith, within))) missing distinct,
)
  where
    back : sample_of (sidx_of one.0) ≡ one.0
    back = all one.0
      where
        all : (s : ℕ) → sample_of (sidx_of s) ≡ s
        all zero = refl
        all (suc k) = refl

    absent : cell_in cells (sample_of (sidx_of one.0)) ≡ None
    absent = ap (cell_in cells) back ∙ cell_absent cells one.0 (λ j less same. omega (arith, rising 0 (suc j) (omega arith) (omega (arith, less)), same))

    nothing : (b : Bool) (o : Option Cell) → cond b o o ≡ o
    nothing true o = refl
    nothing false o = refl

    own : cell_at (map (λ one. (key_in row one.0, one.1)) cells) (key_in row one.0) ≡ None
    own = row_cell row cells (key_in row one.0) ∙ ap (λ o. cond (same_key (key_in row (sample_of (sidx_of one.0))) (key_in row one.0)) o None) absent ∙ nothing (same_key (key_in row (sample_of (sidx_of one.0))) (key_in row one.0)) None

-- no key of rows comes twice
pub distinct : (periods samples : ℕ) (rows : List Row) → Apart (row_keys rows) → All (RowFits periods samples) rows → IsDistinct same_key (keys_of (entries_of rows))
unfolding IsDistinct
distinct periods samples [] apart fits = tt
distinct periods samples (row ∷ rows) apart fits =
    let here : RowFits periods samples row = All-head (RowFits periods samples) row rows fits in
    row_distinct row.key (cells_of row) (entries_of rows) here.rising (λ s. nowhere rows (key_in row.key s) apart.0) (distinct periods samples rows apart.1 (All-tail (RowFits periods samples) row rows fits))
