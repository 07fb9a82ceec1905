-- The bounds of rows and of a table, after one row changed or was put behind the others.
use Rattle.std.proofs.Common.{◌≡◌, ℕ, suc, ◌+◌, ◌<◌, ◌≤◌, ◌⊎◌, inl, inr, List, [], ◌∷◌, ◌++◌, length, map, get_or, set, arith, refl, sym, ap, ◌∙◌, subst, cond, Some, None, Option}
use Rattle.std.specs.Prelude.{ℤ, Bool, true, false, All, nat_eq, IfSome}
use Rattle.std.proofs.lemmas.Bool.Decides.{nat_tests}
use Rattle.std.proofs.lemmas.List.Elements.{All-set, All-append, All-cons, All-nil, All-head, All-tail, All-get_or}
use Rattle.std.specs.Map.{lookup}
use Rattle.kt_cell.specs.declared.cell.Cell.{Cell}
use Rattle.kt_period_cells.specs.declared.row_key.RowKey.{RowKey}
use Rattle.kt_period_cells.specs.declared.row_key.IndexKey.{IndexKey}
use Rattle.kt_period_cells.specs.declared.row.Row.{Row}
use Rattle.kt_cell.specs.Standing.{sidx_in_range, total_in, maximum_in, most_total, raised}
use Rattle.kt_cell.specs.Amounts.{sample_of}
use Rattle.kt_period_cells.specs.RowCells.{AreLow, HasBound, cells_of, IsWide, SampleCells, cell_in, listed_or_placed, placed, with_place, RowFits, CellFits, Changes}
use Rattle.kt_period_cells.specs.Rows.{index_key, same_index, same_row, row_keys, place_of, key_in, entries_of, IsTable}
use Rattle.kt_period_cells.proofs.RowKeys.{sample_within}
use Rattle.kt_period_cells.proofs.Places.{keys_set, place_more, apart_push, keys_push, length_keys}
use Rattle.kt_period_cells.proofs.Tables.{length_set, entries_push, entries_same}

-- a row within its bounds, after one of its cells changed
pub fits_changed : (periods samples s : ℕ) (old new : Row) (cell : Option Cell) → RowFits periods samples old → Changes old new s cell → IfSome cell (λ one. CellFits samples (s, one)) → RowFits periods samples new
fits_changed periods samples s old new cell fits changes one =
    record { first = rw changes.key fits.first; last = rw changes.key fits.last; wide = changes.wide samples fits.wide; rising = changes.rising; cells = changes.fits samples fits.cells one }

-- and a row with the key and the cells of another
pub fits_same : (periods samples : ℕ) (old new : Row) → RowFits periods samples old → new.key ≡ old.key → new.places.items ≡ old.places.items → (cells_of new) ≡ (cells_of old) → RowFits periods samples new
fits_same periods samples old new fits key places items =
    record { first = rw key fits.first; last = rw key fits.last; wide = rw places fits.wide; rising = rw items fits.rising; cells = rw items fits.cells }

-- a row of a table is within its bounds
pub table_row : (periods samples held : ℕ) (index : List (IndexKey × ℕ)) (rows : List Row) (i : ℕ) (row : Row) → IsTable periods samples held index rows → i < length rows → row ≡ get_or rows i row → RowFits periods samples row
table_row periods samples held index rows i row table within is = subst (RowFits periods samples) (sym is) (All-get_or (RowFits periods samples) rows i row within table.fits)

-- and no total is above the bound that it keeps
pub table_bound : (periods samples held : ℕ) (index : List (IndexKey × ℕ)) (rows : List Row) (i : ℕ) (row : Row) → IsTable periods samples held index rows → i < length rows → row ≡ get_or rows i row → HasBound row
table_bound periods samples held index rows i row table within is = subst HasBound (sym is) (All-get_or HasBound rows i row within table.bounds)

-- the totals of places whose cells are within the bounds
placed_low : (samples k : ℕ) (cs : List Cell) → All (CellFits samples) (placed k cs) → AreLow most_total cs
placed_low samples k [] all = All-nil _
placed_low samples k (one ∷ rest) all = by_test (nat_eq one.total 0) refl all (placed_low samples (suc k) rest)
  where
    low : Cell → Type 0
    low one = one.total ≤ most_total

    by_test : (b : Bool) → nat_eq one.total 0 ≡ b → All (CellFits samples) (with_place b k one (placed (suc k) rest)) → (All (CellFits samples) (placed (suc k) rest) → AreLow most_total rest) → AreLow most_total (one ∷ rest)
    by_test true none all later = let zero_is : one.total ≡ 0 = grind (arith, nat_tests, none) in All-cons low one rest (omega (arith, zero_is)) (later all)
    by_test false some all later = All-cons low one rest (All-head (CellFits samples) (k, one) (placed (suc k) rest) all).most (later (All-tail (CellFits samples) (k, one) (placed (suc k) rest) all))

-- a row within the bounds, whose own bound is the greatest total
pub fits_bound : (samples : ℕ) (row : Row) → All (CellFits samples) (cells_of row) → row.most ≡ most_total → HasBound row
fits_bound samples row all most = subst (λ n. AreLow n row.places.items) (sym most) (low row.listed.items row.places.items all)
  where
    low : (listed : SampleCells) (cs : List Cell) → All (CellFits samples) (listed_or_placed listed cs) → AreLow most_total cs
    low listed [] all = All-nil _
    low listed (x ∷ cs) all = placed_low samples 0 (x ∷ cs) all

-- the same, or the row is as it was
pub bound_after : (samples : ℕ) (old new : Row) → HasBound old → All (CellFits samples) (cells_of new) → (new ≡ old) ⊎ (new.most ≡ most_total) → HasBound new
bound_after samples old new bound all (inl same) = subst HasBound (sym same) bound
bound_after samples old new bound all (inr most) = fits_bound samples new all most

-- what is found in a row within its bounds
pub found_bounds : (samples s : ℕ) (cells : SampleCells) → All (CellFits samples) cells → (total_in (cell_in cells s) ≤ most_total) × (maximum_in (cell_in cells s) ≤ most_total)
found_bounds samples s [] all = (omega arith, omega arith)
found_bounds samples s (one ∷ cells) all =
    by_test (nat_eq s one.0) (All-head (CellFits samples) one cells all) (found_bounds samples s cells (All-tail (CellFits samples) one cells all))
  where
    by_test : (b : Bool) → CellFits samples one → (total_in (cell_in cells s) ≤ most_total) × (maximum_in (cell_in cells s) ≤ most_total) →
        (total_in (cond b (Some one.1) (cell_in cells s)) ≤ most_total) × (maximum_in (cond b (Some one.1) (cell_in cells s)) ≤ most_total)
    by_test true here later = (here.most, here.greatest)
    by_test false here later = later

-- a raised cell is within the bounds
pub raised_fits : (samples s : ℕ) (x : ℤ) (old : Option Cell) (loss : ℕ) → sidx_in_range samples x ≡ true → s ≡ sample_of x → 1 ≤ loss → total_in old + loss ≤ most_total → maximum_in old ≤ most_total → CellFits samples (s, raised old loss)
raised_fits samples s x old loss within is some room greatest =
    record { sample = rw is (sample_within samples x within); some = omega arith; most = room; greatest = omega (arith, greatest, room) }

-- with one row in the place of another
pub table_set : (periods samples held new_held : ℕ) (index : List (IndexKey × ℕ)) (rows : List Row) (i : ℕ) (old new : Row) → IsTable periods samples held index rows → i < length rows → old ≡ get_or rows i old →
    new.key ≡ old.key → RowFits periods samples new → HasBound new → new_held + length (cells_of old) ≡ held + length (cells_of new) → IsTable periods samples new_held index (set rows i new)
table_set periods samples held new_held index rows i old new table within is key fits bound count =
    let keys = keys_set rows i old new is key in
    record {
      some = table.some;
      few = table.few;
      some_samples = table.some_samples;
      few_samples = table.few_samples;
      fits = All-set (RowFits periods samples) rows i new fits table.fits;
      bounds = All-set HasBound rows i new bound table.bounds;
      found = λ row. rw keys (table.found row);
      apart = rw keys table.apart;
      count = omega (arith, count, table.count, length_set rows i old new within is);
    }

-- with one row more
pub table_push : (periods samples held : ℕ) (index new_index : List (IndexKey × ℕ)) (rows : List Row) (key : RowKey) (new : Row) → IsTable periods samples held index rows → place_of key (row_keys rows) ≡ None →
    1 ≤ key.period → key.period ≤ periods → new.key ≡ key → (cells_of new) ≡ [] → IsWide samples new.places.items → HasBound new →
    ((q : IndexKey) → lookup (same_index q) new_index ≡ cond (same_index (index_key key) q) (Some (length rows)) (lookup (same_index q) index)) →
    IsTable periods samples held new_index (rows ++ new ∷ [])
table_push periods samples held index new_index rows key new table missing first last key_is empty wide bound found =
    let keys = keys_push rows new key key_is in
    record {
      some = table.some;
      few = table.few;
      some_samples = table.some_samples;
      few_samples = table.few_samples;
      fits = All-append (RowFits periods samples) rows (new ∷ []) table.fits (All-cons (RowFits periods samples) new [] fits (All-nil _));
      bounds = All-append HasBound rows (new ∷ []) table.bounds (All-cons HasBound new [] bound (All-nil _));
      found = λ row. rw keys (found (index_key row) ∙ ap (cond (same_row key row) (Some (length rows))) (table.found row) ∙ ap (λ n. cond (same_row key row) (Some n) (place_of row (row_keys rows))) (sym (length_keys rows)) ∙ place_more key row (row_keys rows) missing);
      apart = rw keys (apart_push (row_keys rows) key table.apart missing);
      count = table.count ∙ ap length (sym (entries_push rows new empty));
    }
  where
    fits : RowFits periods samples new
    fits = record {
      first = rw key_is first;
      last = rw key_is last;
      wide = wide;
      rising = rw empty (λ i j less within. absurd (omega (arith, within)));
      cells = rw empty (All-nil (CellFits samples));
    }

-- with the cells of one row in other places
pub table_widened : (periods samples held : ℕ) (index : List (IndexKey × ℕ)) (rows : List Row) (i : ℕ) (old new : Row) → IsTable periods samples held index rows → i < length rows → old ≡ get_or rows i old →
    new.key ≡ old.key → cells_of new ≡ cells_of old → IsWide samples new.places.items → (new ≡ old) ⊎ (new.most ≡ most_total) → IsTable periods samples held index (set rows i new)
table_widened periods samples held index rows i old new table within is key cells wide bound =
    let fits = table_row periods samples held index rows i old table within is in
    let all : All (CellFits samples) (cells_of new) = rw cells fits.cells in
    table_set periods samples held held index rows i old new table within is key
    (record { first = rw key fits.first; last = rw key fits.last; wide = wide; rising = rw cells fits.rising; cells = all })
    (bound_after samples old new (table_bound periods samples held index rows i old table within is) all bound)
    (let same : length (cells_of new) ≡ length (cells_of old) = ap length cells in omega (arith, same))

-- and their entries
pub entries_widened : (rows : List Row) (i : ℕ) (old new : Row) → old ≡ get_or rows i old → new.key ≡ old.key → cells_of new ≡ cells_of old → entries_of (set rows i new) ≡ entries_of rows
entries_widened rows i old new is key cells =
    entries_same rows i old new is (ap (λ (k : RowKey). map (λ one. (key_in k one.0, one.1)) (cells_of new)) key ∙ ap (λ (found : SampleCells). map (λ one. (key_in old.key one.0, one.1)) found) cells)
