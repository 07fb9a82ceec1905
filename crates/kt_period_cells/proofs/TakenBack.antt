-- One loss taken from rows: their bounds, and what their entries stand for after it.
use Rattle.std.proofs.Common.{◌≡◌, ◌⊎◌, inl, inr, ⊎_elim, ℕ, zero, suc, ◌-◌, ◌<◌, ◌≤◌, List, [], ◌∷◌, ◌++◌, length, get_or, set, arith, refl, sym, ap, ◌∙◌, subst, cond, length-append}
use Rattle.std.specs.Prelude.{Bool, true, false, All, Option, Some, None, IfSome, nat_eq, nat_le}
use Rattle.std.proofs.lemmas.Bool.Decides.{nat_tests, Decides-eqb}
use Rattle.std.proofs.lemmas.List.Elements.{All-head, All-tail}
use Rattle.kt_cell.specs.Amounts.{sample_of}
use Rattle.kt_cell.specs.Losses.{KeyLoss, maximum, same_key}
use Rattle.kt_cell.specs.Standing.{Standing, cell_at, most_total, one_of}
use Rattle.kt_rec.specs.declared.perspective.CellKey.{CellKey}
use Rattle.kt_cell.specs.declared.cell.Cell.{Cell}
use Rattle.kt_period_cells.specs.declared.row.Row.{Row}
use Rattle.kt_period_cells.specs.RowCells.{cells_of, SampleCells, cell_in, CellFits, RowFits, Changes, Lowers, lowered}
use Rattle.kt_period_cells.specs.Rows.{entries_of, row_entries, row_keys, row_of, key_in, place_of, Apart}
use Rattle.kt_cell.specs.SameKeys.{same_exact}
use Rattle.kt_period_cells.proofs.Steps.{to_key, take_out, take_down, never_missing}
use Rattle.kt_period_cells.proofs.Tables.{length_set, entries_set, found_row, nowhere, cell_is}
use Rattle.kt_period_cells.proofs.OneRow.{length_row, row_changes, row_cell}
use Rattle.kt_period_cells.proofs.RowBounds.{fits_changed}

-- a cell, or none
cell_or_none : (o : Option Cell) → (o ≡ None) ⊎ ((cell : Cell) × (o ≡ Some cell))
cell_or_none None = inl refl
cell_or_none (Some cell) = inr (cell, refl)

-- a cell that is found is within the bounds
found_fits : (samples s : ℕ) (cells : SampleCells) (cell : Cell) → All (CellFits samples) cells → cell_in cells s ≡ Some cell → CellFits samples (s, cell)
found_fits samples s [] cell all found = cc
found_fits samples s (one ∷ cells) cell all found =
    by_test (nat_eq s one.0) refl found (All-head (CellFits samples) one cells all) (λ later. found_fits samples s cells cell (All-tail (CellFits samples) one cells all) later)
  where
    by_test : (b : Bool) → nat_eq s one.0 ≡ b → cond b (Some one.1) (cell_in cells s) ≡ Some cell → CellFits samples one → (cell_in cells s ≡ Some cell → CellFits samples (s, cell)) → CellFits samples (s, cell)
    by_test true same is here later =
        let sample_is : s ≡ one.0 = (Decides-eqb s one.0).0 same in
        let cell_is : cell ≡ one.1 = cc in
        record { sample = rw sample_is here.sample; some = rw cell_is here.some; most = rw cell_is here.most; greatest = rw cell_is here.greatest }
    by_test false same is here later = later is

-- what is left of a cell is within the bounds
lowered_fits : (samples s loss greatest : ℕ) (cell : Cell) → greatest ≤ most_total → CellFits samples (s, cell) → IfSome (lowered cell loss greatest) (λ one. CellFits samples (s, one))
lowered_fits samples s loss greatest cell low fits = by_test (nat_le cell.total loss) (λ over. grind (arith, nat_tests))
  where
    by_test : (b : Bool) → (b ≡ false → loss < cell.total) → IfSome (cond b None (Some (record { total = cell.total - loss; maximum = greatest }))) (λ one. CellFits samples (s, one))
    by_test true over = tt
    by_test false over =
        let more : loss < cell.total = over refl in
        record { sample = fits.sample; some = omega (arith, more); most = omega (arith, fits.most); greatest = low }

-- the row without a loss is the same row
pub lowers_key : (s loss greatest gone : ℕ) (old new : Row) → Lowers old new s loss greatest gone → new.key ≡ old.key
lowers_key s loss greatest gone old new lowers =
    ⊎_elim (λ missing. ap (λ (row : Row). row.key) (lowers.none missing)) (λ found. let changes : Changes old new s (lowered found.0 loss greatest) = lowers.some found.0 found.1 in changes.key) (cell_or_none (cell_in (cells_of old) s))

-- and is within its bounds
pub lowers_fits : (periods samples s loss greatest gone : ℕ) (old new : Row) → greatest ≤ most_total → RowFits periods samples old → Lowers old new s loss greatest gone → RowFits periods samples new
lowers_fits periods samples s loss greatest gone old new low fits lowers =
    ⊎_elim (λ missing. subst (RowFits periods samples) (sym (lowers.none missing)) fits)
    (λ found. fits_changed periods samples s old new (lowered found.0 loss greatest) fits (lowers.some found.0 found.1) (lowered_fits samples s loss greatest found.0 low (found_fits samples s (cells_of old) found.0 fits.cells found.1)))
    (cell_or_none (cell_in (cells_of old) s))

-- a row holds no more cells than all rows
pub row_length : (rows : List Row) (i : ℕ) (row : Row) → i < length rows → row ≡ get_or rows i row → length (cells_of row) ≤ length (entries_of rows)
row_length [] i row within is = absurd (omega (arith, within))
row_length (first ∷ rows) zero row within is = omega (arith, length-append (row_entries first) (entries_of rows), length_row first, ap (λ (r : Row). length (cells_of r)) is)
row_length (first ∷ rows) (suc i) row within is = omega (arith, length-append (row_entries first) (entries_of rows), row_length rows i row (omega (arith, within)) is)

-- the cells stand without the last loss where it was taken from its row
pub lowers_stands : (losses : List KeyLoss) (rows : List Row) (key : CellKey) (loss greatest i s gone : ℕ) (old new : Row) → 1 ≤ loss → greatest ≡ maximum losses key → Apart (row_keys rows) →
    place_of (row_of key) (row_keys rows) ≡ Some i → i < length rows → old ≡ get_or rows i old → s ≡ sample_of key.sidx → Lowers old new s loss greatest gone → Standing (losses ++ to_key key loss ∷ []) (entries_of rows) →
    Standing losses (entries_of (set rows i new))
lowers_stands losses rows key loss greatest i s gone old new some greatest_is apart found within is sample_is lowers stands =
    ⊎_elim (λ missing. absurd (never_missing losses (entries_of rows) key loss some stands (here ∙ ap (λ o. cond own o None) missing ∙ nothing own None)))
    (λ there. by_own there.0 there.1 own refl) (cell_or_none (cell_in (cells_of old) s))
  where
    own : Bool
    own = same_key (key_in old.key s) key

    here : cell_at (entries_of rows) key ≡ cond own (cell_in (cells_of old) s) None
    here = found_row rows key i old apart found is ∙ row_cell old.key (cells_of old) key ∙ ap (λ n. cond (same_key (key_in old.key n) key) (cell_in (cells_of old) n) None) (sym sample_is)

    nothing : (b : Bool) (o : Option Cell) → cond b o o ≡ o
    nothing true o = refl
    nothing false o = refl

    out_or_down : (cell : Cell) → cell_in (cells_of old) s ≡ Some cell → key_in old.key s ≡ key → cell_at (entries_of rows) key ≡ Some cell → Standing losses (entries_of (set rows i new))
    out_or_down cell cell_is key_is there = by_test (nat_le cell.total loss) refl (λ low. grind (arith, nat_tests)) (λ high. grind (arith, nat_tests))
      where
        changes : Changes old new s (lowered cell loss greatest)
        changes = lowers.some cell cell_is

        entries : (q : CellKey) → cell_at (entries_of (set rows i new)) q ≡ cond (same_key key q) (lowered cell loss greatest) (cell_at (entries_of rows) q)
        entries = entries_set rows key i old new (lowered cell loss greatest) apart found is (row_changes old new s (lowered cell loss greatest) key changes (sym key_is))

        left : Cell
        left = record { total = cell.total - loss; maximum = greatest }

        by_test : (b : Bool) → nat_le cell.total loss ≡ b → (b ≡ true → cell.total ≤ loss) → (b ≡ false → loss < cell.total) → Standing losses (entries_of (set rows i new))
        by_test true test low high =
            let gone_is : lowered cell loss greatest ≡ None = ap (λ b. cond b None (Some left)) test in
            take_out losses (entries_of rows) (entries_of (set rows i new)) key loss cell some stands (sym there) (low refl) (λ q. entries q ∙ ap (λ o. cond (same_key key q) o (cell_at (entries_of rows) q)) gone_is)
            (omega (arith, length_set rows i old new within is, changes.count, ap one_of cell_is, ap one_of gone_is))
        by_test false test low high =
            let left_is : lowered cell loss greatest ≡ Some left = ap (λ b. cond b None (Some left)) test in
            take_down losses (entries_of rows) (entries_of (set rows i new)) key loss greatest cell left some stands greatest_is (sym there) (high refl) refl (λ q. entries q ∙ ap (λ o. cond (same_key key q) o (cell_at (entries_of rows) q)) left_is)
            (omega (arith, length_set rows i old new within is, changes.count, ap one_of cell_is, ap one_of left_is))

    by_own : (cell : Cell) → cell_in (cells_of old) s ≡ Some cell → (b : Bool) → own ≡ b → Standing losses (entries_of (set rows i new))
    by_own cell cell_is true same = out_or_down cell cell_is (same_exact (key_in old.key s) key same) (here ∙ ap (λ b. cond b (cell_in (cells_of old) s) None) same ∙ cell_is)
    by_own cell cell_is false other = absurd (never_missing losses (entries_of rows) key loss some stands (here ∙ ap (λ b. cond b (cell_in (cells_of old) s) None) other))

-- where no row is that of the key, the loss was never there
pub nowhere_stands : (losses : List KeyLoss) (rows : List Row) (key : CellKey) (loss : ℕ) → 1 ≤ loss → place_of (row_of key) (row_keys rows) ≡ None → Standing (losses ++ to_key key loss ∷ []) (entries_of rows) → ⊥
nowhere_stands losses rows key loss some missing stands = never_missing losses (entries_of rows) key loss some stands (nowhere rows key missing)
