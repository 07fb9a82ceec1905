-- What the entries of all rows have for a key, and after one row changed.
use Rattle.std.proofs.Common.{◌≡◌, ◌≢◌, ℕ, zero, suc, ◌+◌, ◌<◌, List, [], ◌∷◌, ◌++◌, length, map, get_or, set, arith, refl, sym, ap, ◌∙◌, subst, cond, Some, None, Option}
use Rattle.std.specs.Prelude.{Bool, true, false}
use Rattle.std.specs.Option.{option_or}
use Rattle.std.proofs.lemmas.List.{length-append, get_or_default}
use Rattle.kt_rec.specs.declared.perspective.CellKey.{CellKey}
use Rattle.kt_cell.specs.declared.cell.Cell.{Cell}
use Rattle.kt_period_cells.specs.declared.row_key.RowKey.{RowKey}
use Rattle.kt_period_cells.specs.declared.row.Row.{Row}
use Rattle.kt_cell.specs.Losses.{same_key}
use Rattle.kt_cell.specs.Standing.{cell_at, sidx_in_range}
use Rattle.kt_cell.specs.Amounts.{sample_of}
use Rattle.kt_period_cells.specs.RowCells.{cells_of, cell_in, Changes}
use Rattle.kt_period_cells.specs.Rows.{same_row, row_of, key_in, row_entries, entries_of, row_keys, place_of, Apart}
use Rattle.kt_cell.specs.SameKeys.{same_exact, same_itself}
use Rattle.kt_period_cells.proofs.RowKeys.{row_exact, row_itself, key_back}
use Rattle.kt_period_cells.proofs.OneRow.{row_cell, other_row, row_changes, length_row}
use Rattle.kt_period_cells.proofs.Places.{not_first, found_first, found_later, placed_key}

-- what is found in one list or else in another
pub found_append : (xs ys : List (CellKey × Cell)) (q : CellKey) → cell_at (xs ++ ys) q ≡ option_or (cell_at xs q) (cell_at ys q)
found_append [] ys q = refl
found_append (x ∷ xs) ys q = by_test (same_key q x.0) (found_append xs ys q)
  where
    by_test : (b : Bool) → cell_at (xs ++ ys) q ≡ option_or (cell_at xs q) (cell_at ys q) → cond b (Some x.1) (cell_at (xs ++ ys) q) ≡ option_or (cond b (Some x.1) (cell_at xs q)) (cell_at ys q)
    by_test true later = refl
    by_test false later = later

-- or else nothing
pub or_none : (o : Option Cell) → option_or o None ≡ o
or_none (Some x) = refl
or_none None = refl

-- where no row is that of a key, it has no cell
pub nowhere : (rows : List Row) (q : CellKey) → place_of (row_of q) (row_keys rows) ≡ None → cell_at (entries_of rows) q ≡ None
nowhere [] q missing = refl
nowhere (row ∷ rows) q missing =
    let behind = not_first (same_row (row_of q) row.key) (place_of (row_of q) (row_keys rows)) missing in
    let apart : row.key ≢ row_of q = λ same. differ (ap (same_row (row_of q)) same ∙ row_itself (row_of q)) behind.0 in
    found_append (row_entries row) (entries_of rows) q ∙ ap (λ o. option_or o (cell_at (entries_of rows) q)) (other_row row q apart) ∙ nowhere rows q behind.1
  where
    differ : {b : Bool} → b ≡ true → b ≡ false → ⊥
    differ here there = let wrong : true ≡ false = sym here ∙ there in cc

-- another row than the first has no cell of the keys of the first
pub later_none : (row : Row) (rows : List Row) (key q : CellKey) → Apart (row_keys (row ∷ rows)) → same_row (row_of key) row.key ≡ true → key ≡ q → cell_at (entries_of rows) q ≡ None
later_none row rows key q apart same key_is =
    nowhere rows q (subst (λ (k : RowKey). place_of k (row_keys rows) ≡ None) (sym (row_exact (row_of key) row.key same) ∙ ap row_of key_is) apart.0)

-- nor has the first those of another
first_none : (row : Row) (key q : CellKey) → same_row (row_of key) row.key ≡ false → key ≡ q → cell_at (row_entries row) q ≡ None
first_none row key q apart key_is =
    other_row row q (λ same. differ (ap (same_row (row_of key)) (same ∙ ap row_of (sym key_is)) ∙ row_itself (row_of key)) apart)
  where
    differ : {b : Bool} → b ≡ true → b ≡ false → ⊥
    differ here there = let wrong : true ≡ false = sym here ∙ there in cc

-- what all rows have for a key is what its row has
pub found_row : (rows : List Row) (q : CellKey) (i : ℕ) (row : Row) → Apart (row_keys rows) → place_of (row_of q) (row_keys rows) ≡ Some i → row ≡ get_or rows i row →
    cell_at (entries_of rows) q ≡ cell_at (row_entries row) q
found_row [] q i row apart found is = cc
found_row (first ∷ rows) q zero row apart found is =
    let same = found_first (same_row (row_of q) first.key) (place_of (row_of q) (row_keys rows)) found in
    found_append (row_entries first) (entries_of rows) q ∙ ap (option_or (cell_at (row_entries first) q)) (later_none first rows q q apart same refl)
    ∙ or_none (cell_at (row_entries first) q) ∙ ap (λ (r : Row). cell_at (row_entries r) q) (sym is)
found_row (first ∷ rows) q (suc i) row apart found is =
    let behind = found_later (same_row (row_of q) first.key) (place_of (row_of q) (row_keys rows)) i found in
    found_append (row_entries first) (entries_of rows) q ∙ ap (λ o. option_or o (cell_at (entries_of rows) q)) (first_none first q q behind.0 refl) ∙ found_row rows q i row apart.1 behind.1 is

-- rows of which one changes the cell of a key
pub entries_set : (rows : List Row) (key : CellKey) (i : ℕ) (old new : Row) (cell : Option Cell) → Apart (row_keys rows) → place_of (row_of key) (row_keys rows) ≡ Some i → old ≡ get_or rows i old →
    ((q : CellKey) → cell_at (row_entries new) q ≡ cond (same_key key q) cell (cell_at (row_entries old) q)) →
    (q : CellKey) → cell_at (entries_of (set rows i new)) q ≡ cond (same_key key q) cell (cell_at (entries_of rows) q)
entries_set [] key i old new cell apart found is changes q = cc
entries_set (first ∷ rows) key zero old new cell apart found is changes q =
    found_append (row_entries new) (entries_of rows) q ∙ ap (λ o. option_or o (cell_at (entries_of rows) q)) (changes q ∙ ap (λ (r : Row). cond (same_key key q) cell (cell_at (row_entries r) q)) is)
    ∙ by_test (same_key key q) refl ∙ ap (cond (same_key key q) cell) (sym (found_append (row_entries first) (entries_of rows) q))
  where
    by_test : (b : Bool) → same_key key q ≡ b → option_or (cond b cell (cell_at (row_entries first) q)) (cell_at (entries_of rows) q) ≡ cond b cell (option_or (cell_at (row_entries first) q) (cell_at (entries_of rows) q))
    by_test true same = ap (option_or cell) (later_none first rows key q apart (found_first (same_row (row_of key) first.key) (place_of (row_of key) (row_keys rows)) found) (same_exact key q same)) ∙ or_none cell
    by_test false other = refl
entries_set (first ∷ rows) key (suc i) old new cell apart found is changes q =
    found_append (row_entries first) (entries_of (set rows i new)) q ∙ ap (option_or (cell_at (row_entries first) q)) (entries_set rows key i old new cell apart.1 behind.1 is changes q)
    ∙ by_test (same_key key q) refl ∙ ap (cond (same_key key q) cell) (sym (found_append (row_entries first) (entries_of rows) q))
  where
    behind : (same_row (row_of key) first.key ≡ false) × (place_of (row_of key) (row_keys rows) ≡ Some i)
    behind = found_later (same_row (row_of key) first.key) (place_of (row_of key) (row_keys rows)) i found

    by_test : (b : Bool) → same_key key q ≡ b → option_or (cell_at (row_entries first) q) (cond b cell (cell_at (entries_of rows) q)) ≡ cond b cell (option_or (cell_at (row_entries first) q) (cell_at (entries_of rows) q))
    by_test true same = ap (λ o. option_or o cell) (first_none first key q behind.0 (same_exact key q same))
    by_test false other = refl

-- how many entries rows hold of which one changes
pub length_set : (rows : List Row) (i : ℕ) (old new : Row) → i < length rows → old ≡ get_or rows i old →
    length (entries_of (set rows i new)) + length (cells_of old) ≡ length (entries_of rows) + length (cells_of new)
length_set [] i old new within is = absurd (omega (arith, within))
length_set (first ∷ rows) zero old new within is =
    let first_is : length (cells_of first) ≡ length (cells_of old) = ap (λ (r : Row). length (cells_of r)) (sym is) in
    omega (arith, length-append (row_entries new) (entries_of rows), length-append (row_entries first) (entries_of rows), length_row new, length_row first, first_is)
length_set (first ∷ rows) (suc i) old new within is =
    omega (arith, length-append (row_entries first) (entries_of (set rows i new)), length-append (row_entries first) (entries_of rows), length_set rows i old new (omega (arith, within)) is)

-- and the entries of all rows then
pub entries_same : (rows : List Row) (i : ℕ) (old new : Row) → old ≡ get_or rows i old → row_entries new ≡ row_entries old → entries_of (set rows i new) ≡ entries_of rows
entries_same [] i old new is same = refl
entries_same (first ∷ rows) zero old new is same = ap (λ es. es ++ entries_of rows) (same ∙ ap row_entries is)
entries_same (first ∷ rows) (suc i) old new is same = ap (λ es. row_entries first ++ es) (entries_same rows i old new is same)

-- a row with no cells adds no entry
pub entries_push : (rows : List Row) (new : Row) → (cells_of new) ≡ [] → entries_of (rows ++ new ∷ []) ≡ entries_of rows
entries_push [] new empty = ap (λ cells. map (λ one. (key_in new.key one.0, one.1)) cells ++ []) empty
entries_push (first ∷ rows) new empty = ap (λ es. row_entries first ++ es) (entries_push rows new empty)

-- a row read twice is the same
pub same_read : (rows : List Row) (i : ℕ) (one other : Row) → i < length rows → one ≡ get_or rows i one → other ≡ get_or rows i other → one ≡ other
same_read rows i one other within is other_is = is ∙ get_or_default rows i one other within ∙ sym other_is

-- what a table has for a key is the cell of its sample in its row
pub cell_is : (samples : ℕ) (rows : List Row) (key : CellKey) (i : ℕ) (row : Row) → Apart (row_keys rows) → place_of (row_of key) (row_keys rows) ≡ Some i → row ≡ get_or rows i row → sidx_in_range samples key.sidx ≡ true →
    cell_in (cells_of row) (sample_of key.sidx) ≡ cell_at (entries_of rows) key
cell_is samples rows key i row apart found is within =
    sym (found_row rows key i row apart found is ∙ row_cell row.key (cells_of row) key ∙ ap (λ b. cond b (cell_in (cells_of row) (sample_of key.sidx)) None) own)
  where
    key_is : key ≡ key_in row.key (sample_of key.sidx)
    key_is = key_back samples row.key key (placed_key (row_of key) rows i row found is) within

    own : same_key (key_in row.key (sample_of key.sidx)) key ≡ true
    own = subst (λ (k : CellKey). same_key k key ≡ true) key_is (same_itself key)

-- what a table has for all keys after the cell of one changed
pub cells_changed : (samples s : ℕ) (rows : List Row) (key : CellKey) (i : ℕ) (old new : Row) (cell : Option Cell) → Apart (row_keys rows) → place_of (row_of key) (row_keys rows) ≡ Some i → old ≡ get_or rows i old →
    sidx_in_range samples key.sidx ≡ true → s ≡ sample_of key.sidx → Changes old new s cell → (q : CellKey) → cell_at (entries_of (set rows i new)) q ≡ cond (same_key key q) cell (cell_at (entries_of rows) q)
cells_changed samples s rows key i old new cell apart found is within sample_is changes =
    entries_set rows key i old new cell apart found is
    (row_changes old new s cell key changes (key_back samples old.key key (placed_key (row_of key) rows i old found is) within ∙ ap (key_in old.key) (sym sample_is)))
