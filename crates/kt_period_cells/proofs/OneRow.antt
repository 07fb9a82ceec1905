-- What the entries of one row have for a key, and after one of its cells changed.
use Rattle.std.proofs.Common.{◌≡◌, ◌≢◌, ℕ, suc, [], ◌∷◌, length, map, refl, sym, ap, ◌∙◌, subst, cond, Some, None, Option}
use Rattle.std.specs.Prelude.{Bool, true, false, nat_eq}
use Rattle.std.proofs.lemmas.Bool.Decides.{Decides-eqb}
use Rattle.kt_rec.specs.declared.perspective.CellKey.{CellKey}
use Rattle.kt_cell.specs.declared.cell.Cell.{Cell}
use Rattle.kt_period_cells.specs.declared.row_key.RowKey.{RowKey}
use Rattle.kt_period_cells.specs.declared.row.Row.{Row}
use Rattle.kt_cell.specs.Losses.{same_key}
use Rattle.kt_cell.specs.Standing.{cell_at}
use Rattle.kt_cell.specs.Amounts.{sample_of}
use Rattle.kt_period_cells.specs.RowCells.{cells_of, SampleCells, cell_in, Changes}
use Rattle.kt_period_cells.specs.Rows.{row_of, key_in, row_entries}
use Rattle.kt_cell.specs.SameKeys.{same_exact, same_itself}
use Rattle.kt_period_cells.proofs.RowKeys.{sample_back}

-- what a row has for a key: the cell of its sample, where the key is of the row
pub row_cell : (row : RowKey) (cells : SampleCells) (q : CellKey) →
    cell_at (map (λ one. (key_in row one.0, one.1)) cells) q ≡ cond (same_key (key_in row (sample_of q.sidx)) q) (cell_in cells (sample_of q.sidx)) None
row_cell row [] q = either (same_key (key_in row (sample_of q.sidx)) q) None
  where
    either : (b : Bool) (o : Option Cell) → o ≡ cond b o o
    either true o = refl
    either false o = refl
row_cell row (x ∷ cells) q = by_tests (same_key q (key_in row x.0)) (nat_eq (sample_of q.sidx) x.0) (same_key (key_in row (sample_of q.sidx)) q) refl refl refl (row_cell row cells q)
  where
    s : ℕ
    s = sample_of q.sidx

    rest : Option Cell
    rest = cell_at (map (λ one. (key_in row one.0, one.1)) cells) q

    by_tests : (here of_sample own : Bool) → same_key q (key_in row x.0) ≡ here → nat_eq s x.0 ≡ of_sample → same_key (key_in row s) q ≡ own → rest ≡ cond own (cell_in cells s) None →
        cond here (Some x.1) rest ≡ cond own (cond of_sample (Some x.1) (cell_in cells s)) None
    by_tests true true true a b c later = refl
    by_tests false false true a b c later = later
    by_tests false true false a b c later = later
    by_tests false false false a b c later = later
    by_tests true false own a b c later =
        let key_is : q ≡ key_in row x.0 = same_exact q (key_in row x.0) a in
        let sample_is : s ≡ x.0 = ap (λ (k : CellKey). sample_of k.sidx) key_is ∙ sample_back x.0 in
        let wrong : nat_eq s x.0 ≡ true = (Decides-eqb s x.0).1 sample_is in cc
    by_tests true true false a b c later =
        let key_is : q ≡ key_in row x.0 = same_exact q (key_in row x.0) a in
        let sample_is : s ≡ x.0 = (Decides-eqb s x.0).0 b in
        let back : key_in row s ≡ q = ap (key_in row) sample_is ∙ sym key_is in
        let wrong : same_key (key_in row s) q ≡ true = subst (λ (k : CellKey). same_key (key_in row s) k ≡ true) back (same_itself (key_in row s)) in cc
    by_tests false true true a b c later =
        let sample_is : s ≡ x.0 = (Decides-eqb s x.0).0 b in
        let back : key_in row s ≡ q = same_exact (key_in row s) q c in
        let key_is : q ≡ key_in row x.0 = sym back ∙ ap (key_in row) sample_is in
        let wrong : same_key q (key_in row x.0) ≡ true = subst (λ (k : CellKey). same_key q k ≡ true) key_is (same_itself q) in cc

-- another row has no cell of the key
pub other_row : (row : Row) (q : CellKey) → row.key ≢ row_of q → cell_at (row_entries row) q ≡ None
other_row row q apart = row_cell row.key (cells_of row) q ∙ by_test (same_key (key_in row.key (sample_of q.sidx)) q) refl
  where
    by_test : (b : Bool) → same_key (key_in row.key (sample_of q.sidx)) q ≡ b → cond b (cell_in (cells_of row) (sample_of q.sidx)) None ≡ None
    by_test true same = absurd (apart (ap row_of (same_exact (key_in row.key (sample_of q.sidx)) q same)))
    by_test false same = refl

-- a row of which one cell changes
pub row_changes : (old new : Row) (s : ℕ) (cell : Option Cell) (key : CellKey) → Changes old new s cell → key ≡ key_in old.key s → (q : CellKey) →
    cell_at (row_entries new) q ≡ cond (same_key key q) cell (cell_at (row_entries old) q)
row_changes old new s cell key changes key_is q =
    row_cell new.key (cells_of new) q ∙ rw (changes.key, changes.cells (sample_of q.sidx), row_cell old.key (cells_of old) q)
    (by_tests (same_key key q) (nat_eq s (sample_of q.sidx)) (same_key (key_in old.key (sample_of q.sidx)) q) refl refl refl)
  where
    t : ℕ
    t = sample_of q.sidx

    by_tests : (here of_sample own : Bool) → same_key key q ≡ here → nat_eq s t ≡ of_sample → same_key (key_in old.key t) q ≡ own →
        cond own (cond of_sample cell (cell_in (cells_of old) t)) None ≡ cond here cell (cond own (cell_in (cells_of old) t) None)
    by_tests true true true a b c = refl
    by_tests false false own a b c = refl
    by_tests false true false a b c = refl
    by_tests false true true a b c =
        let q_is : key ≡ q = key_is ∙ ap (key_in old.key) ((Decides-eqb s t).0 b) ∙ same_exact (key_in old.key t) q c in
        let wrong : same_key key q ≡ true = subst (λ (k : CellKey). same_key key k ≡ true) q_is (same_itself key) in cc
    by_tests true of_sample false a b c =
        let q_is : key_in old.key s ≡ q = sym key_is ∙ same_exact key q a in
        let s_is : s ≡ t = sym (sample_back s) ∙ ap (λ (k : CellKey). sample_of k.sidx) q_is in
        let back : key_in old.key t ≡ q = ap (key_in old.key) (sym s_is) ∙ q_is in
        let wrong : same_key (key_in old.key t) q ≡ true = subst (λ (k : CellKey). same_key (key_in old.key t) k ≡ true) back (same_itself (key_in old.key t)) in cc
    by_tests true false true a b c =
        let q_is : key_in old.key s ≡ q = sym key_is ∙ same_exact key q a in
        let s_is : s ≡ t = sym (sample_back s) ∙ ap (λ (k : CellKey). sample_of k.sidx) q_is in
        let wrong : nat_eq s t ≡ true = (Decides-eqb s t).1 s_is in cc

-- how many entries a row holds
pub length_row : (row : Row) → length (row_entries row) ≡ length (cells_of row)
length_row row = all (cells_of row)
  where
    all : (cells : SampleCells) → length {A = CellKey × Cell} (map (λ one. (key_in row.key one.0, one.1)) cells) ≡ length cells
    all [] = refl
    all (one ∷ cells) = ap suc (all cells)

-- a row with the key and the cells of another
pub row_same : (old new : Row) → new.key ≡ old.key → (cells_of new) ≡ (cells_of old) → row_entries new ≡ row_entries old
row_same old new key items = ap (λ k. map (λ one. (key_in k one.0, one.1)) (cells_of new)) key ∙ ap (map (λ one. (key_in old.key one.0, one.1))) items
