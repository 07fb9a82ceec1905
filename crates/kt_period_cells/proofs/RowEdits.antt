-- What an edit of one cell of a row does.
use Rattle.std.proofs.Common.{◌≡◌, ℕ, zero, suc, ◌+◌, ◌-◌, ◌<◌, ◌≤◌, [], ◌∷◌, length, set, arith, sym, ap, ◌∙◌, subst, cond, Result, Ok, Err, Some, None, Option, OnErr}
use Rattle.std.specs.Prelude.{true, false, nat_eq, nat_le}
use Rattle.std.specs.List.{insert, remove}
use Rattle.std.proofs.lemmas.List.Edits.{length-insert, get_or-insert_below, get_or-insert_at, get_or-insert_above, get_or-remove_below, get_or-remove_above, length-remove}
use Rattle.std.proofs.lemmas.Bool.Decides.{nat_tests}
use Rattle.std.proofs.lemmas.Grind.{common_steps}
use Rattle.kt_cell.specs.declared.cell.Cell.{Cell}
use Rattle.std.proofs.lemmas.List.{length-set}
use Rattle.std.proofs.lemmas.List.Elements.{All-set, All-append, All-take, All-drop, All-cons}
use Rattle.kt_period_cells.specs.declared.row.Row.{Row}
use Rattle.kt_period_cells.specs.RowCells.{SampleCells, cells_of, cell_in, sample_at, IsRising, IsAt, IsGap, CellFits, Changes, Lowers}
use Rattle.kt_cell.specs.Standing.{one_of}
use Rattle.kt_period_cells.proofs.PlacedCells.{wide_same, listed_cells}
use Rattle.kt_period_cells.proofs.RowCells.{none, at_tail, cell_absent, cell_set, cell_insert, none_before, cell_found, cell_in_gap}

module _ (cells : SampleCells) (s at : ℕ) (rising : IsRising cells) (is : IsAt cells s at) where
  -- a cell in the place of another of its sample keeps the order
  rising_set : (c : Cell) → IsRising (set cells at (s, c))
  rising_set c i j less within = grind (arith, common_steps, rising i j, rising i at, rising at j, is.within, is.same)

  -- so does taking a cell out
  rising_remove : IsRising (remove cells at)
  rising_remove i j less within =
      let new = remove cells at in
      let key = λ (x : ℕ × Cell). x.0 in
      let shorter = length-remove cells at is.within in
      let below : (i : ℕ) → i < at → sample_at new i ≡ sample_at cells i = λ i low. ap key (get_or-remove_below cells at none i low is.within) in
      let above : (i : ℕ) → at ≤ i → sample_at new i ≡ sample_at cells (i + 1) = λ i high. ap key (get_or-remove_above cells at none i high is.within) in
      grind (arith, shorter, below i, above i, below j, above j, rising i j, rising i (j + 1), rising (i + 1) (j + 1))

  -- the sample is found no more
  cell_remove : (t : ℕ) → cell_in (remove cells at) t ≡ cond (nat_eq s t) None (cell_in cells t)
  cell_remove = removed cells at rising is
    where
      removed : (cells : SampleCells) (at : ℕ) → IsRising cells → IsAt cells s at → (t : ℕ) → cell_in (remove cells at) t ≡ cond (nat_eq s t) None (cell_in cells t)
      removed [] at rising is t = absurd (omega (arith, is.within))
      removed (x ∷ cells) zero rising is t =
          let later : cell_in cells s ≡ None = cell_absent cells s (λ j less same. omega (arith, rising 0 (suc j) (omega arith) (omega (arith, less)), is.same, same)) in
          grind (arith, nat_tests, is.same, later)
      removed (x ∷ cells) (suc at) rising is t =
          let apart = none_before (x ∷ cells) rising s (suc at) is 0 (omega arith) in
          grind (arith, nat_tests, apart, removed cells at (λ i j less within. rising (suc i) (suc j) (omega (arith, less)) (omega (arith, within))) (at_tail x cells s at is) t)

-- a cell in its gap keeps the order
rising_insert : (cells : SampleCells) (s at : ℕ) (c : Cell) → IsRising cells → IsGap cells s at → IsRising (insert cells at (s, c))
rising_insert cells s at c rising gap i j less within =
    let new = insert cells at (s, c) in
    let key = λ (x : ℕ × Cell). x.0 in
    let longer = length-insert cells at (s, c) gap.within in
    let below : (i : ℕ) → i < at → sample_at new i ≡ sample_at cells i = λ i low. ap key (get_or-insert_below cells at (s, c) none i low gap.within) in
    let here : (i : ℕ) → i ≡ at → sample_at new i ≡ s = λ i same. rw same (ap key (get_or-insert_at cells at (s, c) none gap.within)) in
    let above : (i : ℕ) → at < i → sample_at new i ≡ sample_at cells (i - 1) = λ i high. subst (λ q. sample_at new q ≡ sample_at cells (i - 1)) {x = i - 1 + 1} (omega arith) (ap key (get_or-insert_above cells at (s, c) none (i - 1) (omega arith) gap.within)) in
    grind (arith, below i, here i, above i, below j, here j, above j, rising i j, rising i (j - 1), rising (i - 1) (j - 1), gap.lower i, gap.higher (j - 1))

-- ---- rows

-- a fact that holds whatever the answer
pub on_err : {T E : Type 0} {P : Type 0} (r : Result T E) → P → OnErr r P
on_err (Ok x) holds = tt
on_err (Err e) holds = holds

-- cells that are found are the same
some_same : {one other : Cell} → Some one ≡ Some other → one ≡ other
some_same same = cc

-- a row with a cell in the place of another
pub changes_set : (old new : Row) (s at : ℕ) (c : Cell) → IsRising (cells_of old) → IsAt (cells_of old) s at → new.key ≡ old.key → length new.places.items ≡ length old.places.items → (cells_of new) ≡ set (cells_of old) at (s, c) → Changes old new s (Some c)
changes_set old new s at c rising is key wide items =
    let before : one_of (cell_in (cells_of old) s) ≡ 1 = ap one_of (cell_found (cells_of old) rising s at is) in
    record {
      key = key;
      wide = wide_same old.places.items new.places.items wide;
      cells = λ t. rw items (cell_set (cells_of old) s at c is (none_before (cells_of old) rising s at is) t);
      count = omega (arith, before, ap length items, length-set (cells_of old) at (s, c));
      rising = rw items (rising_set (cells_of old) s at rising is c);
      fits = λ samples all one. rw items (All-set (CellFits samples) (cells_of old) at (s, c) one all);
    }

-- a row with a new cell
pub changes_insert : (old new : Row) (s at : ℕ) (c : Cell) → IsRising (cells_of old) → IsGap (cells_of old) s at → new.key ≡ old.key → length new.places.items ≡ length old.places.items → (cells_of new) ≡ insert (cells_of old) at (s, c) → Changes old new s (Some c)
changes_insert old new s at c rising gap key wide items =
    let before : one_of (cell_in (cells_of old) s) ≡ 0 = ap one_of (cell_in_gap (cells_of old) rising s at gap) in
    record {
      key = key;
      wide = wide_same old.places.items new.places.items wide;
      cells = λ t. rw items (cell_insert (cells_of old) s at c (λ j less same. omega (arith, gap.lower j less)) t);
      count = omega (arith, before, ap length items, length-insert (cells_of old) at (s, c) gap.within);
      rising = rw items (rising_insert (cells_of old) s at c rising gap);
      fits = λ samples all one. rw items (All-append (CellFits samples) _ _ (All-take (CellFits samples) at (cells_of old) all) (All-cons (CellFits samples) (s, c) _ one (All-drop (CellFits samples) at (cells_of old) all)));
    }

-- a row without a cell
pub changes_remove : (old new : Row) (s at : ℕ) → IsRising (cells_of old) → IsAt (cells_of old) s at → new.key ≡ old.key → length new.places.items ≡ length old.places.items → (cells_of new) ≡ remove (cells_of old) at → Changes old new s None
changes_remove old new s at rising is key wide items =
    let before : one_of (cell_in (cells_of old) s) ≡ 1 = ap one_of (cell_found (cells_of old) rising s at is) in
    record {
      key = key;
      wide = wide_same old.places.items new.places.items wide;
      cells = λ t. rw items (cell_remove (cells_of old) s at rising is t);
      count = omega (arith, before, ap length items, length-remove (cells_of old) at is.within);
      rising = rw items (rising_remove (cells_of old) s at rising is);
      fits = λ samples all one. rw items (All-append (CellFits samples) _ _ (All-take (CellFits samples) at (cells_of old) all) (All-drop (CellFits samples) (suc at) (cells_of old) all));
    }

-- ---- rows that list their cells

module _ (old new : Row) (s at : ℕ) (none : old.places.items ≡ []) (rising : IsRising old.listed.items) (key : new.key ≡ old.key) (places : new.places.items ≡ old.places.items) where
  before : cells_of old ≡ old.listed.items
  before = listed_cells old none

  behind : cells_of new ≡ new.listed.items
  behind = listed_cells new (places ∙ none)

  -- with a cell in the place of another
  pub listed_set : (c : Cell) → IsAt old.listed.items s at → new.listed.items ≡ set old.listed.items at (s, c) → Changes old new s (Some c)
  listed_set c is items = changes_set old new s at c (rw before rising) (rw before is) key (ap length places) (behind ∙ items ∙ ap (λ (cs : SampleCells). set cs at (s, c)) (sym before))

  -- with a new cell
  pub listed_insert : (c : Cell) → IsGap old.listed.items s at → new.listed.items ≡ insert old.listed.items at (s, c) → Changes old new s (Some c)
  listed_insert c gap items = changes_insert old new s at c (rw before rising) (rw before gap) key (ap length places) (behind ∙ items ∙ ap (λ (cs : SampleCells). insert cs at (s, c)) (sym before))

  -- without a cell
  pub listed_remove : IsAt old.listed.items s at → new.listed.items ≡ remove old.listed.items at → Changes old new s None
  listed_remove is items = changes_remove old new s at (rw before rising) (rw before is) key (ap length places) (behind ∙ items ∙ ap (λ (cs : SampleCells). remove cs at) (sym before))

  -- with no cell of the sample
  pub listed_gap : IsGap old.listed.items s at → cell_in (cells_of old) s ≡ None
  listed_gap gap = rw before (cell_in_gap old.listed.items rising s at gap)

  -- with the same cells
  pub listed_same : new.listed.items ≡ old.listed.items → cells_of new ≡ cells_of old
  listed_same items = behind ∙ items ∙ sym before

-- what changes in a row with another bound changes in the row
pub changes_bound : (old new : Row) (most s : ℕ) (cell : Option Cell) → Changes (record old { most = most }) new s cell → Changes old new s cell
changes_bound old new most s cell changes = record { key = changes.key; wide = changes.wide; cells = changes.cells; count = changes.count; rising = changes.rising; fits = changes.fits }

-- a row without a loss of a sample: its cell is taken out
pub lowers_out : (old new : Row) (s loss greatest : ℕ) (here : Cell) → Some here ≡ cell_in (cells_of old) s → here.total ≤ loss → Changes old new s None → Lowers old new s loss greatest 1
lowers_out old new s loss greatest here found low changes =
    record {
      some = λ cell is_cell.
          let same : cell ≡ here = some_same (sym is_cell ∙ sym found) in
          let lower : nat_le cell.total loss ≡ true = rw same (grind (arith, nat_tests)) in
          subst (λ (w : Option Cell). Changes old new s w) (sym (ap (λ b. cond b None (Some (record { total = cell.total - loss; maximum = greatest }))) lower)) changes;
      none = λ missing. let wrong : Some here ≡ None = found ∙ missing in cc;
      count = let one : one_of (cell_in (cells_of old) s) ≡ 1 = ap one_of (sym found) in omega (arith, changes.count, one);
    }

-- or has what is left
pub lowers_down : (old new : Row) (s loss greatest : ℕ) (here left : Cell) → Some here ≡ cell_in (cells_of old) s → loss < here.total → left ≡ record { total = here.total - loss; maximum = greatest } → Changes old new s (Some left) → Lowers old new s loss greatest 0
lowers_down old new s loss greatest here left found high left_is changes =
    record {
      some = λ cell is_cell.
          let same : cell ≡ here = some_same (sym is_cell ∙ sym found) in
          let higher : nat_le cell.total loss ≡ false = rw same (grind (arith, nat_tests)) in
          subst (λ (w : Option Cell). Changes old new s w)
          (sym (ap (λ b. cond b None (Some (record { total = cell.total - loss; maximum = greatest }))) higher ∙ ap (λ (x : Cell). Some (record { total = x.total - loss; maximum = greatest })) same ∙ ap Some (sym left_is)))
          changes;
      none = λ missing. let wrong : Some here ≡ None = found ∙ missing in cc;
      count = let one : one_of (cell_in (cells_of old) s) ≡ 1 = ap one_of (sym found) in omega (arith, changes.count, one);
    }
