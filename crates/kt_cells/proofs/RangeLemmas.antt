-- What is read, value by value: it is in range and in order, and is read so under any number.
use Rattle.std.proofs.Common.{◌≡◌, ℕ, suc, ◌+◌, ◌<◌, ◌≤◌, Bool, false, List, [], ◌∷◌, length, get_or, refl, sym, ap, ◌∙◌, arith, inl, inr}
use Rattle.std.specs.Prelude.{Result, Ok, Err, ◌==◌}
use Rattle.std.specs.List.{AllZip}
use Rattle.std.proofs.lemmas.Bool.{cases_Bool, eqb-true}
use Rattle.std.proofs.lemmas.Bool.Decides.{nat_tests}
use Rattle.kt_rec.specs.Kinds.{under, in_range}
use Rattle.kt_cells.specs.Ranges.{IsRow, AreRows, AreInOrder}
use Rattle.kt_cells.specs.Reading.{and_then, and_then-ok, in_front, at_place, not_below, value_from, rule_after, row_values, floor_after, table_rows}
use Rattle.kt_rec.specs.declared.kind.Kind.{Kind}
use Rattle.kt_rec.specs.declared.cause.Cause.{Cause}
use Rattle.kt_cells.proofs.ReadingLemmas.{row_values-value, table_rows-row}

-- a value above the floor passes it
pub not_below-above : (floor value : ℕ) → floor ≤ value → not_below floor value ≡ Ok value
not_below-above floor value above = grind (arith, nat_tests)

-- a value that is read at a place is not below the floor
value_from-ok : (floor row column value : ℕ) (result : Result ℕ Cause) → at_place row column (and_then result (not_below floor)) ≡ Ok value → (result ≡ Ok value) × (floor ≤ value)
value_from-ok floor row column value (Ok x) good = (grind (arith, nat_tests), grind (arith, nat_tests))
value_from-ok floor row column value (Err cause) good = absurd (cc)

-- the cells of a row are read as these values, a term by the rule before it
unfoldable pub IsRead : {C : Type 0} → (Kind → C → Result ℕ Cause) → ℕ → List Kind → List C → List ℕ → Type 0
IsRead read rule [] [] [] = Unit {0}
IsRead read rule (kind ∷ kinds) (cell ∷ cells) (value ∷ values) = (read (under rule kind) cell ≡ Ok value) × IsRead read (rule_after rule kind value) kinds cells values
IsRead read rule kinds cells values = ⊥

-- and so the rows of a table
abbrev pub AreRead : {C : Type 0} → (Kind → C → Result ℕ Cause) → List Kind → List (List C) → List (List ℕ) → Type 0
AreRead read kinds = AllZip (IsRead read 0 kinds)

-- a reading whose values are in the range of their kind
abbrev pub ReadsInRange : {C : Type 0} → (Kind → C → Result ℕ Cause) → Type 0
ReadsInRange {C = C} read = (k : Kind) (cell : C) (value : ℕ) → read k cell ≡ Ok value → in_range k value ≡ Ok value

module _ {C : Type 0} (read : Kind → C → Result ℕ Cause) where
  -- there is a cell for each column
  length-read : (rule : ℕ) (kinds : List Kind) (cells : List C) (values : List ℕ) → IsRead read rule kinds cells values → length cells ≡ length kinds
  unfolding IsRead
  length-read rule [] [] [] found = refl
  length-read rule (kind ∷ kinds) (cell ∷ cells) (value ∷ values) found = ap suc (length-read (rule_after rule kind value) kinds cells values found.1)
  length-read rule kinds cells values found = absurd found

  -- and a row of cells for each row
  pub length-rows : (kinds : List Kind) (cells : List (List C)) (rows : List (List ℕ)) → AreRead read kinds cells rows → length rows ≡ length cells
  length-rows kinds [] [] found = refl
  length-rows kinds (cells ∷ rest) (values ∷ rows) found = ap suc (length-rows kinds rest rows found.1)
  length-rows kinds cells rows found = absurd found

  -- a row is read so, and the first value is not below the floor
  pub row-read : (rule floor row column : ℕ) (kinds : List Kind) (cells : List C) (values : List ℕ) → length cells ≡ length kinds
      → row_values read rule floor row column kinds cells ≡ Ok values → IsRead read rule kinds cells values × (0 < length kinds → floor ≤ get_or values 0 0)
  unfolding row_values IsRead
  row-read rule floor row column [] [] [] long good = (tt, λ some. absurd (omega arith))
  row-read rule floor row column [] [] (value ∷ values) long good = absurd (cc)
  row-read rule floor row column (kind ∷ kinds) (cell ∷ cells) values long good =
      let front = and_then-ok (at_place row column (value_from read floor (under rule kind) cell)) (λ value. in_front value (row_values read (rule_after rule kind value) 0 row (column + 1) kinds cells)) values good in
      let more = and_then-ok (row_values read (rule_after rule kind front.0) 0 row (column + 1) kinds cells) (λ rest. Ok (front.0 ∷ rest)) values front.2 in
      let same : front.0 ∷ more.0 ≡ values = cc (more.2) in
      let here = value_from-ok floor row column front.0 (read (under rule kind) cell) front.1 in
      let rest = row-read (rule_after rule kind front.0) 0 row (column + 1) kinds cells more.0 (omega arith) more.1 in
      rw (← same) ((here.0, rest.0), λ some. here.1)
  row-read rule floor row column kinds cells values long good = absurd (omega arith)

  -- and so whatever its number is
  pub read-row : (rule floor row column : ℕ) (kinds : List Kind) (cells : List C) (values : List ℕ) → IsRead read rule kinds cells values → (0 < length kinds → floor ≤ get_or values 0 0)
      → row_values read rule floor row column kinds cells ≡ Ok values
  unfolding row_values IsRead
  read-row rule floor row column [] [] [] found above = refl
  read-row rule floor row column (kind ∷ kinds) (cell ∷ cells) (value ∷ values) found above =
      row_values-value read rule floor row column value kind kinds cell cells (ap (λ result. and_then result (not_below floor)) found.0 ∙ not_below-above floor value (above (omega arith)))
      ∙ ap (in_front value) (read-row (rule_after rule kind value) 0 row (column + 1) kinds cells values found.1 (λ some. omega arith))
  read-row rule floor row column kinds cells values found above = absurd found

  -- a table is read so, and in order
  pub rows-read : (ordered : Bool) (first : ℕ) (kinds : List Kind) (floor row : ℕ) (cells : List (List C)) (rows : List (List ℕ)) → 0 < length kinds
      → table_rows read ordered first kinds floor row cells ≡ Ok rows → AreRead read kinds cells rows × AreInOrder ordered floor rows
  unfolding table_rows AreInOrder
  rows-read ordered first kinds floor row [] [] some good = (tt, tt)
  rows-read ordered first kinds floor row [] (values ∷ rows) some good = absurd (cc)
  rows-read ordered first kinds floor row (cells ∷ rest) rows some good = elim (cases_Bool (length cells == length kinds)) [
    | inl e ↦ (
        let here = and_then-ok (row_values read 0 floor row first kinds cells) (λ values. in_front values (table_rows read ordered first kinds (floor_after ordered values) (row + 1) rest)) rows (rw e at good) in
        let more = and_then-ok (table_rows read ordered first kinds (floor_after ordered here.0) (row + 1) rest) (λ more. Ok (here.0 ∷ more)) rows here.2 in
        let same : here.0 ∷ more.0 ≡ rows = cc (more.2) in
        let front = row-read 0 floor row first kinds cells here.0 (eqb-true (length cells) (length kinds) e) here.1 in
        let others = rows-read ordered first kinds (floor_after ordered here.0) (row + 1) rest more.0 some more.1 in
        rw (← same) ((front.0, others.0), (front.1 some, others.1)))
    | inr e ↦ absurd (cc (rw e at good))
  ]

  -- and so from any row on
  pub read-rows : (ordered : Bool) (first : ℕ) (kinds : List Kind) (floor row : ℕ) (cells : List (List C)) (rows : List (List ℕ)) → AreRead read kinds cells rows → AreInOrder ordered floor rows
      → table_rows read ordered first kinds floor row cells ≡ Ok rows
  unfolding table_rows AreInOrder
  read-rows ordered first kinds floor row [] [] found order = refl
  read-rows ordered first kinds floor row (cells ∷ rest) (values ∷ rows) found order =
      table_rows-row read ordered first kinds floor row values cells rest (length-read 0 kinds cells values found.0) (sym (read-row 0 floor row first kinds cells values found.0 (λ some. order.0)))
      ∙ ap (in_front values) (read-rows ordered first kinds (floor_after ordered values) (row + 1) rest rows found.1 order.1)
  read-rows ordered first kinds floor row cells rows found order = absurd found

  module _ (ranged : ReadsInRange read) where
    -- the values of a row that is read are in range
    pub row-range : (rule : ℕ) (kinds : List Kind) (cells : List C) (values : List ℕ) → IsRead read rule kinds cells values → IsRow rule kinds values
    unfolding IsRead IsRow
    row-range rule [] [] [] found = tt
    row-range rule (kind ∷ kinds) (cell ∷ cells) (value ∷ values) found = (ranged (under rule kind) cell value found.0, row-range (rule_after rule kind value) kinds cells values found.1)
    row-range rule kinds cells values found = absurd found

    -- so are those of a table
    pub rows-range : (kinds : List Kind) (cells : List (List C)) (rows : List (List ℕ)) → AreRead read kinds cells rows → AreRows kinds rows
    unfolding AreRows
    rows-range kinds [] [] found = tt
    rows-range kinds (cells ∷ rest) (values ∷ rows) found = (row-range 0 kinds cells values found.0, rows-range kinds rest rows found.1)
    rows-range kinds cells rows found = absurd found

-- rows that need not be ordered are in order
pub in_order-any : (rows : List (List ℕ)) → AreInOrder false 0 rows
unfolding AreInOrder
in_order-any [] = tt
in_order-any (row ∷ rows) = (omega arith, in_order-any rows)
