-- The rows of a table, whatever its cells are and however one is read: the values, or the first place that is wrong.
-- The rule: docs/TABLES.md, "The first bad place".
use Rattle.std.specs.Prelude.{◌≡◌, ℕ, ◌+◌, ◌==◌, Bool, List, [], ◌∷◌, ◌++◌, length, nat_lt, if◌then◌else◌, Result, Ok, Err, refl, slice_index_or}
use Rattle.kt_rec.specs.Kinds.{under}
use Rattle.kt_rec.specs.declared.kind.Kind.{Kind}
use Rattle.kt_rec.specs.declared.kind.Kind.TheVariants as kind
use Rattle.kt_rec.specs.declared.cause.Cause.{Cause}
use Rattle.kt_rec.specs.declared.cause.Cause.TheVariants as cause
use Rattle.kt_cells.specs.declared.stop.TableStop.{TableStop}
use Rattle.kt_cells.specs.declared.stop.TableStop.TheVariants.{NotProfile, WrongTable, WrongVersion, CutRecord, Bad, OutOfMemory}
use Rattle.kt_cells.specs.Stops.{Tells}

-- what follows a good result
abbrev pub and_then : {A B E : Type 0} → Result A E → (A → Result B E) → Result B E
and_then (Ok x) next = next x
and_then (Err e) next = Err e

-- a list of results behind those that are there
abbrev pub behind : {A E : Type 0} → List A → Result (List A) E → Result (List A) E
behind before rest = and_then rest (λ more. Ok (before ++ more))

-- a result in front of a list of results
abbrev pub in_front : {A E : Type 0} → A → Result (List A) E → Result (List A) E
in_front first rest = and_then rest (λ more. Ok (first ∷ more))

-- the rule by which the rest of a row is read
abbrev pub rule_after : ℕ → Kind → ℕ → ℕ
rule_after rule kind.Rule value = value
rule_after rule kind.Id value = rule
rule_after rule kind.Count value = rule
rule_after rule kind.IntensityBin value = rule
rule_after rule kind.DamageBin value = rule
rule_after rule kind.Level value = rule
rule_after rule kind.Layer value = rule
rule_after rule kind.SummarySet value = rule
rule_after rule kind.Offset value = rule
rule_after rule kind.Tiv value = rule
rule_after rule kind.Amount value = rule
rule_after rule kind.Ppm value = rule
rule_after rule (kind.Term t) value = rule

-- a value that is not below the floor
abbrev pub not_below : ℕ → ℕ → Result ℕ Cause
not_below floor value = if nat_lt value floor then Err cause.Order else Ok value

-- what is wrong, with the place at which it is
abbrev pub at_place : {A : Type 0} → ℕ → ℕ → Result A Cause → Result A TableStop
at_place row column (Ok value) = Ok value
at_place row column (Err cause) = Err (Bad row column cause)

-- the value of a cell that is not below the floor
abbrev pub value_from : {C : Type 0} → (Kind → C → Result ℕ Cause) → ℕ → Kind → C → Result ℕ Cause
value_from read floor kind cell = and_then (read kind cell) (not_below floor)

-- the values of a row, from a column on. The floor is for the first of them alone, and a term goes by the rule before it
unfoldable pub row_values : {C : Type 0} → (Kind → C → Result ℕ Cause) → ℕ → ℕ → ℕ → ℕ → List Kind → List C → Result (List ℕ) TableStop
row_values read rule floor row column [] cells = Ok []
row_values read rule floor row column (kind ∷ kinds) [] = Ok []
row_values read rule floor row column (kind ∷ kinds) (cell ∷ cells) =
    and_then (at_place row column (value_from read floor (under rule kind) cell))
    (λ value. in_front value (row_values read (rule_after rule kind value) 0 row (column + 1) kinds cells))

-- the floor of the next row: where the rows are ordered, the first value of this one
abbrev pub floor_after : Bool → List ℕ → ℕ
floor_after ordered values = if ordered then slice_index_or values 0 0 else 0

-- the rows of a table, from a row on, the first of them not below the floor. A row with another number of cells than the table
-- has columns is refused as a whole
unfoldable pub table_rows : {C : Type 0} → (Kind → C → Result ℕ Cause) → Bool → ℕ → List Kind → ℕ → ℕ → List (List C) → Result (List (List ℕ)) TableStop
table_rows read ordered first kinds floor row [] = Ok []
table_rows read ordered first kinds floor row (cells ∷ rest) =
    if length cells == length kinds then
    and_then (row_values read 0 floor row first kinds cells) (λ values. in_front values (table_rows read ordered first kinds (floor_after ordered values) (row + 1) rest))
    else Err (Bad row 0 cause.Columns)

-- what stops a call stops what follows it
pub Tells-and_then : {A B : Type 0} (expected : Result A TableStop) (next : A → Result B TableStop) (stop : TableStop) → Tells expected stop → Tells (and_then expected next) stop
Tells-and_then expected next OutOfMemory told = tt
Tells-and_then expected next NotProfile told = rw told refl
Tells-and_then expected next (WrongTable found) told = rw told refl
Tells-and_then expected next (WrongVersion found) told = rw told refl
Tells-and_then expected next (CutRecord row) told = rw told refl
Tells-and_then expected next (Bad row column cause) told = rw told refl

-- a good result is followed by what follows it
pub and_then-ok : {A B E : Type 0} (result : Result A E) (next : A → Result B E) (y : B) → and_then result next ≡ Ok y → (x : A) × (result ≡ Ok x) × (next x ≡ Ok y)
and_then-ok (Ok x) next y good = (x, refl, good)
and_then-ok (Err e) next y good = absurd (cc)
