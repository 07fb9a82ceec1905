-- Rows whose values are in the ranges of their kinds.
-- The rule: docs/TABLES.md, "Kinds of values".
use Rattle.std.specs.Prelude.{◌≡◌, ◌<◌, ◌≤◌, ◌^◌, Bool, ℕ, length, List, [], ◌∷◌, Ok, slice_index_or}
use Rattle.kt_rec.specs.Kinds.{under, in_range, width}
use Rattle.kt_cells.specs.Reading.{rule_after, floor_after}
use Rattle.kt_rec.specs.declared.kind.Kind.{Kind}
use Rattle.kt_rec.specs.declared.kind.Kind.TheVariants.{Id}

-- as many values as columns, each in the range of its kind, a term by the rule before it
unfoldable pub IsRow : ℕ → List Kind → List ℕ → Type 0
IsRow rule [] [] = Unit {0}
IsRow rule [] (value ∷ values) = ⊥
IsRow rule (kind ∷ kinds) [] = ⊥
IsRow rule (kind ∷ kinds) (value ∷ values) =
    (in_range (under rule kind) value ≡ Ok value) × IsRow (rule_after rule kind value) kinds values

-- each row is in range
unfoldable pub AreRows : List Kind → List (List ℕ) → Type 0
AreRows kinds [] = Unit {0}
AreRows kinds (row ∷ rows) = IsRow 0 kinds row × AreRows kinds rows

-- where rows are ordered, the first value of none is below that of the row before, nor below the floor
unfoldable pub AreInOrder : Bool → ℕ → List (List ℕ) → Type 0
AreInOrder ordered floor [] = Unit {0}
AreInOrder ordered floor (row ∷ rows) = (floor ≤ slice_index_or row 0 0) × AreInOrder ordered (floor_after ordered row) rows

-- each value of a row fits the bytes of its kind
abbrev pub FitsBytes : List Kind → List ℕ → Type 0
FitsBytes kinds values = (column : ℕ) → column < length kinds → slice_index_or values column 0 < 256 ^ width (slice_index_or kinds column Id)
