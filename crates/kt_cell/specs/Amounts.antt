-- The totals or the maxima of cells.
-- The rules: docs/CALCULATION.md, "Kinds of exceedance curves".
use Rattle.std.specs.Prelude.{Bool, false, ◌&&◌, nat_eq, ℕ, ℤ, pos, negsuc, List, [], ◌∷◌, map, Option, None, Some, if◌then◌else◌}
use Rattle.std.specs.List.{filter}
use Rattle.std.specs.Ordering.{int_eq}
use Rattle.kt_rec.specs.declared.perspective.CellKey.{CellKey}
use Rattle.kt_cell.specs.declared.cell.Cell.{Cell}
use Rattle.kt_cell.specs.Sets.{is_mean, same_bool}
use Rattle.kt_cell.specs.Standing.{cell_at, total_in, maximum_in}

-- the maximum of a key's cell, or its total; 0 where it has none
abbrev pub amount_in : Bool → Option Cell → ℕ
amount_in maxima found = if maxima then maximum_in found else total_in found

-- the amount that entries have for a key
abbrev pub amount_at : Bool → List (CellKey × Cell) → CellKey → ℕ
amount_at maxima entries key = amount_in maxima (cell_at entries key)

-- the amount of a cell that is there
abbrev pub amount_or_none : Bool → Option Cell → List ℕ
amount_or_none maxima None = []
amount_or_none maxima (Some one) = amount_in maxima (Some one) ∷ []

-- the amounts of the entries that pass a test
abbrev pub amounts_of : Bool → (CellKey × Cell → Bool) → List (CellKey × Cell) → List ℕ
amounts_of maxima test entries = map (λ entry. amount_in maxima (Some entry.1)) (filter test entries)

-- whether an entry is of a sample
abbrev pub of_sample : ℕ → CellKey × Cell → Bool
of_sample sample entry = int_eq entry.0.sidx (pos sample)

-- the sample of a sidx, and 0 for the mean
abbrev pub sample_of : ℤ → ℕ
sample_of (pos n) = n
sample_of (negsuc n) = 0

-- whether an entry is of a sample, and of a period
abbrev pub of_period : ℕ → CellKey × Cell → Bool
of_period period entry = same_bool (is_mean entry.0.sidx) false && nat_eq period entry.0.period
