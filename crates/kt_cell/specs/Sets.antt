-- The cells of a perspective and set, and those of one summary among them.
-- The rules: docs/CALCULATION.md, "Periods".
use Rattle.std.specs.Prelude.{Bool, true, false, ◌&&◌, nat_eq, ◌≤◌, ◌≡◌, All, ℕ, ℤ, pos, negsuc, List}
use Rattle.std.specs.List.{filter, IsDistinct}
use Rattle.std.specs.Map.{keys_of}
use Rattle.kt_rec.specs.declared.perspective.Perspective.{Perspective}
use Rattle.kt_rec.specs.declared.perspective.CellKey.{CellKey}
use Rattle.kt_cell.specs.declared.cell.Cell.{Cell}
use Rattle.kt_cell.specs.Losses.{key_of, same_key, same_perspective}
use Rattle.kt_cell.specs.Standing.{FitsCells}

-- whether a sidx with cells is that of the mean
abbrev pub is_mean : ℤ → Bool
is_mean (pos n) = false
is_mean (negsuc n) = true

-- whether two answers are the same
abbrev pub same_bool : Bool → Bool → Bool
same_bool true true = true
same_bool false false = true
same_bool one other = false

-- whether a key is of a perspective and set
abbrev pub in_set : Perspective → ℕ → CellKey → Bool
in_set perspective set key = same_perspective key.perspective perspective && nat_eq key.set set

-- the entries of a perspective and set
abbrev pub set_entries : Perspective → ℕ → List (CellKey × Cell) → List (CellKey × Cell)
set_entries perspective set entries = filter (λ entry. in_set perspective set entry.0) entries

-- the entries of a summary
abbrev pub summary_entries : ℕ → List (CellKey × Cell) → List (CellKey × Cell)
summary_entries summary entries = filter (λ entry. nat_eq entry.0.summary summary) entries

-- the entries of one summary, within the bounds of their cells
pub record IsGroup (perspective : Perspective) (set periods samples summary : ℕ) (group : List (CellKey × Cell)) : Type 0 where
  pub some : 1 ≤ periods
  pub few : periods ≤ 100000
  pub some_samples : 1 ≤ samples
  pub few_samples : samples ≤ 1000
  pub fitting : All (λ entry. FitsCells periods samples entry.0 entry.1) group
  pub distinct : IsDistinct same_key (keys_of group)
  pub own : All (λ entry. entry.0 ≡ key_of perspective set summary entry.0.sidx entry.0.period) group

-- the means, or the samples
abbrev pub of_kind : Bool → CellKey × Cell → Bool
of_kind mean entry = same_bool (is_mean entry.0.sidx) mean
