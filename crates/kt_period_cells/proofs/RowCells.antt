-- What is found among the cells of a row, and where the cell of a sample stands.
use Rattle.std.proofs.Common.{◌≡◌, ◌≢◌, ℕ, zero, suc, ◌<◌, ◌≤◌, [], ◌∷◌, length, get_or, set, arith, refl, sym, ap, cond, Result, Ok, Err, Some, None, IfOk, IfErr}
use Rattle.std.specs.Prelude.{nat_eq}
use Rattle.std.specs.List.{insert}
use Rattle.std.specs.List.Sorted.{IsSearchInRange, IsBinarySearchResult, IsNonDecreasingBy}
use Rattle.std.specs.Ordering.{nat_cmp, ordering_index}
use Rattle.std.proofs.lemmas.Cmp.{ranked}
use Rattle.std.proofs.lemmas.List.Sorted.{IsNonDecreasingBy-from_default}
use Rattle.std.proofs.lemmas.Bool.Decides.{nat_tests}
use Rattle.kt_cell.specs.declared.cell.Cell.{Cell}
use Rattle.kt_period_cells.specs.RowCells.{SampleCells, cell_in, sample_at, IsRising, IsAt, IsGap}

-- no cell
abbrev pub none : ℕ × Cell
none = (0, record { total = 0; maximum = 0 })

-- no cell before a place is of the sample
abbrev pub NoneBefore : SampleCells → ℕ → ℕ → Type 0
NoneBefore cells s i = (j : ℕ) → j < i → sample_at cells j ≢ s

-- nor is one of the cells behind the first
none_before_tail : (x : ℕ × Cell) (cells : SampleCells) (s i : ℕ) → NoneBefore (x ∷ cells) s (suc i) → NoneBefore cells s i
none_before_tail x cells s i other j less = other (suc j) (omega arith)

-- behind the first, a cell is one place lower
pub at_tail : (x : ℕ × Cell) (cells : SampleCells) (s i : ℕ) → IsAt (x ∷ cells) s (suc i) → IsAt cells s i
at_tail x cells s i at = record { within = omega (arith, at.within); same = at.same }

-- a sample that no cell has
pub cell_absent : (cells : SampleCells) (s : ℕ) → NoneBefore cells s (length cells) → cell_in cells s ≡ None
cell_absent [] s other = refl
cell_absent (x ∷ cells) s other = grind (arith, nat_tests, other 0 (omega arith), cell_absent cells s (none_before_tail x cells s _ other))

-- the first cell of a sample
pub cell_present : (cells : SampleCells) (s i : ℕ) → IsAt cells s i → NoneBefore cells s i → cell_in cells s ≡ Some (get_or cells i none).1
cell_present [] s i at other = absurd (omega (arith, at.within))
cell_present (x ∷ cells) s zero at other = grind (arith, nat_tests, at.same)
cell_present (x ∷ cells) s (suc i) at other = grind (arith, nat_tests, other 0 (omega arith), cell_present cells s i (at_tail x cells s i at) (none_before_tail x cells s i other))

-- a cell put in the place of another
pub cell_set : (cells : SampleCells) (s i : ℕ) (c : Cell) → IsAt cells s i → NoneBefore cells s i → (t : ℕ) → cell_in (set cells i (s, c)) t ≡ cond (nat_eq s t) (Some c) (cell_in cells t)
cell_set [] s i c at other t = absurd (omega (arith, at.within))
cell_set (x ∷ cells) s zero c at other t = grind (arith, nat_tests, at.same)
cell_set (x ∷ cells) s (suc i) c at other t = grind (arith, nat_tests, other 0 (omega arith), cell_set cells s i c (at_tail x cells s i at) (none_before_tail x cells s i other) t)

-- a cell put in before others
pub cell_insert : (cells : SampleCells) (s i : ℕ) (c : Cell) → NoneBefore cells s i → (t : ℕ) → cell_in (insert cells i (s, c)) t ≡ cond (nat_eq s t) (Some c) (cell_in cells t)
cell_insert cells s zero c other t = grind (arith, nat_tests)
cell_insert [] s (suc i) c other t = grind (arith, nat_tests)
cell_insert (x ∷ cells) s (suc i) c other t = grind (arith, nat_tests, other 0 (omega arith), cell_insert cells s i c (none_before_tail x cells s i other) t)

-- ---- the place of a sample

module _ (cells : SampleCells) (rising : IsRising cells) (s : ℕ) where
  -- the comparisons with a sample rise, as a search by halving asks
  comparisons_rise : IsNonDecreasingBy (λ one. ordering_index (nat_cmp one.0 s)) cells
  comparisons_rise = IsNonDecreasingBy-from_default (λ one. ordering_index (nat_cmp one.0 s)) cells none (λ i j less within.
      let samples_rise : sample_at cells i ≤ sample_at cells j = grind (arith, rising i j, λ (same : i ≡ j). ap (sample_at cells) same) in
      grind (arith, nat_tests))

  -- a search by halving ends at the sample, or at the gap for it
  pub searched : (r : Result ℕ ℕ) → IsSearchInRange r (length cells) → IsBinarySearchResult (λ one. nat_cmp one.0 s) cells r → record { found : IfOk r (IsAt cells s); absent : IfErr r (IsGap cells s) }
  searched (Ok at) within equal = record { found = record { within = within; same = ranked _ s _ (sym (equal none)) }; absent = tt }
  searched (Err at) within parted = record {
    found = tt;
    absent = record {
      within = within;
      lower = λ j less. ranked _ s _ (sym ((parted comparisons_rise).0 j none (omega arith) less));
      higher = λ j more less. ranked _ s _ (sym ((parted comparisons_rise).1 j none more less));
    };
  }

  -- no cell before that of a sample is of it
  pub none_before : (at : ℕ) → IsAt cells s at → NoneBefore cells s at
  none_before at is j less same = omega (arith, rising j at less is.within, is.same)

  -- the cell of a sample, found
  pub cell_found : (at : ℕ) → IsAt cells s at → cell_in cells s ≡ Some (get_or cells at none).1
  cell_found at is = cell_present cells s at is (none_before at is)

  -- nothing is found in a gap
  pub cell_in_gap : (at : ℕ) → IsGap cells s at → cell_in cells s ≡ None
  cell_in_gap at gap = cell_absent cells s (λ j less same. grind (arith, gap.lower j, gap.higher j))
