-- The first row that a check refuses. Rows are counted from 1.
-- The rule: docs/CHECKS.md, "Order".
use Rattle.std.specs.Prelude.{ℕ, ◌+◌, Bool, not, cond, List, [], ◌∷◌, ◌++◌, length, Option, Some, None, nat_lt}
use Rattle.std.specs.List.{list_any, sum_by}

module _ {A : Type 0} where
  -- the first of these rows that a test of all rows before it and of itself refuses
  abbrev pub first_refused_after : (List A → A → Bool) → List A → List A → Option ℕ
  first_refused_after refuses earlier [] = None
  first_refused_after refuses earlier (row ∷ rows) = cond (refuses earlier row) (Some (length earlier + 1)) (first_refused_after refuses (earlier ++ row ∷ []) rows)

  -- the first row that a test of all rows before it and of itself refuses
  abbrev pub first_refused : (List A → A → Bool) → List A → Option ℕ
  first_refused refuses rows = first_refused_after refuses [] rows

  -- the first row that a test of itself alone refuses
  abbrev pub first_where : (A → Bool) → List A → Option ℕ
  first_where test rows = first_refused (λ _ row. test row) rows

module _ {K : Type 0} (same : K → K → Bool) where
  -- the first key that stands in an earlier row
  abbrev pub repeated_at : List K → Option ℕ
  repeated_at keys = first_refused (λ earlier key. list_any (same key) earlier) keys

  -- the first key that is not among the known ones
  unfoldable pub unknown_at : List K → List K → Option ℕ
  unknown_at known keys = first_where (λ key. not (list_any (same key) known)) keys

  -- the sum of what one key has
  abbrev pub total_of : List (K × ℕ) → K → ℕ
  total_of parts key = sum_by (λ part. cond (same key part.0) part.1 0) parts

  -- the first row at which what its key has so far adds to more than the most
  abbrev pub above_at : ℕ → List (K × ℕ) → Option ℕ
  above_at most parts = first_refused (λ earlier part. nat_lt most (total_of (earlier ++ part ∷ []) part.0)) parts
