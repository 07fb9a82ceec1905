-- Calculations that write a heading, and then for each record what it gives by itself.
-- The rules: docs/STREAMS.md, "Tools over streams".
use Rattle.std.specs.Prelude.{List, [], ◌++◌, ℕ, Option, Some, None, Ok}
use Rattle.std.specs.List.{flat_map}
use Rattle.kt_stream.specs.declared.entry.Placed.{Placed}
use Rattle.kt_loop.specs.Calculation.{Calculation}

-- the calculation with this heading and these rows
abbrev pub by_record : {H E S R : Type 0} → (S → H → List ℕ) → (S → H → E → List ℕ) → Calculation H E S R
by_record heading rows = record {
  opens = λ head state. record { text = heading state head; next = Ok state };
  takes = λ head state placed. record { text = rows state head placed.entry; next = Ok state };
  ends = λ head state. [];
}

-- a heading and the rows of all records: nothing without a header
abbrev pub table_of : {H E S : Type 0} → (S → H → List ℕ) → (S → H → E → List ℕ) → S → Option H → List (Placed E) → List ℕ
table_of heading rows state None entries = []
table_of heading rows state (Some head) entries = heading state head ++ flat_map (λ placed. rows state head placed.entry) entries
