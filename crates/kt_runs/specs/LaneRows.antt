-- The rows of a lane: that of the mean first, and behind it those of the samples; and the pairs that they make.
-- The rule: docs/STREAMS.md, "Runs".
use Rattle.std.specs.Prelude.{ℕ, ◌+◌, cond, nat_eq, List, length, slice_index}
use Rattle.std.specs.List.{cons_option, filter_map, range_with_len}
use Rattle.kt_stream.specs.declared.entry.Pair.{Pair}
use Rattle.kt_runs.specs.Sidx.{pair_of, sidx_at}

-- the place of the sidx of a row among the whole numbers of 32 bits: the first row is that of the mean, and then come the samples
abbrev pub row_place : ℕ → ℕ
row_place row = cond (nat_eq row 0) 2147483647 (2147483648 + row)

-- the pairs of so many rows, where their amounts are above 0
abbrev pub pairs_by_row : (ℕ → ℕ) → ℕ → List Pair
pairs_by_row amount rows = filter_map (λ row. pair_of (sidx_at (row_place row)) (amount row)) (range_with_len 0 rows)

-- the pairs of a deviation, which stands in front, and of a lane, whose rows are those of the mean and of the samples
abbrev pub pairs_with : ℕ → List ℕ → List Pair
pairs_with deviation lane = cons_option (pair_of (sidx_at 2147483646) deviation) (pairs_by_row (slice_index lane) (length lane))
