-- The pairs of sums.
-- The rule: docs/STREAMS.md, "Records".
use Rattle.std.specs.Prelude.{ℕ, ◌+◌, List, slice_index}
use Rattle.std.specs.List.{filter_map, range_with_len}
use Rattle.kt_stream.specs.declared.entry.Pair.{Pair}
use Rattle.kt_runs.specs.Sidx.{pair_of, sidx_at}

-- the pairs of the first so many sums, the first of which is for the sidx at a least place
abbrev pub pairs_upto : ℕ → List ℕ → ℕ → List Pair
pairs_upto least sums n = filter_map (λ k. pair_of (sidx_at (least + k)) (slice_index sums k)) (range_with_len 0 n)
