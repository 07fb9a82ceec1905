-- What is left of the pairs of a record.
-- The rule: docs/FINANCIAL_MODULE.md, "Reinsurance".
use Rattle.std.specs.Prelude.{ℕ, ◌-◌, cond, nat_eq, ℤ, pos, negsuc, List}
use Rattle.std.specs.List.{filter_map}
use Rattle.kt_stream.specs.declared.entry.Pair.{Pair}
use Rattle.kt_runs.specs.Sidx.{pair_of}

-- what is left of a loss at a sidx, of which so much is ceded row by row; of that at sidx -2, which has no row, nothing
abbrev pub left_at : (ℕ → ℕ) → ℤ → ℕ → ℕ
left_at ceded (pos row) loss = loss - ceded row
left_at ceded (negsuc n) loss = cond (nat_eq n 0) (loss - ceded 0) 0

-- the pairs that are left of pairs: those of which a loss is left, with that
abbrev pub pairs_left : (ℕ → ℕ) → List Pair → List Pair
pairs_left ceded pairs = filter_map (λ pair. pair_of pair.sidx (left_at ceded pair.sidx pair.loss)) pairs
