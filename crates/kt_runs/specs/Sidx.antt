-- The sidx of pairs: their places among the whole numbers, and the pairs that losses make.
-- The rule: docs/STREAMS.md, "Records".
use Rattle.std.specs.Prelude.{ℕ, zero, suc, ◌+◌, ◌-◌, cond, nat_lt, ℤ, pos, negsuc, List, Option, None, Some}
use Rattle.std.specs.List.{filter_map}
use Rattle.kt_stream.specs.declared.entry.Pair.{Pair}

-- the place of a sidx among the whole numbers of 32 bits, from the least up
abbrev pub place_of : ℤ → ℕ
place_of (pos n) = 2147483648 + n
place_of (negsuc n) = 2147483647 - n

-- the sidx at a place
abbrev pub sidx_at : ℕ → ℤ
sidx_at place = cond (nat_lt place 2147483648) (negsuc (2147483647 - place)) (pos (place - 2147483648))

-- the pair of a sidx, where its loss is above 0
abbrev pub pair_of : ℤ → ℕ → Option Pair
pair_of sidx zero = None
pair_of sidx (suc less) = Some (record { sidx = sidx; loss = suc less })

-- the pairs of sidx, in their order, where their losses are above 0
abbrev pub pairs_of : (ℤ → ℕ) → List ℤ → List Pair
pairs_of loss range = filter_map (λ sidx. pair_of sidx (loss sidx)) range
