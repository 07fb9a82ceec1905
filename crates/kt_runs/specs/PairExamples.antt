-- A pair of 2.00 at sample 1, by computing.
-- The rule: docs/STREAMS.md, "Records".
use Rattle.std.specs.Prelude.{◌≡◌, pos, [], ◌∷◌}
use Rattle.std.proofs.Common.{refl, arith}
use Rattle.kt_stream.specs.Pairs.{end_bytes, pair_bytes, pairs_bytes}
use Rattle.kt_runs.specs.PairRoom.{AreEnded, with_loss}

-- with a loss it is a pair, without one it is none
some : with_loss (record { sidx = pos 1; loss = 200 }) ≡ record { sidx = pos 1; loss = 200 } ∷ []
some = refl

none : with_loss (record { sidx = pos 1; loss = 0 }) ≡ []
none = refl

-- its bytes and those of the end pair
ended : AreEnded (record { sidx = pos 1; loss = 200 } ∷ []) 24 (1 ∷ 0 ∷ 0 ∷ 0 ∷ 200 ∷ 0 ∷ 0 ∷ 0 ∷ 0 ∷ 0 ∷ 0 ∷ 0 ∷ 0 ∷ 0 ∷ 0 ∷ 0 ∷ 0 ∷ 0 ∷ 0 ∷ 0 ∷ 0 ∷ 0 ∷ 0 ∷ 0 ∷ 7 ∷ [])
unfolding end_bytes pair_bytes pairs_bytes
ended = record { none = λ zero. absurd (omega arith); some = λ above. omega arith; bytes_are = λ above. refl }
