-- The pairs of a record in room for them.
-- The rule: docs/STREAMS.md, "Records".
use Rattle.std.specs.Prelude.{◌≡◌, ℕ, ◌*◌, ◌<◌, List, [], take, length}
use Rattle.std.specs.List.{cons_option, flat_map}
use Rattle.kt_stream.specs.Pairs.{pair_bytes, pairs_bytes}
use Rattle.kt_stream.specs.declared.entry.Pair.{Pair}
use Rattle.kt_runs.specs.Sidx.{pair_of}

-- a pair, where its loss is above 0
abbrev pub with_loss : Pair → List Pair
with_loss pair = cons_option (pair_of pair.sidx pair.loss) []

-- the bytes of pairs stand in front, and are so many
pub record AreIn (pairs : List Pair) (used : ℕ) (bytes : List ℕ) : Type 0 where
  pub used_is : used ≡ 12 * length pairs
  pub bytes_are : take used bytes ≡ flat_map pair_bytes pairs

-- so many bytes in front are those of pairs and of the end pair behind them, and none are where there is no pair
pub record AreEnded (pairs : List Pair) (used : ℕ) (bytes : List ℕ) : Type 0 where
  pub none : used ≡ 0 → pairs ≡ []
  pub some : 0 < used → 0 < length pairs
  pub bytes_are : 0 < used → take used bytes ≡ pairs_bytes pairs
