-- What a writer that ran out of memory leaves.
-- The rules: docs/STREAMS.md, "Records".
use Rattle.std.specs.Prelude.{◌≡◌, ℕ, List, ◌++◌}

-- the bytes that were there are in front of what was appended
abbrev pub BeginsWith : List ℕ → List ℕ → Type 0
BeginsWith old now = (tail : List ℕ) × (now ≡ old ++ tail)
