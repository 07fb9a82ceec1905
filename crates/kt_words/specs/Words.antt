-- The words of a call as lists of bytes.
-- The rule: docs/COMMANDS.md, "Words".
use Rattle.std.specs.Prelude.{ℕ, List, map}
use Rattle.std.specs.Global.{Vec}

-- the bytes of each word
abbrev pub word_bytes : List (Vec ℕ) → List (List ℕ)
word_bytes items = map (λ item. item.items) items
