-- The numbers that a seed gives, one after the other.
-- The rules: docs/GENERATOR.md, "Draws".
use Rattle.std.specs.Prelude.{ℕ, zero, suc, ◌+◌, ◌*◌, ◌/◌, ◌%◌, ◌^◌}

-- the state of a seed after so many draws
unfoldable pub state_of : ℕ → ℕ → ℕ
state_of seed zero = seed
state_of seed (suc draws) = (state_of seed draws * 6364136223846793005 + 1442695040888963407) % 2 ^ 64

-- a draw of the numbers below a bound, by its place among all draws of the seed, counted from 1
abbrev pub draw : ℕ → ℕ → ℕ → ℕ
draw seed place below = state_of seed place / 2 ^ 33 % below
