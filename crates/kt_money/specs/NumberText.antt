-- Numbers as text: plain digits, and a fixed number of decimals behind a point.
-- The rule: docs/CALCULATION.md, "Number texts".
use Rattle.std.specs.Prelude.{ℕ, zero, suc, ◌+◌, ◌/◌, ◌%◌, ◌^◌, List, [], ◌∷◌, ◌++◌, decimal}

-- the last `width` decimal digits of n, with zeros in front
unfoldable pub padded_digits : ℕ → ℕ → List ℕ
padded_digits zero n = []
padded_digits (suc width) n = padded_digits width (n / 10) ++ (48 + n % 10) ∷ []

-- n / 10 ^ scale with that many decimals behind a point; plain digits for scale 0
unfoldable pub plain : ℕ → ℕ → List ℕ
plain zero n = decimal n
plain (suc s) n = decimal (n / 10 ^ suc s) ++ 46 ∷ padded_digits (suc s) n

-- a count in plain digits
abbrev pub count_text : ℕ → List ℕ
count_text x = decimal x

-- an amount of cents, with two decimals
abbrev pub money_text : ℕ → List ℕ
money_text cents = plain 2 cents

-- parts per million, as a number with six decimals
abbrev pub ppm_text : ℕ → List ℕ
ppm_text x = plain 6 x
