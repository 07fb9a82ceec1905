-- How often a number stands in a list of numbers.
-- The rule: docs/ARCHITECTURE.md, "A run of all stages".
use Rattle.std.specs.Prelude.{◌≡◌, ℕ, ◌+◌, ◌<◌, List, [], ◌∷◌, length, cond, nat_eq, nat_lt}

-- 1 where two numbers are the same, and else 0
abbrev pub once_at : ℕ → ℕ → ℕ
once_at one other = cond (nat_eq one other) 1 0

-- how often a number stands in a list
abbrev pub times : ℕ → List ℕ → ℕ
times number [] = 0
times number (one ∷ others) = once_at one number + times number others

-- 1 for a number below a bound, and else 0
abbrev pub once_below : ℕ → ℕ → ℕ
once_below bound number = cond (nat_lt number bound) 1 0

-- each number of a list is below a bound
abbrev pub AreBelow : ℕ → List ℕ → Type 0
AreBelow bound [] = Unit {0}
AreBelow bound (one ∷ others) = (one < bound) × AreBelow bound others

-- a list has the numbers from 0 on, each once and none left out, in some order
abbrev pub AreFirst : List ℕ → Type 0
AreFirst numbers = (number : ℕ) → times number numbers ≡ once_below (length numbers) number

-- a value for each element of a list, added up
abbrev pub total : {A : Type 0} → (A → ℕ) → List A → ℕ
total value [] = 0
total value (one ∷ others) = value one + total value others
